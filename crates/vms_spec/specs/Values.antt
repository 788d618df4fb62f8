-- The values text of a state (docs/values.md). It has a line for the machine if one is named. For
-- each device it has a line for the section and a line for each cell, and the same for each
-- subsection. It is meant for normal images.
use Rattle.std.specs.Prelude.{ℕ, zero, suc, ◌+◌, List, [], ◌∷◌, ◌++◌, length, get_or, map, Option, Some, None, ℤ, pos, codes}
use Rattle.std.specs.Fmt.{decimal, signed_decimal}
use Rattle.vms_kinds.specs.declared.Item.{Item}
use Rattle.vms_kinds.specs.declared.Item.TheVariants.{Num, Equal, Unused, Struct}
use Rattle.vms_spec.specs.declared.Count.{Count}
use Rattle.vms_spec.specs.declared.Count.TheVariants.{One}
use Rattle.vms_spec.specs.Sets.{Field, Desc, Sub, Device, Set}
use Rattle.vms_spec.specs.Layout.{Cell, first, desc_cells, field_cells, item_size, elements_of, numbers_of, struct_cells}
use Rattle.vms_spec.specs.Images.{Image, own_cells}

-- a line feed
abbrev pub line_end : List ℕ
line_end = 10 ∷ []

-- a structure: its cells, and its lines under a path, by the numbers of all cells and the place of
-- its first cell
pub record Printer : Type 0 where
  pub cells : List Cell
  pub lines : List ℕ → List ℤ → ℕ → List ℕ

-- the printer that is used if there is no structure
abbrev pub no_printer : Printer
no_printer = record { cells = []; lines = λ path numbers at. [] }

-- the lines of one element: a number ends the path, a structure continues it
abbrev pub item_lines : List Printer → Item → List ℕ → List ℤ → ℕ → List ℕ
item_lines structs (Num kind) path numbers at = path ++ (codes " = " ++ (signed_decimal (get_or numbers at (pos 0)) ++ line_end))
item_lines structs (Equal kind z) path numbers at = []
item_lines structs (Unused n) path numbers at = []
item_lines structs (Struct j) path numbers at = (get_or structs j no_printer).lines (path ++ codes ".") numbers at

-- the lines of the n elements from element i on, each `step` cells after the one before
abbrev pub element_lines : List Printer → Item → List ℕ → List ℤ → ℕ → ℕ → ℕ → ℕ → List ℕ
element_lines structs item path numbers at step i zero = []
element_lines structs item path numbers at step i (suc n) =
    item_lines structs item (path ++ codes "[" ++ decimal i ++ codes "]") numbers at ++ element_lines structs item path numbers (at + step) step (suc i) n

-- The lines of an item or array whose first cell is at a place. A counted array has lines for the
-- number of elements that its count says, whether or not the array is present.
abbrev pub array_lines : List Printer → Item → Count → (ℕ → ℕ) → List ℕ → List ℤ → ℕ → List ℕ
array_lines structs item One own path numbers at = item_lines structs item path numbers at
array_lines structs item count own path numbers at =
    element_lines structs item path numbers at (item_size (map (λ p. p.cells) structs) item) 0 (elements_of count own)

-- the lines of the given fields, of which the first is field i and has its first cell at a place
abbrev pub field_lines : List Printer → List Field → (ℕ → ℕ) → List ℕ → List ℤ → ℕ → ℕ → List Field → List ℕ
field_lines structs fields own path numbers i at [] = []
field_lines structs fields own path numbers i at (f ∷ more) =
    array_lines structs f.item f.count own (path ++ f.name) numbers at
    ++ field_lines structs fields own path numbers (suc i) (at + length (field_cells (map (λ p. p.cells) structs) fields i f)) more

-- the lines of a description
abbrev pub desc_lines : List Printer → Desc → List ℕ → List ℤ → ℕ → List ℕ
desc_lines structs d path numbers at = field_lines structs d.fields (numbers_of (map (λ p. p.cells) structs) d numbers at) path numbers 0 at d.fields

-- the printer of a structure, given the earlier ones
abbrev pub printer : List Printer → Desc → Printer
printer structs d = record { cells = desc_cells (map (λ p. p.cells) structs) d; lines = desc_lines structs d }

-- the printers of the structures of a set
abbrev pub printers : Set → List Printer
printers set = first printer set.structs (length set.structs)

-- the text in the place of a subsection's version: a dash if it didn't come
abbrev pub version_text : Option ℕ → List ℕ
version_text None = codes "-"
version_text (Some v) = codes "v" ++ decimal v

-- the lines of the subsections; the first in the list has its first cell at a place
abbrev pub sub_lines : Set → List ℤ → ℕ → List Sub → List (Option ℕ) → List ℕ
sub_lines set numbers at [] came = []
sub_lines set numbers at (s ∷ subs) [] = []
sub_lines set numbers at (s ∷ subs) (v ∷ came) =
    codes "sub " ++ (s.desc.name ++ (codes " " ++ (version_text v ++ (line_end ++ desc_lines (printers set) s.desc [] numbers at))))
    ++ sub_lines set numbers (at + length (desc_cells (struct_cells set) s.desc)) subs came

-- the lines of a device
abbrev pub device_lines : Set → Device → Image → List ℕ
device_lines set d image =
    codes "section " ++ (d.desc.name ++ (codes " " ++ (decimal d.instance ++ (codes " v" ++ (decimal image.version ++ (line_end
    ++ (desc_lines (printers set) d.desc [] image.numbers 0 ++ sub_lines set image.numbers (own_cells set d) d.subs image.came)))))))

-- the lines of the devices
abbrev pub devices_lines : Set → List Device → List Image → List ℕ
devices_lines set [] images = []
devices_lines set (d ∷ devices) [] = []
devices_lines set (d ∷ devices) (image ∷ images) = device_lines set d image ++ devices_lines set devices images

-- the line of the machine, if one is named
abbrev pub machine_line : Option (List ℕ) → List ℕ
machine_line None = []
machine_line (Some name) = codes "machine " ++ name ++ line_end

-- the values text: the machine's line, and then the devices'
abbrev pub values_text : Set → Option (List ℕ) → List Image → List ℕ
values_text set machine images = machine_line machine ++ devices_lines set set.devices images
