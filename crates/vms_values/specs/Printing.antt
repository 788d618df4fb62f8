-- What is printed, and of which images.
use Rattle.std.specs.Prelude.{◌≡◌, ℕ, ◌+◌, ◌*◌, ◌<◌, ◌≤◌, ◌^◌, true, map, List, [], ◌∷◌, ◌++◌, length, get_or, take, Option, ℤ, codes}
use Rattle.std.specs.Option.{option_map}
use Rattle.std.specs.Fmt.{decimal}
use Rattle.vms_spec.specs.declared.TheConstants.{MOST_ITEMS}
use Rattle.vms_spec.specs.declared.Count.{Count}
use Rattle.vms_spec.specs.declared.Count.TheVariants.{One}
use Rattle.vms_spec.specs.Sets.{Field, Device, Set}
use Rattle.vms_spec.specs.Layout.{device_cells, item_size}
use Rattle.vms_spec.specs.Rules.{uses_below}
use Rattle.vms_kinds.specs.declared.Item.{Item}
use Rattle.vms_kinds.specs.declared.Item.TheVariants.{Struct}
use Rattle.vms_spec.specs.declared.Part.{Part}
use Rattle.vms_spec.specs.declared.Part.TheVariants as parts
use Rattle.vms_desc.specs.Asks.{first_cell}
use Rattle.vms_desc.specs.Described.{device_at}
use Rattle.vms_desc.specs.Parts.{sub_at}
use Rattle.vms_walk.specs.Steps.{size_in}
use Rattle.vms_spec.specs.Images.{Image}
use Rattle.vms_spec.specs.Values.{line_end, version_text, desc_lines, printers, Printer, item_lines, element_lines}

-- The name of the machine with this number.
abbrev pub machine_of : Set → Option ℕ → Option (List ℕ)
machine_of set machine = option_map (λ m. get_or set.machines m []) machine

-- An image of the device: it has a number for each cell, and an entry for each subsection.
pub record IsOf (set : Set) (d : Device) (image : Image) : Type 0 where
  pub cells : length image.numbers ≡ length (device_cells set d)
  pub subs : length image.came ≡ length d.subs
  pub few : length image.numbers < 2 ^ 32

-- There is one image for each device.
abbrev pub AreOf : Set → List Device → List Image → Type 0
AreOf set [] [] = Unit {0}
AreOf set (d ∷ devices) (image ∷ images) = IsOf set d image × AreOf set devices images
AreOf set devices images = ⊥

-- The cells of `count` elements of a field, from cell `first` on, are among the numbers. A field that isn't
-- an array has one.
pub record IsRun (set : Set) (f : Field) (first count : ℕ) (numbers : List ℤ) : Type 0 where
  pub reaches : uses_below (length set.structs) f.item ≡ true
  pub small : size_in set f.item ≤ MOST_ITEMS
  pub room : first + count * size_in set f.item ≤ length numbers
  pub single : f.count ≡ One → count ≡ 1
  pub few : length numbers ≤ MOST_ITEMS

-- ---- how long lines grow

-- The most bytes after the path of an item, in the paths below it: 45 for each structure that it may go into.
abbrev pub below : Item → ℕ
below (Struct j) = 45 * (j + 1)
below item = 0

-- The most bytes after the path of a part's fields.
abbrev pub below_part : Set → Part → ℕ
below_part set (parts.Struct j) = 45 * (j + 1)
below_part set part = 45 * (length set.structs + 1)

-- The line still begins with `front`.
abbrev pub Stays : List ℕ → List ℕ → Type 0
Stays front line = take (length front) line ≡ front

-- ---- lines

-- The lines of `count` elements of a field, under the path before it.
abbrev pub run_lines : List Printer → Field → Count → ℕ → List ℕ → List ℤ → ℕ → List ℕ
run_lines ps f One count path numbers first = item_lines ps f.item (path ++ f.name) numbers first
run_lines ps f c count path numbers first =
    element_lines ps f.item (path ++ f.name) numbers first (item_size (map (λ p. p.cells) ps) f.item) 0 count

-- The line of a section.
abbrev pub section_text : Device → ℕ → List ℕ
section_text d version =
    codes "section " ++ (d.desc.name ++ (codes " " ++ (decimal d.instance ++ (codes " v" ++ (decimal version ++ line_end)))))

-- The line of a subsection.
abbrev pub sub_text : List ℕ → Option ℕ → List ℕ
sub_text name came = codes "sub " ++ (name ++ (codes " " ++ (version_text came ++ line_end)))

-- The lines of subsection j of device i.
abbrev pub whole_sub : Set → ℕ → ℕ → List ℤ → Option ℕ → List ℕ
whole_sub set i j numbers came =
    let d = (sub_at (device_at set i) j).desc in
    sub_text d.name came ++ desc_lines (printers set) d [] numbers (first_cell set (parts.Sub i j))
