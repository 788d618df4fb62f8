-- What is read of the lines of a description.
use Rattle.std.specs.Prelude.{◌≡◌, ℕ, ◌+◌, ◌*◌, ◌<◌, Bool, ◌||◌, if◌then◌else◌, List, [], length, map, drop, ◌++◌, ℤ, pos, Option, Some, None, Result, Ok, Err}
use Rattle.vms_spec.specs.declared.ValuesReason.{ValuesReason}
use Rattle.vms_spec.specs.declared.ValuesReason.TheVariants as reasons
use Rattle.vms_spec.specs.Numbers.{same_number, exceeds}
use Rattle.vms_kinds.specs.declared.Item.{Item}
use Rattle.vms_kinds.specs.declared.Kind.{Kind}
use Rattle.vms_desc.specs.Parts.{desc_at}
use Rattle.vms_walk.specs.Steps.{table, cells_in}
use Rattle.vms_spec.specs.declared.Count.{Count}
use Rattle.vms_spec.specs.declared.Count.TheVariants.{One}
use Rattle.vms_spec.specs.Sets.{Field, Set}
use Rattle.vms_spec.specs.declared.Part.{Part}
use Rattle.vms_spec.specs.Layout.{Cell, item_size, item_cells, desc_cells}
use Rattle.vms_image.specs.Typed.{Typed}
use Rattle.vms_spec.specs.Spelling.{first_line}
use Rattle.vms_spec.specs.ValuesReading.{Standing, Read, Reader, put_line, cells_of, read_item, read_elements}
use Rattle.vms_values.specs.Reading.{standing}
use Rattle.vms_values.specs.declared.taken.Taken.{Taken}

-- The state of a reading.
abbrev pub place_of : Taken → Standing
place_of taken = standing taken.image.numbers taken.lines

-- Only numbers have changed.
pub record IsKept (old new : Typed) : Type 0 where
  pub version : new.version ≡ old.version
  pub came : new.came ≡ old.came
  pub long : length new.numbers ≡ length old.numbers
  pub kinds : new.kinds ≡ old.kinds

-- From cell `at` on, an image has the kinds of these cells.
pub record AreKinds (kinds : List Kind) (at : ℕ) (cells : List Cell) : Type 0 where
  pub more : List Kind
  pub is : drop at kinds ≡ map (λ c. c.kind) cells ++ more

-- The cells of a part of a set.
abbrev pub part_cells : Set → Part → List Cell
part_cells set part = desc_cells (cells_in (table set)) (desc_at set part)

-- The cells of one element.
abbrev pub element_cells : List (List Cell) → Item → List Cell
element_cells structs item = item_cells structs item [] (pos 0)

-- From cell `at` on, an image has the kinds of `count` elements.
abbrev pub ElementKinds : List (List Cell) → Item → List Kind → ℕ → ℕ → Type 0
ElementKinds structs item kinds at count =
    (i : ℕ) → i < count → AreKinds kinds (at + i * item_size structs item) (element_cells structs item)

-- What is read of the line of a cell.
abbrev pub line_read : List ℕ → Kind → List ℕ → ℕ → ℤ → Bool → Standing → Read
line_read path kind capacities cell default present p =
    put_line path (record { cell = cell; kind = kind; capacities = capacities; default = default; present = present }) p (first_line p.rest)

-- What is read of the lines of `count` elements of a field, under the path before it.
abbrev pub run_read : List Reader → Field → Count → List ℕ → List ℕ → Bool → ℕ → ℕ → Standing → Read
run_read rs f One capacities path present at count p = read_item rs f capacities (path ++ f.name) present at f.item p
run_read rs f c capacities path present at count p =
    read_elements rs f capacities (path ++ f.name) present at (item_size (cells_of rs) f.item) 0 count p

-- The number, if it is spelled and its cell may hold it, or why not.
abbrev pub number_judged : List ℕ → ℤ → Bool → Option ℤ → Result ℤ ValuesReason
number_judged capacities default present None = Err reasons.Number
number_judged capacities default present (Some z) =
    if exceeds capacities z then Err reasons.Count
    else if present || same_number z default then Ok z
    else Err reasons.Absent
