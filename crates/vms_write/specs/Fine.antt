-- Whether an image may be written, as the walk computes it (docs/format.md, "Which images may be written").
-- `forms` are those of the device's cells.
use Rattle.std.specs.Prelude.{ℕ, suc, zero, ◌+◌, Bool, true, false, not, ◌&&◌, ◌||◌, ◌==◌, List, [], ◌∷◌, length, get_or, Option, Some, None, ℤ, pos}
use Rattle.vms_kinds.specs.declared.Kind.{Kind}
use Rattle.vms_kinds.specs.declared.Kind.TheVariants.{U8}
use Rattle.vms_spec.specs.Numbers.{same_number}
use Rattle.vms_spec.specs.Rules.{in_range, int_le, counts_well}
use Rattle.vms_spec.specs.Sets.{Set, Sub, Device}
use Rattle.vms_spec.specs.Layout.{Slot, Number, Rule, desc_cells, struct_cells}
use Rattle.vms_spec.specs.Images.{Image, has_cell, sub_slots}
use Rattle.vms_spec.specs.Streams.{is_needed}
use Rattle.vms_parts.specs.declared.types.CellForm.{CellForm}
use Rattle.vms_spots.specs.Spots.{Held}

-- A form for a cell that doesn't exist.
abbrev pub no_form : CellForm
no_form = record { kind = U8; default = pos 0 }

-- The forms of cells with these kinds and defaults.
abbrev pub formed_of : List Kind → List ℤ → List CellForm
formed_of [] numbers = []
formed_of (kind ∷ kinds) [] = []
formed_of (kind ∷ kinds) (z ∷ numbers) = record { kind = kind; default = z } ∷ formed_of kinds numbers

-- The forms of the cells of a device, by its numbers at their defaults.
abbrev pub formed : Held → List CellForm
formed defaults = formed_of defaults.kinds defaults.numbers

-- Whether a number is at most `most`, if that is given.
abbrev pub is_within : Option ℕ → ℤ → Bool
is_within None z = true
is_within (Some most) z = int_le z (pos most)

-- Whether each number of the slots is in its kind's range and within the capacities that it counts, and each
-- rule is true.
abbrev pub are_fit : List ℤ → List Slot → Bool
are_fit numbers [] = true
are_fit numbers (Number c kind capacities ∷ slots) = (in_range kind (get_or numbers c (pos 0)) && counts_well capacities (get_or numbers c (pos 0))) && are_fit numbers slots
are_fit numbers (Rule b ∷ slots) = b && are_fit numbers slots
are_fit numbers (slot ∷ slots) = are_fit numbers slots

-- Whether each of the `n` cells from `at` on is in the slots or at its default.
abbrev pub settle : List Slot → List CellForm → List ℤ → ℕ → ℕ → Bool
settle slots forms numbers at zero = true
settle slots forms numbers at (suc n) = (has_cell slots at || same_number (get_or numbers at (pos 0)) (get_or forms at no_form).default) && settle slots forms numbers (at + 1) n

-- Whether both hold, for the slots of these cells.
abbrev pub is_fine : List CellForm → List ℤ → List Slot → ℕ → ℕ → Bool
is_fine forms numbers slots at n = are_fit numbers slots && settle slots forms numbers at n

-- The number of cells of a subsection.
abbrev pub sub_size : Set → Sub → ℕ
sub_size set s = length (desc_cells (struct_cells set) s.desc)

-- Whether subsection j, which starts at cell `at`, may be written. If it is needed, it came at its version
-- and is fine; else all its cells are at their defaults.
abbrev pub sub_fine : Set → Device → List CellForm → Image → ℕ → ℕ → Sub → Option ℕ → Bool
sub_fine set d forms image j at s None = not (is_needed set d image s j) && settle [] forms image.numbers at (sub_size set s)
sub_fine set d forms image j at s (Some v) = (is_needed set d image s j && v == s.desc.version) && is_fine forms image.numbers (sub_slots set s v image.numbers at) at (sub_size set s)

-- The same for the subsections from j on.
abbrev pub subs_fine : Set → Device → List CellForm → Image → ℕ → ℕ → List Sub → List (Option ℕ) → Bool
subs_fine set d forms image j at [] came = true
subs_fine set d forms image j at (s ∷ subs) [] = false
subs_fine set d forms image j at (s ∷ subs) (o ∷ came) = sub_fine set d forms image j at s o && subs_fine set d forms image (suc j) (at + sub_size set s) subs came
