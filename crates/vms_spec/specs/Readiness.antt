-- The tests of whether an image is normal, valid and ready, as functions that compute. A law of a
-- crate above says that each is true exactly if its relation in Images or Streams holds.
use Rattle.std.specs.Prelude.{ℕ, suc, Bool, true, false, not, ◌&&◌, ◌||◌, ◌==◌, nat_le, List, [], ◌∷◌, Option, Some, None, ℤ}
use Rattle.vms_spec.specs.Numbers.{same_number}
use Rattle.vms_spec.specs.Sets.{Desc, Sub, Device, Set}
use Rattle.vms_spec.specs.Layout.{Cell, device_cells, Slot, Number, Constant, Filler, Rule}
use Rattle.vms_spec.specs.Images.{Image, has_cell, image_slots}
use Rattle.vms_spec.specs.Streams.{is_needed}
use Rattle.vms_spec.specs.Rules.{in_range, counts_well}

-- the test of IsVersionOf
abbrev pub is_version_of : Desc → ℕ → Bool
is_version_of d v = nat_le d.minimum v && nat_le v d.version

-- the test of AreVersionsOf
abbrev pub are_versions_of : List Sub → List (Option ℕ) → Bool
are_versions_of [] [] = true
are_versions_of [] (o ∷ came) = false
are_versions_of (s ∷ subs) [] = false
are_versions_of (s ∷ subs) (None ∷ came) = are_versions_of subs came
are_versions_of (s ∷ subs) (Some v ∷ came) = is_version_of s.desc v && are_versions_of subs came

-- the test of FitsCell
abbrev pub fits_cell : Cell → ℤ → Bool
fits_cell cell z = in_range cell.kind z && counts_well cell.capacities z

-- the test of FitCells
abbrev pub fit_cells : List Cell → List ℤ → Bool
fit_cells [] [] = true
fit_cells [] (z ∷ numbers) = false
fit_cells (cell ∷ cells) [] = false
fit_cells (cell ∷ cells) (z ∷ numbers) = fits_cell cell z && fit_cells cells numbers

-- each number from cell c on is in the bytes or at its default
abbrev pub are_settled : List Slot → ℕ → List Cell → List ℤ → Bool
are_settled slots c [] numbers = true
are_settled slots c (cell ∷ cells) [] = true
are_settled slots c (cell ∷ cells) (z ∷ numbers) = (has_cell slots c || same_number z cell.default) && are_settled slots (suc c) cells numbers

-- the test of IsNormal
abbrev pub is_normal : Set → Device → Image → Bool
is_normal set d image =
    is_version_of d.desc image.version && are_versions_of d.subs image.came && fit_cells (device_cells set d) image.numbers
    && are_settled (image_slots set d image) 0 (device_cells set d) image.numbers

-- the test of RulesHold
abbrev pub rules_are_true : List Slot → Bool
rules_are_true [] = true
rules_are_true (Rule b ∷ slots) = b && rules_are_true slots
rules_are_true (Number c kind capacities ∷ slots) = rules_are_true slots
rules_are_true (Constant kind z ∷ slots) = rules_are_true slots
rules_are_true (Filler n ∷ slots) = rules_are_true slots

-- the test of IsValid
abbrev pub is_valid : Set → Device → Image → Bool
is_valid set d image = rules_are_true (image_slots set d image)

-- the test of ComeAsNeeded: each subsection from j on came, at its version in the set, exactly if
-- it is needed
abbrev pub come_as_needed : Set → Device → Image → ℕ → List Sub → List (Option ℕ) → Bool
come_as_needed set d image j [] [] = true
come_as_needed set d image j [] (o ∷ came) = false
come_as_needed set d image j (s ∷ subs) [] = false
come_as_needed set d image j (s ∷ subs) (None ∷ came) = not (is_needed set d image s j) && come_as_needed set d image (suc j) subs came
come_as_needed set d image j (s ∷ subs) (Some v ∷ came) = is_needed set d image s j && v == s.desc.version && come_as_needed set d image (suc j) subs came

-- the test of IsReady
abbrev pub is_ready : Set → Device → Image → Bool
is_ready set d image =
    is_normal set d image && is_valid set d image && image.version == d.desc.version && come_as_needed set d image 0 d.subs image.came
