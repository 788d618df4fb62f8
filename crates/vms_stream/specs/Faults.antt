-- Faults: which inputs are refused, where and why. This is what a refusal means (docs/format.md, "Units,
-- offsets and refusals"). The judge isn't used here. The only state is the list of the units so far: it says
-- what is due (Dues) and which unit is invalid (Table).
use Rattle.std.specs.Prelude.{◌≡◌, ℕ, true, false, if◌then◌else◌, List, [], ◌∷◌, ◌++◌, length, Option, Some, None}
use Rattle.vms_spec.specs.declared.Reason.{Reason}
use Rattle.vms_spec.specs.declared.Reason.TheVariants as reasons
use Rattle.vms_spec.specs.Sets.{Set}
use Rattle.vms_spec.specs.Units.{Piece, spell, spelled}
use Rattle.vms_spec.specs.SoFar.{opened}
use Rattle.vms_stream.specs.Dues.{Due, AfterFields, begins_next, AfterEnd, Nothing, May, due, holds}
use Rattle.vms_stream.specs.Table.{reason_of}

-- `Owes d rest`: a unit must come. None must come after a description, or after the end mark if `rest` is
-- empty.
abbrev pub Owes : Due → List ℕ → Type 0
Owes Nothing rest = ⊥
Owes AfterEnd [] = ⊥
Owes d rest = Unit {0}

-- `cut_in d rest section` is the device of a cut: `section`, or none if the input ends inside a unit between
-- sections.
abbrev pub cut_in : Due → List ℕ → Option ℕ → Option ℕ
cut_in (AfterFields k tail) rest section = if begins_next tail rest then None else section
cut_in d rest section = section

-- `IsWhole set u rest x`: the unit `x` may come after `u`, and all its bytes are at the front of `rest`.
pub record IsWhole (set : Set) (u : List Piece) (rest : List ℕ) (x : Piece) : Type 0 where
  pub may : May (due set u) x
  pub more : List ℕ
  pub there : rest ≡ spell x ++ more

-- `names` are the accepted machines.
module _ (set : Set) (names : List (List ℕ)) where
  -- `Front u`: the units `u` have no fault. Each was due after those before it, and no row of the table takes
  -- it. Before each of them, the validations of the descriptions that had ended hold.
  abbrev pub Front : List Piece → Type 0
  Front [] = Unit {0}
  Front (x ∷ u) = Front u × (holds set u ≡ true) × May (due set u) x × (reason_of set names u x ≡ None)

  -- `Why u rest section reason size`: why no unit follows the front `u`. There are three cases:
  --
  -- - `Fails`: a validation of a description that has ended fails. The size is 0.
  -- - `Cut`: a unit must come, and none that may come is complete. The size is that of `rest`.
  -- - `Wrong`: a row of the table takes the complete unit. The size is the unit's.
  pub data Why (u : List Piece) (rest : List ℕ) : Option ℕ → Reason → ℕ → Type 0 where
    Fails : holds set u ≡ false → Why u rest (opened set u) reasons.Invalid 0
    Cut : holds set u ≡ true → Owes (due set u) rest → ((x : Piece) → IsWhole set u rest x → ⊥) → Why u rest (cut_in (due set u) rest (opened set u)) reasons.Truncated (length rest)
    Wrong : (x : Piece) (section : Option ℕ) (reason : Reason) → holds set u ≡ true → IsWhole set u rest x → reason_of set names u x ≡ Some (section, reason) → Why u rest section reason (length (spell x))

  -- `Fault input place section reason size`: `input` is refused at offset `place`, for device `section` or
  -- none, for `reason`, at a unit of `size` bytes.
  pub record Fault (input : List ℕ) (place : ℕ) (section : Option ℕ) (reason : Reason) (size : ℕ) : Type 0 where
    pub units : List Piece
    pub rest : List ℕ
    pub front : Front units
    pub whole : input ≡ spelled units ++ rest
    pub long : length (spelled units) ≡ place
    pub why : Why units rest section reason size
