-- The laws of what is found and of the judge.
use Rattle.std.specs.Prelude.{◌≡◌, true, false, ℕ, List, [], ◌∷◌, ◌++◌, length, drop, Option, Some, None}
use Rattle.vms_spec.specs.declared.Reason.{Reason}
use Rattle.vms_spec.specs.Sets.{Set}
use Rattle.vms_spec.specs.Readings.{Accepted, Refused}
use Rattle.vms_kinds.specs.Bytes.{IsBytes}
use Rattle.vms_spec.specs.Units.{Piece, spell, spelled}
use Rattle.vms_stream.specs.Dues.{Due, May, due, holds}
use Rattle.vms_spec.specs.SoFar.{opened}
use Rattle.vms_stream.specs.Table.{reason_of}
use Rattle.vms_stream.specs.Faults.{Front, Fault}
use Rattle.vms_stream.specs.Finding.{Whole, Cut, unit_at}
use Rattle.vms_stream.specs.State.{by_state, at_start}
use Rattle.vms_stream.specs.Judge.{owes, Grammar, reading, by_units}

-- `IsThere d rest x n`: the unit `x` may come if `d` is due, has `n` bytes, and is spelled at the front of
-- `rest`.
pub record IsThere (d : Due) (rest : List ℕ) (x : Piece) (n : ℕ) : Type 0 where
  pub may : May d x
  pub long : length (spell x) ≡ n
  pub there : rest ≡ spell x ++ drop n rest

-- `Finds d rest`: `unit_at` finds exactly the units that may come and are spelled at the front of `rest`. It
-- finds `Cut` exactly if there is none.
pub record Finds (d : Due) (rest : List ℕ) : Type 0 where
  pub found : (x : Piece) (n : ℕ) → unit_at d rest ≡ Whole x n → IsThere d rest x n
  pub only : (x : Piece) (more : List ℕ) → May d x → rest ≡ spell x ++ more → unit_at d rest ≡ Whole x (length (spell x))
  pub cut : unit_at d rest ≡ Cut → (x : Piece) (more : List ℕ) → May d x → rest ≡ spell x ++ more → ⊥
  pub none : ((x : Piece) (more : List ℕ) → May d x → rest ≡ spell x ++ more → ⊥) → unit_at d rest ≡ Cut

-- Every input of bytes is found so, whatever is due.
abbrev pub FoundLaw : Type 0
FoundLaw = (d : Due) (rest : List ℕ) → IsBytes rest → Finds d rest

-- `Mirrored set names g Mirrors`: each state of the grammar `g` that mirrors a list of units answers as the
-- list does.
pub record Mirrored {S : Type 0} (set : Set) (names : List (List ℕ)) (g : Grammar S) (Mirrors : List Piece → S → Type 0) : Type 0 where
  pub due_is : (u : List Piece) (s : S) → Mirrors u s → g.due s ≡ due set u
  pub holds_is : (u : List Piece) (s : S) → Mirrors u s → g.holds s ≡ holds set u
  pub section_is : (u : List Piece) (s : S) → Mirrors u s → g.section s ≡ opened set u
  pub reason_is : (u : List Piece) (s : S) (x : Piece) → Mirrors u s → May (due set u) x → g.reason s x ≡ reason_of set names u x
  pub after_is : (u : List Piece) (s : S) (x : Piece) → Mirrors u s → holds set u ≡ true → May (due set u) x → reason_of set names u x ≡ None → Mirrors (x ∷ u) (g.after s x)

-- `Refuses set names g start`: the judge refuses an input exactly if it has a fault, with the same offset,
-- device, reason and size.
pub record Refuses {S : Type 0} (set : Set) (names : List (List ℕ)) (g : Grammar S) (start : S) : Type 0 where
  pub refused : (input : List ℕ) (place : ℕ) (section : Option ℕ) (reason : Reason) (size : ℕ) → IsBytes input
      → reading g start input ≡ Some (Refused place section reason size) → Fault set names input place section reason size
  pub faulty : (input : List ℕ) (place : ℕ) (section : Option ℕ) (reason : Reason) (size : ℕ) → IsBytes input
      → Fault set names input place section reason size → reading g start input ≡ Some (Refused place section reason size)

-- `Ends set names input taken u`: `input` begins with the units `u`, of `taken` bytes. None has a fault, the
-- rules that end there hold, and no further unit must come.
pub record Ends (set : Set) (names : List (List ℕ)) (input : List ℕ) (taken : ℕ) (u : List Piece) : Type 0 where
  pub rest : List ℕ
  pub front : Front set names u
  pub held : holds set u ≡ true
  pub over : owes (due set u) rest ≡ false
  pub whole : input ≡ spelled u ++ rest
  pub long : length (spelled u) ≡ taken

-- `Accepts set names g Mirrors start`: the judge accepts an input exactly if its units end so, in a state
-- that mirrors them.
pub record Accepts {S : Type 0} (set : Set) (names : List (List ℕ)) (g : Grammar S) (Mirrors : List Piece → S → Type 0) (start : S) : Type 0 where
  pub accepted : (input : List ℕ) (n : ℕ) (end : S) → IsBytes input → reading g start input ≡ Some (Accepted n end) → (u : List Piece) × Ends set names input n u × Mirrors u end
  pub ends : (input : List ℕ) (n : ℕ) (u : List Piece) → IsBytes input → Ends set names input n u → (end : S) × (reading g start input ≡ Some (Accepted n end)) × Mirrors u end

-- The judge over the list of the units so far refuses exactly the faults.
abbrev pub RefusesLaw : Type 0
RefusesLaw = (set : Set) (names : List (List ℕ)) → Refuses set names (by_units set names) []

-- The same over the state that a loader holds.
abbrev pub StateRefusesLaw : Type 0
StateRefusesLaw = (set : Set) (names : List (List ℕ)) → Refuses set names (by_state set names) (at_start set)
