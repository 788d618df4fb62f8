-- The judge. It checks the rules that end here, finds the unit, looks for the row that takes it, and else
-- gives the next state. It is written for any state for which this is known; the list of the units so far is
-- one.
use Rattle.std.specs.Prelude.{ℕ, suc, Bool, true, false, if◌then◌else◌, List, [], ◌∷◌, length, Option, Some, None}
use Rattle.vms_spec.specs.declared.Reason.{Reason}
use Rattle.vms_spec.specs.declared.Reason.TheVariants as reasons
use Rattle.vms_spec.specs.Sets.{Set}
use Rattle.vms_spec.specs.Readings.{Verdict, Goes, Faulty, Over, Reading, reading_from}
use Rattle.vms_spec.specs.Units.{Piece}
use Rattle.vms_spec.specs.SoFar.{opened}
use Rattle.vms_stream.specs.Dues.{Due, AfterEnd, Nothing, due, holds}
use Rattle.vms_stream.specs.Table.{reason_of}
use Rattle.vms_stream.specs.Faults.{cut_in}
use Rattle.vms_stream.specs.Finding.{Found, Whole, Cut, unit_at}

-- `owes d rest` is whether a unit must come. None must come after a description, or after the end mark if
-- `rest` is empty.
abbrev pub owes : Due → List ℕ → Bool
owes Nothing rest = false
owes AfterEnd [] = false
owes d rest = true

-- What the judge needs of a state: what is due; whether the rules that end there hold; the open section; the
-- first row that takes a unit, with its device and reason; and the state after a unit.
pub record Grammar (S : Type 0) : Type 0 where
  pub due : S → Due
  pub holds : S → Bool
  pub section : S → Option ℕ
  pub reason : S → Piece → Option (Option ℕ × Reason)
  pub after : S → Piece → S

module _ {S : Type 0} (g : Grammar S) where
  -- `by_row o n next` is the verdict on a unit of `n` bytes: a fault if a row `o` takes it, else the state
  -- `next`.
  abbrev pub by_row : Option (Option ℕ × Reason) → ℕ → S → Verdict S
  by_row None n next = Goes n next
  by_row (Some (section, reason)) n next = Faulty section reason n

  -- `judge_found s rest found` is the verdict on what is found at the front of `rest` in the state `s`.
  abbrev pub judge_found : S → List ℕ → Found → Verdict S
  judge_found s rest (Whole x n) = by_row (g.reason s x) n (g.after s x)
  judge_found s rest Cut = if owes (g.due s) rest then Faulty (cut_in (g.due s) rest (g.section s)) reasons.Truncated (length rest) else Over s

  -- `judge s rest` is the verdict on the front of `rest` in the state `s`.
  abbrev pub judge : S → List ℕ → Verdict S
  judge s rest = if g.holds s then judge_found s rest (unit_at (g.due s) rest) else Faulty (g.section s) reasons.Invalid 0

  -- `reading start input` is what judging all of `input` from `start` on gives.
  unfoldable pub reading : S → List ℕ → Option (Reading S)
  reading start input = reading_from judge (suc (length input)) start 0 input

-- The grammar whose state is the list of the units so far.
abbrev pub by_units : Set → List (List ℕ) → Grammar (List Piece)
by_units set names = record {
  due = due set;
  holds = holds set;
  section = opened set;
  reason = reason_of set names;
  after = λ u x. x ∷ u;
}
