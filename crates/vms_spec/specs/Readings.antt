-- The reading of an input unit by unit, for any units. A unit is judged when it is complete
-- (docs/format.md, "Units, offsets and refusals").
use Rattle.std.specs.Prelude.{ℕ, zero, suc, ◌+◌, List, drop, Option, Some, None}
use Rattle.vms_spec.specs.declared.Reason.{Reason}

-- What is at a place. It is a unit, with its length in bytes and the state after it; or a fault,
-- with the device concerned and the length of the offending unit; or the end, in this state. An
-- offending unit has length 0 if it is judged before any further byte. If the input ends inside it,
-- its length is the rest of the input.
pub data Verdict (S : Type 0) : Type 0 where
  Goes : ℕ → S → Verdict S
  Faulty : Option ℕ → Reason → ℕ → Verdict S
  Over : S → Verdict S

-- the result of a reading: the input is taken up to a place, in this state, or refused at a place,
-- with the length of the offending unit
pub data Reading (S : Type 0) : Type 0 where
  Accepted : ℕ → S → Reading S
  Refused : ℕ → Option ℕ → Reason → ℕ → Reading S

-- the reading after a verdict, which `go` resumes
abbrev pub reading_after : {S : Type 0} → (S → ℕ → List ℕ → Option (Reading S)) → ℕ → List ℕ → Verdict S → Option (Reading S)
reading_after go at rest (Goes n next) = go next (at + n) (drop n rest)
reading_after go at rest (Faulty section reason long) = Some (Refused at section reason long)
reading_after go at rest (Over end) = Some (Accepted at end)

-- the reading from a state and a place on, of at most the given number of units
abbrev pub reading_from : {S : Type 0} → (S → List ℕ → Verdict S) → ℕ → S → ℕ → List ℕ → Option (Reading S)
reading_from judge zero state at rest = None
reading_from judge (suc most) state at rest = reading_after (reading_from judge most) at rest (judge state rest)
