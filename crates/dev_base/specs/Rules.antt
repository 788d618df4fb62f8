-- The rules of restored cells, numbered from 1 in their order.
use Rattle.std.specs.Prelude.{◌≡◌, ℕ, ◌+◌, ◌-◌, ◌<◌, ◌≤◌, Bool, true, false, List, [], ◌∷◌, length, slice_index_or, if◌then◌else◌, Option, Some, None, Result, Ok, Err, MatchOption}

-- `failing_from number rules` is the number of the first rule that fails, where the first of the
-- list has the number `number`.
abbrev pub failing_from : ℕ → List Bool → Option ℕ
failing_from number [] = None
failing_from number (holds ∷ rules) = if holds then failing_from (number + 1) rules else Some number

-- `first_failing rules` is the number of the first rule that fails, if one fails.
abbrev pub first_failing : List Bool → Option ℕ
first_failing rules = failing_from 1 rules

-- `judged_by failing device` is the device if no rule fails, else the number of the first that
-- does.
unfoldable pub judged_by : {D : Type 0} → Option ℕ → D → Result D ℕ
judged_by None device = Ok device
judged_by (Some rule) device = Err rule

-- `judged rules device` is the same for the outcomes of the rules.
abbrev pub judged : {D : Type 0} → List Bool → D → Result D ℕ
judged rules device = judged_by (first_failing rules) device

-- `IsFirstFailing rules rule`: the rule with this number fails, and all before it hold.
pub record IsFirstFailing (rules : List Bool) (rule : ℕ) : Type 0 where
  pub within : (1 ≤ rule) × (rule ≤ length rules)
  pub fails : slice_index_or rules (rule - 1) true ≡ false
  pub others : (other : ℕ) → other + 1 < rule → slice_index_or rules other true ≡ true

-- `AllHold rules`: every rule holds.
abbrev pub AllHold : List Bool → Type 0
AllHold rules = (place : ℕ) → place < length rules → slice_index_or rules place true ≡ true

-- `MeansFailing rules answer` is what an answer of the search for a failing rule means.
abbrev pub MeansFailing : List Bool → Option ℕ → Type 0
MeansFailing rules answer = MatchOption answer (AllHold rules) (IsFirstFailing rules)

-- The search finds the first rule that fails, and none if all hold.
abbrev pub FirstFailingIsFirst : Type 0
FirstFailingIsFirst = (rules : List Bool) → MeansFailing rules (first_failing rules)
