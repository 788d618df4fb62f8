-- Rules and choices: the first rule that fails, what is restored, and what holds of both branches
-- of a test.
use Rattle.std.proofs.{lemmas.Bool.Decides.nat_tests, lemmas.Nat.le-div, lemmas.Bool.false≢true}
use Rattle.std.proofs.Common.{Bool, true, false, cond, ◌≡◌, ℕ, ◌/◌, ◌<◌, ◌≤◌, ◌||◌, arith, zero, suc, ◌+◌, ◌-◌, List, []}
use Rattle.std.proofs.Common.{◌∷◌, length, slice_index_or, Option, Some, None, Result, Ok, refl, MatchOption}
use Rattle.std.specs.Prelude.{nat_lt}
use Rattle.dev_base.specs.Hooks.{hook_result}
use Rattle.dev_base.specs.Rules.{failing_from, first_failing, judged_by, judged, AllHold, MeansFailing, FirstFailingIsFirst}

-- ---- what holds for a choice by a test

-- A fact of both branches is one of the choice.
pub either : {A : Type 0} (P : A → Type 0) (b : Bool) (x y : A) → P x → P y → P (cond b x y)
either P b x y p q = grind arith

-- ---- whole parts of numbers that grow

-- What grows over two spans grows in one of them.
pub grown : (a b c : ℕ) → a ≤ b → b ≤ c → nat_lt a c ≡ (nat_lt a b || nat_lt b c)
grown a b c h l = grind (arith, nat_tests)

pub quotient_mono : (n a b : ℕ) → 0 < n → a ≤ b → a / n ≤ b / n
quotient_mono n a b p h = grind (arith, le-div)

-- ---- the search for a rule that fails finds the first, and finds none where all hold

-- The same with another first number.
record FailsAt (number : ℕ) (rules : List Bool) (rule : ℕ) : Type 0 where
  place : ℕ
  is : rule ≡ number + place
  within : place < length rules
  fails : slice_index_or rules place true ≡ false
  others : (other : ℕ) → other < place → slice_index_or rules other true ≡ true

abbrev Means : ℕ → List Bool → Option ℕ → Type 0
Means number rules answer = MatchOption answer (AllHold rules) (FailsAt number rules)

all_more : (rules : List Bool) → AllHold rules → AllHold (true ∷ rules)
all_more rules h zero l = refl
all_more rules h (suc place) l = h place (omega (arith, l))

others_more : (rules : List Bool) (place : ℕ) → ((other : ℕ) → other < place → slice_index_or rules other true ≡ true) → (other : ℕ) → other < suc place → slice_index_or (true ∷ rules) other true ≡ true
others_more rules place h other l = grind arith

more : (number : ℕ) (rules : List Bool) (answer : Option ℕ) → Means (number + 1) rules answer → Means number (true ∷ rules) answer
more number rules None h = all_more rules h
more number rules (Some rule) h = record {
  place = suc h.place;
  is = let e = h.is in omega (arith, e);
  within = let l = h.within in omega (arith, l);
  fails = h.fails;
  others = others_more rules h.place h.others;
}

means_from : (number : ℕ) (rules : List Bool) → Means number rules (failing_from number rules)
means_from number [] = λ place l. absurd (omega (arith, l))
means_from number (true ∷ rules) = more number rules (failing_from (number + 1) rules) (means_from (number + 1) rules)
means_from number (false ∷ rules) = search arith

from_one : (rules : List Bool) (answer : Option ℕ) → Means 1 rules answer → MeansFailing rules answer
from_one rules answer h = grind arith

pub first_failing_is_first : FirstFailingIsFirst
first_failing_is_first rules = from_one rules (first_failing rules) (means_from 1 rules)

-- The same by recursion on the list.
abbrev pub AllTrue : List Bool → Type 0
AllTrue [] = Unit {0}
AllTrue (holds ∷ rules) = (holds ≡ true) × AllTrue rules

none-from : (number : ℕ) (rules : List Bool) → AllTrue rules → failing_from number rules ≡ None
none-from number [] h = refl
none-from number (true ∷ rules) h = none-from (number + 1) rules h.1
none-from number (false ∷ rules) h = absurd (false≢true h.0)

all-from : (number : ℕ) (rules : List Bool) → failing_from number rules ≡ None → AllTrue rules
all-from number [] e = tt
all-from number (true ∷ rules) e = (refl, all-from (number + 1) rules e)
all-from number (false ∷ rules) e = cc

pub none_failing : (rules : List Bool) → AllTrue rules → first_failing rules ≡ None
none_failing rules h = none-from 1 rules h

pub all_true : (rules : List Bool) → first_failing rules ≡ None → AllTrue rules
all_true rules e = all-from 1 rules e

-- What is restored: the device if all rules hold, and only then.
pub judged-all : {D : Type 0} (rules : List Bool) (device : D) → AllTrue rules → judged rules device ≡ Ok device
unfolding judged_by
judged-all rules device h = rw (none_failing rules h)

record Accepted {D : Type 0} (answer : Option ℕ) (found device : D) : Type 0 where
  none : answer ≡ None
  same : found ≡ device

accepted : {D : Type 0} (answer : Option ℕ) (found device : D) → judged_by answer found ≡ Ok device → Accepted answer found device
unfolding judged_by
accepted answer found device e = search arith

pub judged-ok : {D : Type 0} (rules : List Bool) (found device : D) → judged rules found ≡ Ok device → AllTrue rules × (found ≡ device)
judged-ok rules found device e = grind (arith, accepted, all_true)

-- A hook returns a device exactly if the restore does.
pub hook-ok : {D : Type 0} (outcome : Result D ℕ) (device : D) → hook_result outcome ≡ Ok device → outcome ≡ Ok device
unfolding hook_result
hook-ok outcome device e = grind arith

pub ok-hook : {D : Type 0} (outcome : Result D ℕ) (device : D) → outcome ≡ Ok device → hook_result outcome ≡ Ok device
unfolding hook_result
ok-hook outcome device e = rw e
