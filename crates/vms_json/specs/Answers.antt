-- What a part of a file says, or the path of the first fault in it.
use Rattle.std.specs.Prelude.{◌≡◌, ℕ, ◌+◌, List, [], ◌∷◌, ◌++◌, Option, Some, None, Result, Ok, Err, decimal}
use Rattle.serde_json.specs.Data.{Data, Items, no_items, item}
use Rattle.serde_json.specs.Find.{as_array}
use Rattle.vms_json.specs.declared.fault.Fault.{Fault}
use Rattle.vms_json.specs.declared.fault.Fault.TheVariants as faults

-- The path begins at the part. It is empty if the part itself is invalid.
pub data Answer (A : Type 0) : Type 0 where
  good : A → Answer A
  bad : List ℕ → Answer A

-- the path of a place in the member of a key, or in the item at a position
abbrev pub joined : List ℕ → List ℕ → List ℕ
joined key [] = key
joined key (c ∷ path) = key ++ 46 ∷ c ∷ path

-- the answer of a member or an item as an answer of the whole
abbrev pub under : {A : Type 0} → List ℕ → Answer A → Answer A
under key (good a) = good a
under key (bad path) = bad (joined key path)

-- a further answer after a good one
abbrev pub next : {A B : Type 0} → Answer A → (A → Answer B) → Answer B
next (good a) f = f a
next (bad path) f = bad path

-- the answer with its value changed by f
abbrev pub changed : {A B : Type 0} → (A → B) → Answer A → Answer B
changed f (good a) = good (f a)
changed f (bad path) = bad path

-- the value, or the fault of the part itself if there is none
abbrev pub given : {A : Type 0} → Option A → Answer A
given (Some a) = good a
given None = bad []

-- the answers of all items, of which the first has number i
abbrev pub each_from : {A : Type 0} → (Data → Answer A) → ℕ → Items → Answer (List A)
each_from says i no_items = good []
each_from says i (item d ds) = next (under (decimal i) (says d)) (λ a. changed (λ list. a ∷ list) (each_from says (i + 1) ds))

-- the answers of all items, or the fault of the part itself if it is no list
abbrev pub each_of : {A : Type 0} → (Data → Answer A) → Option Items → Answer (List A)
each_of says None = bad []
each_of says (Some ds) = each_from says 0 ds

-- the answer of a list, given that of its items
abbrev pub list_of : {A : Type 0} → (Data → Answer A) → Data → Answer (List A)
list_of says d = each_of says (as_array d)

-- ---- what the code returns

-- the fault's path is the one of the answer; NoMemory may come in any case
abbrev pub Refuses : {A : Type 0} → Answer A → Fault → Type 0
Refuses answer (faults.Shape path) = answer ≡ bad path
Refuses answer faults.NoMemory = Unit {0}

-- the fault of a member or an item as a fault of the whole; NoMemory may come in any case
abbrev pub IsUnder : List ℕ → Fault → Fault → Type 0
IsUnder key (faults.Shape path) (faults.Shape whole) = whole ≡ joined key path
IsUnder key faults.NoMemory (faults.Shape whole) = ⊥
IsUnder key fault faults.NoMemory = Unit {0}

-- `Answers m answer result`: the result has the answer's value, as m reads it, or its fault
abbrev pub Answers : {A T : Type 0} → (T → A) → Answer A → Result T Fault → Type 0
Answers m answer (Ok t) = answer ≡ good (m t)
Answers m answer (Err fault) = Refuses answer fault
