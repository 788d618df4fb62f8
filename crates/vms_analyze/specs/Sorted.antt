-- Values whose objects have their keys in order, as each value that is read has.
use Rattle.std.specs.Prelude.{◌≡◌, ℕ, List, [], ◌∷◌}
use Rattle.std.specs.declared.cmp.Ordering.TheVariants.{Less}
use Rattle.std.specs.Ordering.{nat_cmp}
use Rattle.std.specs.Cmp.Lexicographic.{slice_cmp}
use Rattle.serde_json.specs.Data.{Data, null, boolean, number, string, array, object, Items, no_items, item, Members, no_members, member}

-- One key is less than another.
abbrev pub IsLess : List ℕ → List ℕ → Type 0
IsLess k l = slice_cmp nat_cmp k l ≡ Less

-- A key is before all of these.
abbrev pub IsBefore : List ℕ → List (List ℕ) → Type 0
IsBefore k [] = Unit {0}
IsBefore k (l ∷ keys) = IsLess k l × IsBefore k keys

-- The keys are in order.
abbrev pub AreOrdered : List (List ℕ) → Type 0
AreOrdered [] = Unit {0}
AreOrdered (k ∷ keys) = IsBefore k keys × AreOrdered keys

-- The keys of members.
abbrev pub keys_of : Members → List (List ℕ)
keys_of no_members = []
keys_of (member k d ms) = k ∷ keys_of ms

-- The keys are in order in this value and in all that it holds.
abbrev mutual
  pub IsSorted : Data → Type 0
  IsSorted null = Unit {0}
  IsSorted (boolean b) = Unit {0}
  IsSorted (number n) = Unit {0}
  IsSorted (string s) = Unit {0}
  IsSorted (array ds) = AreSorted ds
  IsSorted (object ms) = AreOrdered (keys_of ms) × HoldSorted ms

  pub AreSorted : Items → Type 0
  AreSorted no_items = Unit {0}
  AreSorted (item d ds) = IsSorted d × AreSorted ds

  pub HoldSorted : Members → Type 0
  HoldSorted no_members = Unit {0}
  HoldSorted (member k d ms) = IsSorted d × HoldSorted ms
