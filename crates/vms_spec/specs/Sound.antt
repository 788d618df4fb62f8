-- Sound descriptions: each test and each count names a single number that is before it.
use Rattle.std.specs.Prelude.{ℕ, suc, ◌<◌, List, [], ◌∷◌, length, get_or, Option, Some, None}
use Rattle.std.specs.List.{AllByRecursion}
use Rattle.vms_kinds.specs.declared.Item.{Item}
use Rattle.vms_kinds.specs.declared.Item.TheVariants.{Num}
use Rattle.vms_spec.specs.declared.Count.{Count}
use Rattle.vms_spec.specs.declared.Count.TheVariants.{One, Fixed, Counted}
use Rattle.vms_spec.specs.declared.Whose.TheVariants.{Own, Parent}
use Rattle.vms_spec.specs.Sets.{Formula, AtLeast, Below, Cell, Not, And, Or, Field, Desc}
use Rattle.vms_spec.specs.Layout.{no_field, no_desc}

-- the item is a number
abbrev pub IsNumber : Item → Type 0
IsNumber (Num kind) = Unit {0}
IsNumber item = ⊥

-- the field is a single item
abbrev pub IsOne : Count → Type 0
IsOne One = Unit {0}
IsOne c = ⊥

-- field j is among the first i fields, and it is a single number
pub record IsEarlier (fields : List Field) (i j : ℕ) : Type 0 where
  pub earlier : j < i
  pub there : j < length fields
  pub number : IsNumber (get_or fields j no_field).item
  pub one : IsOne (get_or fields j no_field).count

-- each field that the test names is such a field of its own description
abbrev pub NamesEarlier : List Field → ℕ → Formula → Type 0
NamesEarlier fields i (AtLeast n) = Unit {0}
NamesEarlier fields i (Below n) = Unit {0}
NamesEarlier fields i (Cell Own j mask rel value) = IsEarlier fields i j
NamesEarlier fields i (Cell Parent j mask rel value) = ⊥
NamesEarlier fields i (Not t) = NamesEarlier fields i t
NamesEarlier fields i (And s t) = NamesEarlier fields i s × NamesEarlier fields i t
NamesEarlier fields i (Or s t) = NamesEarlier fields i s × NamesEarlier fields i t

-- the same of a test, if there is one
abbrev pub IsSoundTest : List Field → ℕ → Option Formula → Type 0
IsSoundTest fields i None = Unit {0}
IsSoundTest fields i (Some t) = NamesEarlier fields i t

-- the same of a count
abbrev pub IsSoundCount : List Field → ℕ → Count → Type 0
IsSoundCount fields i One = Unit {0}
IsSoundCount fields i (Fixed n) = Unit {0}
IsSoundCount fields i (Counted by most) = IsEarlier fields i by

-- the test and the count of field i name earlier fields
pub record IsSoundField (fields : List Field) (i : ℕ) (f : Field) : Type 0 where
  pub test : IsSoundTest fields i f.test
  pub count : IsSoundCount fields i f.count

-- the same of each field, of which the first has number i
abbrev pub AreSoundFields : List Field → ℕ → List Field → Type 0
AreSoundFields fields i [] = Unit {0}
AreSoundFields fields i (f ∷ fs) = IsSoundField fields i f × AreSoundFields fields (suc i) fs

-- a sound description: its fields are sound, and its validations name its own fields
pub record IsSound (d : Desc) : Type 0 where
  pub fields : AreSoundFields d.fields 0 d.fields
  pub validate : AllByRecursion (NamesEarlier d.fields (length d.fields)) d.validate

-- each of the descriptions is sound
abbrev pub AreSound : List Desc → Type 0
AreSound ds = (j : ℕ) → j < length ds → IsSound (get_or ds j no_desc)
