-- The numbers of a set fit their types in the code.
use Rattle.std.specs.Prelude.{◌≡◌, ◌≤◌, ℕ, Option, Some, None, IfSome}
use Rattle.std.specs.List.{slice_get}
use Rattle.vms_kinds.specs.declared.Item.{Item}
use Rattle.vms_spec.specs.declared.Count.{Count}
use Rattle.vms_spec.specs.Sets.{Formula, AtLeast, Below, Cell, Not, And, Or, Field, Desc, Sub, Device, Set}
use Rattle.vms_descfile.specs.Written.{capacity_in, length_in, size_in, struct_in}

-- the numbers of a test fit
abbrev pub FitsTest : Formula → Type 0
FitsTest (AtLeast n) = n ≤ 4294967295
FitsTest (Below n) = n ≤ 4294967295
FitsTest (Cell whose field mask rel value) = (mask ≤ 18446744073709551615) × (value ≤ 18446744073709551615)
FitsTest (Not t) = FitsTest t
FitsTest (And s t) = FitsTest s × FitsTest t
FitsTest (Or s t) = FitsTest s × FitsTest t

-- the same of a test, if there is one
abbrev pub FitsOptional : Option Formula → Type 0
FitsOptional None = Unit {0}
FitsOptional (Some t) = FitsTest t

-- the numbers of a count fit
pub record FitsCount (count : Count) : Type 0 where
  pub capacity : IfSome (capacity_in count) (λ n. n ≤ 4294967295)
  pub length : IfSome (length_in count) (λ n. n ≤ 4294967295)

-- the numbers of an item fit
pub record FitsItem (item : Item) : Type 0 where
  pub bytes : IfSome (size_in item) (λ n. n ≤ 65535)
  pub number : IfSome (struct_in item) (λ n. n ≤ 4294967295)

-- the numbers of a field fit
pub record FitsField (f : Field) : Type 0 where
  pub item : FitsItem f.item
  pub count : FitsCount f.count
  pub since : f.since ≤ 4294967295
  pub test : FitsOptional f.test

-- the numbers of a description fit
pub record FitsDesc (d : Desc) : Type 0 where
  pub version : d.version ≤ 4294967295
  pub minimum : d.minimum ≤ 4294967295
  pub fields : (i : ℕ) (f : Field) → slice_get d.fields i ≡ Some f → FitsField f
  pub validate : (i : ℕ) (t : Formula) → slice_get d.validate i ≡ Some t → FitsTest t

-- the numbers of a subsection fit
pub record FitsSub (s : Sub) : Type 0 where
  pub desc : FitsDesc s.desc
  pub needed : FitsTest s.needed

-- the numbers of a device fit, apart from its instance id
pub record FitsWhole (d : Device) : Type 0 where
  pub desc : FitsDesc d.desc
  pub subs : (i : ℕ) (s : Sub) → slice_get d.subs i ≡ Some s → FitsSub s

-- the numbers of a device fit
pub record FitsDevice (d : Device) : Type 0 where
  pub instance : d.instance ≤ 4294967295
  pub whole : FitsWhole d

-- the numbers of a set fit
pub record FitsSet (set : Set) : Type 0 where
  pub structs : (i : ℕ) (d : Desc) → slice_get set.structs i ≡ Some d → FitsDesc d
  pub devices : (i : ℕ) (d : Device) → slice_get set.devices i ≡ Some d → FitsDevice d
