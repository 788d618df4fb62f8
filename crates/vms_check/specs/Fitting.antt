-- The fifteen rules as a relation. Comparing.antt has the walk that finds the first rule that fails. A law says that
-- it finds none exactly if these hold. docs/compatibility.md, "The rules", lists them.
use Rattle.std.specs.Prelude.{◌≡◌, ◌⊎◌, ◌≤◌, ◌<◌, ℕ, Bool, true, false, List, length, get_or, Option, Some}
use Rattle.std.specs.List.{slice_get, list_any}
use Rattle.vms_kinds.specs.declared.Item.TheVariants.{Struct}
use Rattle.vms_spec.specs.declared.Count.TheVariants.{Counted}
use Rattle.vms_spec.specs.Lookup.{find_device, find_sub}
use Rattle.vms_spec.specs.Layout.{counted, no_desc}
use Rattle.vms_spec.specs.Readiness.{is_version_of}
use Rattle.vms_spec.specs.Sets.{Formula, Field, Desc, Sub, Device, Set}
use Rattle.vms_spec.specs.Streams.{is_one_of}
use Rattle.vms_check.specs.Comparing.{Entry, bound, holds_as_much, is_absent, is_covered, is_in, names_match, same_constant, same_count, same_item, same_reduced, same_rest}
use Rattle.vms_check.specs.Reducing.{Reduced, Known, reduced}
use Rattle.vms_check.specs.Sides.{fields_from, position_in}

-- The present fields of a description.
abbrev pub fields_at : Desc → ℕ → List Entry
fields_at d v = fields_from v 0 d.fields

-- `same` says which structures of old and new are alike: structure i of old and structure j of new
module _ (same : ℕ → ℕ → Bool) (a b : Desc) (v w : ℕ) where
  -- The position of a field of the older description.
  abbrev pub in_old : ℕ → Option ℕ
  in_old = position_in v a.fields

  -- The position of a field of the newer description.
  abbrev pub in_new : ℕ → Option ℕ
  in_new = position_in w b.fields

  -- Two fields of the same position.
  pub record AreAlike (e f : Entry) : Type 0 where
    -- rules 7 to 10
    pub counts : same_count in_old in_new e.field.count f.field.count ≡ true
    pub kinds : same_item e.field.item f.field.item ≡ true
    pub tests : same_rest in_old in_new e.rest f.rest ≡ true
    pub names : names_match e.field f.field ≡ true
    -- rule 11: the capacity, and that of each absent array of new that this number counts
    pub capacities : holds_as_much e.field.count f.field.count ≡ true
    pub room : (k : ℕ) (g : Field) (most : ℕ) → slice_get b.fields k ≡ Some g → is_absent w g ≡ true → g.count ≡ Counted f.index most → bound e.field.item (counted e.index a.fields) ≤ most
    -- rule 12
    pub constants : same_constant e.field.item f.field.item ≡ true
    -- their structures
    pub structs : (i j : ℕ) → e.field.item ≡ Struct i → f.field.item ≡ Struct j → same i j ≡ true

  -- Under unused bytes of new only the tests are compared.
  pub record ArePaired (e f : Entry) : Type 0 where
    pub covered : is_covered e.field.item e.field.count f.field.item ≡ true → same_rest in_old in_new e.rest f.rest ≡ true
    pub alike : is_covered e.field.item e.field.count f.field.item ≡ false → AreAlike e f

  -- A reduced validation of new is true, or an old one.
  abbrev pub IsKept : Reduced → Type 0
  IsKept r = (r ≡ Known true) ⊎ (list_any (λ s. same_reduced in_old in_new (reduced v s) r) a.validate ≡ true)

  -- Two descriptions: rules 5 and 6, 7 to 12, and 15.
  pub record DescsFit : Type 0 where
    pub as_many : length (fields_at a v) ≡ length (fields_at b w)
    pub pairs : (p : ℕ) (e f : Entry) → slice_get (fields_at a v) p ≡ Some e → slice_get (fields_at b w) p ≡ Some f → ArePaired e f
    pub validations : (k : ℕ) (t : Formula) → slice_get b.validate k ≡ Some t → IsKept (reduced w t)

-- Subsection l of new for one of old: rules 13 and 14, and those of the description.
pub record IsSubFor (same : ℕ → ℕ → Bool) (s : Sub) (e : Device) (l : ℕ) (t : Sub) : Type 0 where
  pub found : find_sub 0 e.subs s.desc.name ≡ Some l
  pub there : slice_get e.subs l ≡ Some t
  pub version : is_version_of t.desc s.desc.version ≡ true
  pub fits : DescsFit same s.desc t.desc s.desc.version s.desc.version

-- Two devices: rule 4, those of the description, and those of their subsections.
pub record DevicesFit (same : ℕ → ℕ → Bool) (d e : Device) : Type 0 where
  pub version : is_version_of e.desc d.desc.version ≡ true
  pub fits : DescsFit same d.desc e.desc d.desc.version d.desc.version
  pub subs : (j : ℕ) (s : Sub) → slice_get d.subs j ≡ Some s → (l : ℕ) × (t : Sub) × IsSubFor same s e l t

-- Two sets.
pub record SetsFit (same : ℕ → ℕ → Bool) (old new : Set) : Type 0 where
  -- rules 1 to 3
  pub machines : (i : ℕ) (m : List ℕ) → slice_get old.machines i ≡ Some m → is_one_of new.machines m ≡ true
  pub kept : (i : ℕ) (d : Device) → slice_get old.devices i ≡ Some d → is_in new d ≡ true
  pub known : (i : ℕ) (d : Device) → slice_get new.devices i ≡ Some d → is_in old d ≡ true
  -- each structure at its own version
  pub structs : (i j : ℕ) → j < length new.structs → same i j ≡ true
      → DescsFit same (get_or old.structs i no_desc) (get_or new.structs j no_desc) (get_or old.structs i no_desc).version (get_or new.structs j no_desc).version
  -- the devices of the same name and instance
  pub devices : (i k : ℕ) (d e : Device) → slice_get old.devices i ≡ Some d → find_device 0 new.devices d.desc.name d.instance ≡ Some k → slice_get new.devices k ≡ Some e → DevicesFit same d e

-- All rules hold, with some choice of the structures that are alike.
abbrev pub Fits : Set → Set → Type 0
Fits old new = (same : ℕ → ℕ → Bool) × SetsFit same old new
