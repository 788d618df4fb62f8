-- One position of two descriptions: a present field of the older one, and the field of the newer one that it is
-- paired with.
use Rattle.std.specs.Prelude.{◌≡◌, ◌⊎◌, ℕ, ◌+◌, true, List, length, Option, Some, None, ℤ}
use Rattle.std.specs.List.{slice_get}
use Rattle.vms_spec.specs.declared.Part.{Part}
use Rattle.vms_spec.specs.Rules.{is_earlier_in}
use Rattle.vms_spec.specs.Sets.{Desc, Sub, Device, Set}
use Rattle.vms_spec.specs.Layout.{Cell, Slot, meanings, struct_cells, desc_cells, field_slots, numbers_of}
use Rattle.vms_spec.specs.WellFormed.{WellFormed, in_field}
use Rattle.vms_check.specs.Comparing.{Comparer, Entry, comparers, failing_pair, pair_rules, pair_structs, position_from, present, same_place}
use Rattle.vms_check.specs.Carrying.{Carrier, carriers, carry_field}
use Rattle.vms_check_laws.specs.Segments.{Holds, FitsAt, Carries}

-- The description of a device of the set.
pub record IsDevicePart (set : Set) (d : Desc) : Type 0 where
  pub i : ℕ
  pub device : Device
  pub there : slice_get set.devices i ≡ Some device
  pub is : device.desc ≡ d

-- The description of a subsection of one of the set's devices.
pub record IsSubPart (set : Set) (d : Desc) : Type 0 where
  pub i : ℕ
  pub j : ℕ
  pub device : Device
  pub sub : Sub
  pub there : slice_get set.devices i ≡ Some device
  pub below : slice_get device.subs j ≡ Some sub
  pub is : sub.desc ≡ d

-- The description of a device of the set, or of one of its subsections.
abbrev pub IsPartOf : Set → Desc → Type 0
IsPartOf set d = IsDevicePart set d ⊎ IsSubPart set d

-- a and b at one version, where x and y are the cells of the structures on each side: numbers of a begin at a cell,
-- those of b at another
module _ (old new : Set) (a b : Desc) (v : ℕ) (part part' : Part) (numbers numbers' : List ℤ) (at at' : ℕ) (x y : List (List Cell)) where
  -- The comparers of new's structures.
  abbrev pub comparers_on : List Comparer
  comparers_on = comparers x y old.structs new.structs (length new.structs)

  -- The carriers of new's structures.
  abbrev pub carriers_on : List Carrier
  carriers_on = carriers x y old.structs new.structs (length new.structs)

  -- The position of a field of a.
  abbrev pub in_old : ℕ → Option ℕ
  in_old k = position_from 0 (present x a v) k

  -- The position of a field of b.
  abbrev pub in_new : ℕ → Option ℕ
  in_new k = position_from 0 (present y b v) k

  -- Position p, where the rules hold and the newer numbers of the field are the carried ones.
  pub record IsPosition (p : ℕ) (e f : Entry) : Type 0 where
    pub on_old : slice_get (present x a v) p ≡ Some e
    pub on_new : slice_get (present y b v) p ≡ Some f
    pub rules : failing_pair (pair_rules comparers_on a b v v part part' in_old in_new e f) (in_field part e.index) (in_field part' f.index) ≡ None
    pub structs : pair_structs comparers_on a b v v part part' in_old in_new e.field.item f.field.item ≡ None
    pub fits : FitsAt (desc_cells x a) numbers at
    -- numbers that tests and counts of this field may name, those of earlier fields, are the same if their
    -- positions are
    pub agree : (i j : ℕ) → is_earlier_in b f.index j ≡ true → same_place (in_old i) (in_new j) ≡ true → numbers_of x a numbers at i ≡ numbers_of y b numbers' at' j
    pub held : Holds numbers' (at' + f.place) (carry_field carriers_on x y numbers (numbers_of x a numbers at) v at e f.field)

  -- The slots of the older field.
  abbrev pub old_field : Entry → List Slot
  old_field e = field_slots (meanings old.structs (length old.structs)) a.fields v (numbers_of x a numbers at) numbers e.index (at + e.place) e.field

  -- The slots of the newer field.
  abbrev pub new_field : Entry → List Slot
  new_field f = field_slots (meanings new.structs (length new.structs)) b.fields v (numbers_of y b numbers' at') numbers' f.index (at' + f.place) f.field

  -- At each position the newer field reads the bytes of the older one.
  abbrev pub IsRead : Type 0
  IsRead = (p : ℕ) (e f : Entry) → IsPosition p e f → Carries numbers (old_field e) numbers' (new_field f)

-- The newer set reads, as carried, what the older set writes for the field of a position: a number, an array, a
-- structure, or anything that unused bytes cover.
abbrev pub PositionLaw : Type 0
PositionLaw = (old new : Set) → WellFormed old → WellFormed new → (a b : Desc) → IsPartOf old a → IsPartOf new b → (v : ℕ) (part part' : Part)
    → (numbers numbers' : List ℤ) (at at' : ℕ) → IsRead old new a b v part part' numbers numbers' at at' (struct_cells old) (struct_cells new)
