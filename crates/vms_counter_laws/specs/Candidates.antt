-- The states of an older set that may show why a newer one refuses it. There are at most two: the defaults; and, if
-- capacities differ, the same with one number raised above the newer set's capacity.
use Rattle.std.specs.Prelude.{ℕ, suc, ◌&&◌, ◌==◌, Bool, nat_lt, if◌then◌else◌, List, [], ◌∷◌, ◌++◌, length, get_or, map, slice_set, Option, Some, None, ℤ, pos}
use Rattle.std.specs.List.{slice_get}
use Rattle.vms_spec.specs.declared.Count.{Count}
use Rattle.vms_spec.specs.declared.Count.TheVariants.{One, Counted}
use Rattle.vms_spec.specs.declared.Part.{Part}
use Rattle.vms_spec.specs.declared.Part.TheVariants as parts
use Rattle.vms_spec.specs.Sets.{Field, Device, Set}
use Rattle.vms_spec.specs.Layout.{counted, device_cells, no_cell}
use Rattle.vms_spec.specs.Images.{Image, default_image}
use Rattle.vms_spec.specs.Streams.{is_one_of}
use Rattle.vms_spec.specs.Places.{cell_at}
use Rattle.vms_spec.specs.Rules.{in_range, counts_well}
use Rattle.vms_check.specs.Absent.{least_absent}
use Rattle.vms_check.specs.declared.mismatch.Mismatch.{Mismatch}

-- ---- the machine

-- The first of the machines that isn't among the names.
abbrev pub lacking : List (List ℕ) → List (List ℕ) → Option (List ℕ)
lacking names [] = None
lacking names (m ∷ machines) = if is_one_of names m then lacking names machines else Some m

-- If a machine of the older set is the mismatch, the first one that the newer set doesn't have; else none.
abbrev pub machine_for : Set → Set → Mismatch → Option (List ℕ)
machine_for old new m = if m.rule == 1 then lacking new.machines old.machines else None

-- ---- a number that is too large for the newer set

-- A field of the older description, and the newer set's capacity for what this field counts.
pub record Excess : Type 0 where
  pub field : ℕ
  pub room : ℕ

-- The field with the capacity, if there is one.
abbrev pub excess_of : ℕ → Option ℕ → Option Excess
excess_of i None = None
excess_of i (Some most) = Some (record { field = i; room = most })

-- The field and the capacity for two fields with different capacities, field i of the older and field l of the
-- newer description. Either an array is counted by a number and the newer array is too small, or a number counts an
-- array of the newer set that isn't present.
abbrev pub excess : (v : ℕ) → List Field → (i : ℕ) → Count → (l : ℕ) → Count → Option Excess
excess v fields i (Counted by most) l (Counted by' most') = Some (record { field = by; room = most' })
excess v fields i One l count = excess_of i (least_absent v l fields)
excess v fields i _ l count = None

-- ---- candidates

-- The defaults of all devices.
abbrev pub default_images : Set → List Image
default_images set = map (default_image set) set.devices

-- Field i's number, which is in cell c, may be z: it is in the cell's range and at most each capacity that it
-- counts.
abbrev pub admits : Set → Device → ℕ → ℕ → ℤ → Bool
admits set d i c z =
    nat_lt c (length (device_cells set d)) && in_range (get_or (device_cells set d) c no_cell).kind z && counts_well (counted i d.desc.fields) z

-- The defaults of a device, but with z for that number, if it may be z.
abbrev pub raised_cell : Set → Device → ℕ → ℤ → Option ℕ → Option Image
raised_cell set d i z None = None
raised_cell set d i z (Some c) =
    let image = default_image set d in
    if admits set d i c z then Some (record image { numbers = slice_set image.numbers c z }) else None

-- The defaults of device k, but with one number that is one more than the capacity.
abbrev pub raised_image : Set → ℕ → Device → Excess → Option Image
raised_image set k d x = raised_cell set d x.field (pos (suc x.room)) (cell_at set k None ((x.field, 0) ∷ []))

-- The images with one of them replaced, if there is a replacement.
abbrev pub with_image : List Image → ℕ → Option Image → Option (List Image)
with_image images i None = None
with_image images i (Some image) = Some (slice_set images i image)

module _ (old : Set) (i : ℕ) where
  -- The defaults of all devices, but with one number of device i raised.
  abbrev pub raised_by : Device → Option Excess → Option (List Image)
  raised_by d None = None
  raised_by d (Some x) = with_image (default_images old) i (raised_image old i d x)

  -- The same for fields j and l, if they exist.
  abbrev pub raised_counts : Device → ℕ → Option Field → Device → ℕ → Option Field → Option (List Image)
  raised_counts d j (Some f) e l (Some g) = raised_by d (excess d.desc.version e.desc.fields j f.count l g.count)
  raised_counts d j _ e l _ = None

  -- The same for the fields of these numbers of two devices, if they exist.
  abbrev pub raised_fields : Option Device → ℕ → Option Device → ℕ → Option (List Image)
  raised_fields (Some d) j (Some e) l = raised_counts d j (slice_get d.desc.fields j) e l (slice_get e.desc.fields l)
  raised_fields _ j _ l = None

module _ (old new : Set) where
  -- At two fields of a device, and not in a subsection or a structure.
  abbrev pub raised_at : Part → Option ℕ → Part → Option ℕ → Option (List Image)
  raised_at (parts.Device i) (Some j) (parts.Device k) (Some l) = raised_fields old i (slice_get old.devices i) j (slice_get new.devices k) l
  raised_at _ _ _ _ = None

  -- The second candidate, if rule 11, the one on capacities, is the mismatch.
  abbrev pub raised : Mismatch → Option (List Image)
  raised m = if m.rule == 11 then raised_at m.in_old.part m.in_old.field m.in_new.part m.in_new.field else None

  -- A list of the second candidate, if there is one.
  abbrev pub and_raised : Option (List Image) → List (List Image)
  and_raised None = []
  and_raised (Some images) = images ∷ []

  -- Both candidates.
  abbrev pub candidates : Mismatch → List (List Image)
  candidates m = default_images old ∷ and_raised (raised m)
