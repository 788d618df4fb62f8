-- What the comparison of two sets finds for machines, names and parts.
use Rattle.std.specs.Prelude.{ℕ, ◌<◌, Bool, not, [], ◌∷◌, length, Option, Some, None}
use Rattle.std.specs.List.{slice_get, list_all}
use Rattle.vms_spec.specs.declared.Part.{Part}
use Rattle.vms_spec.specs.declared.Part.TheVariants as parts
use Rattle.vms_spec.specs.Layout.{struct_cells}
use Rattle.vms_spec.specs.Lists.{first_answer, or_else}
use Rattle.vms_spec.specs.Lookup.{index}
use Rattle.vms_spec.specs.Readiness.{is_version_of}
use Rattle.vms_spec.specs.Sets.{Device, Set}
use Rattle.vms_spec.specs.Streams.{is_one_of}
use Rattle.vms_spec.specs.WellFormed.{here}
use Rattle.vms_desc.specs.Described.{described, device_at}
use Rattle.vms_desc.specs.declared.set.DescSet.{DescSet}
use Rattle.vms_desc.specs.Parts.{HasPart, desc_at, sub_at}
use Rattle.vms_check.specs.Comparing.{compare_desc, compare_device, compare_subs, failing_pair, first_mismatch, is_in, paired_device}
use Rattle.vms_check.specs.Pairs.{table}
use Rattle.vms_check.specs.Sides.{desc_on}
use Rattle.vms_check.specs.declared.mismatch.Mismatch.{Mismatch}
use Rattle.vms_check.specs.declared.mismatch.Verdict.{Verdict}
use Rattle.vms_check.specs.declared.mismatch.Verdict.TheVariants.{Accepted, Refused}
use Rattle.vms_check.specs.declared.side.Side.{Side}

-- The verdict of a mismatch, if there is one.
abbrev pub verdict_of : Option Mismatch → Verdict
verdict_of None = Accepted
verdict_of (Some mismatch) = Refused mismatch

-- A set doesn't have the device.
abbrev pub is_missing : Set → Device → Bool
is_missing set d = not (is_in set d)

module _ (old new : Set) where
  -- Rule 1: machines of the older set that the newer one doesn't have.
  abbrev pub machines_mismatch : Option Mismatch
  machines_mismatch = failing_pair ((1, list_all (is_one_of new.machines) old.machines) ∷ []) (here parts.Set) (here parts.Set)

  -- Devices that one of the sets doesn't have.
  abbrev pub lost_mismatch : Option Mismatch
  lost_mismatch =
      or_else (first_answer (λ i d. failing_pair ((2, is_in new d) ∷ []) (here (parts.Device i)) (here parts.Set)) 0 old.devices)
      (first_answer (λ i d. failing_pair ((3, is_in old d) ∷ []) (here parts.Set) (here (parts.Device i))) 0 new.devices)

  -- Device i of the older set, with the newer one of the same name and instance.
  abbrev pub device_mismatch : ℕ → Device → Option Mismatch
  device_mismatch i d = compare_device old new i d (paired_device old new d) (slice_get new.devices (index (paired_device old new d)))

-- Device i is one of the older set, and device j of the newer.
pub record HaveDevices (s t : DescSet) (i j : ℕ) : Type 0 where
  pub old : i < length (described s).devices
  pub new : j < length (described t).devices

-- The same over the sets that the code borrows.
module _ (s t : DescSet) where
  -- The first mismatch of machines, names and devices.
  abbrev pub sets_mismatch : Option Mismatch
  sets_mismatch = first_mismatch (described s) (described t)

  -- The first mismatch of device i, with the newer one of the same name and instance.
  abbrev pub device_mismatch_at : ℕ → Option Mismatch
  device_mismatch_at i = device_mismatch (described s) (described t) i (device_at (described s) i)

  -- The first mismatch of all devices.
  abbrev pub devices_mismatch : Option Mismatch
  devices_mismatch = first_answer (device_mismatch (described s) (described t)) 0 (described s).devices

  -- The first mismatch of device i of the older set and device j of the newer.
  abbrev pub found_mismatch : ℕ → ℕ → Option Mismatch
  found_mismatch i j = compare_device (described s) (described t) i (device_at (described s) i) (Some j) (Some (device_at (described t) j))

  -- The first mismatch of the subsections of these two.
  abbrev pub subs_mismatch : ℕ → ℕ → Option Mismatch
  subs_mismatch i j = first_answer (compare_subs (described s) (described t) i j (device_at (described t) j)) 0 (device_at (described s) i).subs

  -- The first mismatch of subsection k of these two.
  abbrev pub sub_mismatch : ℕ → ℕ → ℕ → Option Mismatch
  sub_mismatch i j k = compare_subs (described s) (described t) i j (device_at (described t) j) k (sub_at (device_at (described s) i) k)

  -- Subsection k is one of device i of the older set, and device j is one of the newer.
  pub record HaveSub (i j k : ℕ) : Type 0 where
    pub old : HasPart (described s) (parts.Sub i k)
    pub new : j < length (described t).devices

-- The first mismatch of a part of the older set and one of a newer set, at the older one's version. A rule says
-- that the newer one reads that version.
abbrev pub part_mismatch : ℕ → Side → Set → Part → Option Mismatch
part_mismatch rule s new part =
    let old = described s.set.now in
    or_else (failing_pair ((rule, is_version_of (desc_at new part) s.version) ∷ []) (here s.part) (here part))
    (compare_desc (table old new) (struct_cells old) (struct_cells new) (desc_on s) (desc_at new part) s.version s.version s.part part)
