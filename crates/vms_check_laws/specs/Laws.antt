-- The laws of an upgrade, each as a statement: what it means that two sets are compatible. See
-- docs/compatibility.md, "What an accepted check means".
use Rattle.std.specs.Prelude.{◌≡◌, ℕ, ◌<◌, ◌≤◌, true, List, length, Option, Some, None, IfSome}
use Rattle.std.specs.List.{slice_get}
use Rattle.vms_spec.specs.Sets.{Sub, Device, Set}
use Rattle.vms_spec.specs.Images.{Image, IsNormal, IsValid}
use Rattle.vms_stream.specs.Streams.{IsSection}
use Rattle.vms_spec.specs.Streams.{is_one_of, longest_text, written, written_section, AreReady}
use Rattle.vms_spec.specs.WellFormed.{WellFormed}
use Rattle.vms_check.specs.Comparing.{Compatible, compare_device}
use Rattle.vms_check.specs.Carrying.{carried, carried_device}
use Rattle.vms_stream.specs.StreamLaws.{IsWholeStream}

-- A state of a device at the versions that its set writes, with any of its subsections present. A ready image is
-- one of them.
pub record IsSaved (set : Set) (d : Device) (image : Image) : Type 0 where
  pub normal : IsNormal set d image
  pub valid : IsValid set d image
  pub version : image.version ≡ d.desc.version
  pub subs : (j : ℕ) (s : Sub) (v : ℕ) → slice_get d.subs j ≡ Some s → slice_get image.came j ≡ Some (Some v) → v ≡ s.desc.version

-- Device k of the newer set has the name and the instance of device i of the older one, and no rule fails at the
-- two.
pub record ArePaired (old new : Set) (i k : ℕ) (d e : Device) : Type 0 where
  pub in_old : slice_get old.devices i ≡ Some d
  pub in_new : slice_get new.devices k ≡ Some e
  pub names : d.desc.name ≡ e.desc.name
  pub instances : d.instance ≡ e.instance
  pub rules : compare_device old new i d (Some k) (Some e) ≡ None

-- One device, with any of its subsections present: the section that the older set writes is one of the newer set,
-- with the carried image, which is normal and valid there.
abbrev pub DeviceLaw : Type 0
DeviceLaw = (old new : Set) → WellFormed old → WellFormed new → (i k : ℕ) (d e : Device) → ArePaired old new i k d e
    → (image : Image) (id : ℕ) → IsSaved old d image → id < 4294967296
    → IsSection new e (carried_device old new d e image) id true (written_section old d image id)

-- Whole streams of compatible sets: what the older set writes of ready images is a stream of the newer set, with the
-- carried images. The newer set reads all of it. The stream may name any machine of the older set or none, and have
-- any description or none.
abbrev pub UpgradeLaw : Type 0
UpgradeLaw = (old new : Set) → WellFormed old → WellFormed new → Compatible old new → (machine text : Option (List ℕ)) (images : List Image)
    → IfSome machine (λ m. is_one_of old.machines m ≡ true) → IfSome text (λ t. length t ≤ longest_text) → AreReady old images
    → IsWholeStream new new.machines (written old machine images text) machine (carried old new images) text
