-- The numbers of section heads and subsection heads (docs/format.md, "The parts of a stream").
use Rattle.std.specs.Prelude.{◌≡◌, ℕ, ◌^◌, ◌<◌, Some}
use Rattle.std.specs.List.{slice_get}
use Rattle.vms_spec.specs.Sets.{Device, Sub, Set}

-- the instance ids and the versions of a set fit the four bytes that a head has for them
pub record FitsHeads (set : Set) : Type 0 where
  pub instance : (k : ℕ) (d : Device) → slice_get set.devices k ≡ Some d → (d.instance < 2 ^ 32) × (d.desc.version < 2 ^ 32)
  pub sub_version : (k j : ℕ) (d : Device) (s : Sub) → slice_get set.devices k ≡ Some d → slice_get d.subs j ≡ Some s → s.desc.version < 2 ^ 32
