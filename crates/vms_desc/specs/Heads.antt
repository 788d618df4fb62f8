-- Numbers that fit the four bytes of a head.
use Rattle.std.specs.Prelude.{◌≡◌, ℕ, ◌^◌, ◌<◌, List, Some}
use Rattle.std.specs.List.{slice_get}
use Rattle.vms_spec.specs.Sets.{Sub, Device}

-- the version of a subsection fits
pub record FitsSub (s : Sub) : Type 0 where
  pub version : s.desc.version < 2 ^ 32

-- the numbers of a device and of its subsections fit
pub record FitsHead (d : Device) : Type 0 where
  pub instance : d.instance < 2 ^ 32
  pub version : d.desc.version < 2 ^ 32
  pub subs : (j : ℕ) (s : Sub) → slice_get d.subs j ≡ Some s → FitsSub s

-- the numbers of each device fit
pub record HeadsFit (devices : List Device) : Type 0 where
  pub each : (k : ℕ) (d : Device) → slice_get devices k ≡ Some d → FitsHead d
