-- The laws of the format, each as a statement.
use Rattle.std.specs.Prelude.{◌≡◌, Bool, true, ℕ, ◌<◌, List, Option, Some, ℤ}
use Rattle.vms_spec.specs.Sets.{Device, Set}
use Rattle.vms_spec.specs.Layout.{Slot}
use Rattle.vms_spec.specs.Images.{Image, Spells, zeroed}
use Rattle.vms_spec.specs.Streams.{IsReady}
use Rattle.vms_spec.specs.Places.{cell_at, cell_count}
use Rattle.vms_spec.specs.Readiness.{is_ready}

-- The cell of a path is one of the device's.
abbrev pub CellLaw : Type 0
CellLaw = (set : Set) (k : ℕ) (part : Option ℕ) (path : List (ℕ × ℕ)) (c : ℕ) → cell_at set k part path ≡ Some c → c < cell_count set k

-- A test is true exactly if P holds.
pub record Decided (test : Bool) (P : Type 0) : Type 0 where
  pub holds : test ≡ true → P
  pub passes : P → test ≡ true

-- The test of readiness decides the relation.
abbrev pub ReadyLaw : Type 0
ReadyLaw = (set : Set) (d : Device) (image : Image) → Decided (is_ready set d image) (IsReady set d image)

-- The bytes with 0 for unused ones are bytes of the slots.
abbrev pub ZeroedLaw : Type 0
ZeroedLaw = (numbers : List ℤ) (slots : List Slot) → Spells numbers slots (zeroed numbers slots)
