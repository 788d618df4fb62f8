-- What a load returns.
use Rattle.std.specs.Prelude.{◌≡◌, ℕ, ◌+◌, List, drop, Option, Some, Result, Ok, Err}
use Rattle.vms_spec.specs.Sets.{Set}
use Rattle.vms_spec.specs.Images.{Image}
use Rattle.vms_stream.specs.Streams.{Takes}
use Rattle.vms_stream.specs.Faults.{Fault}
use Rattle.vms_load.specs.Staging.{name_of}
use Rattle.vms_load.specs.declared.fault.LoadFault.{LoadFault}
use Rattle.vms_load.specs.declared.fault.LoadFault.TheVariants as faults

-- `Loads set names input left images taken result`; `names` are the accepted machines.
--
-- - Ok: the input takes a stream of `taken` bytes with this machine and these images. Exactly these bytes
--   were taken.
-- - Refused: the input has this fault. Exactly the bytes up to the end of the offending unit were taken.
abbrev pub Loads : Set → List (List ℕ) → List ℕ → Option (List ℕ) → List Image → ℕ → Result (Option ℕ) LoadFault → Type 0
Loads set names input left images taken (Ok machine) = Takes set names input taken (name_of set machine) images × (left ≡ Some (drop taken input))
Loads set names input left images taken (Err (faults.Refused r)) = (size : ℕ) × Fault set names input r.at r.section r.reason size × (left ≡ Some (drop (r.at + size) input))
Loads set names input left images taken (Err faults.ReadFault) = Unit {0}
