-- How a command ends that fetches everything it needs and writes one text, and why, also where the contents are
-- unknown.
use Rattle.std.specs.Prelude.{◌≡◌, Bool, true, Option, Some, None}
use Rattle.std.specs.Io.KnownBytes.{Keeps}
use Rattle.vms_io.specs.Causes.{Rose}
use Rattle.vms_io.specs.Told.{Outlet}
use Rattle.vms_io.specs.Writing.{Serves}
use Rattle.vms_commands.specs.declared.ending.Ending.{Ending}
use Rattle.vms_commands.specs.declared.ending.Ending.TheVariants.{BadText, NotCompatible, WriteFault, NoMemory}

-- The cause of an ending. `asks` is whether a fetched text may be refused; `compares` is whether two sets are
-- compared.
abbrev pub WriteCause : (asks compares : Bool) → (out out' : Outlet) → Option Ending → Type 0
WriteCause asks compares out out' None = Unit {0}
WriteCause asks compares out out' (Some (BadText line)) = (asks ≡ true) × Keeps out.written out'.written
WriteCause asks compares out out' (Some (NotCompatible line)) = (compares ≡ true) × Keeps out.written out'.written
WriteCause asks compares out out' (Some WriteFault) = Rose out.faults out'.faults
WriteCause asks compares out out' (Some NoMemory) = Keeps out.written out'.written
WriteCause asks compares out out' ending = ⊥

-- The same; and standard output loses no recorded failure, and its promise stays.
pub record WritesBy (asks compares : Bool) (out out' : Outlet) (ending : Option Ending) : Type 0 where
  pub cause : WriteCause asks compares out out' ending
  pub serves : Serves out out'
