-- What a call of `convert` returns, and what it has done by then.
use Rattle.std.specs.Prelude.{◌≡◌, ℕ, List, Option, Some, Result, Ok, Err}
use Rattle.vms_spec.specs.Sets.{Set}
use Rattle.vms_spec.specs.Images.{Image}
use Rattle.vms_io.specs.Told.{Intake, Outlet}
use Rattle.vms_io.specs.Writing.{Puts, Stops}
use Rattle.vms_check.specs.Carrying.{carried}
use Rattle.vms_check.specs.Comparing.{Compatible, first_mismatch}
use Rattle.vms_load.specs.Going.{LoadReads}
use Rattle.vms_load.specs.Staging.{name_of}
use Rattle.vms_load.specs.declared.fault.LoadFault.{LoadFault}
use Rattle.vms_load.specs.declared.fault.LoadFault.TheVariants as loads
use Rattle.vms_selfdesc.specs.Tree.{described_text}
use Rattle.vms_convert.specs.Converted.{AreBack, IsConverted, recast_each}
use Rattle.vms_convert.specs.Lost.{Loses, numbers_in}
use Rattle.vms_convert.specs.declared.fault.ConvertFault.{ConvertFault}
use Rattle.vms_convert.specs.declared.fault.ConvertFault.TheVariants as faults

-- The fault of a load, as the call returns it.
abbrev pub as_fault : LoadFault → ConvertFault
as_fault (loads.Refused r) = faults.Refused r
as_fault loads.ReadFault = faults.ReadFault

module _ (to new : Set) where
  -- A stream of this machine and these images has these bytes under the target, and describes itself.
  abbrev pub IsStreamFor : Option (List ℕ) → List Image → List ℕ → Type 0
  IsStreamFor machine images bytes = IsConverted to new (described_text to) machine images bytes

  -- `section` and `cell` are what is lost first of this machine and these images.
  pub record LosesFirst (machine : Option (List ℕ)) (images : List Image) (section cell : Option ℕ) : Type 0 where
    pub backs : List Image
    pub back : AreBack to new (recast_each to new.devices (numbers_in images)) backs
    pub loses : Loses to new machine (recast_each to new.devices (numbers_in images)) (numbers_in (carried to new backs)) backs section cell

  -- The bytes of the stream have been written as `ArePut` says.
  pub record PutsStream (machine : Option (List ℕ)) (images : List Image) (ArePut : List ℕ → Type 0) : Type 0 where
    pub bytes : List ℕ
    pub is : IsStreamFor machine images bytes
    pub puts : ArePut bytes

  -- What becomes of the machine and the images that were loaded.
  abbrev pub ConvertsKept : Option (List ℕ) → List Image → Outlet → Outlet → Result Unit ConvertFault → Type 0
  ConvertsKept machine images empty full (Ok u) = PutsStream machine images (Puts empty full)
  ConvertsKept machine images empty full (Err faults.WriteFault) = PutsStream machine images (Stops empty full)
  ConvertsKept machine images empty full (Err (faults.WouldLose section cell)) = LosesFirst machine images section cell × (full ≡ empty)
  ConvertsKept machine images empty full (Err fault) = ⊥

  -- A stream of the newer set was read, and its machine and images are converted.
  pub record TakesFirst (before after : Intake) (empty full : Outlet) (result : Result Unit ConvertFault) : Type 0 where
    pub images : List Image
    pub taken : ℕ
    pub machine : Option ℕ
    pub reads : LoadReads before after new new.machines images taken (Ok machine)
    pub converts : ConvertsKept (name_of new machine) images empty full result

  -- The load ended with this fault, and nothing has been written.
  pub record RefusesFirst (before after : Intake) (empty full : Outlet) (fault : LoadFault) : Type 0 where
    pub images : List Image
    pub taken : ℕ
    pub reads : LoadReads before after new new.machines images taken (Err fault)
    pub none : full ≡ empty

  -- The result once all memory is allocated, if the newer set reads what the target writes.
  abbrev pub ConvertsInto : Intake → Intake → Outlet → Outlet → Result Unit ConvertFault → Type 0
  ConvertsInto before after empty full (Ok u) = TakesFirst before after empty full (Ok u)
  ConvertsInto before after empty full (Err (faults.WouldLose section cell)) = TakesFirst before after empty full (Err (faults.WouldLose section cell))
  ConvertsInto before after empty full (Err faults.WriteFault) = TakesFirst before after empty full (Err faults.WriteFault)
  ConvertsInto before after empty full (Err (faults.Refused r)) = RefusesFirst before after empty full (loads.Refused r)
  ConvertsInto before after empty full (Err faults.ReadFault) = RefusesFirst before after empty full loads.ReadFault
  ConvertsInto before after empty full (Err fault) = ⊥

  -- What a call of `convert` guarantees: its result, what has been read, and what has been written.
  abbrev pub Converts : Intake → Intake → Outlet → Outlet → Result Unit ConvertFault → Type 0
  Converts before after empty full (Err (faults.NotCompatible m)) = (first_mismatch to new ≡ Some m) × (after ≡ before) × (full ≡ empty)
  Converts before after empty full (Err faults.NoMemory) = (after ≡ before) × (full ≡ empty)
  Converts before after empty full result = Compatible to new × ConvertsInto before after empty full result
