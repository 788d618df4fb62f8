-- A load's result says exactly what the input is.
use Rattle.std.specs.Prelude.{◌≡◌, ℕ, ◌+◌, ◌≤◌, List, length, Option, Result, Ok, Err}
use Rattle.vms_io.specs.Reading.{Last, Reads}
use Rattle.vms_io.specs.Told.{Intake}
use Rattle.vms_spec.specs.declared.Reason.{Reason}
use Rattle.vms_stream.specs.Faults.{Fault}
use Rattle.vms_spec.specs.Images.{Image}
use Rattle.vms_kinds.specs.Bytes.{IsBytes}
use Rattle.vms_spec.specs.Sets.{Set}
use Rattle.vms_stream.specs.Streams.{Takes}
use Rattle.vms_spec.specs.WellFormed.{WellFormed}
use Rattle.vms_spec.specs.Heads.{FitsHeads}
use Rattle.vms_frames.specs.declared.fault.Refusal.{Refusal}
use Rattle.vms_load.specs.Going.{LoadReads}
use Rattle.vms_load.specs.Loads.{Loads}
use Rattle.vms_load.specs.Staging.{most_given, name_of}
use Rattle.vms_load.specs.declared.fault.LoadFault.{LoadFault}
use Rattle.vms_load.specs.declared.fault.LoadFault.TheVariants as faults

-- The load is Ok with this length, machine and images, or there is a read fault.
abbrev pub GivesStream : Set → List Image → ℕ → Result (Option ℕ) LoadFault → ℕ → Option (List ℕ) → List Image → Type 0
GivesStream set images taken (Ok named) n machine others = (taken ≡ n) × (name_of set named ≡ machine) × (images ≡ others)
GivesStream set images taken (Err (faults.Refused r)) n machine others = ⊥
GivesStream set images taken (Err faults.ReadFault) n machine others = Unit {0}

-- The load is refused at this offset, for this device and reason, or there is a read fault.
abbrev pub IsRefusedAt : Result (Option ℕ) LoadFault → ℕ → Option ℕ → Reason → Type 0
IsRefusedAt (Ok named) place section reason = ⊥
IsRefusedAt (Err (faults.Refused r)) place section reason = (r.at ≡ place) × (r.section ≡ section) × (r.reason ≡ reason)
IsRefusedAt (Err faults.ReadFault) place section reason = Unit {0}

-- If the input takes a stream, the result is that stream; if it has a fault, the result is that fault. The
-- contract of a load says the converse, and `either_law` says that every input has one of the two.
pub record IsExact (set : Set) (names : List (List ℕ)) (input : List ℕ) (images : List Image) (taken : ℕ) (result : Result (Option ℕ) LoadFault) : Type 0 where
  pub stream : (n : ℕ) (machine : Option (List ℕ)) (others : List Image) → Takes set names input n machine others
      → GivesStream set images taken result n machine others
  pub fault : (place : ℕ) (section : Option ℕ) (reason : Reason) (size : ℕ) → Fault set names input place section reason size
      → IsRefusedAt result place section reason

-- This holds of each result that meets the contract of a load, for every well-formed set and every input of
-- bytes.
abbrev pub ExactLaw : Type 0
ExactLaw = (set : Set) (names : List (List ℕ)) → WellFormed set → FitsHeads set → (input : List ℕ) → IsBytes input
    → (left : Option (List ℕ)) (images : List Image) (taken : ℕ) (result : Result (Option ℕ) LoadFault)
    → Loads set names input left images taken result → IsExact set names input images taken result

-- `EndsAtUnit set names r input left`: the input has the fault `r`, and `left` begins after the offending
-- unit.
pub record EndsAtUnit (set : Set) (names : List (List ℕ)) (r : Refusal) (input left : List ℕ) : Type 0 where
  pub size : ℕ
  pub fault : Fault set names input r.at r.section r.reason size
  pub ends : length input ≡ (r.at + size) + length left

-- The bytes that a refused load took end with the offending unit, whether or not the content of the source is
-- known.
abbrev pub UnitLaw : Type 0
UnitLaw = (set : Set) (names : List (List ℕ)) (old new : Intake) (images : List Image) (taken : ℕ) (r : Refusal)
    → LoadReads old new set names images taken (Err (faults.Refused r)) → Reads Last old new (λ n. n ≤ most_given set) (EndsAtUnit set names r)
