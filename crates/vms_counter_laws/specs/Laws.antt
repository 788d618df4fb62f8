-- The laws of states that show a mismatch, each as a statement.
use Rattle.std.specs.Prelude.{◌≡◌, ℕ, List, Option, Some, None}
use Rattle.std.specs.List.{slice_get}
use Rattle.vms_spec.specs.declared.Part.TheVariants as parts
use Rattle.vms_spec.specs.Sets.{Field, Device, Set}
use Rattle.vms_spec.specs.Heads.{FitsHeads}
use Rattle.vms_spec.specs.Images.{Image}
use Rattle.vms_spec.specs.Streams.{written, AreReady}
use Rattle.vms_spec.specs.WellFormed.{WellFormed}
use Rattle.vms_stream.specs.Faults.{Fault}
use Rattle.vms_check.specs.Reducing.{presence}
use Rattle.vms_check.specs.declared.mismatch.Mismatch.{Mismatch}
use Rattle.vms_check.specs.Comparing.{first_mismatch}
use Rattle.vms_counter_laws.specs.Candidates.{default_images, machine_for}
use Rattle.vms_counter_laws.specs.Counters.{Refusal, Answer, State, Counters}
use Rattle.vms_counter_laws.specs.Computed.{computed}

-- ---- a state that is the answer

-- It is ready under the older set, and the newer set refuses its stream at this place and for this reason.
pub record IsRefused (old new : Set) (machine : Option (List ℕ)) (images : List Image) (refusal : Refusal) : Type 0 where
  pub ready : AreReady old images
  pub size : ℕ
  pub fault : Fault new new.machines (written old machine images None) refusal.place refusal.section refusal.reason size

-- This is so for each state that is the answer.
abbrev pub NamedLaw : Type 0
NamedLaw = (old new : Set) (m : Mismatch) (machine : Option (List ℕ)) (images : List Image) (refusal : Refusal)
    → Counters old new (State m machine images refusal) → IsRefused old new machine images refusal

-- ---- mismatches for which there is always a state

-- Field j of the older device i is present, and its test is always true.
pub record IsPlain (old : Set) (i j : ℕ) : Type 0 where
  pub device : Device
  pub field : Field
  pub there : slice_get old.devices i ≡ Some device
  pub here : slice_get device.desc.fields j ≡ Some field
  pub always : presence device.desc.version field.test field.since ≡ Some None

-- A machine that the newer set doesn't have, a version that it doesn't read, or a constant of a device's field that
-- is always present.
pub data AlwaysShown (old : Set) (m : Mismatch) : Type 0 where
  OfMachine : m.rule ≡ 1 → AlwaysShown old m
  OfVersion : m.rule ≡ 4 → AlwaysShown old m
  OfConstant : (i j : ℕ) → m.rule ≡ 12 → m.in_old.part ≡ parts.Device i → m.in_old.field ≡ Some j → IsPlain old i j → AlwaysShown old m

-- If the defaults are ready, they are the state that is the answer.
abbrev pub AlwaysLaw : Type 0
AlwaysLaw = (old new : Set) → WellFormed old → WellFormed new → FitsHeads old → FitsHeads new → (m : Mismatch) → first_mismatch old new ≡ Some m → AlwaysShown old m
    → AreReady old (default_images old)
    → (refusal : Refusal) × Counters old new (State m (machine_for old new m) (default_images old) refusal)

-- ---- the answer

-- What is computed is the answer.
abbrev pub ComputedLaw : Type 0
ComputedLaw = (old new : Set) → WellFormed old → WellFormed new → FitsHeads new → Counters old new (computed old new)

-- There is no other answer.
abbrev pub OneAnswerLaw : Type 0
OneAnswerLaw = (old new : Set) → WellFormed old → (a b : Answer) → Counters old new a → Counters old new b → a ≡ b
