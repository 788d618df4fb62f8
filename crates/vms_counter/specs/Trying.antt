-- What trying a state finds.
use Rattle.std.specs.Prelude.{◌≡◌, ℕ, ◌<◌, List, length, Option, Some, None, IfSome}
use Rattle.vms_spec.specs.Sets.{Set}
use Rattle.vms_spec.specs.Images.{Image}
use Rattle.vms_spec.specs.Streams.{written, AreReady}
use Rattle.vms_stream.specs.Faults.{Fault}
use Rattle.vms_stream.specs.Streams.{Takes}
use Rattle.vms_frames.specs.declared.fault.Refusal.{Refusal}
use Rattle.vms_spec.specs.Lists.{at_option}
use Rattle.vms_desc.specs.Described.{described}
use Rattle.vms_check.specs.Comparing.{first_mismatch}
use Rattle.vms_counter_laws.specs.Candidates.{default_images, machine_for}
use Rattle.vms_counter.specs.Found.{HasRoom}
use Rattle.vms_counter.specs.declared.trying.Trial.{Trial}

-- The newer set reads a stream of these bytes.
pub record IsTaken (new : Set) (bytes : List ℕ) : Type 0 where
  pub taken : ℕ
  pub machine : Option (List ℕ)
  pub states : List Image
  pub takes : Takes new new.machines bytes taken machine states

-- The bytes are refused at this place and for this reason, and aren't read as a stream.
pub record IsRefused (new : Set) (bytes : List ℕ) (refusal : Refusal) : Type 0 where
  pub size : ℕ
  pub fault : Fault new new.machines bytes refusal.at refusal.section refusal.reason size
  pub untaken : (n : ℕ) (machine : Option (List ℕ)) (states : List Image) → Takes new new.machines bytes n machine states → ⊥

-- A refusal: the images are ready, and the newer set refuses their stream so. None: they aren't ready, or the newer
-- set reads their stream.
abbrev pub Tries : (old new : Set) (machine : Option (List ℕ)) (images : List Image) → Option Refusal → Type 0
Tries old new machine images (Some refusal) = AreReady old images × IsRefused new (written old machine images None) refusal
Tries old new machine images None = AreReady old images → IsTaken new (written old machine images None)

-- What all candidates of two sets share: the mismatch is the first one, the machine is the one that their streams
-- name, and no such stream fills the room.
pub record IsTrial (trial : Trial) (new : Set) : Type 0 where
  pub first : first_mismatch (described trial.old.now) new ≡ Some trial.mismatch
  pub name : at_option (described trial.old.now).machines trial.machine ≡ machine_for (described trial.old.now) new trial.mismatch
  pub inside : IfSome trial.machine (λ m. m < length (described trial.old.now).machines)
  pub room : HasRoom (described trial.old.now) trial.room

-- The first candidate doesn't show the mismatch.
pub record HasFailed (trial : Trial) (new : Set) : Type 0 where
  pub shared : IsTrial trial new
  pub first : Tries (described trial.old.now) new (machine_for (described trial.old.now) new trial.mismatch) (default_images (described trial.old.now)) None
