-- The answer to an older and a newer set: they are compatible; or a state that the older set writes and the newer
-- one refuses; or no candidate is such a state. See docs/compatibility.md, "A state that shows it".
use Rattle.std.specs.Prelude.{◌≡◌, ℕ, List, [], ◌∷◌, Option, Some, None}
use Rattle.vms_spec.specs.declared.Reason.{Reason}
use Rattle.vms_spec.specs.Sets.{Set}
use Rattle.vms_spec.specs.Images.{Image}
use Rattle.vms_spec.specs.Streams.{written, AreReady}
use Rattle.vms_stream.specs.Streams.{Takes}
use Rattle.vms_stream.specs.Faults.{Fault}
use Rattle.vms_check.specs.declared.mismatch.Mismatch.{Mismatch}
use Rattle.vms_check.specs.Comparing.{Compatible, first_mismatch}
use Rattle.vms_counter_laws.specs.Candidates.{candidates, machine_for}

-- Where and why a stream is refused.
pub record Refusal : Type 0 where
  pub place : ℕ
  pub section : Option ℕ
  pub reason : Reason

-- The answer.
pub data Answer : Type 0 where
  AreCompatible : Answer
  NoState : Mismatch → Answer
  State : Mismatch → Option (List ℕ) → List Image → Refusal → Answer

module _ (old new : Set) where
  -- The stream that the older set writes of images.
  abbrev pub stream_of : Mismatch → List Image → List ℕ
  stream_of m images = written old (machine_for old new m) images None

  -- The older set may write it, and the newer one accepts no stream of it.
  pub record Shows (m : Mismatch) (images : List Image) : Type 0 where
    pub ready : AreReady old images
    pub untaken : (n : ℕ) (machine : Option (List ℕ)) (states : List Image) → Takes new new.machines (stream_of m images) n machine states → ⊥

  -- The first of these that shows it.
  pub data IsFirst (m : Mismatch) (images : List Image) : List (List Image) → Type 0 where
    Here : (more : List (List Image)) → Shows m images → IsFirst m images (images ∷ more)
    Later : (others : List Image) (more : List (List Image)) → (Shows m others → ⊥) → IsFirst m images more → IsFirst m images (others ∷ more)

  -- None of these shows it.
  abbrev pub NoneShows : Mismatch → List (List Image) → Type 0
  NoneShows m [] = Unit {0}
  NoneShows m (images ∷ more) = (Shows m images → ⊥) × NoneShows m more

  -- The answer is the right one.
  pub data Counters : Answer → Type 0 where
    Agree : Compatible old new → Counters AreCompatible
    Lacks : (m : Mismatch) → first_mismatch old new ≡ Some m → NoneShows m (candidates old new m) → Counters (NoState m)
    Finds : (m : Mismatch) (images : List Image) (refusal : Refusal) (size : ℕ) → first_mismatch old new ≡ Some m → IsFirst m images (candidates old new m)
        → Fault new new.machines (stream_of m images) refusal.place refusal.section refusal.reason size → Counters (State m (machine_for old new m) images refusal)
