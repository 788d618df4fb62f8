-- The answer as it is computed: each candidate is tried in turn.
use Rattle.std.specs.Prelude.{Bool, true, false, ◌&&◌, if◌then◌else◌, List, [], ◌∷◌, Option, Some, None}
use Rattle.vms_spec.specs.Sets.{Device, Set}
use Rattle.vms_spec.specs.Images.{Image}
use Rattle.vms_spec.specs.Readings.{Reading, Refused}
use Rattle.vms_spec.specs.Readiness.{is_ready}
use Rattle.vms_stream.specs.Judge.{reading}
use Rattle.vms_stream.specs.State.{State as Standing, at_start, by_state}
use Rattle.vms_check.specs.declared.mismatch.Mismatch.{Mismatch}
use Rattle.vms_check.specs.Comparing.{first_mismatch}
use Rattle.vms_counter_laws.specs.Candidates.{candidates, machine_for}
use Rattle.vms_counter_laws.specs.Counters.{Refusal, Answer, AreCompatible, NoState, State, stream_of}

-- Each image is ready for the device of its number.
abbrev pub all_ready : Set → List Device → List Image → Bool
all_ready set [] [] = true
all_ready set (d ∷ devices) (image ∷ images) = is_ready set d image && all_ready set devices images
all_ready set _ _ = false

-- The refusal of a reading, if it is refused.
abbrev pub refusal_of : Option (Reading Standing) → Option Refusal
refusal_of (Some (Refused place section reason size)) = Some (record { place = place; section = section; reason = reason })
refusal_of _ = None

module _ (old new : Set) (m : Mismatch) where
  -- Where the newer set refuses what the older one may write of these images.
  abbrev pub refused : List Image → Option Refusal
  refused images = if all_ready old old.devices images then refusal_of (reading (by_state new new.machines) (at_start new) (stream_of old new m images)) else None

  -- The state with its refusal, or else another answer.
  abbrev pub or_next : List Image → Option Refusal → Answer → Answer
  or_next images None other = other
  or_next images (Some refusal) other = State m (machine_for old new m) images refusal

  -- The first state that is refused, or none.
  abbrev pub first_refused : List (List Image) → Answer
  first_refused [] = NoState m
  first_refused (images ∷ more) = or_next images (refused images) (first_refused more)

-- The answer, given the first mismatch, if there is one.
abbrev pub answer_to : Set → Set → Option Mismatch → Answer
answer_to old new None = AreCompatible
answer_to old new (Some m) = first_refused old new m (candidates old new m)

-- The answer to two sets.
abbrev pub computed : Set → Set → Answer
computed old new = answer_to old new (first_mismatch old new)
