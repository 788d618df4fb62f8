-- What a finding means.
use Rattle.std.specs.Prelude.{◌≡◌, ℕ, ◌<◌, true, List, length, map, Option, Some, None, IfSome}
use Rattle.vms_spec.specs.Lists.{at_option}
use Rattle.vms_spec.specs.Sets.{Set}
use Rattle.vms_spec.specs.Images.{Image}
use Rattle.vms_spec.specs.Streams.{is_one_of, written, AreReady}
use Rattle.vms_image.specs.Typed.{Typed, state_of, AreImagesOf}
use Rattle.std.specs.declared.alloc.Global.{Global}
use Rattle.std.specs.declared.vec.Vec.{Vec}
use Rattle.vms_frames.specs.declared.fault.Refusal.{Refusal as Refused}
use Rattle.vms_counter_laws.specs.Counters.{Answer, Counters, Refusal}
use Rattle.vms_counter_laws.specs.Counters as counters
use Rattle.vms_counter.specs.declared.finding.Finding.{Finding}
use Rattle.vms_counter.specs.declared.finding.Finding.TheVariants as findings

-- The refusal of the specification.
abbrev pub refusal_of : Refused → Refusal
refusal_of r = record { place = r.at; section = r.section; reason = r.reason }

-- The answer of the specification.
abbrev pub answer_of : Set → Finding → Answer
answer_of old findings.Compatible = counters.AreCompatible
answer_of old (findings.NoState m) = counters.NoState m
answer_of old (findings.State m machine images r) = counters.State m (at_option old.machines machine) (map state_of images.items) (refusal_of r)

-- A machine of the set, if one is named, and one image for each of its devices.
abbrev pub IsFindingOf : Set → Finding → Type 0
IsFindingOf old findings.Compatible = Unit {0}
IsFindingOf old (findings.NoState m) = Unit {0}
IsFindingOf old (findings.State m machine images r) = IfSome machine (λ k. k < length old.machines) × AreImagesOf old images.items

-- The finding is right for the two sets, and its machine and images are the older set's.
pub record IsRight (old new : Set) (finding : Finding) : Type 0 where
  pub counters : Counters old new (answer_of old finding)
  pub of : IsFindingOf old finding

-- No stream of ready images, with a machine of the set or none and without a description, fills the room.
abbrev pub HasRoom : Set → ℕ → Type 0
HasRoom set room = (machine : Option (List ℕ)) (images : List Image) → IfSome machine (λ m. is_one_of set.machines m ≡ true) → AreReady set images → length (written set machine images None) < room

-- The images of the specification, if there are any.
abbrev pub states_of : Option (Vec Typed Global) → Option (List Image)
states_of None = None
states_of (Some images) = Some (map state_of images.items)

-- The images are these of the specification, one for each device of the set, or there are none.
pub record AreStates (set : Set) (wanted : Option (List Image)) (images : Option (Vec Typed Global)) : Type 0 where
  pub states : states_of images ≡ wanted
  pub of : IfSome images (λ x. AreImagesOf set x.items)
