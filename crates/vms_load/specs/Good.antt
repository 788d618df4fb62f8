-- The images that a loader keeps.
use Rattle.std.specs.Prelude.{◌≡◌, ℕ, ◌<◌, List, [], ◌∷◌, length, Option, Some, None}
use Rattle.std.specs.List.{slice_get}
use Rattle.std.proofs.Props.{props}
use Rattle.vms_spec.specs.Layout.{Slot, Number, Constant, Filler, Rule}
use Rattle.vms_spec.specs.Sets.{Sub, Device, Set}
use Rattle.vms_spec.specs.Images.{Image, AreVersionsOf, RulesHold, IsNormal, IsValid}

-- An image of this device that a stream may have: normal and valid (docs/format.md, "Which images may be
-- written").
pub record IsKept (set : Set) (d : Device) (image : Image) : Type 0 where
  pub normal : IsNormal set d image
  pub valid : IsValid set d image

-- There is one for each device.
pub record AreKept (set : Set) (images : List Image) : Type 0 where
  pub one_each : length images ≡ length set.devices
  pub each : (k : ℕ) (d : Device) (image : Image) → slice_get set.devices k ≡ Some d → slice_get images k ≡ Some image → IsKept set d image

-- ---- these facts hold in one way

versions_once : (subs : List Sub) (came : List (Option ℕ)) → IsProp (AreVersionsOf subs came)
versions_once [] [] = hlevel props
versions_once (s ∷ subs) (None ∷ came) = versions_once subs came
versions_once (s ∷ subs) (Some v ∷ came) = hlevel (props, versions_once subs came)
versions_once [] (o ∷ came) = hlevel
versions_once (s ∷ subs) [] = hlevel

rules_once : (slots : List Slot) → IsProp (RulesHold slots)
rules_once [] = hlevel props
rules_once (Rule b ∷ slots) = hlevel (props, rules_once slots)
rules_once (Number c kind capacities ∷ slots) = rules_once slots
rules_once (Constant kind z ∷ slots) = rules_once slots
rules_once (Filler n ∷ slots) = rules_once slots

pub kept_once : (taken : ℕ) (set : Set) (images : List Image) → IsProp (0 < taken → AreKept set images)
kept_once taken set images = hlevel (props, versions_once, rules_once)
