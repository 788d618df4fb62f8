-- The bytes of steps, and which steps can be written.
use Rattle.std.specs.Prelude.{◌≡◌, ℕ, List, [], ◌∷◌, ◌++◌, get_or, replicate, ℤ, pos}
use Rattle.vms_kinds.specs.declared.Kind.{Kind}
use Rattle.vms_kinds.specs.declared.Kind.TheVariants.{U8}
use Rattle.vms_kinds.specs.Codes.{InRange, code}
use Rattle.vms_spec.specs.Layout.{Slot}
use Rattle.vms_walk.specs.Steps.{steps_of}
use Rattle.vms_walk.specs.declared.step.WalkStep.{WalkStep}
use Rattle.vms_walk.specs.declared.step.WalkStep.TheVariants.{Number, Constant, Filler, Rule}

-- The number of a step has the kind of its cell, and its constant is in the range of its kind.
abbrev pub CanStep : List Kind → WalkStep → Type 0
CanStep kinds (Number cell kind most) = get_or kinds cell U8 ≡ kind
CanStep kinds (Constant kind value) = InRange kind value
CanStep kinds step = Unit {0}

-- The same for each of these steps.
abbrev pub CanSteps : List Kind → List WalkStep → Type 0
CanSteps kinds [] = Unit {0}
CanSteps kinds (x ∷ xs) = CanStep kinds x × CanSteps kinds xs

-- The same for the step of each slot.
abbrev pub CanWrite : List Kind → List Slot → Type 0
CanWrite kinds slots = CanSteps kinds (steps_of slots)

-- The bytes of a step; unused ones are 0.
abbrev pub step_bytes : List ℤ → WalkStep → List ℕ
step_bytes numbers (Number cell kind most) = code kind (get_or numbers cell (pos 0))
step_bytes numbers (Constant kind value) = code kind value
step_bytes numbers (Filler bytes) = replicate bytes 0
step_bytes numbers (Rule holds) = []

-- The bytes of steps.
abbrev pub bytes_of : List ℤ → List WalkStep → List ℕ
bytes_of numbers [] = []
bytes_of numbers (x ∷ xs) = step_bytes numbers x ++ bytes_of numbers xs
