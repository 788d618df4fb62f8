-- What the calls that read fields return.
use Rattle.std.specs.Prelude.{◌≡◌, ℕ, ◌+◌, ◌≤◌, List, get_or, drop, Option, Some, ℤ, Result, Ok, Err, IfSome, OnOk}
use Rattle.std.specs.List.{AllByRecursion}
use Rattle.vms_io.specs.Told.{Intake}
use Rattle.vms_io.specs.Reading.{Reads}
use Rattle.vms_kinds.specs.declared.Kind.{Kind}
use Rattle.vms_kinds.specs.declared.Kind.TheVariants.{U8}
use Rattle.vms_image.specs.Typed.{Typed}
use Rattle.vms_walk.specs.declared.step.WalkStep.{WalkStep}
use Rattle.vms_walk.specs.declared.step.WalkStep.TheVariants as steps
use Rattle.vms_walk.specs.{Inside.IsInside, Steps.steps_of}
use Rattle.vms_kinds.specs.Codes.{width}
use Rattle.vms_spec.specs.Layout.{Slot, Number as NumberSlot, Constant as ConstantSlot}
use Rattle.vms_spec.specs.Taking.{Taken, Progress}
use Rattle.vms_spec.specs.Units.{Number, Constant}
use Rattle.vms_stream.specs.Dues.{Field}
use Rattle.vms_stream.specs.Seen.{seen}
use Rattle.vms_stream.specs.Taking.{nothing_known}
use Rattle.vms_frames.specs.Calls.{AnswersSeen}
use Rattle.vms_frames.specs.Reads.{course}
use Rattle.vms_frames.specs.declared.fault.FrameFault.{FrameFault}
use Rattle.vms_frames.specs.declared.fault.FrameFault.TheVariants as faults

-- `IsOfKind kinds step`: the number of a step has the kind of its cell.
abbrev pub IsOfKind : List Kind → WalkStep → Type 0
IsOfKind kinds (steps.Number cell kind most) = get_or kinds cell U8 ≡ kind
IsOfKind kinds (steps.Constant kind value) = Unit {0}
IsOfKind kinds (steps.Filler bytes) = Unit {0}
IsOfKind kinds (steps.Rule holds) = Unit {0}

-- `FitsStep image step`: the cell of a step is one of the image's, and its number has the kind of that cell.
pub record FitsStep (image : Typed) (step : WalkStep) : Type 0 where
  pub inside : IsInside image.numbers step
  pub of_kind : IsOfKind image.kinds step

-- `AreOfKinds kinds slots`: each number of the slots has the kind of its cell.
abbrev pub AreOfKinds : List Kind → List Slot → Type 0
AreOfKinds kinds slots = AllByRecursion (IsOfKind kinds) (steps_of slots)

-- `ReadsCapped kind capacities at old left result`: the call reads a number of `kind` that is at most each of
-- `capacities`.
abbrev pub ReadsCapped : Kind → List ℕ → ℕ → Option (List ℕ) → Option (List ℕ) → Result ℤ FrameFault → Type 0
ReadsCapped kind capacities at old left result =
    IfSome old (λ rest. AnswersSeen (Number 0 kind) (λ _. width kind) (seen (Field 0 (NumberSlot 0 kind capacities)) nothing_known rest) at rest left result)

-- `ReadsConstant kind z at old left result`: the call reads the number `z`.
abbrev pub ReadsConstant : Kind → ℤ → ℕ → Option (List ℕ) → Option (List ℕ) → Result (Unit {0}) FrameFault → Type 0
ReadsConstant kind z at old left result =
    IfSome old (λ rest. AnswersSeen (λ _. Constant kind z) (λ _. width kind) (seen (Field 0 (ConstantSlot kind z)) nothing_known rest) at rest left result)

-- `TakesAs taken numbers place left result`: the call takes what `taken` says: the numbers, the offset and
-- the rest of the input are those. After a refusal exactly the bytes up to the end of the offending unit were
-- taken.
abbrev pub TakesAs : Taken → List ℤ → ℕ → Option (List ℕ) → Result (Unit {0}) FrameFault → Type 0
TakesAs (Ok p) numbers place left (Ok x) = (numbers ≡ p.numbers) × (place ≡ p.place) × (left ≡ Some p.rest)
TakesAs (Ok p) numbers place left (Err (faults.Refused at reason)) = ⊥
TakesAs (Err e) numbers place left (Ok x) = ⊥
TakesAs (Err e) numbers place left (Err (faults.Refused at reason)) = (at ≡ e.place) × (reason ≡ e.reason) × (left ≡ Some (drop e.long e.rest))
TakesAs taken numbers place left (Err faults.ReadFault) = Unit {0}

-- The progress of a body: the numbers of all cells so far, the offset, and the rest of the input.
abbrev pub progress : List ℤ → ℕ → List ℕ → Progress
progress numbers place rest = record { numbers = numbers; place = place; rest = rest }

-- `HasMoved most from to result n`: at most `most` bytes are taken. If the call succeeds, `n` is the distance
-- from offset `from` to `to`.
abbrev pub HasMoved : ℕ → ℕ → ℕ → Result (Unit {0}) FrameFault → ℕ → Type 0
HasMoved most from to result n = (n ≤ most) × OnOk result (to ≡ from + n)

-- `TakesOn old new most from to taken numbers result`: from offset `from` on the call takes what `taken` says
-- of the rest of the input, and the numbers are `numbers` then.
abbrev pub TakesOn : Intake → Intake → ℕ → ℕ → ℕ → (List ℕ → Taken) → List ℤ → Result (Unit {0}) FrameFault → Type 0
TakesOn old new most from to taken numbers result =
    Reads (course result) old new (HasMoved most from to result) (λ rest left. TakesAs (taken rest) numbers to (Some left) result)
