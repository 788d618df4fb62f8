-- What the calls of a cursor return, by the unit at the front of the input and the rows that it alone decides
-- (docs/format.md, "Units, offsets and refusals").
use Rattle.std.specs.Prelude.{◌≡◌, ℕ, ◌+◌, Bool, true, false, List, [], ◌∷◌, length, get_or, take, drop, Option, Some, None, Result, Ok, Err, ℤ, IfSome}
use Rattle.vms_kinds.specs.declared.Kind.{Kind}
use Rattle.vms_kinds.specs.Codes.{width}
use Rattle.vms_spec.specs.Layout.{Number as NumberSlot, Filler as FillerSlot}
use Rattle.vms_spec.specs.declared.Reason.{Reason}
use Rattle.vms_spec.specs.declared.Reason.TheVariants as reasons
use Rattle.vms_spec.specs.Lookup.{number_at}
use Rattle.vms_spec.specs.Units.{Piece, Magic, Version, Number, Filler, Configuration, Head, SubHead, Foot, End}
use Rattle.vms_stream.specs.SoFar.{Known, no_image}
use Rattle.vms_stream.specs.SoFar as tails
use Rattle.vms_stream.specs.Dues.{Due, AMagic, AVersion, AfterFields, begins_next, Between as IsBetween, AfterEnd, Field}
use Rattle.vms_stream.specs.Seen.{Seen, Good, Bad, Short, seen}
use Rattle.vms_stream.specs.Taking.{nothing_known}
use Rattle.vms_marks.specs.declared.configuration.TheConstants.{CONFIGURATION_FRONT}
use Rattle.vms_frames.specs.Stands.{Stand}
use Rattle.vms_frames.specs.declared.fault.FrameFault.{FrameFault}
use Rattle.vms_frames.specs.declared.fault.FrameFault.TheVariants.{Refused, ReadFault}
use Rattle.vms_frames.specs.declared.units.Between.{Between}
use Rattle.vms_frames.specs.declared.units.Between.TheVariants.{First, AfterConfiguration, Later}
use Rattle.vms_frames.specs.declared.units.Step.{Step}
use Rattle.vms_frames.specs.declared.units.Step.TheVariants as steps
use Rattle.vms_frames.specs.declared.units.Tail.{Tail}
use Rattle.vms_frames.specs.declared.units.Tail.TheVariants.{Unknown, Footed, Bare}
use Rattle.vms_frames.specs.declared.units.Behind.{Behind}
use Rattle.vms_frames.specs.declared.units.Behind.TheVariants as behinds
use Rattle.vms_frames.specs.declared.units.After.{After}
use Rattle.vms_frames.specs.declared.units.After.TheVariants.{Sub, Next, Done}

-- ---- the unit of a result, and what is due

-- The number of bytes of a unit between sections.
abbrev pub step_long : Step → ℕ
step_long (steps.Configuration name) = CONFIGURATION_FRONT + length name.items
step_long (steps.Section head) = 14 + length head.name.items
step_long steps.End = 1

-- Whether the unit is a configuration.
abbrev pub is_configuration : Step → Bool
is_configuration (steps.Configuration name) = true
is_configuration step = false

-- The unit as the specification has it.
abbrev pub unit_of_step : Step → Piece
unit_of_step (steps.Configuration name) = Configuration name.items
unit_of_step (steps.Section head) = Head head.id head.name.items head.instance head.version
unit_of_step steps.End = End

-- What is due between sections.
abbrev pub due_of : Between → Due
due_of First = IsBetween true false
due_of AfterConfiguration = IsBetween false true
due_of Later = IsBetween false false

-- The tail as the specification has it.
abbrev pub tail_of : Tail → tails.Tail
tail_of Unknown = tails.Unknown
tail_of Footed = tails.Footed
tail_of Bare = tails.Bare

-- What is known in the section with this id.
abbrev pub in_section : ℕ → Known
in_section id = record { came = []; section = None; id = id; image = no_image }

-- The rest of the input for a cursor: the byte that it holds, if any, and the rest of the source.
abbrev pub ahead : Option ℕ → List ℕ → List ℕ
ahead None left = left
ahead (Some b) left = b ∷ left

-- A unit between sections came after the fields.
abbrev pub IsNext : Behind → Type 0
IsNext (behinds.Next b) = Unit {0}
IsNext _ = ⊥

-- The number of bytes read after fields.
abbrev pub behind_long : Behind → ℕ
behind_long (behinds.Sub name v) = 6 + length name.items
behind_long (behinds.Next b) = 1
behind_long behinds.Done = 5

-- What a call returns for this.
abbrev pub after_of : Result Behind FrameFault → Result After FrameFault
after_of (Ok (behinds.Sub name v)) = Ok (Sub name v)
after_of (Ok (behinds.Next b)) = Ok Next
after_of (Ok behinds.Done) = Ok Done
after_of (Err fault) = Err fault

-- The byte that is held then.
abbrev pub held_of : Result Behind FrameFault → Option ℕ
held_of (Ok (behinds.Next b)) = Some b
held_of _ = None

-- The number of bytes that are held.
abbrev pub held_long : Option ℕ → ℕ
held_long None = 0
held_long (Some b) = 1

-- ---- what a call returns

-- `Fails seen rest left reason`: the call is refused for `reason`, and has taken the bytes of the offending
-- unit.
abbrev pub Fails : Seen → List ℕ → Option (List ℕ) → Reason → Type 0
Fails (Good x n) rest left reason = ⊥
Fails (Bad n why) rest left reason = (reason ≡ why) × (left ≡ Some (drop n rest))
Fails Short rest left reason = (reason ≡ reasons.Truncated) × (left ≡ Some [])

-- `AnswersSeen unit long found at rest left result`: the call returns a whole unit, all of whose bytes were
-- taken, or the fault of what is found at offset `at`.
abbrev pub AnswersSeen : {X : Type 0} → (X → Piece) → (X → ℕ) → Seen → ℕ → List ℕ → Option (List ℕ) → Result X FrameFault → Type 0
AnswersSeen unit long found at rest left (Ok x) = (found ≡ Good (unit x) (long x)) × (left ≡ Some (drop (long x) rest))
AnswersSeen unit long found at rest left (Err (Refused place reason)) = (place ≡ at) × Fails found rest left reason
AnswersSeen unit long found at rest left (Err ReadFault) = Unit {0}

-- The same for the stream head, if the magic was seen so. The version comes after a magic that is whole and
-- right.
abbrev pub AnswersAfter : Seen → ℕ → List ℕ → Option (List ℕ) → Result (Unit {0}) FrameFault → Type 0
AnswersAfter (Good x n) at rest left result = AnswersSeen (λ _. Version (number_at 4 0 (drop 4 rest))) (λ _. 4) (seen AVersion nothing_known (drop 4 rest)) (at + 4) (drop 4 rest) left result
AnswersAfter first at rest left result = AnswersSeen (λ _. Magic (take 4 rest)) (λ _. 4) first at rest left result

-- The call returns what is seen of the stream head at offset `at`.
abbrev pub AnswersHead : ℕ → List ℕ → Option (List ℕ) → Result (Unit {0}) FrameFault → Type 0
AnswersHead at rest left result = AnswersAfter (seen AMagic nothing_known rest) at rest left result

-- After fields: a subsection head or the footer, taken whole; or a byte that begins a unit between sections,
-- which is held.
abbrev pub AnswersBehind : tails.Tail → ℕ → ℕ → List ℕ → Option ℕ → Option (List ℕ) → Result After FrameFault → Type 0
AnswersBehind tail id at rest held left (Ok Next) = (begins_next tail rest ≡ true) × (held ≡ Some (get_or rest 0 0)) × (left ≡ Some (drop 1 rest))
AnswersBehind tail id at rest held left (Ok (Sub name v)) =
    (begins_next tail rest ≡ false) × (seen (AfterFields 0 tail) (in_section id) rest ≡ Good (SubHead name.items v) (6 + length name.items)) × (left ≡ Some (drop (6 + length name.items) rest))
AnswersBehind tail id at rest held left (Ok Done) = (begins_next tail rest ≡ false) × (seen (AfterFields 0 tail) (in_section id) rest ≡ Good (Foot id) 5) × (left ≡ Some (drop 5 rest))
AnswersBehind tail id at rest held left (Err (Refused place reason)) =
    (begins_next tail rest ≡ false) × (place ≡ at) × Fails (seen (AfterFields 0 tail) (in_section id) rest) rest left reason
AnswersBehind tail id at rest held left (Err ReadFault) = Unit {0}

-- A byte is held exactly if the next unit is one between sections, which doesn't come in a footed stream.
abbrev pub Holds : Tail → After → Option ℕ → Type 0
Holds tail Next held = (b : ℕ) × (held ≡ Some b) × (tail ≡ Footed → ⊥)
Holds tail (Sub name v) held = held ≡ None
Holds tail Done held = held ≡ None

-- By how many bytes the cursor's offset grows.
abbrev pub after_long : After → ℕ
after_long (Sub name v) = 6 + length name.items
after_long Next = 0
after_long Done = 5

-- How many bytes the source gives.
abbrev pub after_given : After → ℕ
after_given (Sub name v) = 6 + length name.items
after_given Next = 1
after_given Done = 5

-- After the end mark: nothing at the end of input, else a description section, whose bytes are read past.
abbrev pub AnswersEnd : List ℕ → Seen → ℕ → ℕ → Option (List ℕ) → Result (Unit {0}) FrameFault → Type 0
AnswersEnd [] found at behind left (Ok x) = (behind ≡ at) × (left ≡ Some [])
AnswersEnd (b ∷ more) (Good x n) at behind left (Ok done) = (behind ≡ at + n) × (left ≡ Some (drop n (b ∷ more)))
AnswersEnd (b ∷ more) (Bad n reason) at behind left (Ok x) = ⊥
AnswersEnd (b ∷ more) Short at behind left (Ok x) = ⊥
AnswersEnd [] found at behind left (Err (Refused place reason)) = ⊥
AnswersEnd (b ∷ more) found at behind left (Err (Refused place reason)) = (place ≡ at) × Fails found (b ∷ more) left reason
AnswersEnd rest found at behind left (Err ReadFault) = Unit {0}

-- ---- the calls, if the rest of the source is known

-- What `between` reads, if the rest of the source is known.
abbrev pub ReadsBetween : Between → Stand → Option (List ℕ) → Option (List ℕ) → Result Step FrameFault → Type 0
ReadsBetween place stand old left result =
    IfSome old (λ rest. AnswersSeen unit_of_step step_long (seen (due_of place) nothing_known (ahead stand.held rest)) stand.at (ahead stand.held rest) left result)

-- What `number` reads, if the rest of the source is known.
abbrev pub ReadsNumber : Kind → ℕ → Option (List ℕ) → Option (List ℕ) → Result ℤ FrameFault → Type 0
ReadsNumber kind at old left result =
    IfSome old (λ rest. AnswersSeen (Number 0 kind) (λ _. width kind) (seen (Field 0 (NumberSlot 0 kind [])) nothing_known rest) at rest left result)

-- What `skip` reads, if the rest of the source is known.
abbrev pub ReadsFiller : ℕ → ℕ → Option (List ℕ) → Option (List ℕ) → Result (Unit {0}) FrameFault → Type 0
ReadsFiller n at old left result = IfSome old (λ rest. AnswersSeen (λ _. Filler (take n rest)) (λ _. n) (seen (Field 0 (FillerSlot n)) nothing_known rest) at rest left result)

-- What `trailer` reads, if the rest of the source is known.
abbrev pub ReadsEnd : ℕ → ℕ → Option (List ℕ) → Option (List ℕ) → Result (Unit {0}) FrameFault → Type 0
ReadsEnd at behind old left result = IfSome old (λ rest. AnswersEnd rest (seen AfterEnd nothing_known rest) at behind left result)
