-- How a load advances between two states of a cursor, whether or not the content of the source is known.
use Rattle.std.specs.Prelude.{◌≡◌, ℕ, ◌+◌, ◌-◌, ◌≤◌, List, Option, Some, Result, Ok, Err, MatchResult}
use Rattle.vms_io.specs.Told.{Intake}
use Rattle.vms_io.specs.Reading.{Course, On, Last, Broken, Reads}
use Rattle.vms_spec.specs.Sets.{Set}
use Rattle.vms_spec.specs.Images.{Image}
use Rattle.vms_spec.specs.Readings.{Reading, Verdict}
use Rattle.vms_stream.specs.State.{State}
use Rattle.vms_frames.specs.Stands.{Stand}
use Rattle.vms_load.specs.Loads.{Loads}
use Rattle.vms_load.specs.Reads.{Onward, LeadsOn, ReadsOn, IsBehind, ReadsBehind, reach}
use Rattle.vms_load.specs.Staging.{ReadsAll, most_given}
use Rattle.vms_load.specs.declared.fault.LoadFault.{LoadFault}
use Rattle.vms_load.specs.declared.fault.LoadFault.TheVariants as faults
use Rattle.vms_load.specs.declared.staged.Staged.{Staged}

-- A refusal is the last call on a source; after a read fault nothing more is said.
abbrev pub fault_course : LoadFault → Course
fault_course (faults.Refused r) = Last
fault_course faults.ReadFault = Broken

-- A call that succeeds goes on.
abbrev pub course : {X : Type 0} → Result X LoadFault → Course
course (Ok x) = On
course (Err fault) = fault_course fault

-- The same for the call that reads to the end of a stream, after which nothing is read.
abbrev pub last_course : {X : Type 0} → Result X LoadFault → Course
last_course (Ok x) = Last
last_course (Err fault) = fault_course fault

-- `IsSpent from to most result n`: the `n` bytes that were taken are those by which the cursor has advanced.
-- Before a fault they are at most `most`.
abbrev pub IsSpent : {X : Type 0} → Stand → Stand → ℕ → Result X LoadFault → ℕ → Type 0
IsSpent from to most result n = MatchResult result (λ _. n ≡ reach to - reach from) (λ _. n ≤ most)

-- `GoesOn old new most reading next from to result`: the reading advances from the cursor's state `from` to
-- `to`.
abbrev pub GoesOn : {X : Type 0} → Intake → Intake → ℕ → Onward → (X → Onward) → Stand → Stand → Result X LoadFault → Type 0
GoesOn old new most reading next from to result =
    Reads (course result) old new (IsSpent from to most result) (λ rest left. ReadsOn reading next from to (Some rest) (Some left) result)

-- The same for a loop that has read this far.
abbrev pub GoesSoFar : Intake → Intake → Onward → Onward → Stand → Stand → Type 0
GoesSoFar old new reading next from to = Reads On old new (λ n. n ≡ reach to - reach from) (λ rest left. LeadsOn reading next from to (Some rest) (Some left))

-- The same for a call that begins after a unit of `long` bytes at offset `at`, whose verdict is `v`. What is
-- said begins with that unit.
abbrev pub GoesBehind : {X : Type 0} → Intake → Intake → ℕ → (State → Onward) → Verdict State → (X → Onward) → ℕ → ℕ → Stand → Stand → Result X LoadFault → Type 0
GoesBehind old new most go v next at long from to result =
    Reads (course result) old new (IsSpent from to most result)
    (λ rest left. (bytes : List ℕ) → IsBehind long at bytes from (Some rest) → ReadsBehind go v next at long bytes to (Some left) result)

-- `Moves from to due after result`: the cursor advances by no more bytes than were due before the call and
-- aren't due after it.
abbrev pub Moves : {X : Type 0} → Stand → Stand → ℕ → (X → ℕ) → Result X LoadFault → Type 0
Moves from to due after result = MatchResult result (λ x. (from.at ≤ to.at) × (reach from ≤ reach to) × (reach to + after x ≤ reach from + due)) (λ _. Unit {0})

-- ---- a whole stream

-- The bytes taken are those of the stream, and never more than `most_given set`.
abbrev pub IsWithin : {X : Type 0} → Set → (X → ℕ) → Result X LoadFault → ℕ → Type 0
IsWithin set taken result n = MatchResult result (λ x. (n ≡ taken x) × (taken x ≤ most_given set)) (λ _. n ≤ most_given set)

-- The input is read as `reading` says, from its first byte on.
abbrev pub GoesThrough : Intake → Intake → Set → (List ℕ → Option (Reading State)) → Staged → Result ℕ LoadFault → Type 0
GoesThrough old new set reading staged result =
    Reads (last_course result) old new (IsWithin set (λ n. n) result) (λ input left. ReadsAll set (reading input) staged input (Some left) result)

-- `LoadReads old new set names images taken result`: the result is right for the bytes that were taken,
-- followed by the rest of the input if that is known. At Ok these bytes are a stream with these images; after
-- a refusal they end with the offending unit.
abbrev pub LoadReads : Intake → Intake → Set → List (List ℕ) → List Image → ℕ → Result (Option ℕ) LoadFault → Type 0
LoadReads old new set names images taken result =
    Reads (last_course result) old new (IsWithin set (λ _. taken) result) (λ input left. Loads set names input (Some left) images taken result)
