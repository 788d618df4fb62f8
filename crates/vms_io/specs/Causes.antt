-- Faults of the outside, and the number of bytes that a source has given.
use Rattle.std.specs.Prelude.{◌≡◌, ℕ, ◌+◌, ◌-◌, ◌^◌, ◌<◌, ◌≤◌, min, List, length, take, Result, Option, Some, None, OnErr, MatchResult}
use Rattle.std.specs.Io.KnownBytes.{Appends}

-- the number, or 2 ^ 64 - 1 if it is greater
abbrev pub capped : ℕ → ℕ
capped n = min n (2 ^ 64 - 1)

-- the count has risen, or is at its greatest value
abbrev pub Rose : ℕ → ℕ → Type 0
Rose before now = capped (before + 1) ≤ now

-- the count of faults hasn't fallen, and if the call failed it has risen
pub record HasCause {T E : Type 0} (before now : ℕ) (result : Result T E) : Type 0 where
  pub later : before ≤ now
  pub failed : OnErr result (Rose before now)

-- the count rises by one if the call failed, up to its greatest value, and otherwise stays
abbrev pub CountsFailures : {T E : Type 0} → ℕ → ℕ → Result T E → Type 0
CountsFailures before now result = MatchResult result (λ _. now ≡ before) (λ _. now ≡ capped (before + 1))

-- at `Ok(n)` the number of given bytes rises by n; otherwise it stays
abbrev pub Gives : {E : Type 0} → ℕ → ℕ → Result ℕ E → Type 0
Gives before now result = MatchResult result (λ n. now ≡ capped (before + n)) (λ _. now ≡ before)

-- a sink's promise: the bytes are known, and while fewer than `room` bytes are written no fault is
-- counted
abbrev pub KeepsPromise : Option ℕ → Option (List ℕ) → ℕ → Type 0
KeepsPromise None written faults = Unit {0}
KeepsPromise (Some room) None faults = ⊥
KeepsPromise (Some room) (Some bytes) faults = length bytes < room → faults ≡ 0

-- a prefix of `piece` was appended
abbrev pub AppendsPrefix : Option (List ℕ) → Option (List ℕ) → List ℕ → Type 0
AppendsPrefix old new piece = (n : ℕ) × (n ≤ length piece) × Appends old new (take n piece)
