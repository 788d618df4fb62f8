-- Readings with room for as many units as there can be.
use Rattle.std.specs.Prelude.{◌≡◌, ℕ, suc, ◌<◌, ◌≤◌, List, length, Option}
use Rattle.vms_spec.specs.Readings.{Verdict, Goes, Reading, reading_from}

-- The reading of `rest` from offset `at` on.
abbrev pub reading_on : {S : Type 0} → (S → List ℕ → Verdict S) → S → ℕ → List ℕ → Option (Reading S)
reading_on judge state at rest = reading_from judge (suc (length rest)) state at rest

-- Each unit has at least one byte, and all its bytes are there.
pub record Advances {S : Type 0} (judge : S → List ℕ → Verdict S) : Type 0 where
  pub goes : (state : S) (rest : List ℕ) (n : ℕ) (next : S) → judge state rest ≡ Goes n next → (0 < n) × (n ≤ length rest)
