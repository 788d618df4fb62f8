-- Lists of bytes.
use Rattle.std.specs.Prelude.{ℕ, ◌<◌, List, get_or}

-- Each number of the list is less than 256.
abbrev pub IsBytes : List ℕ → Type 0
IsBytes bytes = (i : ℕ) → get_or bytes i 0 < 256
