-- Numbers, printed and read back.
use Rattle.std.specs.Prelude.{◌≡◌, ℕ, ◌<◌, ◌^◌, List, Some, ℤ, pos, negsuc}
use Rattle.std.specs.Fmt.{signed_decimal}
use Rattle.vms_spec.specs.Spelling.{number_spelled}

-- a number that fits 64 bits, signed or unsigned
abbrev pub IsShort : ℤ → Type 0
IsShort (pos n) = n < 2 ^ 64
IsShort (negsuc n) = n < 2 ^ 63

-- the decimal text of a number spells that number
abbrev pub NumberLaw : Type 0
NumberLaw = (z : ℤ) → IsShort z → number_spelled (signed_decimal z) ≡ Some z

-- a text that spells a number is its decimal text
abbrev pub SpelledLaw : Type 0
SpelledLaw = (text : List ℕ) (z : ℤ) → IsShort z → number_spelled text ≡ Some z → text ≡ signed_decimal z
