-- The bits of a register; bit 0 is the least.
use Rattle.std.specs.Prelude.{ℕ, ◌/◌, ◌%◌, ◌^◌, ◌==◌, Bool, true, false, not, if◌then◌else◌}

-- `has register bit` tells whether the bit is set.
abbrev pub has : ℕ → ℕ → Bool
has register bit = (register / 2 ^ bit % 2) == 1

-- `bits_where condition bits` is `bits` if the condition is true, else 0.
abbrev pub bits_where : Bool → ℕ → ℕ
bits_where condition bits = if condition then bits else 0

-- `same first second` tells whether both are true or both are false.
abbrev pub same : Bool → Bool → Bool
same true other = other
same false other = not other
