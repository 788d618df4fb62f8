-- The characters on the line (NS16550A data sheet, "Line Control Register").
use Rattle.std.specs.Prelude.{ℕ, ◌+◌, ◌*◌, ◌/◌, ◌%◌, max}
use Rattle.dev_base.specs.Bits.{has, bits_where}
use Rattle.dev_base.specs.declared.limits.TheConstants.{NANOSECONDS}

-- The bits of a character: a start bit, 5 to 8 data bits, parity, one stop bit and a second one.
abbrev pub character_bits : ℕ → ℕ
character_bits lcr = 1 + (5 + lcr % 4) + bits_where (has lcr 3) 1 + 1 + bits_where (has lcr 2) 1

-- The time of a character in nanoseconds, rounded down. At divisor 1 the line transfers 115,200
-- bits a second.
unfoldable pub character_time : ℕ → ℕ → ℕ
character_time divisor lcr = character_bits lcr * max divisor 1 * NANOSECONDS / 115200
