-- The state of the chip, and what each call does (MC146818 data sheet).
use Rattle.std.specs.Prelude.{ℕ, ◌-◌, ◌*◌, ◌/◌, ◌%◌, ◌^◌, ◌==◌, Bool, false, ◌&&◌, ◌||◌, nat_le, nat_lt, if◌then◌else◌, bit_or, slice_index_or, slice_set, replicate, Option, Some, None}
use Rattle.dev_base.specs.Bits.{has, bits_where}
use Rattle.dev_base.specs.declared.limits.TheConstants.{NANOSECONDS}
use Rattle.vms_rtc.specs.declared.limits.TheConstants.{NMI_SINCE, INDEX_PORT, DATA_PORT, REGISTER_A, REGISTER_B, REGISTER_C, REGISTER_D, CRYSTAL_HERTZ, REGISTERS}
use Rattle.vms_rtc.specs.declared.rtc.Rtc.{Rtc}

-- Whether the port is one of the chip's two.
abbrev pub is_port : ℕ → Bool
is_port port = (port == INDEX_PORT) || (port == DATA_PORT)

-- The byte of a register, 0 if there is none.
abbrev pub register : ℕ → Rtc → ℕ
register number chip = slice_index_or chip.cmos number 0

-- The chip of version `version` at power on: all is 0 or false.
unfoldable pub power_on : ℕ → Rtc
power_on version =
    record { version = version; index = 0; cmos = replicate REGISTERS 0; nmi_mask = false; pf = false }

-- Whether the chip has an NMI mask.
abbrev pub has_mask : Rtc → Bool
has_mask chip = nat_le NMI_SINCE chip.version

-- Whether the interrupt line is high: the periodic interrupt flag is set and register B, bit 6,
-- enables it.
unfoldable pub line_of : Rtc → Bool
line_of chip = chip.pf && has (register REGISTER_B chip) 6

-- ---- reads

-- What register C reads: the periodic interrupt flag in bit 6 and the line in bit 7.
unfoldable pub flags_of : Rtc → ℕ
flags_of chip = bit_or (bits_where chip.pf 0x40) (bits_where (line_of chip) 0x80)

-- What the index port reads: the index, with the NMI mask in bit 7, or 0xff on a chip without a
-- mask.
unfoldable pub index_read : Rtc → ℕ
index_read chip = if has_mask chip then bit_or chip.index (bits_where chip.nmi_mask 0x80) else 0xff

-- The selected register and the chip after its read. Reading C clears the flag, and D reads 0x80.
unfoldable pub data_read : Rtc → ℕ × Rtc
data_read chip =
    if chip.index == REGISTER_C then (flags_of chip, record chip { pf = false })
    else if chip.index == REGISTER_D then (0x80, chip) else (register chip.index chip, chip)

-- The byte that `port` reads and the chip after the read.
unfoldable pub read_of : ℕ → Rtc → ℕ × Rtc
read_of port chip = if port == INDEX_PORT then (index_read chip, chip) else data_read chip

-- ---- writes

-- The chip after a write of the index: the value modulo 64, and bit 7 as the NMI mask if it has
-- one.
unfoldable pub index_written : ℕ → Rtc → Rtc
index_written value chip =
    record chip { index = value % 64; nmi_mask = (if has_mask chip then has value 7 else chip.nmi_mask) }

-- The chip after a write of the selected register. A keeps bits 6 to 0, and C and D keep nothing.
unfoldable pub data_written : ℕ → Rtc → Rtc
data_written value chip =
    if (chip.index == REGISTER_C) || (chip.index == REGISTER_D) then chip
    else record chip { cmos = slice_set chip.cmos chip.index (if chip.index == REGISTER_A then value % 128 else value) }

-- `written port value chip` is the chip after `value` is written to `port`.
unfoldable pub written : ℕ → ℕ → Rtc → Rtc
written port value chip = if port == INDEX_PORT then index_written value chip else data_written value chip

-- ---- time

-- The crystal's ticks from power on to a moment in nanoseconds, rounded down.
unfoldable pub ticks : ℕ → ℕ
ticks moment = moment * CRYSTAL_HERTZ / NANOSECONDS

-- The ticks of a period by the rate, bits 3 to 0 of register A.
abbrev pub period_of_rate : ℕ → Option ℕ
period_of_rate rate =
    if rate == 0 then None
    else if rate == 1 then Some 128 else if rate == 2 then Some 256 else Some (2 ^ (rate - 1))

-- The ticks of a period by register A. Only the divider 010, in bits 6 to 4, counts the crystal.
unfoldable pub period_of : ℕ → Option ℕ
period_of a = if a / 16 % 8 == 2 then period_of_rate (a % 16) else None

-- Whether a period ends in a span of time: more have passed at its end than at its beginning.
abbrev pub ends_within : Option ℕ → ℕ → ℕ → Bool
ends_within None from to = false
ends_within (Some period) from to = nat_lt (ticks from / period) (ticks to / period)

-- The chip after time has passed. The flag is set if a period ends in that time.
unfoldable pub passed : ℕ → ℕ → Rtc → Rtc
passed from to chip =
    record chip { pf = chip.pf || ends_within (period_of (register REGISTER_A chip)) from to }
