-- The trigger level of the receive FIFO (NS16550A data sheet, "FIFO Control Register", bits 6 and
-- 7).
use Rattle.std.specs.Prelude.{ℕ, ◌==◌, if◌then◌else◌}
use Rattle.dev_serial.specs.declared.trigger.Trigger.{Trigger}
use Rattle.dev_serial.specs.declared.trigger.Trigger.TheVariants.{One, Four, Eight, Fourteen}

-- The trigger of the two bits `bits`.
abbrev pub trigger_of : ℕ → Trigger
trigger_of bits = if bits == 0 then One else (if bits == 1 then Four else (if bits == 2 then Eight else Fourteen))

-- The two bits of a trigger.
abbrev pub trigger_number : Trigger → ℕ
trigger_number One = 0
trigger_number Four = 1
trigger_number Eight = 2
trigger_number Fourteen = 3

-- The number of received bytes that request an interrupt.
abbrev pub trigger_bytes : Trigger → ℕ
trigger_bytes One = 1
trigger_bytes Four = 4
trigger_bytes Eight = 8
trigger_bytes Fourteen = 14
