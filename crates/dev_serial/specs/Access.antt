-- The calls of a port. Quoted names are the registers' in the NS16550A data sheet.
use Rattle.std.specs.Prelude.{ℕ, ◌+◌, ◌-◌, ◌*◌, ◌/◌, ◌%◌, ◌==◌, Bool, true, false, nat_le, ◌&&◌, ◌||◌, not, if◌then◌else◌, List, [], length, Option, Some, None, is_some, bit_and, bit_or}
use Rattle.dev_base.specs.Bits.{has, bits_where}
use Rattle.dev_serial.specs.Fifo.{trigger_of}
use Rattle.dev_serial.specs.Line.{character_time}
use Rattle.dev_serial.specs.Parts.{ReceiverState, TransmitterState}
use Rattle.dev_serial.specs.Port.{Port, mode_of, interrupt, id_number, is_thr_empty}
use Rattle.dev_serial.specs.Receive.{received, taken, emptied, without_overrun}
use Rattle.dev_serial.specs.Transmit.{queued, loaded, gone_by, on_line, looped_in, run_until}
use Rattle.dev_serial.specs.declared.fifo.TheConstants.{FIFO_BYTES}
use Rattle.dev_serial.specs.declared.levels.TheConstants.{FIFOS_SINCE}
use Rattle.dev_serial.specs.declared.shift.Shift.{Shift}
use Rattle.dev_serial.specs.declared.trigger.Trigger.{Trigger}

-- Whether the list `bytes` is empty.
abbrev pub is_empty : List ℕ → Bool
is_empty bytes = length bytes == 0

-- "Line Status Register": a byte is held (bit 0), one was overrun (bit 1), the transmit list is
-- empty (bit 5), and the shift register is idle too (bit 6).
unfoldable pub lsr_of : Port → ℕ
lsr_of port =
    let empty = is_empty port.transmitter.waiting in
    bit_or (bit_or (bit_or (bits_where (not (is_empty port.receiver.held)) 0x01) (bits_where port.receiver.overrun 0x02)) (bits_where empty 0x20)) (bits_where (empty && not (is_some port.transmitter.shift)) 0x40)

-- "Modem Status Register": the modem control's outputs in loop mode, else 0xb0.
unfoldable pub msr_of : ℕ → ℕ
msr_of mcr =
    if has mcr 4 then bit_or (bit_or (bit_or (bits_where (has mcr 1) 0x10) (bits_where (has mcr 0) 0x20)) (bits_where (has mcr 2) 0x40)) (bits_where (has mcr 3) 0x80)
    else 0xb0

-- "Interrupt Identification Register": the interrupt, and bits 6 and 7 while FIFOs are on.
unfoldable pub iir_of : ℕ → Port → ℕ
iir_of now port = bit_or (id_number (interrupt now port)) (bits_where (is_some port.fifos) 0xc0)

-- The read of the "Interrupt Identification Register" at `now`. It clears the latch if that is the
-- interrupt identified.
abbrev pub id_read : ℕ → Port → ℕ × Port
id_read now port = (iir_of now port, record port { thr_empty = (if is_thr_empty (interrupt now port) then false else port.thr_empty) })

-- The read of the "Line Status Register", which clears the overrun flag.
abbrev pub lsr_read : Port → ℕ × Port
lsr_read port = (lsr_of port, record port { receiver = without_overrun port.receiver })

-- The port with the receiver of `answer`, together with the byte of `answer`.
abbrev pub with_taken : Port → ℕ × ReceiverState → ℕ × Port
with_taken port answer = (answer.0, record port { receiver = answer.1 })

-- The read of the "Receiver Buffer Register" at `now`.
abbrev pub byte_read : ℕ → Port → ℕ × Port
byte_read now port = with_taken port (taken (mode_of port) now port.receiver)

-- `read_of offset now port` is the value read at `offset` and the port after the read.
unfoldable pub read_of : ℕ → ℕ → Port → ℕ × Port
read_of offset now port =
    if offset == 0 then (if has port.lcr 7 then (port.divisor % 256, port) else byte_read now port)
    else (if offset == 1 then (if has port.lcr 7 then (port.divisor / 256, port) else (port.ier, port))
    else (if offset == 2 then id_read now port
    else (if offset == 3 then (port.lcr, port)
    else (if offset == 4 then (port.mcr, port)
    else (if offset == 5 then lsr_read port
    else (if offset == 6 then (msr_of port.mcr, port)
    else (port.scr, port)))))))

-- The port with `transmitter`. The latch is set exactly if no byte waits in it.
abbrev pub with_thr : Port → TransmitterState → Port
with_thr port transmitter = record port { transmitter = transmitter; thr_empty = is_empty transmitter.waiting }

-- The port after `byte` is written to the "Transmitter Holding Register" at `now`.
unfoldable pub thr_written : ℕ → ℕ → Port → Port
thr_written byte now port =
    with_thr port (loaded (now + character_time port.divisor port.lcr) port.transmitter.shift (queued (is_some port.fifos) byte port.transmitter.waiting))

-- `queues port` tells whether a byte that is written to the "Transmitter Holding Register" only waits
-- there: the offset reaches that register, the shift register is busy, and the latch is clear.
unfoldable pub queues : Port → Bool
queues port = not (has port.lcr 7 || port.thr_empty || not (is_some port.transmitter.shift))

-- The port after a write of the "Interrupt Enable Register". If bit 1 goes from 0 to 1, the latch
-- samples the transmit list.
unfoldable pub ier_written : ℕ → Port → Port
ier_written value port =
    let ier = bit_and value 0x0f in
    record port { ier = ier; thr_empty = (if not (has port.ier 1) && has ier 1 then is_empty port.transmitter.waiting else port.thr_empty) }

-- The port with its receive list cleared if `clears` is true.
abbrev pub receiver_cleared : Bool → Port → Port
receiver_cleared clears port = if clears then record port { receiver = emptied port.receiver } else port

-- The port with its transmit list cleared if `clears` is true. If a byte waited, the latch is set.
abbrev pub transmitter_cleared : Bool → Port → Port
transmitter_cleared clears port =
    if clears then record port {
      transmitter = record { waiting = []; shift = port.transmitter.shift };
      thr_empty = (if is_empty port.transmitter.waiting then port.thr_empty else true);
    } else port

-- "FIFO Control Register": bit 0 switches the FIFOs on, and bits 7 and 6 are the trigger.
abbrev pub switch_of : ℕ → Option Trigger
switch_of value = if has value 0 then Some (trigger_of (value / 64)) else None

-- The port after the clearing done by a write of the "FIFO Control Register", by the FIFO switch
-- before and after the write. Switching on or off clears both lists. While FIFOs stay on, bit 1
-- clears the receive list and bit 2 the transmit list. While they stay off, nothing is cleared.
unfoldable pub fcr_cleared : Option Trigger → Option Trigger → ℕ → Port → Port
fcr_cleared None None value port = port
fcr_cleared None (Some after) value port = transmitter_cleared true (receiver_cleared true port)
fcr_cleared (Some before) None value port = transmitter_cleared true (receiver_cleared true port)
fcr_cleared (Some before) (Some after) value port = transmitter_cleared (has value 2) (receiver_cleared (has value 1) port)

-- The port after `value` is written to the "FIFO Control Register".
unfoldable pub fcr_written : ℕ → Port → Port
fcr_written value port = record (fcr_cleared port.fifos (switch_of value) value port) { fifos = switch_of value }

-- `written offset value now port` is the port after `value` is written at `offset`.
unfoldable pub written : ℕ → ℕ → ℕ → Port → Port
written offset value now port =
    if offset == 0 then (if has port.lcr 7 then record port { divisor = port.divisor / 256 * 256 + value } else thr_written value now port)
    else (if offset == 1 then (if has port.lcr 7 then record port { divisor = value * 256 + port.divisor % 256 } else ier_written value port)
    else (if offset == 2 then (if nat_le FIFOS_SINCE port.level then fcr_written value port else port)
    else (if offset == 3 then record port { lcr = value }
    else (if offset == 4 then record port { mcr = bit_and value 0x1f }
    else (if offset == 5 then port
    else (if offset == 6 then port
    else record port { scr = value }))))))

-- The port after `byte` arrives on the line at `now`. Loop mode ignores it.
unfoldable pub came_in : ℕ → ℕ → Port → Port
came_in byte now port =
    if has port.mcr 4 then port else record port { receiver = received (mode_of port) byte now port.receiver }

-- The number of bytes that may arrive before one is lost: the free room of the receive list, or 0
-- in loop mode, which ignores what arrives.
abbrev pub room_of : Port → ℕ
room_of port =
    if has port.mcr 4 then 0
    else (if is_some port.fifos then FIFO_BYTES - length port.receiver.held else 1 - length port.receiver.held)

-- The bytes that leave the shift register up to `to`, each with the moment at which it is sent.
abbrev pub leaving : ℕ → Port → List Shift
leaving to port = gone_by (character_time port.divisor port.lcr) to port.transmitter.shift port.transmitter.waiting

-- The bytes that left on the line and the port, after time has passed up to `to`. In loop mode the
-- bytes are received again instead. The latch is set if the last byte that waited has left the
-- list.
unfoldable pub advanced : ℕ → Port → List ℕ × Port
advanced to port =
    let after = run_until (character_time port.divisor port.lcr) to port.transmitter.shift port.transmitter.waiting in (
      on_line (mode_of port) (leaving to port),
      record port {
        receiver = looped_in (mode_of port) (leaving to port) port.receiver;
        transmitter = after;
        thr_empty = (if is_empty after.waiting && not (is_empty port.transmitter.waiting) then true else port.thr_empty);
      },
    )
