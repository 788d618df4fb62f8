-- The events of a seed. See docs/scripts.md, "Drills".
use Rattle.std.specs.Prelude.{ℕ, zero, suc, ◌+◌, ◌*◌, ◌/◌, ◌%◌, ◌^◌, ◌==◌, List, [], ◌∷◌, get_or}
use Rattle.dev_board.specs.declared.event.Event.{Event}
use Rattle.dev_board.specs.declared.event.Event.TheVariants.{Read, Write, Byte, Wait, Wire, Ack}
use Rattle.vms_board_commands.specs.declared.drills.events.TheConstants.{WAIT}

-- The number after a number.
unfoldable pub next_number : ℕ → ℕ
next_number x = (x * 6364136223846793005 + 1442695040888963407) % 2 ^ 64

-- The eight registers of the serial port, the ports of the master and of the slave, and those of the timer chip.
abbrev pub ports : List ℕ
ports =
    0x3f8 ∷ 0x3f9 ∷ 0x3fa ∷ 0x3fb ∷ 0x3fc ∷ 0x3fd ∷ 0x3fe ∷ 0x3ff ∷ 0x20 ∷ 0x21 ∷ 0xa0 ∷ 0xa1
    ∷ 0x40 ∷ 0x41 ∷ 0x42 ∷ 0x43 ∷ []

-- The interrupt inputs that no device drives.
abbrev pub wires : List ℕ
wires = 1 ∷ 3 ∷ 5 ∷ 6 ∷ 7 ∷ 8 ∷ 9 ∷ 10 ∷ 11 ∷ 12 ∷ 13 ∷ 14 ∷ 15 ∷ []

-- What happens for a number of three bits, with a byte and a place: 0 and 1 read, 2 and 3 write, 4 receives a byte
-- on the serial line, 5 waits, 6 acknowledges, and 7 moves a wire.
unfoldable pub event_by : ℕ → ℕ → ℕ → Event
event_by zero value place = Read (get_or ports (place % 16) 0)
event_by (suc zero) value place = Read (get_or ports (place % 16) 0)
event_by (suc (suc zero)) value place = Write (get_or ports (place % 16) 0) value
event_by (suc (suc (suc zero))) value place = Write (get_or ports (place % 16) 0) value
event_by (suc (suc (suc (suc zero)))) value place = Byte value
event_by (suc (suc (suc (suc (suc zero))))) value place = Wait (value * WAIT)
event_by (suc (suc (suc (suc (suc (suc zero)))))) value place = Ack
event_by (suc (suc (suc (suc (suc (suc (suc what))))))) value place =
    Wire (get_or wires (place % 13) 0) (value % 2 == 1)

-- The event that `h`, the upper half of a number, chooses.
abbrev pub chosen_by : ℕ → Event
chosen_by h = event_by (h % 8) (h / 8 % 256) (h / 2048 % 64)

-- The event of a number, which its upper half chooses.
unfoldable pub event_of : ℕ → Event
event_of x = chosen_by (x / 2 ^ 32)

-- The next `count` events after a number.
abbrev pub events_after : ℕ → ℕ → List Event
events_after x zero = []
events_after x (suc count) = event_of (next_number x) ∷ events_after (next_number x) count
