-- The I/O ports of a board.
use Rattle.std.specs.Prelude.{ℕ, ◌-◌, ◌==◌, Bool, true, false, ◌&&◌, nat_le, if◌then◌else◌}
use Rattle.dev_pic.specs.Pair.{is_port, read_pair, written_pair}
use Rattle.dev_pit.specs.Pit.{pit_read, pit_written}
use Rattle.dev_serial.specs.Access.{read_of, written}
use Rattle.dev_board.specs.State.{State}
use Rattle.dev_board.specs.declared.ports.Target.{Target}
use Rattle.dev_board.specs.declared.ports.Target.TheVariants.{Pair, Counter, Control, Register, Nothing}

-- `target_of level port` is what the port reaches: the pair, one of three counters or their control
-- port, one of the eight registers of the serial port, or nothing.
unfoldable pub target_of : ℕ → ℕ → Target
target_of level port =
    if is_port level port then Pair
    else (if nat_le 0x40 port && nat_le port 0x42 then Counter (port - 0x40)
    else (if port == 0x43 then Control
    else (if nat_le 0x3f8 port && nat_le port 0x3ff then Register (port - 0x3f8)
    else Nothing)))

-- `is_device target` tells whether it is a device.
abbrev pub is_device : Target → Bool
is_device Nothing = false
is_device _ = true

-- `has_port level port` tells whether a device of a board of this level has the port.
abbrev pub has_port : ℕ → ℕ → Bool
has_port level port = is_device (target_of level port)

-- `read_at target port m` is the value of a read, and the board after it. The control port and a
-- port without a device return 0xff.
unfoldable pub read_at : Target → ℕ → State → ℕ × State
read_at Pair port m = let answer = read_pair port m.pair in (answer.0, record m { pair = answer.1 })
read_at (Counter counter) port m = let answer = pit_read counter m.moment m.pit in (answer.0, record m { pit = answer.1 })
read_at Control port m = (0xff, m)
read_at (Register offset) port m = let answer = read_of offset m.moment m.serial in (answer.0, record m { serial = answer.1 })
read_at Nothing port m = (0xff, m)

-- `written_at target port value m` is the board after a write. A write to a port without a device
-- does nothing.
unfoldable pub written_at : Target → ℕ → ℕ → State → State
written_at Pair port value m = record m { pair = written_pair port value m.pair }
written_at (Counter counter) port value m = record m { pit = pit_written port value m.moment m.pit }
written_at Control port value m = record m { pit = pit_written port value m.moment m.pit }
written_at (Register offset) port value m = record m { serial = written offset value m.moment m.serial }
written_at Nothing port value m = m

-- `read port m` is the value of a read of the port, and the board after it.
abbrev pub read : ℕ → State → ℕ × State
read port m = read_at (target_of m.level port) port m

-- `write port value m` is the board after a write to the port.
abbrev pub write : ℕ → ℕ → State → State
write port value m = written_at (target_of m.level port) port value m
