-- The meaning of a port's room.
use Rattle.std.specs.Prelude.{◌≡◌, ℕ, ◌≤◌, true, false, List, [], ◌∷◌, ◌++◌, length}
use Rattle.dev_base.specs.Bits.{has}
use Rattle.dev_serial.specs.Access.{came_in, room_of}
use Rattle.dev_serial.specs.Port.{Port}

-- The port after the bytes arrived at the moment `now`, the first one first.
abbrev pub all_came : ℕ → List ℕ → Port → Port
all_came now [] port = port
all_came now (byte ∷ bytes) port = all_came now bytes (came_in byte now port)

-- If the port has room for all bytes that arrive, they are held after those held before, and the
-- overrun flag stays. If there is no room and the port isn't in loop mode, one byte sets the flag.
pub record RoomIsHeld : Type 0 where
  pub held : (now : ℕ) (bytes : List ℕ) (port : Port) → length bytes ≤ room_of port
      → (all_came now bytes port).receiver.held ≡ port.receiver.held ++ bytes
  pub overrun : (now : ℕ) (bytes : List ℕ) (port : Port) → length bytes ≤ room_of port
      → (all_came now bytes port).receiver.overrun ≡ port.receiver.overrun
  pub lost : (now byte : ℕ) (port : Port) → has port.mcr 4 ≡ false → room_of port ≡ 0
      → (came_in byte now port).receiver.overrun ≡ true
