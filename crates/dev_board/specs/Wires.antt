-- The inputs of the pair that no device of the board drives.
use Rattle.std.specs.Prelude.{◌≡◌, ℕ, ◌-◌, ◌<◌, ◌^◌, Bool, false, ◌&&◌, nat_lt, if◌then◌else◌, bit_and, bit_or}
use Rattle.dev_base.specs.Bits.{has}
use Rattle.dev_pic.specs.Pair.{lines_of}
use Rattle.dev_board.specs.State.{State}
use Rattle.dev_board.specs.declared.wires.TheConstants.{WIRES}

-- `is_wire input` tells whether the input is a wire: 1, 3, 5, 6 or 7 of the master, or 8 to 15,
-- which are those of the slave.
abbrev pub is_wire : ℕ → Bool
is_wire input = nat_lt input 16 && has WIRES input

-- `wires_of m` is the wires as they are now, a bit for each.
unfoldable pub wires_of : State → ℕ
wires_of m = bit_and (lines_of m.pair) WIRES

-- `with_wire input up wires` is the wires after one of them has risen or fallen.
unfoldable pub with_wire : ℕ → Bool → ℕ → ℕ
with_wire input up wires = if up then bit_or wires (2 ^ input) else bit_and wires (65535 - 2 ^ input)

-- `AreWires wires`: sixteen bits in which the inputs that devices drive are low.
pub record AreWires (wires : ℕ) : Type 0 where
  pub bound : wires < 2 ^ 16
  pub out : has wires 0 ≡ false
  pub serial : has wires 4 ≡ false
