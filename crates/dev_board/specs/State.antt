-- The state of a board.
use Rattle.std.specs.Prelude.{ℕ}
use Rattle.dev_pic.specs.Pair.{power_on as pair_on}
use Rattle.dev_pic.specs.declared.pair.PicPair.{PicPair}
use Rattle.dev_pit.specs.Pit.{new_pit}
use Rattle.dev_pit.specs.declared.pit.Pit.{Pit}
use Rattle.dev_serial.specs.Port.{Port, power_on as serial_on}

-- `State` has a level, the present moment in nanoseconds after power on, and the three devices. The
-- wires are bits of the lines that the pair remembers.
pub record State : Type 0 where
  pub level : ℕ
  pub moment : ℕ
  pub pair : PicPair
  pub pit : Pit
  pub serial : Port

-- `power_on level` is a board at power on.
unfoldable pub power_on : ℕ → State
power_on level = record {
  level = level;
  moment = 0;
  pair = pair_on level;
  pit = new_pit level;
  serial = serial_on level;
}
