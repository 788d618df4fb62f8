-- The numbers of the clock board. Definitions cite them as the constants that the code uses. This
-- law gives their values.
use Rattle.std.specs.Prelude.{◌≡◌}
use Rattle.dev_clock.specs.declared.devices.TheConstants.{CLOCK_INPUT}
use Rattle.dev_clock.specs.declared.saved.TheConstants.{CLOCK_DEVICE, LINE_RULE, LINES_CELL}

-- Each constant has its value.
pub record NumbersAre : Type 0 where
  -- The input of the pair that the chip's line drives, which is the slave's first.
  pub input : CLOCK_INPUT ≡ 8
  -- The chip's place among the devices of a set, and its rule that the slave remembers its line; a
  -- refusal names both.
  pub device : CLOCK_DEVICE ≡ 0
  pub rule : LINE_RULE ≡ 4
  -- The place of the remembered lines among the slave's cells.
  pub lines : LINES_CELL ≡ 3
