-- The numbers of the timer chip. Definitions cite them as the constants that the code uses. This
-- law gives their values.
use Rattle.std.specs.Prelude.{◌≡◌}
use Rattle.vms_fields.specs.declared.pit.TheConstants.{STATUS_SINCE, CELLS, CHANNEL_CELLS}
use Rattle.dev_pit.specs.declared.limits.TheConstants.{READ_BACK_LEVEL, CLOCK_HERTZ}

-- Each constant has the value of the data sheet or of the format.
pub record NumbersAre : Type 0 where
  -- The ticks of the clock input in a second.
  pub hertz : CLOCK_HERTZ ≡ 1193182
  -- The first level whose chip is an 8254, and the first set that saves its latched statuses.
  pub read_back : READ_BACK_LEVEL ≡ 2
  pub status : STATUS_SINCE ≡ 2
  -- The number of cells of the chip in the newest set, and of one of its counters.
  pub cells : CELLS ≡ 39
  pub channel_cells : CHANNEL_CELLS ≡ 11
