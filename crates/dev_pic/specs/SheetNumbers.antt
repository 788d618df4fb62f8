-- The numbers by which the levels of the pair differ, and the number of a chip's cells. Definitions
-- cite them as the constants that the code uses. This law gives their values.
use Rattle.std.specs.Prelude.{◌≡◌}
use Rattle.vms_fields.specs.declared.pic.TheConstants.{CELLS}
use Rattle.dev_pic.specs.declared.levels.TheConstants.{ELCR_SINCE, LTIM_SINCE}

-- Each constant has its value.
pub record NumbersAre : Type 0 where
  -- The first levels with edge/level registers and with the level mode of ICW1, and the first sets
  -- that save them.
  pub elcr : ELCR_SINCE ≡ 2
  pub ltim : LTIM_SINCE ≡ 4
  -- The number of cells of a chip in the newest set.
  pub cells : CELLS ≡ 17
