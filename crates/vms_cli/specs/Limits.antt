-- The limits of the program. Definitions cite each by the constant that the code uses too. Here are the numbers.
use Rattle.std.specs.Prelude.{◌≡◌}
use Rattle.dev_base.specs.declared.limits.TheConstants.{NEWEST, LAST_MOMENT, NANOSECONDS}
use Rattle.vms_kinds.specs.declared.TheConstants.{MOST_CELLS, NEWEST_SET}
use Rattle.vms_rtc.specs.declared.limits.TheConstants.{NEWEST_CLOCK}
use Rattle.vms_script.specs.declared.number.TheConstants.{LONGEST_WAIT}
use Rattle.vms_spots.specs.declared.layout.TheConstants.{MOST_BYTES}
use Rattle.vms_spec.specs.declared.TheConstants.{LONGEST_NAME, LONGEST_TEXT, MOST_ITEMS, MOST_UNUSED}
use Rattle.vms_board_commands.specs.Scripts.{longest_script}
use Rattle.vms_commands.specs.Fetching.{longest_file}
use Rattle.vms_cli.specs.Commands.DrillCommand.{most_events}

-- The numbers.
pub record LimitsLaw : Type 0 where
  -- the most bytes of a description file or a values text, and of a script
  pub file : longest_file ≡ 1048576
  pub script : longest_script ≡ 4194304
  -- the most events of a drill, and the most nanoseconds that a line of a script waits
  pub events : most_events ≡ 1000000
  pub wait : LONGEST_WAIT ≡ 1000000000000000
  -- the most bytes of a name and of a description in a stream
  pub name : LONGEST_NAME ≡ 255
  pub described : LONGEST_TEXT ≡ 16777216
  -- the most items of a set, and the most unused bytes in one place
  pub items : MOST_ITEMS ≡ 16384
  pub unused : MOST_UNUSED ≡ 4096
  -- the most cells of a device of a board, and a bound on the bytes of a device's image
  pub cells : MOST_CELLS ≡ 96
  pub image : MOST_BYTES ≡ 131072
  -- the newest shipped sets, which are also the highest level and version of a board
  pub newest_set : NEWEST_SET ≡ 4
  pub newest : NEWEST ≡ 4
  pub newest_clock : NEWEST_CLOCK ≡ 2
  -- the last moment of a board, and a second, in nanoseconds
  pub last_moment : LAST_MOMENT ≡ 4000000000000000000
  pub second : NANOSECONDS ≡ 1000000000
