-- What the code's counts mean.
use Rattle.vms_board_commands.specs.DrillProgress.{Counts}
use Rattle.vms_board_commands.specs.declared.drills.tally.Tally.{Tally}

-- The counts of the specification.
abbrev pub tally_view : Tally → Counts
tally_view t = record { sent = t.sent; raised = t.raised }
