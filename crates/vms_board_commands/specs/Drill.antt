-- The outcome of the command `drill`.
use Rattle.std.specs.Prelude.{ℕ, List, [], ◌∷◌, ◌++◌, codes}
use Rattle.std.specs.Fmt.{decimal}
use Rattle.vms_board.specs.Isa.{machine_of}
use Rattle.vms_commands.specs.Steps.{Gives}
use Rattle.vms_board_commands.specs.Causes.{drill_course}
use Rattle.vms_board_commands.specs.Runs.{Task, text_task}
use Rattle.vms_board_commands.specs.Drills.{Summary, drill_begun, drilled_on, summary_of}

-- The first part of the line: the board and the seed.
unfoldable pub drill_text : (level seed : ℕ) → List ℕ
drill_text level seed = machine_of level ++ (codes " seed " ++ decimal seed)

-- The second part: the number of events, of bytes sent, and of events that raised the interrupt
-- output.
unfoldable pub events_text : (events sent raised : ℕ) → List ℕ
events_text events sent raised =
    codes " events " ++ (decimal events ++ (codes " sent " ++ (decimal sent ++ (codes " raised " ++ decimal raised))))

-- The last part: the number of saves and of their bytes.
unfoldable pub saves_text : (saves bytes : ℕ) → List ℕ
saves_text saves bytes = codes " saves " ++ (decimal saves ++ (codes " bytes " ++ (decimal bytes ++ 10 ∷ [])))

-- The line of a drill's summary.
abbrev pub summary_line : (level seed : ℕ) → Summary → List ℕ
summary_line level seed s = drill_text level seed ++ (events_text s.events s.sent s.raised ++ saves_text s.saves s.bytes)

-- The line of `count` events that `seed` selects, on a board of the level `level`.
abbrev pub drill_line : (level seed count : ℕ) → List ℕ
drill_line level seed count = summary_line level seed (summary_of (drilled_on count (drill_begun level seed)))

-- The task of `drill`.
abbrev pub drill_task : (level seed count : ℕ) → Task
drill_task level seed count = text_task (λ held. Gives (drill_line level seed count)) drill_course
