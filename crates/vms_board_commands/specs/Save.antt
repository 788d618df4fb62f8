-- The command `save`: the stream that it writes.
use Rattle.std.specs.Prelude.{ℕ, List, Option, None}
use Rattle.vms_board.specs.Family.{Family}
use Rattle.vms_board.specs.Saving.{saved_stream}
use Rattle.vms_board.specs.declared.save.SaveFault.{SaveFault}
use Rattle.vms_board.specs.declared.save.SaveFault.TheVariants as faults
use Rattle.vms_board_streams.specs.Streams.{after_events}
use Rattle.vms_io.specs.Shelves.{Held}
use Rattle.vms_commands.specs.Steps.{Step, Gives, next}
use Rattle.vms_commands.specs.declared.ending.Ending.{Ending}
use Rattle.vms_commands.specs.declared.ending.Ending.TheVariants as endings
use Rattle.vms_session.specs.Events.{events_of}
use Rattle.vms_board_commands.specs.Causes.{save_course}
use Rattle.vms_board_commands.specs.Runs.{Task, text_task}
use Rattle.vms_board_commands.specs.Scripts.{scripted}

-- The stream under the set `set` of the board with this number, at power on, after the events of
-- the script `name`.
abbrev pub saved_after : {S : Type 0} → Family S → (number set : ℕ) → Option Held → List ℕ → Step (List ℕ)
saved_after f number set held name =
    next (scripted None held name) (λ lines. Gives (saved_stream f set (after_events f (events_of lines) (f.power_on number))))

-- The task of `save`.
abbrev pub save_task : {S : Type 0} → Family S → (number set : ℕ) → List ℕ → Task
save_task f number set name = text_task (λ held. saved_after f number set held name) save_course

-- The ending of a save that failed.
abbrev pub ending_by : SaveFault → Ending
ending_by faults.WriteFault = endings.WriteFault
ending_by faults.NoMemory = endings.NoMemory
