-- The events of a script.
use Rattle.std.specs.Prelude.{◌≡◌, ℕ, ◌≤◌, List, [], ◌∷◌, length, take}
use Rattle.dev_board.specs.declared.event.Event.{Event}
use Rattle.vms_script.specs.Lines.{ScriptLine, Happens, Saves, Restores}
use Rattle.vms_board.specs.Family.{Family}
use Rattle.vms_board_streams.specs.Streams.{after_events, answers_to, trace_of}

-- The events of a line, before more events. A line that saves or restores has none.
abbrev pub events_in : ScriptLine → List Event → List Event
events_in (Happens event) events = event ∷ events
events_in (Saves set name) events = events
events_in (Restores name) events = events

-- The events of lines, in order.
abbrev pub events_of : List ScriptLine → List Event
events_of [] = []
events_of (line ∷ lines) = events_in line (events_of lines)

-- The trace of events on a board of a kind.
abbrev pub trace_from : {S : Type 0} → Family S → List Event → S → List ℕ
trace_from f events m = trace_of (answers_to f events m)

-- A board as after some first events.
pub record StopsAmong {S : Type 0} (f : Family S) (events : List Event) (old new : S) : Type 0 where
  pub count : ℕ
  pub within : count ≤ length events
  pub is : new ≡ after_events f (take count events) old
