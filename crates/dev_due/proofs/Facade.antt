-- The names of other crates, and of this crate's `specs`, that the proofs use.
pub use Rattle.std.proofs.Common.{Bool, List, None, Option, Some, [], ap, append-nil, arith, false, if◌then◌else◌, inl, inr, length, not, refl, rules, subst, suc, sym}
pub use Rattle.std.proofs.Common.{true, ℕ, ⊎_elim, ◌&&◌, ◌*◌, ◌++◌, ◌+◌, ◌-◌, ◌<◌, ◌==◌, ◌||◌, ◌∙◌, ◌∷◌, ◌≡◌, ◌≤◌, ◌⊎◌}
pub use Rattle.std.proofs.lemmas.Bool.{cases_lt, false_from_ne_true, false≢true, le-leb, lt-leb, not_from_false, or_right, Decides.nat_tests}
pub use Rattle.std.proofs.lemmas.Option.{same_Some}
pub use Rattle.std.specs.Prelude.{IfSome, is_some, nat_le, nat_lt}
pub use Rattle.vms_rtc.specs.{Chip.ends_within, Ends.has_come, Ends.period_in, declared.rtc.Rtc.Rtc}
unfoldable pub use Rattle.vms_rtc.specs.Chip.{passed}
pub use Rattle.dev_base.proofs.RuleLaws.{either}
pub use Rattle.dev_base.specs.{Bits.has, Bits.same, declared.limits.TheConstants.LAST_MOMENT}
pub use Rattle.dev_board.proofs.SoundLaws.{loaded}
use Rattle.dev_board.specs
pub use specs.{Sound.IsSound, State.State, Step.later_by, declared.event.Answer.Answer, declared.event.Event.Event, declared.event.Event.TheVariants.Wait}
unfoldable pub use specs.{Step.acted, Step.after_act, Step.inputs_of, Step.settled, Step.step, Step.waited, Step.wires_after, Wires.wires_of}
pub use Rattle.dev_clock.specs.State.{ClockState}
unfoldable pub use Rattle.dev_clock.specs.Step.{follows_line}
pub use Rattle.dev_due.specs.Boards.{IsEnd, board_int, character_of, clock_int, devices_of, shows_at, shows_of, timer_of}
pub use Rattle.dev_due.specs.Due.{OneIsDue, shows}
pub use Rattle.dev_due.specs.Search.{Finds, Found, FoundAt, FoundSend, FoundSends, IsBy, IsSegment, SameClock, SameLine, Shown, Tried}
pub use Rattle.dev_due.specs.declared.boards.Board.{Board, TheVariants.Clock, TheVariants.Isa}
pub use Rattle.dev_pit.proofs.CallLaws.{pit-later}
pub use Rattle.dev_pit.specs.{Pit.IsLoadedBy, Pit.counter_of, Turns.AreTurns, Turns.IsTurn, declared.pit.Pit.Pit, declared.turns.Turns.Turns}
pub use Rattle.dev_pit.specs.Counter.{LoadedBy, edge_of, out_of}
unfoldable pub use Rattle.dev_pit.specs.Pit.{pit_edge, pit_out}
pub use Rattle.dev_serial.proofs.{SendingLaws.bytes_of-timetable}
pub use Rattle.dev_serial.proofs.WaitLaws.{advances_in_parts, character-positive, loops_at_moment, still, waits_until_due}
pub use Rattle.dev_serial.specs.{Line.character_time, Parts.ReceiverState, Parts.TransmitterState, Port.Port, Port.mode_of, Sound.IsShift, Transmit.IsSentAfter}
pub use Rattle.dev_serial.specs.{Transmit.bytes_of, declared.shift.Shift.Shift}
unfoldable pub use Rattle.dev_serial.specs.{Access.advanced, Port.interrupt, Port.line_of, Receive.received}
unfoldable pub use Rattle.dev_serial.specs.Transmit.{departures, gone, holding, run_until, staying, timetable}
