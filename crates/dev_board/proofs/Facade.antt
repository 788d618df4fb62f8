-- The names of other crates, and of this crate's `specs`, that the proofs use.
pub use Rattle.std.proofs.{lemmas.Bool.Decides.Decides-eqb, lemmas.Bool.Decides.nat_tests, lemmas.Grind.and_numeral}
pub use Rattle.std.proofs.Common.{Bool, Err, List, None, Ok, Option, Result, Some, [], ap, arith, bit_and, bit_or, cond, drop, false, if◌then◌else◌, inl}
pub use Rattle.std.proofs.Common.{inr, length, length-append, max, min, not, pos, refl, subst, suc, sym, take, true, zero, ℕ, ℤ, ⊎_elim, ◌%◌}
pub use Rattle.std.proofs.Common.{◌&&◌, ◌*◌, ◌+◌, ◌-◌, ◌/◌, ◌<◌, ◌==◌, ◌^◌, ◌||◌, ◌∙◌, ◌∷◌, ◌≡◌}
pub use Rattle.std.proofs.{Common.◌≢◌, Common.◌≤◌, Common.◌⊎◌, Math.Bool.and-false, Math.Bool.and-true, Math.Bool.or-false, Math.Bool.or-true}
pub use Rattle.std.proofs.lemmas.Bool.{and_from, cases_eq, cases_lt, cond_both, false≢true, or_parts}
pub use Rattle.std.proofs.lemmas.Nat.{and_le_l, and_le_r, or_of_16, or_of_8, pow_below, Bits.bit_at_cat_high, Bits.bit_at_cat_low, Bits.bit_at_not}
pub use Rattle.std.proofs.lemmas.Nat.Bits.{bit_at_or, same_from_bits, same_from_bits_below, and_pow, bit_at-lt, bit_at-pow_other, bit_at-zero, bit_at_and}
pub use Rattle.std.specs.{Int.bit_at, Int.w16, Int.w8, Prelude.IfSome, Prelude.is_some, Prelude.nat_le, Prelude.nat_lt}
pub use Rattle.dev_base.proofs.{CellLaws.long, CellLaws.of_more, CellLaws.of_none, RuleLaws.either, RuleLaws.hook-ok, RuleLaws.judged-ok, RuleLaws.ok-hook}
pub use Rattle.dev_base.specs.{Bits.bits_where, Bits.has, Cells.AreOf, Levels.IsLevel, Levels.MayRestore, Levels.MaySave}
pub use Rattle.dev_base.specs.declared.limits.TheConstants.{LAST_MOMENT, NEWEST}
use Rattle.dev_board.specs
pub use specs.{Kept.IsCalm, Kept.calm_by, Kept.later, Laws.PortsAre, Laws.SoundStays, Laws.StaysAlike, Ports.read, Ports.write, Saved.pit_back, Saved.restored}
pub use specs.{SheetNumbers.NumbersAre, State.State, Step.Act, Step.after_all, Step.later_by, Step.valued, Touch.time_touches, View.parts_view, Wires.AreWires}
pub use specs.{Wires.is_wire, declared.cells.BoardCells.BoardCells, declared.event.Answer.Answer, declared.event.Event.Event, declared.misfit.Misfit.Misfit}
pub use specs.{declared.ports.Target.Target, declared.touch.Before.Before, declared.touch.Touch.Touch, declared.wires.TheConstants.DRIVEN}
pub use specs.{declared.wires.TheConstants.WIRES, Touch.read_touches, Touch.saying, declared.misfit.Misfit.TheVariants.LinesDisagree}
unfoldable pub use specs.{Ports.read_at, Ports.target_of, Ports.written_at, State.power_on, Wires.wires_of, Wires.with_wire}
pub use Rattle.dev_board.specs.Laws.{WiresStay, moment_left, wire_left, AlikeStays, AnswersAlike, AnswersTellInt, AreEvents, ClockGoesOn, IsEvent, Likeness}
pub use Rattle.dev_board.specs.Saved.{serial_back, timer_kinds, AreBoardCells, AreSavedCells, MaySaveUnder, moment_of, numbers_at, numbers_back, pair_back}
pub use Rattle.dev_board.specs.SavedLaws.{ComesBack, IsTold, RestoredIsSound, SavedAreCells, SavedComesBack, SavedGoesOn, SoundMeetsRules}
pub use Rattle.dev_board.specs.Sound.{Alike, HasDevices, HasLines, IsSound}
pub use Rattle.dev_board.specs.Touch.{write_touches, HasTaken, IsBefore, IsSettled, Stays, asks_port, asks_timer, calm_after, is_access, is_nothing}
pub use Rattle.dev_board.specs.declared.event.Event.TheVariants.{Ack, Byte, Read, Wait, Wire, Write}
pub use Rattle.dev_board.specs.declared.misfit.TheConstants.{MASTER_DEVICE, PIT_DEVICE, SERIAL_DEVICE}
pub use Rattle.dev_board.specs.declared.ports.Target.TheVariants.{Control, Counter, Nothing, Pair, Register}
pub use Rattle.dev_board.specs.declared.touch.Touch.TheVariants.{Access, Command, Untouched}
unfoldable pub use Rattle.dev_board.specs.Saved.{agreed, by_chip, by_device, carried, joined, lines_agree, saved, timed}
unfoldable pub use Rattle.dev_board.specs.Step.{acted, after_act, after_by, answers_by, inputs_of, names_wire, settled, step, waited, wires_after}
unfoldable pub use Rattle.dev_board.specs.Touch.{ack_touches, is_command, is_quiet, is_untouched, leaves_port}
pub use Rattle.dev_pic.proofs.{LineLaws.lines_are_taken, SavedLaws.pair-same, SavedLaws.pair-told}
pub use Rattle.dev_pic.proofs.BitLaws.{and-twice, each_input, has-and, has-one, has-one_other, has-or, level_inputs-lt, not_test, without_input-lt}
pub use Rattle.dev_pic.proofs.SavedLaws.{pair-sound, saved-count, saved_are_cells, set-of, slave_cells, carried-saved, fault-told, master_cells, pair-restored}
pub use Rattle.dev_pic.proofs.StepLaws.{steps_keep_registers, Keeps, even-keeps, odd-keeps, winner-lt}
pub use Rattle.dev_pic.specs.{Cells.kinds, Cells.saved_cells, Chip.level_inputs_of, Pair.acked, Pair.from_slave, Pair.int_of, Pair.is_port, Pair.read_pair}
pub use Rattle.dev_pic.specs.{Pair.with_cascade, Saved.hook_restored, Saved.pair_cells, Saved.restored_pair, Sound.IsSoundPair, Sound.PairHasRegisters}
pub use Rattle.dev_pic.specs.{declared.chip.Chip.Chip, declared.fault.ChipFault.ChipFault, declared.pair.PicPair.PicPair}
unfoldable pub use Rattle.dev_pic.specs.{Bits.but_not, Bits.without_input, Cells.requests_hold, Winner.ready_among, Winner.winner_of}
unfoldable pub use Rattle.dev_pic.specs.Chip.{answered, cascaded, served_of, taken, winner_at}
unfoldable pub use Rattle.dev_pic.specs.Pair.{acked_for, chip_on, lines_of, settled_pair, slave_int_of, written_pair}
pub use Rattle.dev_pit.proofs.{EdgeLaws.edge_in_parts, SoundLaws.sound_stays, SavedLaws.pit-restored, SavedLaws.pit_of-saved}
pub use Rattle.dev_pit.proofs.CallLaws.{at_step, read-goes_on, same}
pub use Rattle.dev_pit.specs.{Cells.AreCellsOf, Cells.pit_cells, Counter.edge_since, GoesOn.GoesOn, Pit.IsLoadedBy, Pit.IsPort, Pit.counter_of, Pit.pit_written}
pub use Rattle.dev_pit.specs.{Saved.pit_of, Saved.restored_pit, Saved.rules, Sound.IsSoundPit, Turns.AreTurns, Turns.IsTurn, declared.mode.Mode.Mode}
pub use Rattle.dev_pit.specs.{declared.pit.Pit.Pit, declared.turns.Turns.Turns}
unfoldable pub use Rattle.dev_pit.specs.{Count.rises, Counter.edge_of, Counter.out_of, Counter.powered_on, Pit.new_pit, Pit.pit_edge, Pit.pit_out, Pit.pit_read}
pub use Rattle.dev_serial.proofs.{SavedCells.numbers-back, SavedLaws.restored-saved, WaitLaws.still}
pub use Rattle.dev_serial.proofs.AlikeLaws.{advances_alike, alike_back, alike_itself, alike_on, bytes_in_alike, lines_alike, reads_alike, writes_alike}
pub use Rattle.dev_serial.proofs.KeepLaws.{advances_keep_sound, bytes_in_keep_sound, power_on_is_sound, reads_keep_sound, writes_keep_sound}
pub use Rattle.dev_serial.proofs.RegisterLaws.{advances_keep_level, bytes_in_keep_level, reads_keep_level, writes_keep_level}
pub use Rattle.dev_serial.specs.{Laws.IsSoundAt, Port.Port, Saved.cells_at, Saved.restored_cells}
pub use Rattle.dev_serial.specs.Access.{advanced, came_in, lsr_read, read_of, written}
unfoldable pub use Rattle.dev_serial.specs.{Access.lsr_of, Port.interrupt, Port.line_of}
