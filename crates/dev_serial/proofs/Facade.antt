-- The names of other crates, and of this crate's `specs`, that the proofs use.
pub use Rattle.std.proofs.{Math.Bool.and-false, Math.Bool.and-true, Math.Bool.or-true, lemmas.Grind.common_steps, lemmas.Nat.and_le_r, lemmas.Nat.le-div}
pub use Rattle.std.proofs.{Math.Nat.le-max_right, Math.Nat.mul-le-mul, lemmas.List.Folds.list_all_at, lemmas.List.Folds.list_all_more}
pub use Rattle.std.proofs.Common.{Bool, List, None, Ok, Option, Some, [], ap, append-nil, append_assoc, arith, cond, drop, false, get_or, if◌then◌else◌}
pub use Rattle.std.proofs.Common.{inl, length, length-append, map, min, nat_eq, negsuc, not, pos, refl, replicate, subst, suc, sym, take, true, zero, ℕ, ℤ}
pub use Rattle.std.proofs.Common.{◌%◌, ◌&&◌, ◌*◌, ◌++◌, ◌+◌, ◌-◌, ◌/◌, ◌<◌, ◌==◌, ◌^◌, ◌||◌, ◌∙◌, ◌∷◌}
pub use Rattle.std.proofs.{Common.◌≡◌, Common.◌≤◌, Common.◌⊎◌, lemmas.Bool.or_right, lemmas.Bool.Decides.nat_tests}
pub use Rattle.std.proofs.lemmas.Bool.{and_from, and_parts, cond_both, eq-eqb, eqb-false, le-leb, leb-true, lt-leb, ltb-true, ne_eqb, not-false, not-true}
pub use Rattle.std.proofs.lemmas.List.{get_or-append-add, get_or-map, get_or_append_left, get_or_past, length-map, length-set, map-append, nil_from_length}
pub use Rattle.std.proofs.lemmas.List.Elements.{All-cons, All-nil}
pub use Rattle.std.proofs.lemmas.List.FromFn.{get_or-map-range_with_len, get_or-range_with_len, length-map-range_with_len}
pub use Rattle.std.specs.{List.list_all, List.range_with_len, Ordering.int_eq}
pub use Rattle.std.specs.Prelude.{bit_and, bit_or, is_some, max, nat_le, nat_lt, remove}
pub use Rattle.vms_kinds.specs.{Codes.InRange, Codes.is_signed, declared.Kind.Kind}
pub use Rattle.vms_kinds.specs.declared.Kind.TheVariants.{I8, Timer, U16, U8}
pub use Rattle.vms_fields.specs.Serial.{serial_rows}
use Rattle.vms_fields.specs.declared.serial.TheConstants
pub use TheConstants.{DIVISOR, RX, RX_COUNT, RX_DATA, RX_HEAD, RX_NUMBER, THR_IPENDING, TIMEOUT_AT, TX, TX_COUNT, TX_DATA, TX_DUE, TX_HEAD, TX_NUMBER}
pub use Rattle.vms_hooks.specs.Numbers.{Numbers}
pub use Rattle.dev_base.proofs.CellLaws.{all_set, bytes_within, firsts_more, one_set, byte, number-lt, of_more, of_none, timer, word, AllHold, AllLack}
pub use Rattle.dev_base.proofs.CellLaws.{carried_rows, none_lacks, of_rows, one_holds}
pub use Rattle.dev_base.proofs.RuleLaws.{either, first_failing_is_first, hook-ok, judged-all, judged-ok}
pub use Rattle.dev_base.specs.{Levels.IsLevel, Tables.since, declared.limits.TheConstants.LAST_MOMENT, declared.limits.TheConstants.NEWEST}
pub use Rattle.dev_base.specs.{Bits.bits_where, Bits.has, Bits.same, Rules.IsFirstFailing, Rules.first_failing, Rules.judged}
pub use Rattle.dev_base.specs.Cells.{AreOf, cell_at, firsts, kind_at, nat_of, number_at}
unfoldable pub use Rattle.dev_base.specs.{Hooks.hook_result, Rules.judged_by}
use Rattle.dev_serial.specs
pub use specs.{Line.character_bits, Places.PlacesAre, Receive.emptied, Receive.taken, RoomLaws.RoomIsHeld, RoomLaws.all_came, SheetNumbers.NumbersAre}
pub use specs.{declared.interrupt.Interrupt.Interrupt, declared.mode.Mode.Mode, declared.mode.TheConstants.LONGEST_CHARACTER}
pub use specs.{declared.numbers.PortNumbers.PortNumbers, declared.numbers.TheConstants.NEVER, declared.shift.Shift.Shift, declared.stored.Counted.Counted}
pub use specs.{declared.stored.Ring.Ring, declared.trigger.Trigger.Trigger, Laws.SavedAreCells, Laws.SavedComesBack, Laws.SavesAlike, Laws.SoundMeetsRules}
unfoldable pub use specs.{Access.msr_of, Access.read_of, Line.character_time, Recast.recast_cells, Receive.received, Receive.taken_at, Stored.ring_holds}
unfoldable pub use specs.{Port.interrupt, Port.line_of, Port.power_on, PortNumbers.port_of, PortNumbers.saved}
pub use Rattle.dev_serial.specs.Access.{id_read, is_empty, leaving, lsr_read, receiver_cleared, room_of, switch_of, transmitter_cleared, with_taken}
pub use Rattle.dev_serial.specs.Cells.{AreBytesIn, IsArray, IsPortCells, array_at, bytes_at, field_kinds, kinds, named, ring_at}
pub use Rattle.dev_serial.specs.Laws.{WritesAlike, WritesKeepLevel, WritesKeepSound, AdvancesAlike, AdvancesKeepLevel, AdvancesKeepSound, AlikeBack}
pub use Rattle.dev_serial.specs.Laws.{AlikeItself, AlikeOn, AnswersAlike, AreSaved, BytesInAlike, BytesInKeepLevel, BytesInKeepSound, HoldsWhatItGives}
pub use Rattle.dev_serial.specs.Laws.{IsSoundAt, LinesAlike, ListsComeBack, PowerOnIsSound, ReadsAlike, ReadsKeepLevel, ReadsKeepSound, RestoredIsSound}
pub use Rattle.dev_serial.specs.Parts.{IsShort, ReceiverState, TransmitterState}
pub use Rattle.dev_serial.specs.Port.{Port, asks, first_asking, has_come, id_number, is_data_ready, is_pending, is_thr_empty, mode_of, priorities}
pub use Rattle.dev_serial.specs.PortNumbers.{bytes_held, due_number, fcr_number, fifo_bytes, fifos_of, in_array, in_ring, ipending_of, latch_of, moment_number}
pub use Rattle.dev_serial.specs.PortNumbers.{moment_of, shift_number, shift_of, single_byte, stored_bytes}
pub use Rattle.dev_serial.specs.Recast.{RecastOnce, array_for, is_in_ring, recast_port, ring_left}
pub use Rattle.dev_serial.specs.RegisterLaws.{HasNoBytes, IdentifiesFirst, IsFirstAsking, IsResetBy, IsSwitched, LineTellsAsking, LoopsModem, ReachesDivisor}
pub use Rattle.dev_serial.specs.RegisterLaws.{ResetsByBits, SomeAsks, StaysOff, SwitchClearsBoth, WritesSwitch}
pub use Rattle.dev_serial.specs.Rules.{is_stored_once, is_unused, longest_timeout, rules}
pub use Rattle.dev_serial.specs.Saved.{CanRestore, CanSave, cells_at, hook_restored, restored_cells}
pub use Rattle.dev_serial.specs.Sending.{Advances, AdvancesInParts, Event, LeavesForLine, LongestCharacter, LoopsAtMoment, ReplacesOne, SendsInOrder}
pub use Rattle.dev_serial.specs.Sending.{WaitsUntilDue, Writes, accepted_in, after, left_in, pending, replaces}
pub use Rattle.dev_serial.specs.Sound.{Alike, AreBytes, HasRegisters, IsByte, IsHeld, IsReceiver, IsShift, IsSound, IsTimeout, IsTold, IsTransmitter}
pub use Rattle.dev_serial.specs.Stored.{behind_head, byte_of, counted_bytes, counted_of, is_held_or_zero, padded, ring_bytes, ring_of}
pub use Rattle.dev_serial.specs.Transmit.{IsSentAfter, bytes_of, gone_by, looped_in, on_line, pending_of}
pub use Rattle.dev_serial.specs.declared.interrupt.Interrupt.TheVariants.{CharacterTimeout, LineStatus, NonePending, ReceivedData, ThrEmpty}
pub use Rattle.dev_serial.specs.declared.levels.TheConstants.{FIFOS_SINCE, RINGS_SINCE, TIMEOUT_SINCE}
pub use Rattle.dev_serial.specs.declared.stored.TheConstants.{ARRAY_CELLS, PORT_CELLS, RING_CELLS}
unfoldable pub use Rattle.dev_serial.specs.Access.{thr_written, queues, written, advanced, came_in, fcr_cleared, fcr_written, ier_written, iir_of, lsr_of}
unfoldable pub use Rattle.dev_serial.specs.Cells.{array_cells, carried, cells_of, field_cells, numbers_of, ring_cells}
unfoldable pub use Rattle.dev_serial.specs.Rules.{rings_hold, shift_holds, status_holds, timeout_holds, unused_hold, fcr_holds, id_holds, latch_holds}
unfoldable pub use Rattle.dev_serial.specs.Rules.{once_holds, registers_hold, restored}
unfoldable pub use Rattle.dev_serial.specs.Sending.{accepted_in_all, after_all, left_in_all}
unfoldable pub use Rattle.dev_serial.specs.Transmit.{arrived, departures, gone, holding, loaded, queued, run_until, staying, timetable}
