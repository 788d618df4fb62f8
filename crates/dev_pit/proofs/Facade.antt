-- The names of other crates, and of this crate's `specs`, that the proofs use.
pub use Rattle.std.proofs.{Common.◌-◌, Common.◌/◌, Common.◌<◌, Common.◌==◌, Common.◌^◌, Math.ListN.get_or-append}
pub use Rattle.std.proofs.Common.{◌||◌, ◌∙◌, ◌∷◌, ◌≡◌, ◌≤◌, ◌⊎◌, Bool, List, None, Ok, Option, Some, [], ap, arith, codes, cond, false, inl, inr, length, not}
pub use Rattle.std.proofs.Common.{refl, rules, slice_index_or, slice_set, subst, suc, sym, true, zero, ℕ, ℤ, ⊎_elim, ◌%◌, ◌&&◌, ◌*◌, ◌++◌, ◌+◌}
pub use Rattle.std.proofs.Math.Nat.{mul-le-mul_right}
pub use Rattle.std.proofs.lemmas.Bool.{cases_Bool, cases_lt, le-leb, Decides.nat_tests}
pub use Rattle.std.proofs.lemmas.List.{get_or-append-add, get_or_default, length-set}
pub use Rattle.std.proofs.lemmas.Nat.{div-add-mod', div-mul-add, le-div, mod-mul-add}
pub use Rattle.std.specs.Prelude.{is_some, nat_le, nat_lt}
pub use Rattle.vms_kinds.specs.{Codes.InRange, declared.Kind.Kind}
pub use Rattle.vms_kinds.specs.declared.Kind.TheVariants.{U8}
pub use Rattle.vms_fields.specs.{Fields.kinds_under, Fields.numbers_of, Pit.channel_rows, Pit.status_rows}
pub use Rattle.vms_fields.specs.declared.pit.TheConstants.{CELLS, CHANNEL_CELLS, STATUS_LATCHED, STATUS_SINCE}
pub use Rattle.vms_hooks.specs.Numbers.{Numbers}
pub use Rattle.dev_base.proofs.CellLaws.{byte, flag, flag-back, long, number-lt, of_both, of_more, of_none, word, AllHold, carried_rows, of_rows, one_holds}
pub use Rattle.dev_base.proofs.RuleLaws.{either, grown, quotient_mono, AllTrue, all_true, hook-ok, judged-all, judged-ok, none_failing, ok-hook}
pub use Rattle.dev_base.specs.{Cells.AreOf, Cells.cell_at, Cells.flag_at, Cells.flag_number, Cells.kind_at, Cells.number_at, Levels.IsLevel, Levels.MayRestore}
pub use Rattle.dev_base.specs.{Rules.first_failing, declared.limits.TheConstants.LAST_MOMENT, declared.limits.TheConstants.NEWEST}
pub use Rattle.dev_pit.specs.{Channel.held_if, Control.control_word, Count.high_part, Count.period, GoesOn.GoesOn, Pit.IsLoadedBy, Pit.counter_of}
pub use Rattle.dev_pit.specs.{Pit.with_counter, SheetNumbers.NumbersAre, declared.channel.Channel.Channel, declared.control.ControlWord.ControlWord}
pub use Rattle.dev_pit.specs.{declared.counter.Counter.Counter, declared.limits.TheConstants.READ_BACK_LEVEL, declared.mode.Access.Access}
pub use Rattle.dev_pit.specs.{declared.mode.Mode.Mode, declared.pit.Pit.Pit, declared.turns.Marks.Marks, declared.turns.Turns.Turns, Sound.HasWidths}
pub use Rattle.dev_pit.specs.{Sound.HeldBelow, Sound.IsSoundCounter, Sound.IsSoundPit, Turns.AreTurns, Turns.IsTurn, Turns.Turned, Turns.marks_of}
pub use Rattle.dev_pit.specs.Calls.{Call, IsCall, completes, is_last, reads, sets_mode_of, writes}
pub use Rattle.dev_pit.specs.Cells.{AreCellsOf, IsChannelAt, IsPitCells, carried, channel_in, channel_kinds, channel_place, field_place, kinds_of}
pub use Rattle.dev_pit.specs.Cells.{latched_place, named, named_statuses, status_place}
pub use Rattle.dev_pit.specs.Counter.{LoadedBy, edge_since, held_or}
pub use Rattle.dev_pit.specs.Laws.{CountingGoesOn, EdgeInParts, EdgeTurnsHigh, LatchStays, ReadBackByLevel, RestoredIsSound, SavedAreCells, SavedIsRestored}
pub use Rattle.dev_pit.specs.Laws.{SecondsHaveTicks, SoundMeetsRules, SoundStays, StatusTells, StepsKeepLevel, TellsStatus, TerminalCountStays, TicksGoOn}
pub use Rattle.dev_pit.specs.Mode.{access_number, access_of, mode_number, mode_of}
pub use Rattle.dev_pit.specs.Saved.{CanRestore, CanSave, hook_restored, restored_pit, three_hold}
pub use Rattle.dev_pit.specs.declared.control.ControlWord.TheVariants.{LatchCount, ReadBack, SetMode}
pub use Rattle.dev_pit.specs.declared.mode.Access.TheVariants.{HighByte, LowByte, LowThenHigh}
pub use Rattle.dev_pit.specs.declared.mode.Mode.TheVariants.{RateGenerator, SoftwareStrobe, SquareWave, TerminalCount}
unfoldable pub use Rattle.dev_pit.specs.{Calls.called, Calls.loads, Calls.programs, Calls.reads_latch, Count.live_at, Count.out_at, Count.rises, Count.square}
unfoldable pub use Rattle.dev_pit.specs.{Count.ticks, Counter.programmed, Counter.read_back, Counter.read_of, Saved.pit_of, Turns.moment_of}
unfoldable pub use Rattle.dev_pit.specs.Cells.{channel_at, channel_cells, pit_cells, status_cells, three_cells}
unfoldable pub use Rattle.dev_pit.specs.Channel.{channel_of, counter_from, moment_holds, registers_hold, status_holds, toggles_hold}
unfoldable pub use Rattle.dev_pit.specs.Counter.{status_latched, status_of, written, counted_of, edge_of, latched, live_of, loaded, out_of, powered_on}
unfoldable pub use Rattle.dev_pit.specs.Pit.{asked_back, controlled, new_pit, pit_out, pit_read, pit_written}
