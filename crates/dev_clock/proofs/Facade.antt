-- The names of other crates, and of this crate's `specs`, that the proofs use.
use Rattle.std.proofs.Common
pub use Common.{Bool, Err, List, Ok, Result, [], ap, arith, nat_le, refl, subst, sym, ℕ, ℤ, ◌<◌, ◌==◌, ◌∙◌, ◌∷◌, ◌≡◌, ◌≤◌}
pub use Rattle.vms_hooks.specs.Numbers.{Numbers}
pub use Rattle.vms_rtc.proofs.{StepLaws.version_stays, StepLaws.calls_keep_sound, SavedLaws.same-chip, SavedLaws.restored-own, SavedLaws.saved_is_restored}
pub use Rattle.vms_rtc.specs.{Cells.kinds, Saved.CanRestore, Saved.hook_restored, declared.limits.TheConstants.NEWEST_CLOCK, declared.rtc.Rtc.Rtc}
pub use Rattle.vms_rtc.specs.Chip.{is_port, passed, read_of}
unfoldable pub use Rattle.vms_rtc.specs.{Cells.saved_cells, Chip.line_of}
pub use Rattle.dev_base.proofs.RuleLaws.{either, AllTrue, hook-ok, judged-ok, none_failing, ok-hook}
pub use Rattle.dev_base.specs.{Bits.has, Bits.same, Cells.AreOf, Cells.number_at, Levels.IsLevel, Levels.IsUpTo}
pub use Rattle.dev_base.specs.declared.limits.TheConstants.{LAST_MOMENT, NEWEST}
pub use Rattle.dev_board.proofs.{WireLaws.wires_stay, RestoredLaws.chip-ok, RestoredLaws.device-ok}
pub use Rattle.dev_board.proofs.SavedLaws.{stays-alike, same-is, same-refl}
pub use Rattle.dev_board.specs.{Laws.AnswersAlike, Laws.AreEvents, Laws.IsEvent, Laws.moment_left, Saved.lines_agree, Saved.moment_of, State.State}
pub use Rattle.dev_board.specs.{declared.cells.BoardCells.BoardCells, declared.event.Answer.Answer, declared.event.Event.Event, declared.misfit.Misfit.Misfit}
pub use Rattle.dev_board.specs.declared.event.Event.TheVariants.{Read, Wait, Wire, Write}
unfoldable pub use Rattle.dev_board.specs.{Saved.agreed, Saved.by_chip, Saved.by_device, Saved.timed, Step.after_by, Step.names_wire}
pub use Rattle.dev_clock.specs.{SheetNumbers.NumbersAre, State.ClockState, Step.after_all, Step.clock_read, Step.clock_written, Step.on_board, View.clock_view}
pub use Rattle.dev_clock.specs.{declared.cells.ClockCells.ClockCells, declared.devices.TheConstants.CLOCK_INPUT, Sound.Alike, Sound.HasDevices, Sound.IsSound}
pub use Rattle.dev_clock.specs.Laws.{AlikeStays, AnswersTellInt, ClockGoesOn, SoundStays}
pub use Rattle.dev_clock.specs.Saved.{AreClockCells, AreSavedCells, IsPlaced, MaySaveUnder, clock_back, numbers_back, restored, slave_line}
pub use Rattle.dev_clock.specs.SavedLaws.{ComesBack, IsTold, RestoredIsSound, SavedAreCells, SavedComesBack, SavedGoesOn, SoundMeetsRules}
pub use Rattle.dev_clock.specs.declared.saved.TheConstants.{CLOCK_DEVICE, LINES_CELL, LINE_RULE}
unfoldable pub use Rattle.dev_clock.specs.{State.power_on, Step.acted, Step.follows_line, Step.step, Step.waited}
unfoldable pub use Rattle.dev_clock.specs.Saved.{carried, joined, saved, with_line}
pub use Rattle.dev_pic.proofs.SavedLaws.{carried-saved}
pub use Rattle.dev_pic.specs.{Cells.rules, Sound.IsSoundPair, declared.chip.Chip.Chip, declared.pair.PicPair.PicPair}
unfoldable pub use Rattle.dev_pic.specs.{Cells.chip_of, Pair.chip_on, Pair.lines_of, Saved.pair_of}
pub use Rattle.dev_pit.specs.declared.pit.Pit.{Pit}
pub use Rattle.dev_serial.specs.Port.{Port}
