-- The names of other crates, and of this crate's `specs`, that the proofs use.
pub use Rattle.std.proofs.{Math.Nat.div-lt_iff_lt-mul, Math.Nat.div-mul-le_self, Math.Pow.pow_mono, Common.◌≤◌, Common.◌⊎◌}
pub use Rattle.std.proofs.Common.{Bool, List, None, Ok, Option, Some, [], ap, arith, codes, drop, eqb-true, false, get_or, if◌then◌else◌, inl, inr}
pub use Rattle.std.proofs.Common.{length, map, nat_le, not, pos, refl, replicate, set, subst, suc, sym, take, true, zero, ℕ, ℤ, ⊎_elim, ◌%◌, ◌*◌}
pub use Rattle.std.proofs.Common.{◌+◌, ◌-◌, ◌/◌, ◌<◌, ◌==◌, ◌^◌, ◌||◌, ◌↔◌, ◌∙◌, ◌∷◌, ◌≡◌, ◌≢◌}
pub use Rattle.std.proofs.lemmas.Bool.{cases_Bool, cases_eq, cases_lt, cond_both, eq-eqb, false≢true, le-leb, lt-leb, ltb-true, Decides.nat_tests}
pub use Rattle.std.proofs.lemmas.List.{length-map, length-set, get_or-map, get_or-replicate, get_or-set_other, get_or-set_same, get_or_append_left}
pub use Rattle.std.proofs.lemmas.List.FromFn.{get_or-map-range_with_len, length-map-range_with_len}
pub use Rattle.std.proofs.lemmas.Nat.{div-add-mod', le-div, pow_pos}
pub use Rattle.std.specs.{Prelude.nat_lt}
pub use Rattle.vms_kinds.specs.{Codes.InRange, declared.Kind.Kind, declared.Kind.TheVariants.U8}
pub use Rattle.vms_fields.specs.{Clock.mc146818_rows, Clock.place_of_clock, Fields.numbers_of, declared.clock.TheConstants.CMOS}
pub use Rattle.vms_hooks.specs.Numbers.{Numbers}
pub use Rattle.vms_rtc.specs.{Ends.IsNextEnd, Sound.IsSound, declared.rtc.Rtc.Rtc, Cells.carried, Cells.kinds, Cells.named}
pub use Rattle.vms_rtc.specs.Chip.{ends_within, has_mask, period_of_rate, register}
pub use Rattle.vms_rtc.specs.Laws.{CallsKeepSound, FlagIsSetAtMultiples, FlagsAreKept, HasMultiple, IsTold, NumbersAre, PartsAreWhole, ReadsClearFlag}
pub use Rattle.vms_rtc.specs.Laws.{RestoredIsSound, SavedAreCells, SavedIsRestored, SoundMeetsRules, VersionStays}
pub use Rattle.vms_rtc.specs.Saved.{nmi_mask_in, pf_in, register_in, registers_hold, restored, rules, CanRestore, CanSave, MayRestore, hook_restored}
pub use Rattle.vms_rtc.specs.declared.limits.TheConstants.{INDEX_PORT, NEWEST_CLOCK, NMI_SINCE, REGISTERS, REGISTER_A, REGISTER_C, REGISTER_D}
unfoldable pub use Rattle.vms_rtc.specs.{Cells.saved_cells, Ends.moment_of, Saved.chip_of}
unfoldable pub use Rattle.vms_rtc.specs.Chip.{data_read, data_written, index_written, line_of, passed, period_of, power_on, read_of, ticks, written}
use Rattle.dev_base.proofs.CellLaws
pub use CellLaws.{size_at, stands, whole, all_set, bytes_within, one_set, byte, flag, flag-back, number-lt, of_more, of_none, AllHold, carried_rows, of_rows}
pub use Rattle.dev_base.proofs.RuleLaws.{either, grown, quotient_mono, AllTrue, all_true, hook-ok, judged-all, judged-ok, none_failing, ok-hook}
pub use Rattle.dev_base.specs.{Bits.has, Cells.AreOf, Cells.cell_at, Cells.firsts, Cells.flag_number, Cells.nat_of, Levels.IsUpTo, Rules.first_failing}
