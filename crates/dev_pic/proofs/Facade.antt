-- The names of other crates, and of this crate's `specs`, that the proofs use.
pub use Rattle.std.proofs.{Math.Bool.and-false, Math.Bool.and-true, Math.Bool.or-false, Math.Bool.or-true, Math.Nat.mod-lt, Math.Seq.drop-append_seam}
pub use Rattle.std.proofs.{Math.Seq.take-append_seam, lemmas.List.FromFn.get_or-map-range_with_len}
pub use Rattle.std.proofs.Common.{Bool, Err, IfSome, List, None, Ok, Option, Result, Some, [], ap, arith, bit_or, codes, cond, drop, false, find, get_or}
pub use Rattle.std.proofs.Common.{length, max, min, not, pos, refl, subst, suc, sym, take, true, zero, ℕ, ℤ, ⊎_elim, ◌%◌, ◌&&◌, ◌*◌, ◌++◌}
pub use Rattle.std.proofs.Common.{◌+◌, ◌-◌, ◌/◌, ◌<◌, ◌==◌, ◌^◌, ◌||◌, ◌∙◌, ◌∷◌, ◌≡◌, ◌≢◌, ◌≤◌}
pub use Rattle.std.proofs.lemmas.Bool.{cases_lt, cond_both, false≢true, Decides.nat_tests}
pub use Rattle.std.proofs.lemmas.Nat.{and_le_l, and_le_r, div-add-mod', or_of_8, pow_below, pow_pos}
pub use Rattle.std.proofs.lemmas.Nat.Bits.{bit_at-lt, bit_at-pow_other, bit_at-pow_same, bit_at-trailing_zeros, bit_at-zero, bit_at_above, bit_at_and}
pub use Rattle.std.proofs.lemmas.Nat.Bits.{bit_at_cat_high, bit_at_cat_low, bit_at_not, bit_at_or, same_from_bits, same_from_bits_below}
pub use Rattle.std.specs.{Int.bit_at, Int.rotate_right, Int.trailing_zeros, Int.w8, Int.Count.trailing_of_zero, Prelude.bit_and, Prelude.nat_le}
pub use Rattle.vms_kinds.specs.declared.Kind.TheVariants.{U8}
pub use Rattle.vms_fields.specs.{Fields.cells_under, Pic.i8259_rows}
pub use Rattle.vms_hooks.specs.{Numbers.Numbers, declared.fault.HookFault.HookFault}
pub use Rattle.dev_base.proofs.CellLaws.{byte, flag, flag-back, number-lt, AllHold, carried_rows, none_lacks, of_rows, one_holds}
pub use Rattle.dev_base.proofs.RuleLaws.{either, AllTrue, all_true, first_failing_is_first, hook-ok, judged-all, judged-ok, none_failing, ok-hook}
pub use Rattle.dev_base.specs.{Bits.has, Rules.first_failing, declared.limits.TheConstants.NEWEST, Levels.IsLevel, Levels.MayRestore}
pub use Rattle.dev_base.specs.Cells.{AreOf, flag_number}
unfoldable pub use Rattle.dev_base.specs.{Hooks.hook_result, Rules.judged_by}
unfoldable pub use Rattle.dev_pic.specs.{Bits.but_not, Bits.with_input, Bits.without_input, Saved.by_number, Saved.pair_of}
unfoldable pub use Rattle.dev_pic.specs.Cells.{chip_of, levels_hold, mode_holds, registers_hold, requests_hold, saved_cells}
unfoldable pub use Rattle.dev_pic.specs.Chip.{answered, cascaded, commanded, elcr_written, ended, ended_lowest, level_inputs, polled_by, read_of, selected}
unfoldable pub use Rattle.dev_pic.specs.Chip.{served_of, settled, started, taken, winner_at, written_even, written_odd_in}
unfoldable pub use Rattle.dev_pic.specs.Pair.{acked_for, chip_on, lines_of, power_on, read_pair, settled_pair, slave_int_of, written_pair}
unfoldable pub use Rattle.dev_pic.specs.Winner.{highest_of, ready_among, winner_of}
pub use Rattle.dev_pic.specs.{Chip.rising, Ocw2.HasInput, Ocw2.command_of, SheetNumbers.NumbersAre, declared.chip.Chip.Chip, declared.chip.InitState.InitState}
pub use Rattle.dev_pic.specs.{declared.chip.Role.Role, declared.fault.ChipFault.ChipFault, declared.ocw2.Ocw2.Ocw2, declared.pair.PicPair.PicPair, Pair.acked}
pub use Rattle.dev_pic.specs.{Pair.is_port, Pair.with_cascade, Laws.SoundMeetsRules, Laws.StepsKeepLevel}
pub use Rattle.dev_pic.specs.Cells.{IsChipCells, carried, cell_count, cell_in, flag_in, kinds, named, restored, rules, state_number, state_of}
pub use Rattle.dev_pic.specs.Chip.{vector_of, cascade_input, elcr_mask, highest_served, in_service_of, level_inputs_of, ltim_after, requests_of}
pub use Rattle.dev_pic.specs.Laws.{StepsKeepRegisters, TakesLinesOver, TakesWinner, WinnerIsLeastRequest, AckWithoutWinner, EndsService, EoiEndsHighest}
pub use Rattle.dev_pic.specs.Laws.{FaultsAreTold, InitializesByWords, IsHighestServed, LevelInputsAre, LinesAreKept, LinesAreTaken, MaskedNeverWins}
pub use Rattle.dev_pic.specs.Laws.{NestsSpecially, PollsOnce, RestoredIsSound, RotatesAtOnce, SavedAreCells, SavedIsRestored, ServedBlocksLower}
pub use Rattle.dev_pic.specs.Saved.{CanRestore, CanSave, fault_of, hook_restored, hook_rule, pair_carried, pair_cells, restored_pair}
pub use Rattle.dev_pic.specs.Sound.{HasRegisters, IsSoundChip, IsSoundPair, MeetsRules, PairHasRegisters}
pub use Rattle.dev_pic.specs.Winner.{IsFirstPlace, IsWinner, MeansWinner, before, input_at, order}
pub use Rattle.dev_pic.specs.declared.chip.Role.TheVariants.{Master, Slave}
pub use Rattle.dev_pic.specs.declared.levels.TheConstants.{ELCR_SINCE, LTIM_SINCE}
