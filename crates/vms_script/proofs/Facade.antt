-- The names of other crates, and of this crate's `specs`, that the proofs use.
pub use Rattle.std.proofs.{Math.Bool.and-false, lemmas.Fmt.digits_decimal, lemmas.Grind.common_steps, lemmas.Nat.div-mul-add, lemmas.Nat.mod-mul-add}
pub use Rattle.std.proofs.{lemmas.Option.none-some, lemmas.Result.on_ok_weaker, lemmas.Slice.Eq.bytes_eq-Decides, lemmas.Str.IsUtf8-from_ascii}
pub use Rattle.std.proofs.Common.{Bool, Err, List, None, Ok, Option, Some, [], ap, append_assoc, arith, drop, false, get_or, if◌then◌else◌, length, map}
pub use Rattle.std.proofs.Common.{nat_le, negsuc, not, pos, refl, rules, subst, suc, sym, take, true, zero, ℕ, ℤ, ⊎_elim, ◌%◌, ◌&&◌, ◌*◌}
pub use Rattle.std.proofs.Common.{◌++◌, ◌+◌, ◌-◌, ◌/◌, ◌<◌, ◌==◌, ◌^◌, ◌∙◌, ◌∷◌, ◌≡◌, ◌≤◌}
pub use Rattle.std.proofs.lemmas.Bool.{cond_both, not-true, and_parts, and_right, cases_lt, eq-eqb, eqb-true, leb-true, ne_eqb, Decides.nat_tests}
pub use Rattle.std.proofs.lemmas.List.{append-nil, drop_all, drop_more}
pub use Rattle.std.specs.{Char.digit_char, Fmt.decimal, List.list_all, Prelude.IsAscii, Prelude.codes, Prelude.slice_index, Str.bytes_eq}
pub use Rattle.vms_spec.proofs.ListsAndNumbers.{natural_up, name_byte_high, name_byte_low}
pub use Rattle.vms_spec.specs.Names.{is_name, is_name_byte}
pub use Rattle.vms_spec.specs.Spelling.{first_line, is_digit, longer_line, natural_from, number_spelled}
pub use Rattle.vms_words.proofs.{LineLaws.first_is, LineLaws.first_none, Spells.number_holds, Spells.numerals, Spells.spelled_holds}
pub use Rattle.vms_script.specs.{Lines.save_line, Names.is_shelf_name, declared.line.ScriptFault.ScriptFault, declared.line.ScriptReason.ScriptReason}
pub use Rattle.vms_script.specs.{Trace.bytes_text, Trace.level_text, declared.line.ScriptFault.TheVariants.Bad, declared.line.ScriptFault.TheVariants.NoMemory}
pub use Rattle.vms_script.specs.Grammar.{AreLines, IsEvent, IsLine, ReadsExactly, event_text, line_text, port_text, script_text}
pub use Rattle.vms_script.specs.Lines.{set_spelled, wait_line, wire_line, Happens, Read, Restores, Saves, ScriptLine, byte_line, in_line, is_set_of, is_wait}
pub use Rattle.vms_script.specs.Lines.{line_of_words, line_read, line_split, name_spelled, number_in, or_form, or_range, out_line, play_line, restore_line}
pub use Rattle.vms_script.specs.Refusal.{IsBadHere, IsRefused, RefusesFirst, unended_reason}
pub use Rattle.vms_script.specs.Script.{BadLine, Reading, Split, also, bad, begun, lines_of, lines_read, tail_read, text_read, unended, with_line}
pub use Rattle.vms_script.specs.Views.{IsBadAt, IsPut, IsRefusal, ReadsLines, SaysLines, below_2_64, number_read}
pub use Rattle.vms_script.specs.Words.{byte_spelled, byte_text, digit_spelled, first_word, joined, level_spelled, longer_word, port_spelled}
unfoldable pub use Rattle.vms_script.specs.Script.{script_read}
pub use Rattle.dev_base.specs.declared.limits.TheConstants.{NEWEST}
pub use Rattle.dev_board.specs.{Wires.is_wire, declared.event.Event.Event}
