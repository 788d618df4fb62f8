-- The names of other crates, and of this crate's `specs`, that the proofs use.
pub use Rattle.std.proofs.{Math.ListN.get_or-eq_default, Math.Seq.drop-append_seam, Math.Seq.drop-cons, lemmas.Slice.Eq.bytes_eq-Decides}
use Rattle.std.proofs.Common
pub use Common.{Bool, Err, List, None, Ok, Option, Result, Some, [], ap, append-nil, append_assoc, arith, codes, drop, false, get_or, get_or-set_other}
pub use Common.{if◌then◌else◌, inl, inr, length, map, nat_le, not, pos, refl, slice_set, subst, suc, sum_by, sym, take, true, zero, ℕ, ℤ, ⊎_elim}
pub use Common.{◌&&◌, ◌*◌, ◌++◌, ◌+◌, ◌-◌, ◌<◌, ◌==◌, ◌||◌, ◌∙◌, ◌∷◌, ◌≡◌, ◌≤◌, ◌⊎◌}
pub use Rattle.std.proofs.Math.Bool.{and-false, and-true, and_assoc, or_assoc}
pub use Rattle.std.proofs.lemmas.Bool.{and_from, and_parts, cases_eq, cases_lt, eq-eqb, leb-true, ne_eqb, not-true, or_from, or_parts, or_right}
pub use Rattle.std.proofs.lemmas.List.{append_cancel_left, ext_get_or, get_or-append-add, get_or-map, get_or-set_same, get_or_append_left, length-append}
pub use Rattle.std.proofs.lemmas.List.{length-map, length-set, map-append, map-id, take-append-drop, Sums.sum_by-cons}
pub use Rattle.std.proofs.lemmas.Option.{get_or_from_slice_get, same_Some, some_pair_parts}
pub use Rattle.std.specs.{Fmt.decimal, Fmt.signed_decimal, Str.bytes_eq, List.AllByRecursion, List.flat_map, List.list_all, List.slice_get}
pub use Rattle.vms_kinds.specs.declared.Item.{Item, TheVariants.Num, TheVariants.Struct}
pub use Rattle.vms_kinds.specs.declared.Kind.{Kind, TheVariants.I64, TheVariants.U64}
pub use Rattle.vms_spec.proofs.{WellFormedLaws.ranges, Tables.readers_cells, Tables.elements_fit, Tables.field_size, Tables.first_long, Tables.two_more}
pub use Rattle.vms_spec.proofs.ListsAndNumbers.{name_byte_high, either_of, or_second, not_exceeds, same_number_is, within_all}
pub use Rattle.vms_spec.proofs.WellFormedLaws.{struct_clean, sub_clean, well_good, few_devices, machine_short, or_else_none, Clean, device_parts, get_none}
pub use Rattle.vms_spec.specs.{Images.image_slots, Readiness.rules_are_true, Rules.in_range, Sets.Desc, Sets.Device, Sets.Field, Sets.Set, Sets.Sub}
pub use Rattle.vms_spec.specs.{Spelling.begins_with, Spelling.first_line, Spelling.number_spelled, Streams.is_one_of, Values.values_text, Values.version_text}
pub use Rattle.vms_spec.specs.{declared.Count.Count, declared.Place.Place, declared.ValuesReason.ValuesReason, Good.DefaultsFit, Good.IsFit, Good.IsGood}
pub use Rattle.vms_spec.specs.{Lists.or_else, Names.is_name, Names.is_name_byte, Names.is_sub_name}
pub use Rattle.vms_spec.specs.Images.{own_cells, own_slots, sub_slots, AreVersionsOf, FitsCell, Image, RulesHold, came_slots, default_image, has_cell}
pub use Rattle.vms_spec.specs.Layout.{Cell, Slot, all_hold, capacity_of, cells_from, counted, desc_cells, desc_slots, device_cells, elements_of, field_cells}
pub use Rattle.vms_spec.specs.Layout.{item_size, meanings, no_cell, no_desc, no_field, numbers_of, place_of, struct_cells}
pub use Rattle.vms_spec.specs.Numbers.{exceeds, same_number}
pub use Rattle.vms_spec.specs.Sound.{AreSound, AreSoundFields, IsEarlier, IsNumber, IsOne, IsSound, IsSoundField}
pub use Rattle.vms_spec.specs.Streams.{optional, trailer, written, AreReady, ComeAsNeeded, IsConfiguration, IsReady, IsTrailer, configuration, is_needed}
pub use Rattle.vms_spec.specs.ValuesReading.{Bad, BadLine, CellLine, Read, ReadAll, ReadDevice, ReadSubs, Reader, Standing, Values, ValuesRead, after_machine}
pub use Rattle.vms_spec.specs.ValuesReading.{also, answer_of, are_defaults, device_read, ended, if_bad, is_line, is_said_well, judge_device, judge_devices}
pub use Rattle.vms_spec.specs.ValuesReading.{judge_subs, judged, machine_named, next_line, no_reader, or_bad, put_line, put_number, read_array, read_desc}
pub use Rattle.vms_spec.specs.ValuesReading.{read_devices, read_elements, read_field, read_fields, read_item, read_sub, read_subs, reader, readers, rest_of}
pub use Rattle.vms_spec.specs.ValuesReading.{sub_fails, sub_said, then_subs, with_device, ◌>>=◌}
pub use Rattle.vms_spec.specs.WellFormed.{WellFormed, failing, here}
pub use Rattle.vms_spec.specs.declared.Count.TheVariants.{Counted, Fixed, One}
unfoldable pub use Rattle.vms_spec.specs.{Layout.first, ValuesReading.values_read, WellFormed.first_fault}
pub use Rattle.vms_words.proofs.{Lines.begun, Lines.line_splits, Spells.number_holds, Spells.spelled_holds}
pub use Rattle.vms_words.specs.{Texts.IsShort}
pub use Rattle.vms_bodies.proofs.{SpellLaws.rules_append, BodyOnly.rules_split, Stated.is_same, Stated.ranged, Stated.rules_decide}
pub use Rattle.vms_bodies.proofs.Places.{if_both, names_append, none_joined, elements_same, place_next, there_same}
pub use Rattle.vms_bodies.proofs.WalkLaws.{drop_next, place_first, zero_plus}
pub use Rattle.vms_stream.proofs.Stated.{one_stream_holds, written_holds}
pub use Rattle.vms_stream.specs.Streams.{Takes}
pub use Rattle.vms_elements.proofs.LinesOf.{entry_law, elements_slots, printed_append, text_append, text_is}
pub use Rattle.vms_elements.proofs.Members.{shapes_cells, all_both, all_from, all_more, all_parts, decimal_all, elements_each}
pub use Rattle.vms_elements.proofs.Walk.{AreCounted, walks}
pub use Rattle.vms_elements.specs.Elements.{Element, Number, Rule, Shape, Stand, What, array_elements, behind, cells_in, desc_elements, dotted, elements_from}
pub use Rattle.vms_elements.specs.Elements.{field_elements, index_text, item_elements, no_shape, shape, shapes, single, stand_of}
pub use Rattle.vms_elements.specs.Entries.{Entry, OfNumber, OfSection, OfSub, came_well, device_entries, devices_entries, element_reason, entries, entry_line}
pub use Rattle.vms_elements.specs.Entries.{front_reason, has_default, have_defaults, if_not, line_reason, number_entries, number_reason, part_reason}
pub use Rattle.vms_elements.specs.Entries.{rule_holds, rules_hold, spelled_reason, sub_holds, subs_entries, wanted_reason}
pub use Rattle.vms_elements.specs.Lines.{number_line, printed, section_line, sub_line, text_of}
pub use Rattle.vms_elements.specs.Parts.{CountsUp, cells_of, cells_with, elements_in, is_number, numbers_in, slot_of, slots_of}
pub use Rattle.vms_elements.specs.Reading.{AllUnsaid, AreAtVersions, AreFine, AreShaped, AreUnsaid, IsAtVersion, IsBadLine, IsMachineOf, IsShaped, IsText}
pub use Rattle.vms_elements.specs.Reading.{Reads, Refused, Says, has_line, is_of_cell, is_short}
pub use Rattle.vms_values_laws.specs.{Rounds.FitsText, Rounds.PackedLaw, Rounds.ShownLaw, Rounds.WrittenLaw, Taken.ForMachine, Taken.ForNumber}
pub use Rattle.vms_values_laws.specs.Laws.{AcceptedLaw, LineLaw, OnlyLaw, PrintedLaw, ReadLaw, device_lines, most_lines}
pub use Rattle.vms_values_laws.specs.Said.{Agrees, AreBelow, AreFrom, Meets, Said, put_all, said_line}
pub use Rattle.vms_values_laws.specs.Taken.{ForSection, ForSub, Moved, Taken, demand_of, lines_of, reason_for, Along, AreFineTaken, Begins, Demand, Follows}
