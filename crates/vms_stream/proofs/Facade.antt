-- The names of other crates, and of this crate's `specs`, that the proofs use.
use Rattle.vms_spec.proofs.Examples
pub use Examples.{lines, smallest, bare_set, box, constant_set, counted_set, mixed_set, number, subsection_set, tested_set, box_end, box_head, head, hex}
pub use Rattle.vms_spec.proofs.ListsAndNumbers.{sub_first, versions_long, name_byte_low, be32_read, length-code, value_code}
pub use Rattle.vms_spec.proofs.WellFormedLaws.{every_one, set_clean, device_parts, sub_clean, well_good}
pub use Rattle.vms_spec.specs.{declared.TheConstants.LONGEST_NAME, declared.Reason.Reason, WellFormed.WellFormed, Numbers.same_number, Values.values_text}
pub use Rattle.vms_spec.specs.{Names.is_name_byte, Names.is_sub_name, Images.own_cells, Lookup.number_at, Numbers.is_above, Numbers.is_truth, Lists.at_option}
pub use Rattle.vms_spec.specs.{Lookup.bytes_at, Lookup.find_sub, Numbers.exceeds, Sound.AreSound, Lists.position, Units.spelled, Sound.IsSound, Shipped.set_0}
pub use Rattle.vms_spec.specs.{Shipped.set_1, Shipped.set_4, Shipped.timer, Names.is_name, Good.IsGood, Units.spell, Sets.Device, Sets.Desc, Sets.Set, Sets.Sub}
pub use Rattle.vms_spec.specs.Images.{own_slots, sub_place, sub_slots, zeroed, AreVersionsOf, Image, IsNormal, IsValid, IsVersionOf, Spells, default_image}
pub use Rattle.vms_spec.specs.Layout.{Rule, Slot, desc_cells, desc_slots, device_cells, meanings, struct_cells}
pub use Rattle.vms_spec.specs.Readings.{Accepted, Faulty, Goes, Over, Reading, Refused, Verdict, reading_after, reading_from}
pub use Rattle.vms_spec.specs.SoFar.{come, device_named, fresh, id_of, image, opened, part, part_slots, put_version, slots, sub_named, subs_of}
pub use Rattle.vms_spec.specs.Streams.{ComesOnce, EachOnce, IsConfiguration, IsTrailer, SubsSpell, be32, configuration, end_mark, foot, is_one_of, longest_text}
pub use Rattle.vms_spec.specs.Streams.{magic, optional, section_head, stream_head, sub_head, trailer, written, written_section, written_sections, written_subs}
pub use Rattle.vms_spec.specs.Taking.{Progress, Refusal, Taken, cells_of, on, refuse, take_desc, take_slot, take_value, takers}
pub use Rattle.vms_spec.specs.Units.{Configuration, Constant, Description, End, Filler, Foot, Head, Long, Magic, Mark, Number, Piece, Start, SubHead, Version}
pub use Rattle.std.proofs.{lemmas.Int.ints, Math.Nat.add-zero, lemmas.Option.slice_get_within, lemmas.Slice.Eq.bytes_eq-Decides}
pub use Rattle.std.proofs.Common.{Bool, Err, IfSome, List, None, Ok, Option, Some, [], ap, append-nil, append_assoc, arith, codes, drop, false, get_or}
pub use Rattle.std.proofs.Common.{get_or-drop, if◌then◌else◌, inl, inr, length, length-append, length-drop, map, nat_le, nat_lt, negsuc, not, pos, refl}
pub use Rattle.std.proofs.Common.{slice_set, subst, suc, sym, take, true, zero, ℕ, ℤ, ◌&&◌, ◌++◌, ◌+◌, ◌<◌, ◌==◌, ◌^◌, ◌||◌}
pub use Rattle.std.proofs.Common.{◌∙◌, ◌∷◌, ◌≡◌, ◌≤◌, ◌⊎◌}
pub use Rattle.std.proofs.Math.Seq.{drop-append_seam, set-append_seam}
pub use Rattle.std.proofs.lemmas.Bool.{not-true, or_from, or_parts, and_parts, eq-eqb, eqb-true, le-ltb, leb-true, ltb-false, ltb-true}
pub use Rattle.std.proofs.lemmas.List.{drop-drop, length-map, length-set, length-take-le, take-append-drop}
pub use Rattle.std.specs.{Str.bytes_eq, Prelude.replicate, List.list_all, List.slice_get, Int.byte_at, Int.bytes_high_first}
pub use Rattle.vms_kinds.proofs.ByteLemmas.{bytes_first, bytes_rest}
pub use Rattle.vms_kinds.specs.{Bytes.IsBytes, declared.Kind.Kind, Codes.InRange, Codes.value_of, Codes.width}
pub use Rattle.vms_kinds.specs.declared.Kind.TheVariants.{U64, U8}
pub use Rattle.vms_bodies.proofs.{Heads.split_one, Stated.zeroed_spells, WalkLaws.Comes, WalkLaws.drop_next, WalkLaws.set_desc_comes}
pub use Rattle.vms_bodies.proofs.BodyOnly.{front_drop, front_take, if_true, none_taken, own_taken, part_taken, so_at_last, so_far, sub_so}
pub use Rattle.vms_bodies.proofs.Heads.{text_long, sub_bytes, sub_is, bad_same, raw_same, raw_take, found_is, four_low, head_bytes, is_bytes_drop, split_four}
pub use Rattle.vms_bodies.proofs.PartLaws.{agrees, all_came, came_at, defaults_of, falses, never_true, none_missing, none_versions, same_lists, sub_front, Fine}
pub use Rattle.vms_bodies.proofs.PartLaws.{Stays, fine_next, fine_normal, fine_valid, part_place, stays_next, stays_on, stays_refl, beside_end, beside_first}
pub use Rattle.vms_bodies.proofs.PartLaws.{beside_next, beside_start, none_came, none_of, sub_are, version_at, Beside, at_other, beside_back, beside_done}
pub use Rattle.vms_bodies.proofs.Places.{if_both, if_so, same_refl, width_positive}
pub use Rattle.vms_bodies.proofs.SettledLaws.{its_spelled, defaults_at, defaults_long, own_are}
pub use Rattle.vms_bodies.proofs.SpellLaws.{at_set, set_twice, body_found, one_unit, unit_read, Is, Walks, step, steps_keep}
pub use Rattle.vms_bodies.specs.Whole.{Advances, reading_on}
pub use Rattle.vms_stream.specs.{Taking.put, Taking.taken_by, StreamLaws.StreamLaw, StreamLaws.TakenLaw, Table.large_count, Table.other_constant, Seen.Bad}
pub use Rattle.vms_stream.specs.{Seen.Good, Seen.Seen, Seen.Short, Seen.seen, Seen.seen_by, Seen.seen_in, Laws.Accepts, Laws.Ends, Laws.FoundLaw, Laws.IsThere}
pub use Rattle.vms_stream.specs.{Laws.Mirrored, Laws.Refuses, Judge.Grammar, Judge.by_row, Judge.by_units, Judge.judge, Judge.judge_found, Judge.owes}
pub use Rattle.vms_stream.specs.Dues.{AMagic, AVersion, AfterEnd, AfterFields, AtConfiguration, AtConstant, AtDescription, AtEnd, AtFiller, AtFoot, AtHead}
pub use Rattle.vms_stream.specs.Dues.{AtLongName, AtLongText, AtMagic, AtMark, AtNext, AtNumber, AtOther, AtStart, AtSubHead, AtTrailing, AtVersion, Between}
pub use Rattle.vms_stream.specs.Dues.{Due, Field, May, begins_next, due, due_field, first_byte, fits_four, holds, is_foot, is_next, raw, rules_hold}
pub use Rattle.vms_stream.specs.Faults.{Fails, Fault, Front, IsWhole, Owes, Why, Wrong, cut_in}
pub use Rattle.vms_stream.specs.Finding.{Cut, Found, Whole, head_at, needs, start_at, sub_at, text_at, unit_at}
pub use Rattle.vms_stream.specs.Judged.{JudgedLaw, NextLaw, SeenLaw, ask, begins_section, judge_seen}
pub use Rattle.vms_stream.specs.SoFar.{Bare, Footed, Known, Tail, Unknown, behind, beyond, images, known, machine, passed, put_image, skipped, tail}
pub use Rattle.vms_stream.specs.State.{Before, Ended, Free, Headed, Inside, Spot, State, after, at_start, between, by_state, due_by, image_at, inside, known_at}
pub use Rattle.vms_stream.specs.State.{next_spot, onward, open_at, or_none, part_at, slots_at}
pub use Rattle.vms_stream.specs.StreamLaws.{ToldLaw, UnitsLaw, WholeLaw, WrittenLaw, AcceptedLaw, Answer, AreOneFault, BeginsSection, EitherLaw, FrontLaw}
pub use Rattle.vms_stream.specs.StreamLaws.{FurtherLaw, GoesOn, LocalLaw, NeverBothLaw, OneFaultLaw, OneStreamLaw, SectionFoundLaw, SectionLaw, SectionReadLaw}
pub use Rattle.vms_stream.specs.Streams.{HasSection, IsSection, IsStream, SectionsSpell, Takes}
pub use Rattle.vms_stream.specs.Table.{reason_of, test_some, wants_foot, Row, alone, asking, bad_foot, first_of, first_row, is_after_end, is_between, is_none}
unfoldable pub use Rattle.vms_spec.specs.Layout.{first}
unfoldable pub use Rattle.std.specs.Fmt.{digits}
unfoldable pub use Rattle.vms_kinds.specs.Codes.{code}
unfoldable pub use Rattle.vms_stream.specs.{Judge.reading, Finding.behind_at, Finding.between_at, Finding.trailer_at}
