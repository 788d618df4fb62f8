-- The names of other crates, and of this crate's `specs`, that the proofs use.
pub use Rattle.std.proofs.{lemmas.Int.to_z-of_z}
pub use Rattle.std.proofs.Common.{◌||◌, ◌∙◌, ◌∷◌, ◌≡◌, ◌≤◌, Bool, Err, IfErr, IfSome, List, None, Ok, OnErr, OnOk, Option, Result}
pub use Rattle.std.proofs.Common.{SFits, Some, [], ap, append-nil, append_assoc, arith, drop, false, get_or, if◌then◌else◌, inl, inr, length}
pub use Rattle.std.proofs.Common.{length-append, length-drop, map, nat_le, nat_lt, not, of_z, refl, replicate, rules, slice_set, subst, suc, sym, take, true}
pub use Rattle.std.proofs.Common.{zero, ℕ, ℤ, ⊎_elim, ◌&&◌, ◌*◌, ◌++◌, ◌+◌, ◌-◌, ◌/◌, ◌<◌, ◌==◌, ◌^◌}
pub use Rattle.std.proofs.Math.Nat.{div-le_of_le-mul, div-lt_iff_lt-mul, div-mul-le_self, lt-div-mul-add, mul-le-mul_right}
pub use Rattle.std.proofs.lemmas.Bool.{and_parts, cases_eq, cases_lt, eq-eqb, false_from_ne_true, le-ltb, leb-true, lt-ltb, or_parts}
pub use Rattle.std.proofs.lemmas.List.{drop-append-le, drop-drop, drop_all, ext_get_or, get_or-map, get_or-set_other, get_or-set_same, length-map}
pub use Rattle.std.proofs.lemmas.List.{length-replicate, length-set, length-take-le, map-set, take-append-drop, take-append-le, take-take, with_items_is}
pub use Rattle.std.proofs.lemmas.Option.{get_or_from_slice_get, same_Some, slice_get-get_or, slice_get_within}
pub use Rattle.std.specs.{Int.w128, Io.KnownBytes.IsAtEnd, List.slice_get, Vec.with_items}
pub use Rattle.vms_kinds.proofs.{ByteLemmas.bytes_both}
pub use Rattle.vms_kinds.specs.{Bytes.IsBytes, Codes.code, Codes.value_of, Codes.width, declared.Item.Item, declared.Kind.Kind, declared.Kind.TheVariants.U8}
pub use Rattle.vms_kinds.specs.declared.Item.TheVariants.{Equal, Num, Struct, Unused}
pub use Rattle.vms_spec.proofs.ListsAndNumbers.{same_number_is, length-code, width_small, found_inside, none_left}
pub use Rattle.vms_spec.proofs.Tables.{elements_fit, first_long}
pub use Rattle.vms_spec.proofs.WellFormedLaws.{Clean, device_parts, struct_clean, sub_clean}
pub use Rattle.vms_spec.specs.{Good.IsGood, Heads.FitsHeads, Layout.desc_cells, Layout.desc_slots, Layout.device_cells, Layout.elements_of, Lists.at_option}
pub use Rattle.vms_spec.specs.{Lists.position, Places.own_cell_count, Rules.is_small_item, Rules.is_small_optional, Sound.AreSound, Sound.IsSound}
pub use Rattle.vms_spec.specs.{Tests.is_there, declared.Reason.Reason, declared.TheConstants.MOST_UNUSED, SoFar.device_named, SoFar.part_slots}
pub use Rattle.vms_spec.specs.Images.{Image, default_image, has_cell, own_cells, own_slots, sub_place, sub_slots, zeroed}
pub use Rattle.vms_spec.specs.Layout.{field_cells, field_slots, item_size, item_slots, meaning, meanings, no_cell, no_desc, no_meaning, no_parent, numbers_of}
pub use Rattle.vms_spec.specs.Layout.{slots_from, struct_cells, times, Cell, Constant, Filler, Meaning, Number, Rule, Slot, all_hold, capacity_of, counted}
pub use Rattle.vms_spec.specs.Lookup.{bytes_at, did_come, find_device, find_sub, index, is_bad_bool, number_at}
pub use Rattle.vms_spec.specs.Numbers.{exceeds, is_above, is_truth, same_number}
pub use Rattle.vms_spec.specs.Readings.{Accepted, Faulty, Goes, Over, Reading, Refused, Verdict, reading_after}
pub use Rattle.vms_spec.specs.Sets.{AtLeast, Desc, Device, Field, Set, Sub}
pub use Rattle.vms_spec.specs.Streams.{EachOnce, be32, configuration, end_mark, foot, longest_text, optional, section_head, stream_head, sub_head, trailer}
pub use Rattle.vms_spec.specs.Streams.{written, written_section, written_sections, written_subs}
pub use Rattle.vms_spec.specs.Taking.{Progress, Taken, if_whole, on, refuse, take_desc, take_slot, takers, ◌>>=◌}
pub use Rattle.vms_spec.specs.Units.{Description, Foot, Long, Magic, Mark, Piece, SubHead, Version, spell, spelled}
pub use Rattle.vms_spec.specs.WellFormed.{WellFormed, devices_items, first_fault, has_few, item_count, items_in, struct_items, subs_items}
unfoldable pub use Rattle.vms_spec.specs.Layout.{first}
pub use Rattle.vms_bodies.proofs.{Heads.found_is, PartLaws.at_other, PartLaws.sub_are, Stated.is_same, SettledLaws.own_are}
pub use Rattle.vms_bodies.proofs.Places.{IsAbove, desc_above, meanings_above, SameBelow, same_refl, same_trans, width_positive}
pub use Rattle.vms_bodies.proofs.SpellLaws.{one_unit, at_set, set_twice}
pub use Rattle.vms_bodies.proofs.WalkLaws.{Leaves, desc_leaves, ComesTo, Gives, IsFrom, Keeping, Keeps, set_desc_comes, slot_keeps}
pub use Rattle.vms_bodies.specs.{Cells.AreCells, Whole.reading_on}
pub use Rattle.vms_stream.proofs.{Finding.advances, Judging.solid, Judging.state_refuses, Calls.judged_holds, Calls.next_holds, Calls.seen_holds}
pub use Rattle.vms_stream.proofs.Bodies.{IsUnit, after_read, body_read, by_tests, slot_seen, tested}
pub use Rattle.vms_stream.proofs.Stated.{accepted_holds, never_both_holds, one_fault_holds, one_stream_holds}
pub use Rattle.vms_stream.specs.{Faults.Cut, Faults.Fault, Faults.Why, Faults.Wrong, Finding.Whole, Finding.needs, Finding.text_at, Judge.by_row, Judge.judge}
pub use Rattle.vms_stream.specs.{Judged.ask, Judged.judge_seen, SoFar.Known, SoFar.Unknown, State.known_at, Streams.HasSection, Streams.SectionsSpell}
pub use Rattle.vms_stream.specs.{Streams.Takes, Taking.nothing_known, Taking.put, Taking.taken_by, Dues.AMagic, Dues.AVersion, Dues.AfterEnd, Dues.AfterFields}
pub use Rattle.vms_stream.specs.{Dues.begins_next, Dues.raw, Dues.rules_hold, Seen.Bad, Seen.Good, Seen.Seen, Seen.Short, Seen.seen, Seen.seen_by, Seen.seen_in}
pub use Rattle.vms_stream.specs.State.{open_at, or_none, slots_at, Before, Ended, Free, Headed, Inside, Spot, State, after, at_start, by_state, due_by}
pub use Rattle.vms_stream.specs.Table.{alone, asking, first_row, is_none, test_some}
unfoldable pub use Rattle.vms_stream.specs.{Finding.trailer_at, Judge.reading}
pub use Rattle.vms_desc.proofs.AskLaws.{few_cells, own_inside_device, sub_inside}
pub use Rattle.vms_desc.proofs.Clean.{few_devices, few_items, few_machines, few_subs, good_of, none_is}
pub use Rattle.vms_desc.specs.{Asks.first_cell, Described.described, Formed.is_well_formed, Parts.HasPart, Parts.desc_at, Parts.sub_at, Spots.kinds_at}
pub use Rattle.vms_frames.specs.{Reads.IsLong, Reads.ReadsAs, Stands.Stand, declared.fault.FrameFault.FrameFault, declared.fault.Refusal.Refusal}
pub use Rattle.vms_frames.specs.{declared.units.Between.Between, declared.units.Between.TheVariants.First, declared.units.Step.Step, declared.units.Tail.Tail}
pub use Rattle.vms_frames.specs.Calls.{AnswersAfter, AnswersBehind, AnswersEnd, AnswersHead, AnswersSeen, Fails, ReadsBetween, ReadsEnd, ReadsFiller}
pub use Rattle.vms_frames.specs.Calls.{ReadsNumber, ahead, due_of, held_long, in_section, tail_of, unit_of_step}
pub use Rattle.vms_image.specs.Typed.{AreImagesOf, IsImageOf, Typed, default_at}
pub use Rattle.vms_io.proofs.ReadingLemmas.{no_bytes, nothing_follows, reads_as, reads_both, reads_last, reads_told, takes_as, takes_none}
pub use Rattle.vms_io.specs.{Causes.capped, Reading.Breaks, Reading.Last, Reading.MayFollow, Reading.On, Told.Intake, Told.intake}
pub use Rattle.vms_load.specs.{Calls.due_in, Calls.section_due, Good.AreKept, Good.IsKept, Heads.reason_against_sub, Loads.Loads}
pub use Rattle.vms_load.specs.{declared.fault.LoadFault.LoadFault, declared.parts.Open.Open, declared.parts.Section.Section, declared.staged.Staged.Staged}
pub use Rattle.vms_load.specs.Bodies.{AreOfKinds, HasMoved, IsOfKind, ReadsCapped, ReadsConstant, TakesAs, TakesOn, progress}
pub use Rattle.vms_load.specs.Bounds.{desc_bytes, field_bytes, fields_bytes, item_bytes, struct_bytes}
pub use Rattle.vms_load.specs.Exact.{EndsAtUnit, ExactLaw, GivesStream, IsRefusedAt, UnitLaw}
pub use Rattle.vms_load.specs.Going.{GoesBehind, GoesOn, GoesSoFar, GoesThrough, IsSpent, LoadReads, Moves, course, fault_course}
pub use Rattle.vms_load.specs.Heads.{section_opened, sub_opened, sub_opened_at, unfit, Unfit, device_opened, opened_at, opened_unless, reason_against}
pub use Rattle.vms_load.specs.Parts.{HoldsNone, IsIn, IsMoved, IsOpen, IsSame, OpensNext, after_fields, after_part, all_passed, bytes_of, bytes_of_part}
pub use Rattle.vms_load.specs.Parts.{in_fields, part_base, part_desc, part_due, part_of, spot_in, state_in, subs_due}
pub use Rattle.vms_load.specs.Reading.{Fills, IsFilled, Told, from, last_numbers, last_taken, long_append, numbers_then, slot_of, step_long, steps_long}
pub use Rattle.vms_load.specs.Reading.{take_append, take_steps, told, fills_none}
pub use Rattle.vms_load.specs.Reads.{IsBehind, IsRefused, LeadsOn, Onward, Reads, ReadsBehind, ReadsOn, Refuses, Settles, behind, concerning, reach}
pub use Rattle.vms_load.specs.Staging.{AreShaped, HoldsAt, IsOf, ReadsAll, accepted_of, begun_at, devices_most, image_at, is_configured, is_first, most_given}
pub use Rattle.vms_load.specs.Staging.{due_at, name_of, no_image, read_from, section_bytes, sections_due, spot_at, spot_of, state_of, stream_due, subs_bytes}
pub use Rattle.vms_marks.specs.{declared.foot.TheConstants.FOOT_LENGTH, declared.head.Head.Head, declared.head.TheConstants.LONGEST_HEAD}
pub use Rattle.vms_marks.specs.{declared.sub_head.TheConstants.LONGEST_SUB_HEAD}
pub use Rattle.vms_parts.proofs.{Items.get_map_at}
pub use Rattle.vms_parts.specs.{Devices.device_at, Views.device_of, Views.sub_of}
pub use Rattle.vms_spots.specs.Spots.{put_from, values_of}
pub use Rattle.vms_walk.proofs.Spots.{exceeds_least, run_each, run_split}
pub use Rattle.vms_walk.proofs.Walking.{part_sound, steps_append, keeps_more, keeps_put, keeps_same}
pub use Rattle.vms_walk.specs.{Runs.run_of, declared.fields.PartAt.PartAt, declared.step.WalkStep.WalkStep}
pub use Rattle.vms_walk.specs.Steps.{HasSpot, capacities_of, cells_in, spot_slots, step_of, steps_of, table}
