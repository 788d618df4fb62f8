-- The names of other crates, and of this crate's `specs`, that the proofs use.
pub use Rattle.std.proofs.{Math.Facts.to_z-of_z, Math.Nat.mod-lt, Math.Nat.pow-suc, Math.Seq.drop-append_seam, Math.Seq.get_or-append_right}
pub use Rattle.std.proofs.{lemmas.Nat.div-add-mod', lemmas.Option.slice_get-get_or, lemmas.Result.err_from_is_err_and, Common.◌≤◌}
pub use Rattle.std.proofs.Common.{Bool, Err, IfOk, List, MatchOption, None, Ok, Option, Result, Some, [], ap, append-nil, append_assoc, arith, codes, drop}
pub use Rattle.std.proofs.Common.{drop-drop, false, get_or, if◌then◌else◌, length, length-append, length-drop, length-take, lt_of_mul-lt-mul_right, map}
pub use Rattle.std.proofs.Common.{nat_le, nat_lt, not, pos, refl, rules, slice_set, subst, suc, sum_by, sym, take, true, zero, ℕ, ℤ, ◌%◌, ◌&&◌}
pub use Rattle.std.proofs.Common.{◌*◌, ◌++◌, ◌+◌, ◌-◌, ◌/◌, ◌<◌, ◌==◌, ◌^◌, ◌||◌, ◌∙◌, ◌∷◌, ◌≡◌}
pub use Rattle.std.proofs.Math.Bool.{and-false, and-true, and_assoc}
pub use Rattle.std.proofs.lemmas.Bool.{and_parts, eqb-true, le-ltb, leb-true, lt-ltb, ltb-false, ltb-true}
pub use Rattle.std.proofs.lemmas.List.{drop-map, drop_all, drop_more, get_or-drop, get_or-map, get_or_append_left, length-map, length-take-le, map-append}
pub use Rattle.std.proofs.lemmas.List.{nil_from_length, take-append-drop, take-take, take_all, take_more, take_more_set, Sums.sum_by-cons}
pub use Rattle.std.specs.{Borrow.Bor, Fmt.decimal, Fmt.signed_decimal, Int.w128, Option.ForSome, Option.option_and_then, Result.is_ok, Str.bytes_eq}
pub use Rattle.std.specs.List.{flat_map, list_all, slice_get}
pub use Rattle.vms_kinds.specs.{Codes.InRange, declared.Item.Item, declared.Kind.Kind, declared.Kind.TheVariants.U8}
pub use Rattle.vms_kinds.specs.declared.Item.TheVariants.{Num, Struct}
pub use Rattle.vms_spec.proofs.{ListsAndNumbers.drop_on, ListsAndNumbers.natural_up, WellFormedLaws.ranges}
pub use Rattle.vms_spec.proofs.Tables.{item_cells_same, own_same, readers_cells, elements_fit, field_size, one_fits, room_for_less, size_same, first_at}
pub use Rattle.vms_spec.proofs.Tables.{one_more, row_same, struct_cells_at, FieldsBelow, ItemBelow, all_below, field_cells_same, first_cells, first_same}
pub use Rattle.vms_spec.specs.{Heads.FitsHeads, Numbers.exceeds, Numbers.same_number, Places.own_cell_count, Readiness.rules_are_true, Rules.in_range}
pub use Rattle.vms_spec.specs.{Rules.uses_below, Sets.AtLeast, Sets.Desc, Sets.Device, Sets.Field, Sets.Set, Sets.Sub, Tests.is_there, declared.Count.Count}
pub use Rattle.vms_spec.specs.{declared.Count.TheVariants.One, declared.Part.Part, declared.TheConstants.MOST_ITEMS, declared.ValuesReason.ValuesReason}
pub use Rattle.vms_spec.specs.Images.{Image, default_image, own_cells, own_slots, sub_place}
pub use Rattle.vms_spec.specs.Layout.{Cell, Meaning, Rule, Slot, all_hold, capacity_of, cells_from, counted, desc_cells, desc_slots, device_cells, elements_of}
pub use Rattle.vms_spec.specs.Layout.{field_cells, field_slots, item_cells, item_size, item_slots, meaning, meanings, no_desc, no_field, no_meaning, no_parent}
pub use Rattle.vms_spec.specs.Layout.{numbers_of, slots_from, struct_cells, times}
pub use Rattle.vms_spec.specs.Spelling.{are_digits, begins_with, first_line, is_digit, natural_from, number_spelled}
pub use Rattle.vms_spec.specs.Values.{Printer, array_lines, desc_lines, device_lines, devices_lines, element_lines, field_lines, item_lines, line_end}
pub use Rattle.vms_spec.specs.Values.{machine_line, no_printer, printer, printers, sub_lines, version_text}
pub use Rattle.vms_spec.specs.ValuesReading.{Bad, BadLine, CellLine, Read, ReadAll, ReadDevice, ReadSubs, Reader, Standing, Values, ValuesRead, after_machine}
pub use Rattle.vms_spec.specs.ValuesReading.{also, answer_of, are_defaults, bad, cells_of, ended, if_bad, is_line, is_said_well, judge_device, judge_devices}
pub use Rattle.vms_spec.specs.ValuesReading.{judge_subs, judged, machine_named, next_line, no_reader, or_bad, put_line, put_number, read_array, read_desc}
pub use Rattle.vms_spec.specs.ValuesReading.{read_device, read_devices, read_elements, read_field, read_fields, read_item, read_sub, read_subs, reader, readers}
pub use Rattle.vms_spec.specs.ValuesReading.{section_line, sub_fails, sub_said, then_subs, with_device, ◌>>=◌}
unfoldable pub use Rattle.vms_spec.specs.{Layout.first, ValuesReading.values_read}
pub use Rattle.vms_words.specs.{Lines.IsFirstLine, declared.line.NextLine.NextLine}
pub use Rattle.vms_bodies.proofs.{Places.cells_first, PartLaws.cells_of_sub, WalkLaws.place_first}
pub use Rattle.vms_elements.proofs.{Walk.names_append, Walk.names_long, Walk.names_map, Walk.walks, Walk.AreWalked, Members.shapes_cells}
pub use Rattle.vms_elements.proofs.Walk.{are_walked, desc_names_are, desc_walks, field_walks, array_name, names_absent, fields_walk, is_dotted, item_walks}
pub use Rattle.vms_elements.specs.Elements.{stand_of, Shape, desc_elements, elements_from, field_elements, item_elements, no_shape, shape, shapes}
pub use Rattle.vms_elements.specs.Parts.{absent, cell_name, elements_in, names_of, subs_elements}
pub use Rattle.vms_elements.specs.Reading.{Reads, Refused}
pub use Rattle.vms_desc.proofs.AskLaws.{few_cells, found_field, here_fields, own_inside_device, sub_first, sub_inside, sub_next}
pub use Rattle.vms_desc.proofs.Clean.{few_devices, few_machines, few_structs, fit_of, few_subs, field_clean, reach, struct_clean, item_rank, part_rank}
pub use Rattle.vms_desc.proofs.Clean.{rank_below, reach_whole, uses_more}
pub use Rattle.vms_desc.specs.{Described.described, Described.device_at, Formed.is_well_formed, Parts.HasPart, Parts.desc_at, Parts.sub_at, Spots.kinds_at}
pub use Rattle.vms_desc.specs.Asks.{field_at, first_cell, own_numbers}
pub use Rattle.vms_image.proofs.States.{state_at, states_long}
pub use Rattle.vms_image.specs.Typed.{AreImagesOf, IsImageOf, IsOfDevice, Typed, default_at, state_of}
pub use Rattle.vms_io.proofs.WritingLemmas.{Leaves, leaves_all, leaves_none, leaves_rest, leaves_stop, puts_as, puts_both, stops_as, stops_behind, stops_front}
pub use Rattle.vms_io.proofs.WritingLemmas.{wrote_as, wrote_behind}
pub use Rattle.vms_io.specs.{Told.Outlet, Told.outlet, Writing.Wrote}
pub use Rattle.vms_parts.specs.{Capacities.least_of, declared.types.CellForm.CellForm, declared.types.Test.Test}
pub use Rattle.vms_parts.specs.Views.{desc_of, device_of, field_of, form_of, formula}
pub use Rattle.vms_values.specs.{Machines.NamesMachine, Machines.StartsAt, Paths.element_text, Paths.path_text, Written.joined}
pub use Rattle.vms_values.specs.{declared.devices.Reading.Reading, declared.fault.LineFault.LineFault, declared.machine.Start.Start, declared.taken.Taken.Taken}
pub use Rattle.vms_values.specs.DevicesRead.{AllRead, DeviceRead, ToldAs, device_read, found, start_of}
pub use Rattle.vms_values.specs.Judging.{bad_of, read_of, steps_hold, sub_defaults, sub_judged}
pub use Rattle.vms_values.specs.Naming.{IsInPart, field_name, item_names, part_names, usable}
pub use Rattle.vms_values.specs.Printing.{AreOf, IsOf, IsRun, Stays, below, below_part, machine_of, run_lines, section_text, sub_text, whole_sub}
pub use Rattle.vms_values.specs.Reading.{IsBad, MeansAs, Reaches, ReadsBy}
pub use Rattle.vms_values.specs.Spelled.{Strips, held, natural_spelled, read_from, with_digit}
pub use Rattle.vms_values.specs.SubsTaken.{IsAlike, SubReached, SubsReached, said_read, sub_read, with_came}
pub use Rattle.vms_values.specs.Taken.{AreKinds, ElementKinds, IsKept, element_cells, number_judged, part_cells, place_of, run_read}
pub use Rattle.vms_values.specs.declared.line.TheConstants.{INDEX_ROOM, LONGEST_PATH, PART_ROOM}
pub use Rattle.vms_values_laws.proofs.{SecondPass.or_bad_assoc, Stated.line_holds, Stated.read_holds}
pub use Rattle.vms_walk.proofs.Spots.{exceeds_least, cells_table, next_field, size_code, start_after, start_code, struct_size, width_code}
pub use Rattle.vms_walk.proofs.Walking.{fields_at, room_at}
pub use Rattle.vms_walk.specs.Steps.{HasSpot, capacities_of, cell_of, cells_in, size_in, spot_slots, steps_of, table}
pub use Rattle.vms_walk.specs.declared.fields.PartAt.{PartAt}
pub use Rattle.vms_write.specs.Fine.{no_form, settle}
pub use lib.Seq.{take-append-le}
