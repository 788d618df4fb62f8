-- The names of other crates, and of this crate's `specs`, that the proofs use.
pub use Rattle.std.proofs.{Math.Bool.or-false, Math.Nat.eq-or-lt_of_le, lemmas.Int.ints, lemmas.Slice.Eq.bytes_eq-Decides, lemmas.Slice.Zip.AllZip-long}
pub use Rattle.std.proofs.Common.{Bool, IfSome, List, None, Option, Some, [], ap, append_assoc, arith, false, get_or, if◌then◌else◌, inl, inr, length}
pub use Rattle.std.proofs.Common.{map, min, nat_le, nat_lt, negsuc, pos, refl, replicate, slice_set, suc, sym, take, true, zero, ℕ, ℤ, ◌&&◌, ◌*◌}
pub use Rattle.std.proofs.Common.{◌++◌, ◌+◌, ◌-◌, ◌<◌, ◌==◌, ◌||◌, ◌∙◌, ◌∷◌, ◌≡◌, ◌≤ℤ◌, ◌≤◌, ◌⊎◌}
pub use Rattle.std.proofs.Math.Seq.{drop-append_seam, take-append_seam}
pub use Rattle.std.proofs.lemmas.Bool.{and_from, and_parts, cases_eq, cases_lt, eq-eqb, eqb-true, false_from_ne_true, leb-true, ltb-true, or_cases, or_parts}
pub use Rattle.std.proofs.lemmas.List.{append-nil, ext_get_or, get_or-append-add, get_or_append_left, get_or_past, length-append, length-map, length-replicate}
pub use Rattle.std.proofs.lemmas.Option.{get_or_from_slice_get, slice_get-get_or, slice_get-map, slice_get_within}
pub use Rattle.std.specs.{List.AllByRecursion, List.AllZip, List.flat_map, List.list_all, List.list_any, List.slice_get, Option.option_and_then}
pub use Rattle.byteorder.specs.Endian.{big_number}
pub use Rattle.vms_kinds.specs.{Codes.code, Codes.highest, Codes.residue, Codes.width, declared.Item.Item, declared.Kind.Kind}
pub use Rattle.vms_kinds.specs.declared.Item.TheVariants.{Equal, Num, Struct, Unused}
pub use Rattle.vms_kinds.specs.declared.Kind.TheVariants.{U16, U32, U8}
pub use Rattle.vms_spec.proofs.ListsAndNumbers.{same_number_is, either_of, code_read, length-code}
pub use Rattle.vms_spec.proofs.Tables.{first_at, first_long, elements_fit, field_size, size_same, FieldsBelow, ItemBelow, desc_cells_same, first_same}
pub use Rattle.vms_spec.proofs.Tables.{item_below, struct_cells_at, struct_slots}
pub use Rattle.vms_spec.proofs.WellFormedLaws.{AllTrue, answers_none, every_one, few_devices, machine_short, or_else_none, Clean, device_found, device_parts}
pub use Rattle.vms_spec.proofs.WellFormedLaws.{ranges, struct_clean, sub_clean, sub_found, within}
pub use Rattle.vms_spec.specs.{Lists.first_answer, Lookup.find_device, Lookup.find_sub, Lookup.index, Readiness.is_version_of, Tests.is_there, Tests.truth}
pub use Rattle.vms_spec.specs.{declared.Count.Count, declared.Part.Part, declared.Rel.Rel, declared.Whose.TheVariants.Own, declared.Whose.TheVariants.Parent}
pub use Rattle.vms_spec.specs.Images.{own_slots, sub_place, sub_slots, zeroed, AreVersionsOf, FitCells, FitsCell, Image, IsVersionOf, RulesHold, Spells}
pub use Rattle.vms_spec.specs.Images.{came_slots, has_cell, image_slots, own_cells}
pub use Rattle.vms_spec.specs.Layout.{Cell, Constant, Filler, Meaning, Number, Rule, Slot, all_hold, capacity_of, cells_from, counted, desc_cells, desc_slots}
pub use Rattle.vms_spec.specs.Layout.{device_cells, elements_of, field_cells, field_slots, first, item_cells, item_size, item_slots, kind_of, meanings, no_cell}
pub use Rattle.vms_spec.specs.Layout.{no_desc, no_field, no_meaning, no_parent, numbers_of, place_of, slots_from, struct_cells, times}
pub use Rattle.vms_spec.specs.Rules.{count_names_well, counts_well, defaults_well, has_good_count, has_no_test, is_counting, is_earlier_in, is_num, is_one}
pub use Rattle.vms_spec.specs.Rules.{is_steady, is_steady_in, names_well, nobody, test_names_well, validation_rules}
pub use Rattle.vms_spec.specs.Sets.{And, Desc, Device, Field, Formula, Not, Or, Set, Sub}
pub use Rattle.vms_spec.specs.Streams.{written_sections, written_subs, AllCame, AreAll, AreReady, ComeAsNeeded, ComesOnce, EachOnce, IsConfiguration, IsReady}
pub use Rattle.vms_spec.specs.Streams.{SubSpells, SubsSpell, configuration, is_one_of, longest_text, optional, sub_head, trailer, written, written_section}
pub use Rattle.vms_spec.specs.WellFormed.{WellFormed, here, in_field}
pub use Rattle.vms_spec.specs.declared.Count.TheVariants.{Counted, Fixed, One}
pub use Rattle.vms_bodies.proofs.{Stated.version_decides, BodyOnly.rules_split, SpellLaws.at_set, SpellLaws.rules_append, SpellLaws.spells_append}
pub use Rattle.vms_bodies.proofs.PartLaws.{at_other, cells_of_sub, part_apart, parts_together, places_apart, sub_place_up, sub_size}
pub use Rattle.vms_bodies.proofs.Places.{IsAbove, MeanAbove, field_above, item_above, meanings_above, MeanCells, cells_first, field_are, item_are, meanings_are}
pub use Rattle.vms_bodies.proofs.Places.{has_left, has_right, names_append, none_in_both}
pub use Rattle.vms_bodies.proofs.SettledLaws.{defaults_at, defaults_long, cells_in, its_below, its_in, named_inside, skip_long, stands_behind}
pub use Rattle.vms_bodies.proofs.Heads.{found_is, sub_is}
pub use Rattle.vms_bodies.specs.{Cells.AreCells}
pub use Rattle.vms_stream.proofs.Stated.{trailed}
pub use Rattle.vms_stream.specs.Streams.{HasSection, IsSection, IsStream, SectionsSpell}
pub use Rattle.vms_check.proofs.{PairLaws.passes, CapacityLaws.IfOpen, CapacityLaws.open_reduced, CapacityLaws.reduced_holds}
pub use Rattle.vms_check.specs.{declared.mismatch.Mismatch.Mismatch, Comparing.position_from, Comparing.present, Comparing.present_from}
pub use Rattle.vms_check.specs.Carrying.{Carrier, carried_at, carried_device, carried_sub, carrier_of, carriers, carry_desc, carry_field, carry_from}
pub use Rattle.vms_check.specs.Carrying.{carry_item, carry_items, carry_next, carrying, default_field, defaults, entries_left, no_carrier, no_image, sub_came}
pub use Rattle.vms_check.specs.Comparing.{same_constant, same_count, same_item, same_kind, same_place, same_reduced, same_rest, same_test, uncovered_rules}
pub use Rattle.vms_check.specs.Comparing.{Comparer, Compatible, Entry, absent_hold, bound, compare_desc, compare_device, compare_fields, compare_sub}
pub use Rattle.vms_check.specs.Comparing.{compare_subs, compare_validations, comparer_of, comparers, comparing, entry_of, failing_pair, greatest, has_room}
pub use Rattle.vms_check.specs.Comparing.{holds_as_much, is_covered, is_found, is_in, is_kept, least_of, no_comparer, pair_rules, pair_structs, paired_device}
pub use Rattle.vms_check.specs.Partners.{Pairer, array_partners, desc_partners, field_partners, fields_left, item_partners, named_partners, no_pairer}
pub use Rattle.vms_check.specs.Partners.{pairer_of, pairers, part_partners, partners_from, unpaired}
pub use Rattle.vms_check.specs.Reducing.{Known, Open, Reduced, left_of, presence, reduced, truth_of}
unfoldable pub use Rattle.vms_check.specs.{Carrying.carried, Comparing.first_mismatch, Partners.device_partners}
pub use Rattle.vms_check_laws.specs.{Carried.IsAtVersions, Carried.IsCarried, CellLaws.CarriedLaw, Fronts.FrontAligns, Pairing.ArePartners, Positions.IsPartOf}
pub use Rattle.vms_check_laws.specs.{Positions.IsRead, SubCells.IsCellOf, Segments.Aligns, Segments.Carries, Segments.FitsAt, Segments.Holds}
pub use Rattle.vms_check_laws.specs.Laws.{ArePaired, DeviceLaw, IsSaved, UpgradeLaw}
