-- The names of other crates, and of this crate's `specs`, that the proofs use.
pub use Rattle.std.proofs.{Math.ListN.length-set, lemmas.Bool.Decides.nat_tests, lemmas.Map.Keys.any_passes_from_place, lemmas.Slice.Eq.bytes_eq-Decides}
pub use Rattle.std.proofs.lemmas.Slice.Zip.{AllZip-left, AllZip-long}
pub use Rattle.std.proofs.Common.{Bool, List, None, Option, Some, [], add-one, ap, arith, below_more, codes, drop, false, get_or, get_or-set_other}
pub use Rattle.std.proofs.Common.{get_or-set_same, inl, inr, length, map, min, nat_le, pos, refl, replicate, rules, suc, sym, take, true, zero, ℕ, ◌*◌}
pub use Rattle.std.proofs.Common.{◌++◌, ◌+◌, ◌-◌, ◌<◌, ◌||◌, ◌∙◌, ◌∷◌, ◌≡◌, ◌≢◌, ◌≤◌}
pub use Rattle.std.proofs.Math.Bool.{and-false, and-true, or-false, or-true}
pub use Rattle.std.proofs.lemmas.Bool.{and_from, and_parts, cases_Bool, cases_lt, eq-eqb, eqb-true, le-leb, leb-true, ltb-true, ne_eqb, or_left, or_right}
pub use Rattle.std.proofs.lemmas.List.{drop_more, length-map, map-append, take-map, take_more}
pub use Rattle.std.proofs.lemmas.Option.{get_or_from_slice_get, slice_get-get_or, slice_get-map, slice_get_past, slice_get_within}
pub use Rattle.std.specs.{List.AllByRecursion, List.AllZip, List.list_all, List.list_any, List.slice_get, Str.bytes_eq}
pub use Rattle.std.specs.Prelude.{if◌then◌else◌, is_none, nat_lt, not, ◌&&◌, ◌==◌}
pub use Rattle.vms_kinds.specs.{declared.Item.Item, declared.TheConstants.NEWEST_SET}
pub use Rattle.vms_kinds.specs.declared.Item.TheVariants.{Equal, Num, Struct, Unused}
pub use Rattle.vms_kinds.specs.declared.Kind.TheVariants.{I8, U16, U8}
pub use Rattle.vms_spec.proofs.{WellFormedLaws.sub_clean, ShippedSets.each, Tables.first_at, Tables.first_long}
pub use Rattle.vms_spec.proofs.Examples.{box, box_set, counted_set, empty_set, number, subsection_set, tested_set}
pub use Rattle.vms_spec.proofs.ListsAndNumbers.{same_number_itself, all_right, both_none, found_inside}
pub use Rattle.vms_spec.proofs.WellFormedLaws.{sub_found, untested, answers_none, or_else_none, Clean, device_found, device_parts, struct_clean}
pub use Rattle.vms_spec.specs.{Lists.first_answer, Lists.or_else, Lists.position, Lookup.find_device, Lookup.find_sub, Lookup.index, Readiness.is_version_of}
pub use Rattle.vms_spec.specs.{Rules.is_steady_in, Rules.names_well, Rules.nobody, Streams.is_one_of, Tests.truth, declared.Count.Count, declared.Part.Part}
pub use Rattle.vms_spec.specs.{declared.Place.Place, declared.Rel.Rel, declared.Rel.TheVariants.Eq, declared.Rel.TheVariants.Lt, declared.Whose.TheVariants.Own}
pub use Rattle.vms_spec.specs.{declared.Whose.TheVariants.Parent, Layout.counted, Layout.field_cells, Layout.no_desc, Layout.no_field, Layout.struct_cells}
pub use Rattle.vms_spec.specs.Rules.{nodes, test_names_well, uses_below, count_names_well, has_no_test, is_counting, is_earlier_in, is_num, is_one, is_steady}
pub use Rattle.vms_spec.specs.Sets.{And, AtLeast, Below, Cell, Desc, Device, Field, Formula, Not, Or, Set, Sub}
pub use Rattle.vms_spec.specs.Shipped.{set_0, set_1, set_3, shipped_sets}
pub use Rattle.vms_spec.specs.WellFormed.{WellFormed, device_rules, here, in_field, struct_rules, sub_rules}
pub use Rattle.vms_spec.specs.declared.Count.TheVariants.{Counted, Fixed, One}
unfoldable pub use Rattle.vms_spec.specs.Layout.{first}
pub use Rattle.vms_check.specs.{Absent.absent_counted, Absent.least_absent, Comparing.same_rest, Laws.AreRules, declared.mismatch.Mismatch.Mismatch}
pub use Rattle.vms_check.specs.{declared.present.Present.Present, declared.side.Side.Side, Pairs.struct_mismatch, Pairs.structs_on, Pairs.table, Pairs.table_on}
pub use Rattle.vms_check.specs.{Pairs.tree_of, Wholes.device_mismatch, Wholes.is_missing, Wholes.lost_mismatch, Wholes.machines_mismatch, Wholes.part_mismatch}
pub use Rattle.vms_check.specs.Comparing.{same_test, uncovered_rules, Comparer, Compatible, Entry, absent_hold, bound, compare_desc, compare_device}
pub use Rattle.vms_check.specs.Comparing.{compare_fields, compare_sub, compare_subs, compare_validations, comparer_of, entry_of, failing_pair, greatest}
pub use Rattle.vms_check.specs.Comparing.{has_room, holds_as_much, is_absent, is_covered, is_found, is_in, is_kept, is_nothing, no_comparer, pair_rules}
pub use Rattle.vms_check.specs.Comparing.{pair_structs, position_from, present, present_from, same_constant, same_count, same_item, same_place, same_reduced}
pub use Rattle.vms_check.specs.Fitting.{AreAlike, ArePaired, DescsFit, DevicesFit, Fits, IsKept, IsSubFor, SetsFit, fields_at, in_new, in_old}
pub use Rattle.vms_check.specs.Pairs.{IsFirst, all_fields_on, desc_mismatch, failing_number, fields_on, is_kept_test, is_left, pair_mismatch, rules_on}
pub use Rattle.vms_check.specs.Reducing.{Known, Open, Reduced, and_reduced, left_of, not_reduced, or_reduced, presence, reduced, truth_of}
pub use Rattle.vms_check.specs.Sides.{as_reduced, count_present, desc_on, field_reduced, fields_from, left_nodes, own_side, position_in, position_on}
unfoldable pub use Rattle.vms_check.specs.{Carrying.carried, Comparing.first_mismatch}
pub use Rattle.vms_desc.proofs.Clean.{none_is, few_fields, few_subs, field_clean, reach, numbered, reach_whole}
pub use Rattle.vms_desc.specs.{Described.described, Described.device_at, Formed.is_well_formed, Formed.shipped_set, Parts.HasPart, Parts.desc_at, Parts.sub_at}
pub use Rattle.vms_parts.proofs.{Items.get_map_at}
pub use Rattle.vms_parts.specs.{Capacities.least_from, Capacities.least_of, Views.device_of, Views.field_of, Views.formula, Views.sub_of}
pub use mathlib.Core.Path.{fun_ext}
