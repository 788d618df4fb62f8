-- The names of other crates, and of this crate's `specs`, that the proofs use.
pub use Rattle.std.proofs.{lemmas.Cmp.eq_by_cmp_equiv, lemmas.Bool.Decides.nat_tests, lemmas.Map.Text.is_eq-slice_cmp, lemmas.Slice.Eq.bytes_eq-Decides}
pub use Rattle.std.proofs.{lemmas.Result.err_from_is_err_and, lemmas.List.Sorted.IsPermutation-sym}
pub use Rattle.std.proofs.Common.{Bool, List, None, Option, Ordering, Result, Some, [], add-one, ap, append-nil, append_assoc, arith, drop, false}
pub use Rattle.std.proofs.Common.{get_or, length, length-append, length-drop, length-take, map, max, pos, refl, suc, sym, take, true, zero, ℕ, ℤ, ◌++◌}
pub use Rattle.std.proofs.Common.{◌+◌, ◌-◌, ◌<◌, ◌^◌, ◌∙◌, ◌∷◌, ◌≡◌, ◌≤◌}
pub use Rattle.std.proofs.Math.Bool.{and-false, and-true, and_assoc, or-false, or_assoc, or_comm}
pub use Rattle.std.proofs.lemmas.List.{drop_all, drop_more, get_or_default, length-map, map-append, take-append-drop, take-map, take_all, take_more}
pub use Rattle.std.proofs.lemmas.Map.Keys.{IsDistinct-IsPermutation, IsDistinct-from_sorted, sorted_from_strictly_increasing}
pub use Rattle.std.specs.{List.Sorted.IsStrictlyIncreasing, List.Sorted.IsPermutation, Ordering.ordering_then, List.AllByRecursion, BTreeSet.UpdatesBy}
pub use Rattle.std.specs.{Ordering.eq_by_cmp, BTreeSet.BTreeSet, Cmp.nat_cmp_total, Ordering.nat_cmp, Cmp.IsTotalOrder, List.slice_index, Prelude.◌&&◌}
pub use Rattle.std.specs.{Prelude.◌==◌, Prelude.◌||◌, Result.IsErrAnd, BTreeMap.is_at, Ordering.is_eq, Cmp.then_total, List.slice_get, Prelude.nat_eq}
pub use Rattle.std.specs.{Prelude.nat_le, Prelude.nat_lt, Map.IsKeyTest, List.list_any, Str.bytes_eq, Map.AreApart, Cmp.on_total, Prelude.not}
pub use Rattle.std.specs.Cmp.Lexicographic.{nat_list_cmp_total, nat_list_eq_equiv, slice_cmp, unequal}
pub use Rattle.vms_kinds.specs.declared.Item.{Item}
pub use Rattle.vms_spec.proofs.ListsAndNumbers.{all_right, and_swap, both_below, either_of, one_of_both, or_turned}
pub use Rattle.vms_spec.proofs.Tables.{first_long}
pub use Rattle.vms_spec.specs.{Streams.is_one_of, declared.Place.Place, Layout.counted, Layout.no_desc, Lists.first_answer, Lists.or_else}
pub use Rattle.vms_spec.specs.{declared.TheConstants.MOST_ITEMS, declared.Whose.TheVariants.Own, declared.Whose.TheVariants.Parent, Sets.And}
pub use Rattle.vms_spec.specs.{Sets.Cell, Sets.Formula, Sets.Not, Sets.Or, Names.all_names, Names.are_new, Names.is_name, Names.is_sub_name, Rules.counts_well}
pub use Rattle.vms_spec.specs.{Rules.int_le, Rules.is_steady, Rules.names_well, WellFormed.subs_items, WellFormed.validations_fault}
pub use Rattle.vms_spec.specs.WellFormed.{SetFault, are_distinct, deepest, device_fault, device_rules, devices_items, failing, fields_fault, here}
pub use Rattle.vms_spec.specs.WellFormed.{is_same_device, item_depth, items_in, set_rules, struct_depths, struct_fault, struct_items, sub_fault}
pub use Rattle.vms_parts.proofs.{Items.drop_is, Items.get_map_at, ItemLaws.items_are, ItemLaws.items_to}
pub use Rattle.vms_parts.proofs.SizeLaws.{capped_fields, capped_subs, sum_ends, sum_goes}
pub use Rattle.vms_parts.specs.{declared.sizes.Measure.TheVariants.Items, declared.types.Device.Device, declared.types.Field.Field, declared.types.Desc.Desc}
pub use Rattle.vms_parts.specs.{declared.types.Sub.Sub, Capacities.least_from, Capacities.AreLeast, Devices.device_at, Capacities.lesser, Sizes.subs_size}
pub use Rattle.vms_parts.specs.{Views.device_of, Sizes.sizes_to, Views.field_of, Views.desc_of, Views.formula, Sizes.in_u32, Views.set_of, Views.sub_of}
pub use Rattle.vms_rules.specs.{Capacities.fits, Judged.IsFirst, Judged.Judges, declared.devices.Within.Within, declared.fault.DescFault.DescFault}
pub use Rattle.vms_rules.specs.NameSets.{are_new_to, by_key, has_name, key, with_name}
pub use Rattle.vms_rules.specs.Walks.{at_field, desc_at, devices_from, fields_from, numbered, structs_from, sub_at, subs_from, validations_from}
pub use denote.Ref.{Bor}
unfoldable pub use Rattle.std.specs.{List.IsDistinct, Set.KeepsOthers}
unfoldable pub use Rattle.vms_spec.specs.{Layout.first, WellFormed.first_fault}
