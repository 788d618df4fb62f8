-- The names of other crates, and of this crate's `specs`, that the proofs use.
pub use Rattle.std.proofs.{lemmas.Nat.mul-le, lemmas.Simd.map-map, lemmas.Int.to_z-of_z, Math.ListN.get_or-map, lemmas.Bool.Decides.nat_tests}
pub use Rattle.std.proofs.Common.{Bool, List, None, Option, Some, [], ap, append-nil, append_assoc, arith, below_more, drop, get_or, inl, inr, length}
pub use Rattle.std.proofs.Common.{length-append, length-drop, length-take-le, map, min, nat_le, pos, refl, rules, suc, sym, take, true, zero, ℕ}
pub use Rattle.std.proofs.Common.{ℤ, ◌&&◌, ◌*◌, ◌++◌, ◌+◌, ◌-◌, ◌<◌, ◌∙◌, ◌∷◌, ◌≡◌, ◌≤◌}
pub use Rattle.std.proofs.lemmas.Bool.{and_parts, cases_lt, eqb-true, leb-true, lt-ltb, ltb-true, cases_Bool}
pub use Rattle.std.proofs.lemmas.List.{drop_all, drop_at, ext_get_or, get_or-drop, get_or_append_left, get_or_default, get_or_past, get_or_push, length-map}
pub use Rattle.std.proofs.lemmas.List.{map-append, map_more, take-append-le, take-map, take_all, take_at, take_min}
pub use Rattle.std.proofs.lemmas.List.FromFn.{get_or-map-range_with_len}
pub use Rattle.std.proofs.lemmas.Option.{get_or_from_slice_get, slice_get-get_or, slice_get-map, slice_get_within}
pub use Rattle.std.specs.{Str.bytes_eq, Option.option_copied, Option.option_map, Prelude.if◌then◌else◌, Prelude.nat_lt}
pub use Rattle.std.specs.List.{flat_map, list_all, range_with_len, slice_get}
pub use Rattle.vms_kinds.specs.{Codes.InRange, declared.Item.Item, declared.Kind.Kind, declared.Kind.TheVariants.U8, declared.TheConstants.NEWEST_SET}
pub use Rattle.vms_kinds.specs.declared.Item.TheVariants.{Num, Struct}
pub use Rattle.vms_spec.proofs.{ListsAndNumbers.found_one, WellFormedLaws.AllTrue, WellFormedLaws.Clean, WellFormedLaws.device_parts, WellFormedLaws.well_good}
pub use Rattle.vms_spec.proofs.ShippedSets.{all_fit, device_fits, each, fit, heads_fit, is_fit}
pub use Rattle.vms_spec.proofs.Tables.{element_room, field_size, first_at, first_long, first_take}
use Rattle.vms_spec.specs
pub use specs.{declared.Count.TheVariants.Counted, declared.Whose.TheVariants.Parent, declared.TheConstants.MOST_ITEMS, declared.Count.Count}
pub use specs.{declared.Whose.TheVariants.Own, Shipped.shipped_sets, declared.Part.Part, Lookup.find_device, Streams.is_one_of, Images.own_cells}
pub use specs.{Images.sub_place, Names.is_name, Good.DefaultsFit, Heads.FitsHeads, Lookup.find_sub, Lists.position, Tests.truth, Good.IsGood, Good.IsFit}
unfoldable pub use specs.{Layout.first, WellFormed.first_fault}
pub use Rattle.vms_spec.specs.Layout.{all_hold, capacity_of, cells_from, counted, desc_cells, device_cells, field_cells, item_cells, item_size, kind_of}
pub use Rattle.vms_spec.specs.Layout.{no_cell, no_desc, no_field, no_parent, numbers_of, place_of, struct_cells, times}
pub use Rattle.vms_spec.specs.Places.{cell_in, desc_of_sub, element_at, item_at, own_cell_count, path_at}
pub use Rattle.vms_spec.specs.Rules.{count_names_well, field_rules, has_good_count, is_counting, is_earlier_in, is_num, is_one, is_steady_in, names_well}
pub use Rattle.vms_spec.specs.Rules.{nobody, test_names_well, uses_below, validation_rules}
pub use Rattle.vms_spec.specs.Sets.{And, AtLeast, Below, Cell, Desc, Device, Field, Formula, Not, Or, Set, Sub}
pub use Rattle.vms_spec.specs.WellFormed.{WellFormed, device_rules, devices_items, has_few, items_in, struct_items, struct_rules, sub_rules, subs_items}
pub use Rattle.vms_desc.specs.{declared.path.Element.Element, declared.path.Placed.Placed, declared.forms.Forms.Forms, declared.table.Table.Table, Put.AreForms}
pub use Rattle.vms_desc.specs.{declared.eval.Scope.Scope, Numbers.number_of_parent, Formed.is_well_formed, Described.described, Spots.form_numbers, Put.Puts}
pub use Rattle.vms_desc.specs.{Formed.shipped_set, Names.first_named, Spots.defaults_at, Formed.newest_set, Numbers.fields_in, Numbers.number_of, Heads.FitsSub}
pub use Rattle.vms_desc.specs.{Formed.clock_set, Numbers.place_in, Numbers.sizes_of, Heads.FitsHead, Heads.HeadsFit, Spots.kinds_at}
pub use Rattle.vms_desc.specs.Forms.{device_forms, fields_forms, forms_to, item_forms, structs_forms, subs_forms}
pub use Rattle.vms_desc.specs.Parts.{HasParentCells, HasPart, desc_at, is_number, is_number_in, is_number_of_parent, is_placed, parent_of, sub_at}
pub use Rattle.vms_desc.specs.Paths.{Begins, Enters, IsPlaced, begin_base, begin_desc, element_in, element_of}
pub use Rattle.vms_desc.specs.Scopes.{IsInside, IsInsideParent, IsParent, IsScope, may_ask, may_ask_parent}
pub use Rattle.vms_desc.specs.Tables.{AreDeviceTables, AreStarts, AreTables, IsTable, device_fields, no_table}
pub use Rattle.vms_parts.proofs.{Items.drop_is, Items.get_map_at, ItemLaws.items_are, ItemLaws.items_to, SizeLaws.capped_fields, SizeLaws.capped_subs}
pub use Rattle.vms_parts.specs.{Devices.device_at, declared.types.Parts.Parts, declared.types.CellForm.CellForm, declared.sizes.Measure.TheVariants.Cells}
pub use Rattle.vms_parts.specs.{declared.sizes.Measure.TheVariants.Items, Sizes.fields_size, Sizes.in_u32, Sizes.size_of, Sizes.sizes_to, Sizes.subs_size}
pub use Rattle.vms_parts.specs.Views.{desc_of, device_of, field_of, form_of, formula, formula_in, layout_of, set_of, sub_of}
pub use Rattle.vms_spots.proofs.{SpotLaws.are_apart, LayoutLaws.kinds_again, LayoutLaws.laid_again}
pub use Rattle.vms_spots.specs.Spots.{Held}
pub use mir.Syntax.{w128}
pub use mir.Val.{SFits}
