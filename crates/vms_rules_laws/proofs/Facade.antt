-- The names of other crates, and of this crate's `specs`, that the proofs use.
pub use Rattle.std.proofs.{Math.Nat.max-le, Math.Bool.or_assoc, lemmas.Slice.Eq.bytes_eq-Decides}
pub use Rattle.std.proofs.Common.{Bool, List, None, Option, Some, [], ap, append_assoc, arith, drop, false, get_or, if◌then◌else◌, inl, inr, length}
pub use Rattle.std.proofs.Common.{length-append, map, max, nat_le, nat_lt, not, pos, refl, subst, suc, sym, take, true, zero, ℕ, ℤ, ◌&&◌, ◌*◌}
pub use Rattle.std.proofs.Common.{◌++◌, ◌+◌, ◌<◌, ◌==◌, ◌∙◌, ◌∷◌, ◌≡◌, ◌≤ℤ◌, ◌≤◌, ◌⊎◌}
pub use Rattle.std.proofs.lemmas.Bool.{and_from, and_parts, cases_Bool, eq-eqb, eqb-true, le-leb, leb-true, ltb-true, or_cases, or_left, or_right}
pub use Rattle.std.proofs.lemmas.Bool.Decides.{Decides-and, Decides-at, Decides-eqb, Decides-like, Decides-ltb, Decides-not, Decides-or}
pub use Rattle.std.proofs.lemmas.List.{drop_at, get_or_past, take-append-drop, take_at}
pub use Rattle.std.proofs.lemmas.Option.{get_or_from_slice_get, slice_get-get_or, slice_get_within}
pub use Rattle.std.specs.{Bool.Decides, List.AllByRecursion, List.list_all, List.list_any, List.slice_get}
pub use Rattle.vms_kinds.specs.{Codes.InRange, declared.Item.Item, declared.Kind.Kind}
pub use Rattle.vms_kinds.specs.declared.Item.TheVariants.{Equal, Num, Struct, Unused}
pub use Rattle.vms_kinds.specs.declared.Kind.TheVariants.{U16, U32, U8}
pub use Rattle.vms_spec.proofs.{Tables.first_at, Tables.first_long, Tables.two_more, ListsAndNumbers.both_none, ListsAndNumbers.same_number_is}
pub use Rattle.vms_spec.proofs.WellFormedLaws.{AllTrue, set_clean, Clean, device_parts, ranges, struct_clean, sub_clean, untested, within}
pub use Rattle.vms_spec.specs.{declared.Count.TheVariants.Counted, declared.TheConstants.MOST_UNUSED, declared.Whose.TheVariants.Parent, WellFormed.subs_items}
pub use Rattle.vms_spec.specs.{declared.Count.TheVariants.Fixed, declared.Whose.TheVariants.Own, declared.Count.TheVariants.One, WellFormed.struct_rules}
pub use Rattle.vms_spec.specs.{declared.Count.Count, declared.Place.Place, WellFormed.sub_fault, WellFormed.sub_rules, Numbers.same_number, Lists.first_answer}
pub use Rattle.vms_spec.specs.{declared.Part.Part, Names.is_name_byte, Streams.is_one_of, Names.is_sub_name, Names.all_names, Names.are_new, Names.is_name}
pub use Rattle.vms_spec.specs.Layout.{all_hold, capacity_of, counted, desc_cells, no_desc, struct_cells, field_cells}
pub use Rattle.vms_spec.specs.Rules.{count_names_well, counts_well, defaults_well, depth, field_rules, has_good_count, has_no_test, in_range, is_counting}
pub use Rattle.vms_spec.specs.Rules.{is_counting_item, is_earlier_in, is_num, is_one, is_small_item, is_small_optional, is_small_test, is_steady, is_steady_in}
pub use Rattle.vms_spec.specs.Rules.{names_well, nobody, nodes, test_names_well, uses_below, validation_rules}
pub use Rattle.vms_spec.specs.Sets.{And, AtLeast, Cell, Desc, Device, Field, Formula, Not, Or, Set, Sub}
pub use Rattle.vms_spec.specs.WellFormed.{are_distinct, deepest, desc_fault, device_fault, device_rules, devices_items, failing, has_few, here, in_field}
pub use Rattle.vms_spec.specs.WellFormed.{is_same_device, item_count, item_depth, items_in, set_rules, size_rules, struct_depths, struct_fault, struct_items}
pub use Rattle.vms_bodies.proofs.Stated.{counted_well, is_same, le_decides, ranged}
pub use Rattle.vms_elements.specs.{Elements.item_elements, Elements.no_shape, Elements.shape, Parts.absent, Parts.elements_in, Parts.subs_elements}
pub use Rattle.vms_elements.specs.Elements.{Element, Shape, Stand, array_elements, behind, cells_in, desc_elements, dotted, elements_from, field_elements}
pub use Rattle.vms_rules_laws.specs.{Laws.EightLaw, Eight.CountFits, Eight.DefaultFits, Eight.IsCounting, Eight.IsDesc, Eight.IsDevice}
pub use Rattle.vms_rules_laws.specs.Eight.{IsEarlier, IsField, IsName, IsNameByte, IsNew, IsSmall, IsSteady, IsStruct, IsSub, IsSubName, IsValidation, IsWithin}
pub use Rattle.vms_rules_laws.specs.Eight.{IsWithinTest, NamesOnly, Nests, Nobody, UsesOn, items_among, items_of, names_of, parts_of, AreNewNames, At}
unfoldable pub use Rattle.vms_spec.specs.{Layout.first, WellFormed.first_fault}
