-- The names of other crates, and of this crate's `specs`, that the proofs use.
pub use Rattle.std.proofs.{Math.Bool.or_assoc, Math.Bool.or_comm, Math.ListN.get_or-map, Math.Nat.mul-le-mul_right, Math.Path.fun_ext}
pub use Rattle.std.proofs.{Math.Seq.drop-append_seam, lemmas.Bool.Decides.nat_tests, lemmas.Int.ints, lemmas.Nat.mod_below, lemmas.Nat.pow_pos}
pub use Rattle.std.proofs.{lemmas.Option.get_or_from_slice_get, lemmas.Option.slice_get_within, lemmas.Slice.Eq.bytes_eq-Decides}
pub use Rattle.std.proofs.Common.{Bool, List, None, Option, Some, [], ap, append-nil, arith, codes, drop, false, get_or, if◌then◌else◌, length, length-append}
pub use Rattle.std.proofs.Common.{map, min, nat_le, nat_lt, negsuc, pos, refl, subst, suc, sym, take, true, zero, ℕ, ℤ, ◌&&◌, ◌*◌, ◌++◌, ◌+◌, ◌-◌, ◌<◌}
pub use Rattle.std.proofs.Common.{◌==◌, ◌^◌, ◌||◌, ◌∙◌, ◌∷◌, ◌≡◌, ◌≤ℤ◌, ◌≤◌}
pub use Rattle.std.proofs.lemmas.Bool.{and_from, and_parts, eq-eqb, ltb-true, not-true, or_parts}
pub use Rattle.std.proofs.lemmas.List.{drop-drop, drop_more, get_or-take, get_or_append_left, get_or_push, get_or_read, map-append}
pub use Rattle.std.specs.{List.AllByRecursion, List.flat_map, List.list_all, List.list_any, List.slice_get, Prelude.is_none, Str.bytes_eq}
pub use Rattle.vms_kinds.specs.{Codes.InRange, Codes.highest, Codes.lowest, Codes.residue, Codes.value_of, Codes.width, declared.Item.Item, declared.Kind.Kind}
pub use Rattle.vms_kinds.specs.declared.Item.TheVariants.{Equal, Num, Struct, Unused}
pub use Rattle.vms_kinds.specs.declared.Kind.TheVariants.{I8, U16, U32, U8}
pub use Rattle.vms_spec.specs.{Heads.FitsHeads, Layout.struct_cells, Layout.times, Lists.first_answer, Lists.or_else, Lists.position, Lookup.find_device}
pub use Rattle.vms_spec.specs.{Lookup.find_sub, Lookup.is_bad_bool, Names.is_name, Names.is_name_byte, Numbers.exceeds, Numbers.is_above, Numbers.same_number}
pub use Rattle.vms_spec.specs.{Places.cell_at, Places.cell_count, Readiness.is_normal, Readiness.is_ready, Spelling.natural_from, Streams.AllCame, Streams.be32}
pub use Rattle.vms_spec.specs.{Streams.is_one_of, Tests.is_there, Values.values_text, declared.Count.Count, declared.Part.Part, declared.Place.Place}
pub use Rattle.vms_spec.specs.{declared.TheConstants.MOST_UNUSED, declared.Whose.TheVariants.Own, declared.Whose.TheVariants.Parent}
pub use Rattle.vms_spec.specs.Good.{ConstantFits, ConstantsFit, DefaultsFit, IsFit, IsGood, ShippedLaw}
pub use Rattle.vms_spec.specs.Images.{AreVersionsOf, FitsCell, Image, default_image, sub_place}
pub use Rattle.vms_spec.specs.Layout.{Meaning, capacity_of, cells_from, counted, desc_cells, desc_slots, device_cells, elements_of, field_cells, item_cells}
pub use Rattle.vms_spec.specs.Layout.{item_size, item_slots, meaning, meanings, no_desc, no_field, no_meaning, no_parent, numbers_of, place_of, slots_from}
pub use Rattle.vms_spec.specs.Rules.{count_names_well, counts_well, defaults_well, field_rules, has_no_test, in_range, int_le, is_earlier_in}
pub use Rattle.vms_spec.specs.Rules.{is_num, is_one, is_steady, is_steady_in, names_well, nobody, test_names_well, uses_below, validation_rules}
pub use Rattle.vms_spec.specs.Sets.{And, AtLeast, Below, Cell, Desc, Device, Field, Formula, Not, Or, Set, Sub}
pub use Rattle.vms_spec.specs.Shipped.{set_0, set_3, shipped_sets}
pub use Rattle.vms_spec.specs.Sound.{AreSoundFields, IsEarlier, IsNumber, IsOne, IsSound, IsSoundCount, IsSoundField, IsSoundTest, NamesEarlier}
pub use Rattle.vms_spec.specs.ValuesReading.{Bad, Reader, Values, ValuesRead, cells_of, reader}
pub use Rattle.vms_spec.specs.WellFormed.{SetFault, WellFormed, desc_fault, device_fault, device_rules, failing, fields_fault, here, in_field, is_same_device}
pub use Rattle.vms_spec.specs.WellFormed.{set_rules, size_rules, struct_fault, struct_rules, sub_fault, sub_rules, validations_fault}
pub use Rattle.vms_spec.specs.declared.Count.TheVariants.{Counted, Fixed, One}
pub use Rattle.vms_spec.specs.declared.Rel.TheVariants.{Eq, Ge, Lt, Ne}
pub use Rattle.byteorder.specs.{Endian.big_bytes, Endian.big_number, Numbers.big_number-reads_back}
unfoldable pub use Rattle.std.specs.Fmt.{digits}
unfoldable pub use Rattle.vms_kinds.specs.Codes.{code}
unfoldable pub use Rattle.vms_spec.specs.{Layout.first, ValuesReading.values_read, WellFormed.first_fault}
