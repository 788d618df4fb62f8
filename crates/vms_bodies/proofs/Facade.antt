-- The names of other crates, and of this crate's `specs`, that the proofs use.
pub use Rattle.std.proofs.{lemmas.Option.get_or_from_slice_get, lemmas.Bool.Decides.Decides-like, lemmas.Bool.Decides.Decides-and, Math.ListN.get_or-eq_default}
pub use Rattle.std.proofs.{lemmas.Option.slice_get_within, Math.Nat.mul-le-mul_right, Math.Seq.drop-append_seam, Math.ListN.get_or-map, Math.Logic.⊎_elim}
pub use Rattle.std.proofs.{Common.◌≤ℤ◌, Math.Bool.or_assoc, Math.Seq.drop-cons, Math.Bool.not-not, Common.◌≡◌, Common.◌≢◌, Common.◌≤◌}
pub use Rattle.std.proofs.Common.{Bool, Err, IfOk, List, None, Ok, Option, Some, [], ap, append-nil, append_assoc, arith, drop, false, get_or, get_or-set_other}
pub use Rattle.std.proofs.Common.{if◌then◌else◌, length, length-append, length-drop, map, nat_le, nat_lt, not, pos, refl, replicate, slice_set, suc, sym}
pub use Rattle.std.proofs.Common.{take, true, zero, ℕ, ℤ, ◌&&◌, ◌*◌, ◌++◌, ◌+◌, ◌-◌, ◌<◌, ◌==◌, ◌||◌, ◌∙◌, ◌∷◌}
pub use Rattle.std.proofs.lemmas.Bool.{and_from, and_parts, cases_Bool, cases_eq, cases_lt, eq-eqb, eqb-true, false_from_ne_true, le-leb, le-ltb, leb-true}
pub use Rattle.std.proofs.lemmas.Bool.{ltb-false, ltb-true, ne_eqb, not-true, not_from_false, or_left, or_parts, or_right}
pub use Rattle.std.proofs.lemmas.List.{append_cancel_left, drop-drop, drop_at, ext_get_or, get_or-set_same, get_or-take, length-map, length-replicate}
pub use Rattle.std.proofs.lemmas.List.{length-set, length-take-le, take-append-drop, take-append-le, take_all}
pub use Rattle.std.specs.{Bool.Decides, Str.bytes_eq, List.AllByRecursion, List.flat_map, List.slice_get}
pub use Rattle.vms_kinds.proofs.{ByteLemmas.bytes_first, ByteLemmas.bytes_rest, CodeLemmas.again, CodeLemmas.plain_take, CodeLemmas.value_taken}
pub use Rattle.vms_kinds.specs.{Bytes.IsBytes, declared.Item.Item, declared.Kind.Kind, declared.Kind.TheVariants.U8}
pub use Rattle.vms_kinds.specs.Codes.{InRange, IsBadBool, lowest, value_of, width}
pub use Rattle.vms_kinds.specs.declared.Item.TheVariants.{Equal, Num, Struct, Unused}
pub use Rattle.vms_spec.proofs.{ShippedSets.shipped_stands, ListsAndNumbers.same_number_is}
pub use Rattle.vms_spec.proofs.ListsAndNumbers.{same_number_itself, within_all, good_code, length-code, value_code, drop_on, either_of, or_turned, not_exceeds}
pub use Rattle.vms_spec.proofs.Tables.{first_cells, first_at, one_more, element_room, elements_fit, field_size, size_same}
pub use Rattle.vms_spec.proofs.WellFormedLaws.{ranges, well_good, within}
pub use Rattle.vms_spec.specs.{declared.Whose.TheVariants.Own, declared.Reason.Reason, declared.Count.Count, Rules.counts_well}
pub use Rattle.vms_spec.specs.{Numbers.same_number, Numbers.is_above, Numbers.is_truth, Numbers.exceeds, Tests.is_there, Rules.in_range, Rules.int_le, Sets.And}
pub use Rattle.vms_spec.specs.{Sets.Formula, Tests.truth, Sets.Device, Sets.Field, Sets.Desc, Sets.Not, Sets.Set, Sets.Sub, Sets.Or}
pub use Rattle.vms_spec.specs.Good.{ConstantFits, ConstantsFit, DefaultsFit, GoodLaw, IsGood, ShippedLaw}
pub use Rattle.vms_spec.specs.Images.{AreVersionsOf, FitCells, FitsCell, Image, IsNormal, IsValid, IsVersionOf, RulesHold, Spells, came_slots, default_image}
pub use Rattle.vms_spec.specs.Images.{has_cell, image_slots, own_cells, own_slots, sub_place, sub_slots, zeroed}
pub use Rattle.vms_spec.specs.Layout.{Cell, Constant, Filler, Meaning, Number, Rule, Slot, all_hold, capacity_of, cells_from, counted, desc_cells, desc_slots}
pub use Rattle.vms_spec.specs.Layout.{device_cells, elements_of, field_cells, field_slots, item_cells, item_size, item_slots, meaning, meanings, no_cell}
pub use Rattle.vms_spec.specs.Layout.{no_desc, no_field, no_meaning, no_parent, numbers_of, place_of, slots_from, struct_cells, times}
pub use Rattle.vms_spec.specs.Lookup.{bytes_at, find_device, find_sub, first_missing, is_bad_bool, number_at, raw}
pub use Rattle.vms_spec.specs.Places.{cell_at, cell_count, cell_in, desc_of_sub, element_at, item_at, path_at, size_of_device}
pub use Rattle.vms_spec.specs.Readiness.{are_settled, are_versions_of, come_as_needed, fit_cells, is_normal, is_ready, is_version_of, rules_are_true}
pub use Rattle.vms_spec.specs.Readings.{Goes, Reading, Verdict, reading_after, reading_from}
pub use Rattle.vms_spec.specs.Sound.{AreSound, AreSoundFields, IsEarlier, IsNumber, IsOne, IsSound, IsSoundCount, IsSoundField, IsSoundTest, NamesEarlier}
pub use Rattle.vms_spec.specs.Streams.{ComeAsNeeded, IsReady, be32, is_needed, section_head, sub_head}
pub use Rattle.vms_spec.specs.Taking.{Progress, Refusal, Taken, Taker, cells_of, check_rules, if_whole, no_taker, on, refuse, take_field, take_fields}
pub use Rattle.vms_spec.specs.Taking.{take_item, take_items, take_slot, take_value, takers, ◌>>=◌}
pub use Rattle.vms_bodies.specs.{Cells.AreCells, Cells.IsCell, Whole.Advances, Whole.reading_on, Laws.CellLaw, Laws.ReadyLaw, Laws.ZeroedLaw}
pub use Rattle.byteorder.specs.Endian.{big_from, big_number}
unfoldable pub use Rattle.vms_kinds.specs.Codes.{code}
unfoldable pub use Rattle.vms_spec.specs.{Layout.first, Taking.take_desc}
