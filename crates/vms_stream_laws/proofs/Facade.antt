-- The names of other crates, and of this crate's `specs`, that the proofs use.
pub use Rattle.vms_bodies.proofs.{Places.if_there, PartLaws.none_missing, SettledLaws.own_constants, SettledLaws.part_constants, SettledLaws.AreConstants}
pub use Rattle.std.proofs.{lemmas.Simd.map-map, Math.Nat.mul-le-mul_right, Math.Seq.take-append_seam, lemmas.Bool.and_from, lemmas.Bool.le-ltb}
pub use Rattle.std.proofs.{lemmas.Bool.leb-true, lemmas.Option.slice_get-map, lemmas.Option.slice_get_within}
pub use Rattle.std.proofs.Common.{Bool, List, None, Option, Some, [], ap, append_assoc, arith, drop, false, get_or, if◌then◌else◌, length, length-append}
pub use Rattle.std.proofs.Common.{length-drop, length-set, map, nat_le, not, pos, refl, slice_set, subst, suc, sym, take, true, zero, ℕ, ℤ, ◌&&◌}
pub use Rattle.std.proofs.Common.{◌*◌, ◌++◌, ◌+◌, ◌<◌, ◌^◌, ◌∙◌, ◌∷◌, ◌≡◌, ◌≤◌}
pub use Rattle.std.proofs.lemmas.List.{append-nil, drop-map, length-map, length-replicate, map-append, take-map}
pub use Rattle.std.specs.{Str.bytes_eq, Option.option_map, Prelude.replicate, List.flat_map, List.list_any, List.slice_get}
pub use Rattle.vms_kinds.proofs.ByteLemmas.{bytes_both, bytes_first}
pub use Rattle.vms_kinds.specs.{Bytes.IsBytes, Codes.InRange, declared.Item.Item, declared.Kind.Kind, declared.Kind.TheVariants.U8}
pub use Rattle.vms_kinds.specs.declared.Item.TheVariants.{Struct}
pub use Rattle.vms_spec.proofs.ListsAndNumbers.{both_none, is_below, not_above, same_number_itself}
pub use Rattle.vms_spec.proofs.Tables.{elements_fit, one_more}
pub use Rattle.vms_spec.proofs.WellFormedLaws.{AllTrue, all_true, or_else_none, device_parts, well_good}
pub use Rattle.vms_spec.specs.{Images.default_image, declared.Part.Part, Lists.first_answer, Numbers.is_above, Numbers.is_truth, Images.own_cells, Images.Image}
pub use Rattle.vms_spec.specs.{Images.sub_place, Heads.FitsHeads, Streams.AllCame, Layout.meanings, Numbers.exceeds, Lists.at_option, Tests.is_there, Sets.Desc}
pub use Rattle.vms_spec.specs.{Layout.no_desc, Lists.position, Streams.magic, Good.IsGood, SoFar.slots, Sets.Device, Lookup.raw, Sets.Field, Sets.Set, Sets.Sub}
pub use Rattle.vms_spec.specs.Layout.{no_meaning, no_parent, numbers_of, slots_from, struct_cells, times, Cell, Meaning, Rule, Slot, all_hold, capacity_of}
pub use Rattle.vms_spec.specs.Layout.{counted, desc_cells, desc_slots, device_cells, elements_of, field_cells, field_slots, item_size, item_slots, meaning}
pub use Rattle.vms_spec.specs.SoFar.{slots_of_sub, sub_named, subs_of, come, device, device_named, fresh, id_of, image, mark_come, opened, part, part_slots}
pub use Rattle.vms_spec.specs.Units.{Configuration, Constant, End, Filler, Foot, Head, Magic, Number, Piece, SubHead, Version, spell, spelled}
pub use Rattle.vms_spec.specs.WellFormed.{WellFormed, deepest, desc_fault, device_fault, device_rules, devices_items, failing, has_few, here, is_same_device}
pub use Rattle.vms_spec.specs.WellFormed.{items_in, set_rules, size_rules, struct_depths, struct_fault, struct_items, sub_fault, subs_items}
pub use Rattle.vms_stream.proofs.{Stated.units_hold, Steps.end_passes, Steps.foot_passes, Steps.head_passes}
pub use Rattle.vms_stream.proofs.Written.{AreBytes, be32_bytes, bytes_at, code_bytes, foot_bytes, head_bytes, parts_named, zeros_bytes}
pub use Rattle.vms_stream.specs.{Laws.Ends, Judge.owes, Faults.Front, Table.asking, Table.first_of, Table.reason_of, Table.test_some}
pub use Rattle.vms_stream.specs.Dues.{AVersion, AfterFields, AtConstant, AtEnd, AtFiller, AtFoot, AtHead, AtMagic, AtNext, AtNumber, AtVersion, Between, Due}
pub use Rattle.vms_stream.specs.Dues.{May, due, due_field, fits_four, holds, is_foot, rules_hold}
pub use Rattle.vms_stream.specs.SoFar.{Bare, Footed, Known, Tail, behind, beyond, known, passed, skipped, tail}
pub use Rattle.vms_stream_laws.specs.Laws.{BeginningLaw, Begins, HoldsBefore, RefusedLaw}
pub use Rattle.vms_stream_laws.specs.Unruled.{unruled, unruled_desc, unruled_device, unruled_sub}
pub use mathlib.Core.Path.{fun_ext}
unfoldable pub use Rattle.vms_spec.specs.{Layout.first, WellFormed.first_fault}
