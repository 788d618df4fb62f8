-- The names of other crates, and of this crate's `specs`, that the proofs use.
pub use Rattle.std.proofs.{Math.Facts.to_z-of_z, Math.ListN.get_or-eq_default, Math.Nat.mul-le-mul_left, Math.Nat.mul-le-mul_right, Math.Seq.take-append_seam}
pub use Rattle.std.proofs.{lemmas.Fmt.decimal_by_steps, lemmas.Fmt.length-decimal-le, lemmas.Option.slice_get-get_or, lemmas.Result.IfOk-weaker}
pub use Rattle.std.proofs.{lemmas.Slice.Eq.bytes_eq-Decides, lemmas.Str.IsCharBoundary-from_take, lemmas.Str.IsUtf8-string_bytes, lemmas.Bool.Decides.nat_tests}
pub use Rattle.std.proofs.Common.{Bool, List, None, Option, Some, String, [], add-one, ap, append_assoc, ap₂, arith, codes, cond, decimal, drop, false, get_or}
pub use Rattle.std.proofs.Common.{inl, inr, int_lt, is_none, is_some, length, length-append, map, max, nat_le, nat_lt, negsuc, option_and_then, pos, refl}
pub use Rattle.std.proofs.Common.{rules, string_bytes, subst, suc, sym, take, true, w64, zero, ℕ, ℤ, ◌%◌, ◌&&◌, ◌*◌, ◌++◌, ◌+◌, ◌-◌, ◌/◌, ◌<◌, ◌==◌, ◌^◌, ◌||◌}
pub use Rattle.std.proofs.Common.{◌∙◌, ◌∷◌, ◌≡◌, ◌≤◌}
pub use Rattle.std.proofs.Math.Bool.{and-false, and-true, and_assoc}
pub use Rattle.std.proofs.lemmas.Bool.{OnTrue_at, OnTrue_from, and_parts, cases_lt, eqb-true, le-ltb, leb-true, lt-ltb, ltb-false, ltb-true, or_from}
pub use Rattle.std.proofs.lemmas.List.{append-nil, drop_all, drop_more, map-append, map-id, take-append-drop}
pub use Rattle.std.specs.{Char.digit_char, Int.w128, Int.Signed.mag, Option.option_map, Str.IsUtf8, Str.bytes_eq, Fmt.signed_decimal}
pub use Rattle.std.specs.List.{AllByRecursion, list_all}
unfoldable pub use Rattle.std.specs.Fmt.{digits}
pub use Rattle.vms_kinds.specs.{Codes.highest, Codes.lowest, Codes.width, declared.Item.Item, declared.Kind.Kind, declared.Kind.TheVariants.U8}
pub use Rattle.vms_kinds.specs.declared.Item.TheVariants.{Equal, Num, Struct, Unused}
unfoldable pub use Rattle.vms_kinds.specs.Codes.{code}
pub use Rattle.vms_spec.proofs.{WellFormedLaws.AllTrue, ListsAndNumbers.width_small, ListsAndNumbers.versions_long}
pub use Rattle.vms_spec.proofs.Examples.{constant_set, counted_set, mixed_set, subsection_set, tested_set}
pub use Rattle.vms_spec.proofs.Tables.{first_at, first_long, FieldsBelow, ItemBelow, all_below, desc_cells_same, field_cells_same, first_same, item_cells_same}
pub use Rattle.vms_spec.proofs.Tables.{own_same, row_same, elements_fit, field_size, one_fits, room_for_less}
pub use Rattle.vms_spec.specs.{Heads.FitsHeads, Images.Image, Images.own_cells, Layout.numbers_of, Shipped.set_0, Shipped.shipped_sets, Streams.AreReady}
pub use Rattle.vms_spec.specs.{Streams.longest_text, Streams.written, Tests.is_there, WellFormed.struct_items, declared.Count.Count, declared.Part.Part}
pub use Rattle.vms_spec.specs.{Names.is_name, Names.is_name_byte, Names.is_sub_name, declared.TheConstants.MOST_ITEMS, declared.TheConstants.MOST_UNUSED}
pub use Rattle.vms_spec.specs.Layout.{struct_cells, capacity_of, counted, desc_cells, elements_of, field_cells, item_size, no_desc, no_field, no_parent}
pub use Rattle.vms_spec.specs.Rules.{counts_well, defaults_well, field_rules, in_range, int_le, is_small_item, is_small_optional, uses_below}
pub use Rattle.vms_spec.specs.Sets.{AtLeast, Desc, Device, Field, Set, Sub}
pub use Rattle.vms_spec.specs.WellFormed.{subs_items, deepest, devices_items, first_fault, has_few, item_count, item_depth, items_in, struct_depths}
pub use Rattle.vms_spec.specs.declared.Count.TheVariants.{Counted, Fixed, One}
unfoldable pub use Rattle.vms_spec.specs.Layout.{first}
pub use Rattle.vms_words.specs.Words.{kind_word}
pub use Rattle.vms_elements.proofs.{LinesOf.array_of, LinesOf.outs, Members.all_both, Members.all_more, Members.decimal_all, Members.shapes_cells}
pub use Rattle.vms_elements.specs.Elements.{Element, Number, Shape, What, array_elements, behind, cells_in, desc_elements, dotted, elements_from}
pub use Rattle.vms_elements.specs.Elements.{field_elements, index_text, item_elements, no_shape, shape, shapes}
pub use Rattle.vms_desc.proofs.AskLaws.{few_cells, found_field, here_fields, own_inside_device, sub_first, sub_inside, sub_next}
pub use Rattle.vms_desc.proofs.Clean.{clock_heads, by_number, clock_formed, fit_number, few_devices, few_items, few_structs, none_is, device_clean, few_subs}
pub use Rattle.vms_desc.proofs.Clean.{field_clean, field_sound, reach, struct_clean, sub_clean, item_rank, part_rank, rank_below, reach_whole, uses_more}
pub use Rattle.vms_desc.proofs.EvalLaws.{place_after, place_is, place_within}
pub use Rattle.vms_desc.specs.{Asks.field_at, Asks.field_start, Asks.first_cell, Asks.own_numbers, Described.described, Described.device_at, Formed.clock_set}
pub use Rattle.vms_desc.specs.{Formed.is_well_formed, Formed.shipped_set, Parts.HasPart, Parts.desc_at, Parts.sub_at}
pub use Rattle.vms_image.proofs.States.{state_at, states_long}
pub use Rattle.vms_image.specs.Typed.{IsOfDevice, state_of}
pub use Rattle.vms_parts.specs.Views.{field_of}
pub use Rattle.vms_rules.proofs.WalkLaws.{deepest_small}
pub use Rattle.vms_selfdesc.specs.{Drafts.member_text, Needs.HasElements, Needs.HasPlace, Needs.item_levels, Needs.part_levels, Tree.entry_tree, Tree.list_tree}
pub use Rattle.vms_selfdesc.specs.{Tree.natural, Tree.sent_members, declared.draft.Draft.Draft, declared.path.Path.Path, declared.text.Text.Text}
pub use Rattle.vms_selfdesc.specs.Drafts.{texts, Adds, AreSound, Begins, Extends, IsEmpty, IsPlain, IsSound, Lays, Puts, absent_tail, after, cell_tail}
pub use Rattle.vms_selfdesc.specs.Entries.{Entry, absent_entry, cell_entry, entries_of, entry_of, listed_if, part_entries, sent_entry}
pub use Rattle.vms_selfdesc.specs.Laws.{ClockLaw, ShippedLaw, ShortLaw}
pub use Rattle.vms_selfdesc.specs.Listing.{item_list, numbers_in, part_list, set_in, Lists, array_entries, element_entries, element_path, elements_list}
pub use Rattle.vms_selfdesc.specs.Listing.{field_list, is_field_sent, item_entries}
pub use Rattle.vms_selfdesc.specs.Tree.{sub_members, sub_tree, sub_trees, with_value, described_text, described_tree, device_members, device_tree, device_trees}
pub use Rattle.json.proofs.{Printed.Tokens.tokens-print, Printed.Decimals.IsNumber-decimal, Printed.Decimals.IsNumber-signed_decimal}
pub use Rattle.json.proofs.Printed.Trees.{ArePrintable-json_tokens, value-json_tokens}
pub use Rattle.json.specs.{Lex.tokens, Print.escape, Print.escape_letter, Print.quoted, Token.Token, Tree.ItemsHaveNumbers}
unfoldable pub use Rattle.json.specs.Print.{escape_byte}
pub use Rattle.serde_json.proofs.{Numbers.number_of-decimal, Numbers.number_of-negative, Texts.print-outline}
pub use Rattle.serde_json.specs.{Find.of_integer, Read.max_depth, Read.of_items, Read.of_json, Read.read, View.items_of, Written.members_text}
pub use Rattle.serde_json.specs.Data.{Data, Items, Members, array, boolean, depth, float, item, items_depth, member, members_depth, negative, no_items}
pub use Rattle.serde_json.specs.Data.{no_members, null, number, object, put, string, unsigned}
pub use Rattle.serde_json.specs.Written.{number_text, outline, comma_if, compact_text, has_float, items_have_float, items_outline, items_text, members_outline}
pub use mathlib.Core.Path.{fun_ext}
