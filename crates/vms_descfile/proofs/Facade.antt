-- The names of other crates, and of this crate's `specs`, that the proofs use.
pub use Rattle.std.proofs.{lemmas.Int.ints, lemmas.Slice.Eq.bytes_eq-Decides, lemmas.Str.IsUtf8-string_bytes, Common.◌∙◌, Common.◌∷◌}
pub use Rattle.std.proofs.Common.{◌≡◌, ◌≤◌, Bool, Equal, Err, Global, Greater, IfSome, Less, List, None, Option, Ordering, Result, Some, String, []}
pub use Rattle.std.proofs.Common.{ap, append_assoc, arith, below_more, codes, decimal, drop, false, get_or, if◌then◌else◌, int_le, int_lt}
pub use Rattle.std.proofs.Common.{is_none, is_some, length, map, max, min, nat_le, nat_lt, negsuc, not, option_and_then, option_map, pos, refl, rules}
pub use Rattle.std.proofs.Common.{string_bytes, subst, suc, sym, take, true, zero, ℕ, ℤ, ◌&&◌, ◌++◌, ◌+◌, ◌-◌, ◌<◌, ◌==◌, ◌||◌}
pub use Rattle.std.proofs.lemmas.Bool.{and_from, and_parts, eqb-true, false≢true, le-leb, leb-true, lt-ltb, not-true, or_parts, true≢false}
pub use Rattle.std.proofs.lemmas.List.{append-nil, drop_all, length-map, map-append}
pub use Rattle.std.proofs.lemmas.Option.{same_Some, slice_get_within}
pub use Rattle.std.specs.{Cmp.Lexicographic.slice_cmp, Str.bytes_eq, Ordering.match_ordering, Ordering.nat_cmp}
pub use Rattle.std.specs.List.{position, position_or_len, slice_get}
unfoldable pub use Rattle.std.specs.{Fmt.digits, Str.chars, Str.is_utf8}
pub use Rattle.vms_kinds.specs.{declared.Item.Item, declared.Kind.Kind}
pub use Rattle.vms_spec.proofs.Examples.{counted_set, tested_set}
pub use Rattle.vms_spec.proofs.WellFormedLaws.{Clean, device_parts, ranges, struct_clean, sub_clean}
pub use Rattle.vms_spec.specs.{Layout.counted, Names.all_names, Names.are_new, Numbers.same_number, Streams.is_one_of, declared.Count.Count, declared.Rel.Rel}
pub use Rattle.vms_spec.specs.Rules.{count_names_well, counts_well, defaults_well, in_range, is_counting, is_earlier_in, is_small_item, is_small_optional}
pub use Rattle.vms_spec.specs.Rules.{is_small_test, is_steady, is_steady_in, names_well, nobody, nodes, test_names_well}
pub use Rattle.vms_spec.specs.Sets.{And, AtLeast, Below, Cell, Desc, Device, Field, Formula, Not, Or, Set, Sub}
pub use Rattle.vms_spec.specs.WellFormed.{SetFault, WellFormed, device_rules, has_few, here, struct_depths, struct_rules, sub_rules}
pub use Rattle.vms_spec.specs.declared.Count.TheVariants.{Counted, Fixed, One}
pub use Rattle.vms_spec.specs.declared.Whose.TheVariants.{Own, Parent}
unfoldable pub use Rattle.vms_spec.specs.WellFormed.{first_fault}
pub use Rattle.vms_words.specs.Words.{TellsKind, kind_word}
pub use Rattle.vms_desc.specs.Described.{described}
pub use Rattle.vms_descfile.specs.{Depths.DepthLaw, Tests.own_cell, Tests.pair_seen, declared.file_fault.FileFault.FileFault, declared.read.cells.Form.Form}
pub use Rattle.vms_descfile.specs.{declared.read.cells.Leaf.Leaf, declared.read.sort.Sort.Sort, declared.read.sort.Sort.TheVariants.Number}
pub use Rattle.vms_descfile.specs.Descs.{set_of, struct_in, struct_of, sub_of, whole_in, whole_of, whole_seen, Head, Whole, desc_allows, desc_needs}
pub use Rattle.vms_descfile.specs.Descs.{device_of, head_of, minimum_or, rest_of}
pub use Rattle.vms_descfile.specs.Fields.{Front, IsPlain, count_as, count_of, counts_fit, field_after, field_allows, field_fits, field_in, field_needs}
pub use Rattle.vms_descfile.specs.Fields.{field_of, front_of, item_as, plain_field, plain_members, sort_fits, sort_named, sort_of, values_fit}
pub use Rattle.vms_descfile.specs.Files.{IllFormed, Parts, Said, Shape, Syntax, judged_said, parts_said, value_in, value_said}
pub use Rattle.vms_descfile.specs.Fitting.{FitsDesc, FitsDevice, FitsField, FitsOptional, FitsSet, FitsSub, FitsTest, FitsWhole}
pub use Rattle.vms_descfile.specs.Given.{Gives, GivesValue, IsFileFault}
pub use Rattle.vms_descfile.specs.Tests.{parent_cell, rel_of, test_as, test_of, test_within, two_of, with_parent, Pair, both, form_of, joined, key_of, leaf_as}
pub use Rattle.vms_descfile.specs.Written.{capacity_in, compared_file, counter_in, desc_members, device_file, equal_in, field_file, front_file, given_as}
pub use Rattle.vms_descfile.specs.Written.{integer_file, is_zero, item_word, length_in, list_as, list_file, natural_file, own_names, rel_file}
pub use Rattle.vms_descfile.specs.Written.{set_file, size_in, struct_file, sub_file, test_file, unless, whole_file}
unfoldable pub use Rattle.vms_descfile.specs.{Descs.parts_of, Files.file_said}
pub use Rattle.vms_json.proofs.KeyLaws.{has_value, none_left, object_is}
pub use Rattle.vms_json.specs.{Keys.fits, Keys.has, Keys.has_all, Keys.has_no_others, declared.fault.Fault.Fault, declared.parse.TheConstants.DEEPEST}
pub use Rattle.vms_json.specs.{Index.first_of, Index.names_of, Index.text_or_none, Nodes.members_left, Nodes.members_on, Nodes.tree_view, Nodes.view}
pub use Rattle.vms_json.specs.Answers.{Answer, Answers, Refuses, bad, changed, each_from, each_of, given, good, list_of, next, under}
pub use Rattle.vms_json.specs.Asked.{asks_a_name, asks_in, asks_names, some_ask}
pub use Rattle.vms_json.specs.Members.{at, at_or, integer_of, judged, maybe_at, member_of, member_or, natural, text_of, u16_of, u32_of, u64_of}
pub use Rattle.vms_json.specs.Names.{Names, Scope, name_in, names_if, number_in, scope_seen}
pub use Rattle.vms_parts.proofs.{Items.drop_is}
pub use Rattle.vms_parts.specs.{Views.desc_of, Views.formula, declared.types.Test.Test}
unfoldable pub use Rattle.serde_json.proofs.OnLiterals.{serde_json_on_literals}
pub use Rattle.serde_json.proofs.Views.{get_member-put, get_member-put_other}
pub use Rattle.serde_json.specs.{Read.max_depth, Read.read, View.items_of, View.members_view, declared.value.Value.Value}
pub use Rattle.serde_json.specs.Data.{null, number, object, put, string, Data, Items, Members, array, depth, item, member, members_depth, no_items, no_members}
pub use Rattle.serde_json.specs.Find.{as_array, as_str, get, get_member, of_integer}
pub use Rattle.serde_json.specs.Written.{compact_text, has_float, members_have_float}
pub use native.Mathlib.Numerals.{unary_clauses}
