-- The names of other crates, and of this crate's `specs`, that the proofs use.
pub use Rattle.std.proofs.{Math.ListN.set, lemmas.List.Folds.position_or_len_push, lemmas.List.Sums.prefix_len-le-length, lemmas.Option.same_Some}
pub use Rattle.std.proofs.{lemmas.Slice.Eq.bytes_eq-Decides, lemmas.Str.IsUtf8-from_is_utf8, lemmas.Str.is_utf8-from_IsUtf8}
pub use Rattle.std.proofs.Common.{Bool, Equal, Err, Greater, IfOk, IsUtf8, Less, List, None, Ok, Option, Ordering, Result, Some, [], ap, append_assoc, ap₂}
pub use Rattle.std.proofs.Common.{arith, codes, cond, decimal, drop, eqb, false, get_or, if◌then◌else◌, is_eq, is_some, length, length-drop, length-take}
pub use Rattle.std.proofs.Common.{ltb, map, option_and_then, option_map, refl, rules, slice_set, string_bytes, suc, sym, take, take_all, true, zero, ℕ}
pub use Rattle.std.proofs.Common.{◌&&◌, ◌*◌, ◌++◌, ◌+◌, ◌-◌, ◌<◌, ◌||◌, ◌∙◌, ◌∷◌, ◌≡◌, ◌≤◌}
pub use Rattle.std.proofs.Math.Bool.{and-false, and_self_left, or-false, or-true}
pub use Rattle.std.proofs.Math.Seq.{drop-append_seam, set-append_seam, take-append_seam}
pub use Rattle.std.proofs.lemmas.Bool.{MatchBool-at_false, MatchBool-at_true, eqb-false, eqb-true, false≢true}
pub use Rattle.std.proofs.lemmas.List.{append-nil, get_or_at, get_or_default, length-append, length-set, map-append, nil_from_length, same_from_push}
pub use Rattle.std.proofs.lemmas.Map.Text.{btree_map_updates_text, is_eq-slice_cmp}
pub use Rattle.std.specs.{Borrow.Bor, Cmp.Lexicographic.slice_cmp, List.list_all, List.list_any, List.position, List.position_or_len, Ordering.match_ordering}
pub use Rattle.std.specs.{Ordering.nat_cmp, Prelude.MatchBool, Prelude.MatchOption, Prelude.slice_get, Str.bytes_eq, Str.is_utf8}
pub use Rattle.vms_spec.proofs.{ListsAndNumbers.one_of_both}
pub use Rattle.vms_spec.specs.{Lists.or_else, Streams.is_one_of}
pub use Rattle.vms_json.specs.{Asked.some_ask, Keys.has, Keys.has_all, Keys.has_no_others, Keys.has_one, Laying.IsRowOf, Laying.IsRun, Laying.IsUnder}
pub use Rattle.vms_json.specs.{Laying.IsWhole, Nodes.rows_view, Nodes.text_at, Texts.value_in, declared.fault.Fault.Fault, declared.node.Row.Row}
pub use Rattle.vms_json.specs.{declared.node.Tree.Tree, declared.parse.Laid.Laid, declared.parse.NoNode.NoNode, declared.parse.NoNode.TheVariants.Syntax}
pub use Rattle.vms_json.specs.Answers.{Answer, Refuses, bad, changed, each_from, good, next, under}
pub use Rattle.vms_json.specs.Frames.{Frame, after, before, due, in_list, in_object, inside, items_due, members_due, room, value_due}
pub use Rattle.vms_json.specs.Index.{IsIndex, at_name, first_of, names_of, text_or_none}
pub use Rattle.vms_json.specs.Laying.{is_in_list, items_of, AreBelow, AreEnough, AreItems, AreMembers, HasEnded, HasValue, InList, InObject, IsOpen, IsLaid}
pub use Rattle.vms_json.specs.Nodes.{tree_view, view, count_at, flag_at, front, is_list, is_object, items_left, key_at, members_left, members_on, number_at}
unfoldable pub use Rattle.vms_json.specs.Nodes.{data_in, items_in, members_in}
pub use Rattle.fast_float.specs.Text.{scan}
pub use Rattle.json.proofs.Grammar.{value_is, items_end, members_end, members_no_key, read_key-shorter, value-begin_array, value-begin_object}
pub use Rattle.json.specs.{Json.Parse, Json.after_end_array, Json.if_last, Json.parse_map, Json.read_key, Json.value, Lex.tokens, Reads.token_of, Token.Token}
unfoldable pub use Rattle.json.specs.Json.{items, members}
pub use Rattle.serde_json.proofs.Views.{get_member-put, get_member-put_other}
pub use Rattle.serde_json.specs.{Events.items_len, View.number_view, declared.number.Number.Number}
pub use Rattle.serde_json.specs.Data.{Data, Items, Members, array, item, member, no_items, no_members, null, object, put}
pub use Rattle.serde_json.specs.Find.{as_array, as_bool, as_number, as_object, as_str, get, get_member}
pub use Rattle.serde_json.specs.Read.{converted, max_depth, number_from, of_items, of_json, of_members, read}
unfoldable pub use Rattle.serde_json.specs.Read.{number_of}
