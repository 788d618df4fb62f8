-- The names of other crates, and of this crate's `specs`, that the proofs use.
pub use Rattle.std.proofs.{Math.Bool.and-false, Math.Bool.and-true, Math.ListN.get_or-eq_default, Math.Nat.mod-lt, Math.Seq.drop-append_seam}
pub use Rattle.std.proofs.{lemmas.Bool.Decides.nat_tests, lemmas.Cmp.nat_list_cmp_total, lemmas.Grind.flat_map-append, lemmas.Int.to_z-of_z}
pub use Rattle.std.proofs.{lemmas.Map.Lookups.exact_bytes, lemmas.Map.Text.is_eq-slice_cmp, lemmas.Result.err_from_is_err_and, lemmas.Simd.map-map}
pub use Rattle.std.proofs.{lemmas.Slice.Eq.bytes_eq-Decides, lemmas.Str.IsUtf8-from_ascii, lemmas.Str.is_utf8-from_IsUtf8}
pub use Rattle.std.proofs.Common.{◌⊎◌, inl, inr, Bool, Equal, Err, Global, Greater, IfErr, IfSome, Less, List, None, Ok, OnOk, Option, Ordering, Result, SFits}
pub use Rattle.std.proofs.Common.{ap, append-nil, append_assoc, ap₂, arith, codes, decimal, drop, false, get_or, if◌then◌else◌, int_le, is_none, is_some, Some}
pub use Rattle.std.proofs.Common.{length, length-append, length-drop, length-take, map, nat_le, negsuc, not, option_and_then, option_map, pos, refl, Vec, []}
pub use Rattle.std.proofs.Common.{replicate, rules, slice_index, subst, suc, sym, take, true, unwrap_or, zero, ℕ, ℤ, ⊎_elim, ◌&&◌, ◌*◌, ◌++◌, ◌+◌, ◌-◌, ◌/◌}
pub use Rattle.std.proofs.Common.{◌<◌, ◌==◌, ◌^◌, ◌||◌, ◌∙◌, ◌∷◌, ◌≡◌, ◌≢◌, ◌≤◌}
pub use Rattle.std.proofs.lemmas.Bool.{and_from, and_parts, cases_lt, eq-eqb, eqb-true, le-leb, le-ltb, leb-true, lt-ltb, ltb-false, ltb-true}
pub use Rattle.std.proofs.lemmas.List.{drop-drop, drop_all, get_or-append-add, get_or-take, length-map, length-replicate, map-append, take-append-drop}
pub use Rattle.std.proofs.lemmas.List.{take_all, take_more, Sums.AllPass-from_list_all, Concat.flat_map_single}
pub use Rattle.std.proofs.lemmas.List.Folds.{flat_map-map, list_all-append, list_all-map}
pub use Rattle.std.proofs.lemmas.Option.{same_Some, slice_get-get_or}
pub use Rattle.std.specs.{Cmp.Lexicographic.slice_cmp, Int.byte_at, Int.w128, Str.bytes_eq, Fmt.signed_decimal}
pub use Rattle.std.specs.List.{AllByRecursion, flat_map, list_all}
pub use Rattle.std.specs.Ordering.{is_eq, match_ordering, nat_cmp, ordering_reverse}
unfoldable pub use Rattle.std.specs.{Fmt.digits, Str.chars, Str.is_utf8}
pub use Rattle.vms_kinds.specs.{Codes.InRange, Codes.highest, Codes.lowest, Codes.width, declared.Item.Item, declared.Kind.Kind, declared.Kind.TheVariants.U64}
pub use Rattle.vms_kinds.specs.declared.Item.TheVariants.{Num, Unused}
unfoldable pub use Rattle.vms_kinds.specs.Codes.{code}
pub use Rattle.vms_spec.proofs.ListsAndNumbers.{name_byte_low, same_number_is, either_of, be32_read, length-code, value_code, width_small}
pub use Rattle.vms_spec.proofs.WellFormedLaws.{all_true, every_one, few_devices, machine_short, or_else_none}
pub use Rattle.vms_spec.specs.{Heads.FitsHeads, Lookup.bytes_at, Lookup.number_at, Spelling.begins_with, Values.values_text, declared.Count.Count}
pub use Rattle.vms_spec.specs.{declared.Count.TheVariants.One, declared.Part.Part, declared.TheConstants.LONGEST_NAME, declared.TheConstants.MOST_UNUSED}
pub use Rattle.vms_spec.specs.Images.{Image, own_cells, sub_slots, zeroed}
pub use Rattle.vms_spec.specs.Layout.{struct_cells, Cell, Slot, counted, desc_cells, desc_slots, meanings, no_desc, no_field}
pub use Rattle.vms_spec.specs.Names.{is_name, is_name_byte, is_sub_name}
pub use Rattle.vms_spec.specs.Rules.{counts_well, defaults_well, in_range, is_small_item, is_small_optional}
pub use Rattle.vms_spec.specs.Sets.{AtLeast, Desc, Device, Field, Set, Sub}
pub use Rattle.vms_spec.specs.Streams.{AreReady, be32, configuration, end_mark, foot, is_needed, is_one_of, magic, optional, section_head, stream_head}
pub use Rattle.vms_spec.specs.Streams.{sub_head, trailer, written, written_section, written_sections, written_subs}
pub use Rattle.vms_spec.specs.WellFormed.{WellFormed, deepest, devices_items, failing, here, items_in, set_rules, struct_depths, struct_items, subs_items}
unfoldable pub use Rattle.vms_spec.specs.WellFormed.{first_fault}
pub use Rattle.vms_words.proofs.{Lines.begun, WordLaws.tells_kind, WordLaws.word_named}
pub use Rattle.vms_words.specs.Words.{kind_named, kind_word}
pub use Rattle.vms_bodies.proofs.{BodyOnly.front_drop, BodyOnly.front_take, Stated.ranged}
pub use Rattle.vms_elements.proofs.{LinesOf.text_append, LinesOf.elements_slots, Walk.text_law, Walk.AreCounted, Walk.IsCounted, Walk.walks}
pub use Rattle.vms_elements.proofs.Members.{Each, all_both, all_parts, decimal_all, elements_each, what_of}
pub use Rattle.vms_elements.specs.Elements.{Constant, Filler, Rule, What, index_text, shapes}
pub use Rattle.vms_elements.specs.Entries.{OfNumber, came_well, device_entries, devices_entries, entries, has_default, have_defaults, if_not, line_reason}
pub use Rattle.vms_elements.specs.Entries.{number_entries, subs_entries}
pub use Rattle.vms_elements.specs.Lines.{device_lines, devices_lines, machine_lines, number_lines, printed, sub_line, subs_lines, text_of, values_lines}
pub use Rattle.vms_elements.specs.Parts.{elements_in, is_number, slot_of, slots_of}
pub use Rattle.vms_elements.specs.Reading.{AreAtVersions, AreFine, AreShaped, IsMachineOf, IsShaped}
pub use Rattle.vms_analyze.specs.{declared.elements.TheConstants.LONGEST_PATH, declared.fault.AnalyzeFault.AnalyzeFault, declared.input.NoInput.NoInput}
pub use Rattle.vms_analyze.specs.{declared.members.Unread.Unread, declared.told.Element.Element, declared.walk.Stop.Stop, declared.walk.Walk.Walk}
pub use Rattle.vms_analyze.specs.Calls.{IsListed, IsTooMuch, ListsAs, ListsTaken, ShowsAs}
pub use Rattle.vms_analyze.specs.Inputs.{Appended, HasMore, IsWhole, TakesInput, TakesPiece}
pub use Rattle.vms_analyze.specs.Laws.{HasListing, LongestLaw, OneLaw, ReadBackLaw, ShownLaw, TotalLaw}
pub use Rattle.vms_analyze.specs.Listing.{listing_of, longest_input, HasNoShape, HasNone, IsLastPlace, IsPlace, IsRead, IsTooLong, Listing, Lists, Refused}
pub use Rattle.vms_analyze.specs.Listing.{Tells, TellsPlace, Text}
pub use Rattle.vms_analyze.specs.Read.{device_in, device_keys, devices_in, each, element_in, flag_at, four_at, kept_as, kept_in, kept_keys, list_at, natural_at}
pub use Rattle.vms_analyze.specs.Read.{next, only, path_at, sent_as, sent_in, sent_keys, sub_in, sub_keys, subs_in, text_at, unprinted, whole_at, whole_of}
pub use Rattle.vms_analyze.specs.Sorted.{AreOrdered, AreSorted, HoldSorted, IsBefore, IsLess, IsSorted, keys_of}
pub use Rattle.vms_analyze.specs.Telling.{told, told_device_of, told_devices, told_part, told_sub_of, told_subs, told_what, tolds}
pub use Rattle.vms_analyze.specs.Told.{Fixed, Kept, Sent, Skipped, Told, ToldDevice, ToldSub, fits_four, is_good, is_good_device, is_good_sub, is_kept, is_path}
pub use Rattle.vms_analyze.specs.Told.{is_path_byte, is_width, told_device, told_entry, told_sub, told_tree}
pub use Rattle.vms_analyze.specs.Typed.{ReadsAs, device_of, devices_wants, element_wants, sub_of, subs_wants, told_of}
pub use Rattle.vms_analyze.specs.Walking.{AtStart, Goes, IsInside, Prints, Stops, Walks, WhyNone, WhyStopped, left}
pub use Rattle.vms_analyze.specs.Wanted.{Any, Bytes, Differs, Foot, Found, Head, Line, Lines, Machine, Number, Took, Want, behind, device_wants, element_want}
pub use Rattle.vms_analyze.specs.Wanted.{found, found_after, is_machine, kept_line, machine_line, number_line, only_if, section_line, sent_line, start_wants}
pub use Rattle.vms_analyze.specs.Wanted.{sub_wants, take_machine, take_number, taken, took, wants}
pub use Rattle.vms_desc.proofs.Clean.{few_items, device_clean, few_subs, field_sound, sub_clean}
pub use Rattle.vms_desc.specs.{Described.device_at, Formed.is_well_formed, Parts.HasPart, Parts.desc_at, Parts.sub_at}
pub use Rattle.vms_io.proofs.ReadingLemmas.{breaks_more, nothing_follows, takes_as, takes_both, takes_none}
pub use Rattle.vms_io.specs.{Reading.Takes, Told.Intake, Told.intake}
pub use Rattle.vms_json.proofs.KeyLaws.{none_left, object_is}
pub use Rattle.vms_json.specs.{Keys.fits, Keys.has, Keys.has_all, Keys.has_no_others, Nodes.items_left, Nodes.members_left, Nodes.view, Texts.value_in}
pub use Rattle.vms_selfdesc.proofs.{Plain.member_long, Plain.sub_name_is, Lengths.short_holds, Lengths.fit, Lengths.described_plain}
pub use Rattle.vms_selfdesc.proofs.Fits.{AreLong, entries_few, entries_long, longer, fields_flat, natural_fits, negative_fits, part_sound}
use Rattle.vms_selfdesc.proofs.ReadBack
pub use ReadBack.{reads_whole, MembersHave, device_letters, devices_letters, kind_letters, sub_letters, text_good, word, Allows, AreSpelled, HasLetters}
pub use ReadBack.{IsSpelled, ItemsHave, absent_sound, array_sound, device_sound, natural_sound, negative_sound, sent_sound, sub_sound, whole_sound}
pub use Rattle.vms_selfdesc.specs.{Drafts.AreSound, Drafts.IsSound, Entries.entries_of, Entries.entry_of, Entries.part_entries}
pub use Rattle.vms_selfdesc.specs.Tree.{described_text, described_tree, device_trees, entry_tree, list_tree, natural, sub_trees}
pub use Rattle.vms_values_laws.proofs.{AllCome.short_are, ReadyParts.text_says, SecondPass.AreShort, SecondPass.of_numbers}
pub use Rattle.vms_values_laws.proofs.Rights.{AreGood, IsFitting, begins_itself, fine_rest, line_number, reason_fits}
pub use Rattle.byteorder.specs.Endian.{big_number}
pub use Rattle.json.specs.{Lex.tokens, Print.escape}
unfoldable pub use Rattle.json.specs.Print.{escape_byte}
pub use Rattle.memchr.specs.Find.{NoneAfter, Nowhere, Passes, is_byte}
unfoldable pub use Rattle.serde_json.proofs.OnLiterals.{serde_json_on_literals}
pub use Rattle.serde_json.specs.{Data.string, View.items_of, Written.compact_text, Written.members_text}
pub use Rattle.serde_json.specs.Data.{unsigned, Data, Items, Members, array, boolean, item, member, negative, no_items, no_members, null, number, object, put}
pub use Rattle.serde_json.specs.Find.{as_array, as_bool, as_number, as_str, as_u64, get, get_member, of_integer}
pub use Rattle.serde_json.specs.Read.{max_depth, number_of, of_items, of_json, of_members, read}
