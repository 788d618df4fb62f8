-- The names of other crates, and of this crate's `specs`, that the proofs use.
pub use Rattle.std.proofs.{Common.◌≤◌, Common.◌⊎◌, lemmas.Bool.or_left, lemmas.Bool.or_right, lemmas.Bool.Decides.Decides-and}
pub use Rattle.std.proofs.{lemmas.Bool.Decides.Decides-like, lemmas.List.length-set, lemmas.Option.slice_get_within, lemmas.Slice.Eq.bytes_eq-Decides}
pub use Rattle.std.proofs.Common.{Bool, IfSome, List, None, Option, Some, [], ap, append-nil, append_assoc, arith, codes, false, get_or, if◌then◌else◌}
pub use Rattle.std.proofs.Common.{inl, inr, length, map, pos, refl, slice_set, subst, suc, sym, true, zero, ℕ, ℤ, ◌&&◌, ◌++◌, ◌+◌, ◌<◌}
pub use Rattle.std.proofs.Common.{◌==◌, ◌^◌, ◌∙◌, ◌∷◌, ◌≡◌}
pub use Rattle.std.specs.{Bool.Decides, List.AllByRecursion, List.list_all, List.slice_get}
pub use Rattle.vms_kinds.proofs.{ByteLemmas.bytes_rest}
pub use Rattle.vms_kinds.specs.{Bytes.IsBytes, Codes.InRange, declared.Item.Item, declared.Item.TheVariants.Equal, declared.Item.TheVariants.Struct}
pub use Rattle.vms_kinds.specs.{declared.Kind.Kind, declared.Kind.TheVariants.U16, declared.Kind.TheVariants.U8}
unfoldable pub use Rattle.vms_kinds.specs.Codes.{code}
pub use Rattle.vms_spec.proofs.{Tables.one_more, ListsAndNumbers.be32_read, ListsAndNumbers.value_code}
pub use Rattle.vms_spec.proofs.Examples.{box, box_set, counted_set, number, sub_of, subsection_set}
pub use Rattle.vms_spec.proofs.WellFormedLaws.{device_found, well_good, few_devices, machine_short}
pub use Rattle.vms_spec.specs.{Good.ConstantFits, Good.ConstantsFit, Heads.FitsHeads, Lists.first_answer, Lists.or_else, Lookup.find_device}
pub use Rattle.vms_spec.specs.{Lookup.index, Numbers.same_number, Readiness.is_version_of, Shipped.set_1, Shipped.set_3, Units.Magic}
pub use Rattle.vms_spec.specs.{Units.Version, declared.Count.TheVariants.Counted, declared.Part.Part, declared.Place.Place}
pub use Rattle.vms_spec.specs.Images.{Image, IsVersionOf, Spells, default_image, own_cells, own_slots, zeroed}
pub use Rattle.vms_spec.specs.Layout.{Cell, desc_cells, field_cells, no_desc, struct_cells}
pub use Rattle.vms_spec.specs.Readings.{Accepted, Reading, Refused}
pub use Rattle.vms_spec.specs.Sets.{Desc, Device, Field, Formula, Set, Sub}
pub use Rattle.vms_spec.specs.Streams.{AreReady, IsConfiguration, IsReady, be32, configuration, end_mark, foot, is_one_of, magic, section_head, stream_head}
pub use Rattle.vms_spec.specs.Streams.{written, written_section, written_sections, written_subs}
pub use Rattle.vms_spec.specs.WellFormed.{WellFormed, here, in_field}
unfoldable pub use Rattle.vms_spec.specs.Layout.{first}
pub use Rattle.vms_bodies.proofs.{PartLaws.defaults_of, PartLaws.falses, PartLaws.at_other, Stated.is_same, Stated.ready_decides, Stated.version_decides}
pub use Rattle.vms_bodies.specs.{Whole.reading_on}
pub use Rattle.vms_stream.proofs.{Judging.state_refuses, Stated.section_found_holds, Steps.unit_on}
pub use Rattle.vms_stream.proofs.Stated.{section_read_holds, taken_holds, told_holds, accepted_holds, either_holds, never_both_holds, one_fault_holds}
pub use Rattle.vms_stream.proofs.Written.{bytes_at, machine_bytes, written_are_bytes}
pub use Rattle.vms_stream.specs.{Dues.AtMagic, Dues.AtVersion, Faults.Fault, Judge.judge, State.Headed, State.at_start, State.between, State.by_state}
pub use Rattle.vms_stream.specs.{StreamLaws.BeginsSection, StreamLaws.Faulty, StreamLaws.Taken, Streams.HasSection, Streams.SectionsSpell, Streams.Takes}
pub use Rattle.vms_stream.specs.SoFar.{Bare, Footed, Tail, Unknown}
unfoldable pub use Rattle.vms_stream.specs.{Finding.behind_at, Finding.between_at, Finding.trailer_at, Judge.reading}
pub use Rattle.vms_check.specs.{Carrying.carried_device, Reducing.presence, Reducing.reduced, declared.mismatch.Mismatch.Mismatch}
pub use Rattle.vms_check.specs.Comparing.{Comparer, Entry, compare_desc, compare_device, compare_fields, compare_sub, compare_validations, comparer_of}
pub use Rattle.vms_check.specs.Comparing.{comparers, comparing, entry_of, failing_pair, is_covered, is_in, is_kept, no_comparer, pair_rules, pair_structs}
pub use Rattle.vms_check.specs.Comparing.{position_from, present, present_from, same_constant, same_item, same_rest, uncovered_rules}
unfoldable pub use Rattle.vms_check.specs.Comparing.{first_mismatch}
pub use Rattle.vms_check_laws.proofs.{Parts.devices_clash, Premises.Two, Premises.kinds_same, Wholes.at_map, Wholes.fits_whole, Wholes.saved}
pub use Rattle.vms_check_laws.proofs.AlignedDescs.{Clash, Clashes, Differ}
pub use Rattle.vms_check_laws.proofs.Presence.{RestAt, apart, at_first, fits_left, from_zero, one_on}
pub use Rattle.vms_check_laws.proofs.Streaming.{Pair, back, compared, device_stands, pair}
pub use Rattle.vms_check_laws.specs.{Laws.ArePaired, Segments.FitsAt}
pub use Rattle.vms_counter_laws.specs.Candidates.{candidates, default_images, lacking, machine_for}
pub use Rattle.vms_counter_laws.specs.Computed.{all_ready, answer_to, computed, first_refused, or_next, refusal_of, refused}
pub use Rattle.vms_counter_laws.specs.Counters.{Agree, Answer, AreCompatible, Counters, Finds, Here, IsFirst, Lacks, Later, NoState, NoneShows, Refusal, Shows}
pub use Rattle.vms_counter_laws.specs.Counters.{State, stream_of}
pub use Rattle.vms_counter_laws.specs.Laws.{AlwaysLaw, AlwaysShown, ComputedLaw, IsPlain, NamedLaw, OfConstant, OfMachine, OfVersion, OneAnswerLaw}
