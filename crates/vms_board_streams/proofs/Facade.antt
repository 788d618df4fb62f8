-- The names of other crates, and of this crate's `specs`, that the proofs use.
pub use Rattle.std.proofs.{lemmas.Option.get_or_from_slice_get, lemmas.Slice.Eq.bytes_eq-Decides}
pub use Rattle.std.proofs.Common.{Bool, Err, IfSome, List, None, Ok, Option, Result, Some, [], ap, append-nil, arith, codes, get_or, inl, inr, is_some, length}
pub use Rattle.std.proofs.Common.{nat_lt, refl, slice_set, subst, suc, sym, true, zero, ℕ, ℤ, ◌+◌, ◌-◌, ◌<◌, ◌∙◌, ◌∷◌, ◌≡◌}
pub use Rattle.std.proofs.{Common.◌≤◌, lemmas.Bool.and_parts, lemmas.Bool.cases_lt, lemmas.Bool.ltb-true}
pub use Rattle.std.specs.{List.AllByRecursion, List.list_all, List.slice_get}
pub use Rattle.vms_kinds.specs.{Bytes.IsBytes, declared.TheConstants.NEWEST_CLOCK_SET}
pub use Rattle.vms_spec.proofs.WellFormedLaws.{Clean, device_parts, get_none, struct_clean, sub_clean}
pub use Rattle.vms_spec.specs.{Heads.FitsHeads, Names.is_name, declared.Count.Count, declared.Reason.Reason, declared.Count.TheVariants.One, Images.Image}
pub use Rattle.vms_spec.specs.{Images.own_cells, Shipped.shipped_sets, WellFormed.WellFormed, Sets.Desc, Sets.Device, Sets.Field, Sets.Set, Sets.Sub}
pub use Rattle.vms_spec.specs.Layout.{counted, desc_cells, no_desc, struct_cells}
pub use Rattle.vms_spec.specs.Streams.{IsConfiguration, is_one_of, written}
unfoldable pub use Rattle.vms_spec.specs.Layout.{first}
pub use Rattle.vms_stream.proofs.Stated.{either_holds, never_both_holds, one_fault_holds, one_stream_holds}
pub use Rattle.vms_stream.proofs.Written.{AllParts, AllSubs, AreBytes, EachPart, all_parts, bytes_at, is_named, parts_named, written_are_bytes}
pub use Rattle.vms_stream.specs.{StreamLaws.Answer, StreamLaws.Faulty, StreamLaws.IsWholeStream, StreamLaws.Taken, Streams.Takes}
pub use Rattle.vms_elements.proofs.Members.{all_both, all_from, elements_each}
pub use Rattle.vms_elements.specs.Elements.{Constant, Element, Filler, Number, Rule, What, index_text}
pub use Rattle.vms_board.proofs.Restoring.{content, refused_is}
pub use Rattle.vms_board.specs.{Clock.clock, Clock.clock_machine, ClockStands.clock_stands, Isa.isa, Isa.machine_of, IsaStands.isa_stands, Saving.saved_text}
pub use Rattle.vms_board.specs.Family.{Family, MaySaveIn, Stands, images_saved, lists_in}
pub use Rattle.vms_board.specs.Restoring.{Back, IsFaultAt, Refused, Restore, Restores, TakesBoard, misfit_reason, misfit_section}
unfoldable pub use Rattle.vms_board.specs.Saving.{saved_stream, stream_with}
pub use Rattle.vms_board_streams.specs.Streams.{BoardsGoOn, BytesAreOne, HasRoomFor, IsContinued, StreamComesBack, StreamsAreBytes, StreamsAreShort}
pub use Rattle.vms_board_streams.specs.Streams.{StreamsComeBack, StreamsStand, answers_to, images_carried, trace_of}
pub use Rattle.vms_board_streams.specs.declared.memory.TheConstants.{STREAM_ROOM}
pub use Rattle.vms_check.proofs.{SelfLaws.is_among, CompareRows.shipped_compatible}
pub use Rattle.vms_check.specs.Comparing.{Compatible}
unfoldable pub use Rattle.vms_check.specs.Comparing.{first_mismatch}
pub use Rattle.vms_check_laws.proofs.Streaming.{upgrade_stands}
pub use Rattle.vms_desc.proofs.Clean.{none_is, by_number, clock_formed, formed}
pub use Rattle.vms_desc.specs.Formed.{clock_set, shipped_set}
pub use Rattle.vms_load.proofs.StreamLengths.{devices_long, stream_le}
pub use Rattle.vms_selfdesc.proofs.{Lengths.clock_holds, Lengths.shipped_holds, ReadBack.text_good, ReadBack.word, ReadBack.Allows, ReadBack.AreSpelled}
pub use Rattle.vms_selfdesc.proofs.ReadBack.{HasLetters, IsSpelled, ItemsHave, decimal_good, device_letters, devices_letters, kind_letters, sub_letters}
pub use Rattle.vms_selfdesc.specs.Entries.{Entry, entries_of, entry_of, listed_if, part_entries, sent_entry}
pub use Rattle.vms_selfdesc.specs.Tree.{described_text, described_tree, device_tree, device_trees, sub_trees}
pub use Rattle.dev_base.specs.declared.limits.TheConstants.{NEWEST}
unfoldable pub use Rattle.dev_board.specs.Step.{answers_by}
pub use Rattle.dev_board.specs.{declared.event.Event.Event, declared.misfit.Misfit.Misfit}
pub use Rattle.dev_clock.proofs.StepLaws.{alike_stays}
pub use Rattle.dev_clock.specs.Sound.{Alike, IsSound}
pub use Rattle.dev_clock_images.proofs.ClockImages.{images_come_back, sets_are_compatible}
pub use Rattle.dev_clock_images.specs.Images.{saved_images}
pub use Rattle.serde_json.specs.View.{items_of}
