-- The names of other crates, and of this crate's `specs`, that the proofs use.
pub use Rattle.std.proofs.{lemmas.Bool.cases_eq, lemmas.Option.get_or_from_slice_get, lemmas.Option.slice_get_read, lemmas.Option.slice_get_within}
pub use Rattle.std.proofs.Common.{Err, IfSome, List, None, Ok, Option, Some, [], add-one, ap, arith, drop, false, get_or, inl, inr, length, map, refl, rules}
pub use Rattle.std.proofs.Common.{slice_set, subst, sym, true, ℕ, ◌*◌, ◌++◌, ◌+◌, ◌<◌, ◌^◌, ◌∙◌, ◌∷◌, ◌≡◌, ◌≤◌}
pub use Rattle.std.proofs.lemmas.List.{drop_more, length-map, length-set, map-append, map-set}
pub use Rattle.std.specs.{List.slice_get}
pub use Rattle.vms_kinds.specs.{Bytes.IsBytes, declared.Item.Item, declared.Item.TheVariants.Struct}
pub use Rattle.vms_spec.proofs.WellFormedLaws.{machine_short}
pub use Rattle.vms_spec.specs.{Images.Image, Layout.capacity_of, Layout.counted, Layout.no_desc, Lists.at_option, Rules.counts_well, Sets.Set, Sets.Sub}
pub use Rattle.vms_spec.specs.{Streams.configuration, Streams.is_one_of, Streams.optional, Streams.written, declared.TheConstants.LONGEST_NAME}
unfoldable pub use Rattle.vms_spec.specs.Layout.{first}
pub use Rattle.vms_bodies.proofs.{SpellLaws.at_set, PartLaws.at_other}
pub use Rattle.vms_stream.proofs.{Stated.never_both_holds, Written.AllParts, Written.AllSubs, Written.EachPart, Written.EachSub, Written.all_parts}
pub use Rattle.vms_stream.specs.{Faults.Fault, Streams.Takes}
pub use Rattle.vms_check.proofs.{SelfLaws.is_among}
use Rattle.vms_check.specs
pub use specs.{Comparing.first_mismatch, Wholes.verdict_of, declared.mismatch.Mismatch.Mismatch, declared.mismatch.Verdict.TheVariants.Accepted}
pub use Rattle.vms_counter.specs.{Found.HasRoom, Found.refusal_of, Room.devices_in, Room.subs_in, Trying.Tries}
pub use Rattle.vms_counter_laws.specs.Candidates.{and_raised, default_images, lacking, machine_for, raised}
pub use Rattle.vms_counter_laws.specs.Counters.{Agree, Counters, Finds, Here, IsFirst, Lacks, Later, NoState, Shows, State}
pub use Rattle.vms_desc.proofs.{AskLaws.device_is, Clean.few_machines}
pub use Rattle.vms_desc.specs.{Described.described, Formed.is_well_formed, Parts.sub_at}
pub use Rattle.vms_image.specs.Typed.{AreImagesOf, IsImageOf, Typed, state_of}
pub use Rattle.vms_io.specs.Memory.{Supply, bytes_left}
pub use Rattle.vms_load.proofs.ExactLoads.{content}
pub use Rattle.vms_load.proofs.StreamLengths.{most_small, well_of, devices_long, stream_le, subs_long}
pub use Rattle.vms_load.specs.Bounds.{fields_bytes, item_bytes, struct_bytes}
pub use Rattle.vms_load.specs.Kept.{kept, loads, taken_by}
pub use Rattle.vms_load.specs.Staging.{devices_most, name_of, subs_bytes}
pub use Rattle.vms_marks.specs.{declared.stream_head.TheConstants.BESIDE_SECTIONS, declared.sub_head.TheConstants.LONGEST_SUB_HEAD}
pub use Rattle.vms_parts.proofs.{Items.get_map_at, SizeLaws.capped_at, SizeLaws.capped_product, SizeLaws.sum_ends, SizeLaws.sum_goes}
pub use Rattle.vms_parts.specs.{Devices.device_at, Sizes.in_u32, declared.types.Desc.Desc, declared.types.Device.Device, declared.types.Field.Field}
pub use Rattle.vms_parts.specs.Views.{desc_of, device_of, field_of}
pub use Rattle.vms_write.proofs.Sections.{device_short, sub_short}
