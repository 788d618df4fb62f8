-- The names of other crates, and of this crate's `specs`, that the proofs use.
pub use Rattle.std.proofs.{Math.ListN.get_or-map, Math.Seq.get_or-append_seam, lemmas.Bool.false_from_ne_true, lemmas.Bool.leb-true, lemmas.Bool.ltb-false}
pub use Rattle.std.proofs.{lemmas.Int.to_z-of_z, lemmas.Result.err_from_is_err_and, lemmas.Result.on_ok_weaker}
use Rattle.std.proofs.Common
pub use Common.{Bool, Err, IfSome, List, None, Ok, Option, Result, Some, [], add-one, ap, append_assoc, arith, codes, drop, false, get_or, if◌then◌else◌}
pub use Common.{inl, inr, length, length-append, length-set, map, nat_lt, negsuc, not, pos, refl, replicate, rules, slice_set, subst, suc, sym, take, true}
pub use Common.{zero, ℕ, ℤ, ◌*◌, ◌++◌, ◌+◌, ◌-◌, ◌<◌, ◌==◌, ◌∙◌, ◌∷◌, ◌≡◌, ◌≤◌, ◌⊎◌}
pub use Rattle.std.proofs.lemmas.Bool.{ltb-true, ne_eqb, not-false, or_parts, OnFalse_at, OnFalse_from, OnTrue_at, OnTrue_from, and_parts, cases_lt, eq-eqb}
pub use Rattle.std.proofs.lemmas.List.{append-nil, drop_all, drop_more, ext_get_or, get_or-set_other, get_or-set_same, get_or_append_left, get_or_default}
pub use Rattle.std.proofs.lemmas.List.{length-map, map-append, replicate-append-replicate, take_all, take_more_set, with_items_is}
pub use Rattle.std.proofs.lemmas.Option.{get_or_from_slice_get, slice_get-get_or, slice_get_within}
pub use Rattle.std.specs.{Borrow.Bor, Cmp.signed_Decides, Int.w128, List.flat_map, List.list_any, List.range_with_len, List.slice_get, Ordering.int_eq}
pub use Rattle.vms_kinds.specs.{Codes.InRange, declared.Item.Item, declared.Kind.Kind, declared.Kind.TheVariants.U8}
pub use Rattle.vms_kinds.specs.declared.Item.TheVariants.{Num, Struct, Unused}
pub use Rattle.vms_spec.proofs.ListsAndNumbers.{within_all}
pub use Rattle.vms_spec.proofs.Tables.{field_size, first_at, one_more, FieldsBelow, ItemBelow, all_below}
pub use Rattle.vms_spec.proofs.WellFormedLaws.{device_parts, earlier, sub_clean, well_good}
pub use Rattle.vms_spec.specs.{Good.IsFit, Good.IsGood, Heads.FitsHeads, Images.sub_place, Lists.at_option, Numbers.exceeds, Places.own_cell_count}
pub use Rattle.vms_spec.specs.{Tests.is_there, Tests.truth, declared.Count.TheVariants.Counted, declared.Count.TheVariants.One, declared.Part.Part}
pub use Rattle.vms_spec.specs.{declared.TheConstants.MOST_ITEMS, declared.Whose.TheVariants.Own, declared.Whose.TheVariants.Parent}
pub use Rattle.vms_spec.specs.Images.{sub_slots, FitsCell, Image, IsNormal, RulesHold, came_slots, default_image, has_cell, image_slots, own_cells, own_slots}
pub use Rattle.vms_spec.specs.Layout.{Cell, Meaning, Number, Rule, Slot, capacity_of, cells_from, counted, desc_cells, desc_slots, device_cells, elements_of}
pub use Rattle.vms_spec.specs.Layout.{field_cells, field_slots, item_size, item_slots, meaning, meanings, no_cell, no_desc, no_field, no_meaning, no_parent}
pub use Rattle.vms_spec.specs.Layout.{numbers_of, place_of, slots_from, struct_cells, times}
pub use Rattle.vms_spec.specs.Lookup.{find_device, find_sub, index}
pub use Rattle.vms_spec.specs.Rules.{is_steady, is_steady_in, names_well, uses_below}
pub use Rattle.vms_spec.specs.Sets.{And, Desc, Device, Field, Formula, Not, Or, Set, Sub}
pub use Rattle.vms_spec.specs.Shipped.{divider, divisor, fcr, fifo, i8254_at_1, i8254_at_2, i8259_at_4, never, ring, serial, serial_fields, set_1, set_2, set_4}
pub use Rattle.vms_spec.specs.Shipped.{thr_ipending, timeout, timer}
pub use Rattle.vms_spec.specs.Sound.{AreSound, AreSoundFields, IsEarlier, IsSound, IsSoundField}
pub use Rattle.vms_spec.specs.Streams.{AreReady, IsReady, is_needed, is_one_of, longest_text, written}
pub use Rattle.vms_spec.specs.WellFormed.{WellFormed, first_fault}
unfoldable pub use Rattle.vms_spec.specs.Layout.{first}
pub use Rattle.vms_bodies.proofs.{Stated.shipped_holds, Places.place_next, Places.place_up, Places.there_same}
pub use Rattle.vms_bodies.proofs.PartLaws.{same_lists, image_are, part_place, at_other, part_apart, parts_together, places_apart, sub_place_up, sub_size}
pub use Rattle.vms_bodies.proofs.Places.{names_append, none_in_both, MeanAbove, field_above, meanings_above, SameBelow, elements_same, place_below, place_end}
pub use Rattle.vms_bodies.proofs.SettledLaws.{its_above, its_below, its_in, its_same, SameIn, cells_in, in_less, own_in}
pub use Rattle.vms_bodies.proofs.WalkLaws.{drop_next, place_first, zero_plus}
pub use Rattle.vms_bodies.specs.{Cells.AreCells}
pub use Rattle.vms_stream.specs.StreamLaws.{IsWholeStream}
pub use Rattle.vms_check.proofs.{WholeLaws.sub_in}
pub use Rattle.vms_check.specs.{Reducing.presence, Sides.IsSide, Sides.desc_on, Sides.own_side, declared.side.Side.Side}
pub use Rattle.vms_check.specs.Carrying.{carried_at, carried_device, no_image}
pub use Rattle.vms_check.specs.Comparing.{Compatible, Entry, entry_of, is_absent, is_nothing, present, present_from}
pub use Rattle.vms_check.specs.Partners.{Pairer, array_partners, desc_partners, field_partners, fields_left, item_partners, named_partners, no_pairer}
pub use Rattle.vms_check.specs.Partners.{pairer_of, partners_from, unpaired}
unfoldable pub use Rattle.vms_check.specs.{Carrying.carried, Partners.device_partners}
pub use Rattle.vms_check_laws.proofs.{GoesDevices.carried_stands, GoesFields.struct_is, Wholes.at_map}
pub use Rattle.vms_check_laws.proofs.PairDevices.{device_paired, one_number, one_part, own_or_sub}
pub use Rattle.vms_check_laws.proofs.Streaming.{Older, Pair, all_in, back, found_device, older, pair, upgrade_stands}
pub use Rattle.vms_check_laws.specs.{Carried.IsAtVersions, Carried.IsCarried, Pairing.AreOfKinds, Pairing.ArePartners, SubCells.IsCellOf}
pub use Rattle.vms_convert.specs.{Changes.Changes, Changes.changed, Changes.changed_append, Giving.AreTargets, Giving.give_partner, Giving.give_step}
pub use Rattle.vms_convert.specs.{Putting.AreSources, Putting.put_partner, Putting.put_step, Returning.FirstDifference, Returning.IsReturned, Rooms.AreFresh}
pub use Rattle.vms_convert.specs.{Rooms.AreRoutes, Rooms.IsRoute, Takes.put_keeps, Takes.takes_keeps, declared.fault.Loss.Loss, declared.pairing.Arrays.Arrays}
pub use Rattle.vms_convert.specs.{declared.pairing.Elements.Elements, declared.pairing.Start.Start, declared.returns.LostCell.LostCell}
pub use Rattle.vms_convert.specs.{declared.room.Route.Route, Calls.ConvertsKept, Calls.IsStreamFor, Calls.PutsStream}
pub use Rattle.vms_convert.specs.Back.{AreSettled, AreTaken, IsBack, taken, whole}
pub use Rattle.vms_convert.specs.Bringing.{ArePut, ArePutAt, SettlesBy, SettlesSub, part_of, part_slots, sub_slots_at}
pub use Rattle.vms_convert.specs.Converted.{AreBack, IsConverted, IsPairAt, recast_each}
pub use Rattle.vms_convert.specs.Laws.{AnswerLaw, AreRecastOf, BackLaw, ComesBackLaw, Converts, MayBeWritten, OneBackLaw, OneLostLaw, RecastOfLaw}
pub use Rattle.vms_convert.specs.Losing.{AreWritable, FirstInvalid, Judges, KeepsMachine, KeepsName, first_cell_at, first_of, stream_of}
pub use Rattle.vms_convert.specs.Lost.{DifferAt, IsValidAt, KeepsAll, Loses, OfCell, OfDevice, OfMachine, first_cell, numbers_in}
pub use Rattle.vms_convert.specs.Partnering.{AreArrays, HasFew, HasRoom, IsBehind, IsNextStart, IsStart, PairsElement, PairsField, array_on, arrays_on}
pub use Rattle.vms_convert.specs.Partnering.{elements_left, entries_at, item_on, partners_left, partners_on, struct_on, sub_on, table}
pub use Rattle.vms_convert.specs.Recast.{is_port, is_ring, recast, wants, wants_arrays}
pub use Rattle.vms_convert.specs.Returns.{ArePaired, AreReturned, AreReturnedTo, IsFirstLost, IsLostCell, IsRecastFor, carried_of}
pub use Rattle.vms_desc.proofs.AskLaws.{device_is, few_cells, found_field, own_inside_device, sub_inside, sub_within}
pub use Rattle.vms_desc.proofs.Clean.{reach_whole, uses_more, few_machines, fit_of, good_of, none_is, few_fields, few_subs, field_clean, reach, struct_clean}
pub use Rattle.vms_desc.specs.{Asks.needed_at, Described.described, Described.device_at, Formed.is_well_formed, Formed.newest_set, Names.IsNameAt}
pub use Rattle.vms_desc.specs.{Parts.HasPart, Parts.desc_at, Parts.sub_at, Spots.kinds_at, declared.set.DescSet.DescSet}
pub use Rattle.vms_image.proofs.States.{at_state, image_at}
pub use Rattle.vms_image.specs.Typed.{AreImagesOf, IsImageOf, Typed, default_at, state_of, typed}
pub use Rattle.vms_io.specs.{Told.outlet, Writing.Puts, Writing.Stops}
pub use Rattle.vms_load.proofs.{HeadLemmas.device_below, StreamLengths.well_of}
pub use Rattle.vms_load.specs.{Good.AreKept, Lean.has, Lean.loads, Staging.name_of}
pub use Rattle.vms_parts.specs.{Capacities.least_of, Sizes.in_u32, Views.device_of, Views.field_of, Views.sub_of}
pub use Rattle.vms_spots.specs.Spots.{Held}
pub use Rattle.vms_walk.proofs.{Spots.exceeds_least, Walking.has_step_of}
pub use Rattle.vms_walk.specs.{Inside.Keeps, Steps.HasSpot, Steps.spot_slots, Steps.step_of, Steps.steps_of, declared.step.WalkStep.WalkStep}
pub use Rattle.dev_base.specs.Cells.{AreOf}
pub use Rattle.dev_images.proofs.{NormalCells.port-of, ShippedDevices.serial_at_4}
pub use Rattle.dev_images.proofs.ReadyOf.{AreSubs, count-of, kind-of, needed, versions}
pub use Rattle.dev_images.specs.Images.{bare, image_of, needed_from}
pub use Rattle.dev_serial.proofs.RecastLaws.{recast_kinds, recast_twice}
pub use Rattle.dev_serial.specs.{Cells.IsPortCells, Cells.kinds, Recast.recast_cells}
