-- The names of other crates, and of this crate's `specs`, that the proofs use.
pub use Rattle.vms_bodies.proofs.Places.{if_both, if_there, cells_first, IsAbove, field_above, item_above, items_above, meanings_above, SameBelow, elements_same}
pub use Rattle.vms_bodies.proofs.Places.{own_same, place_next, same_less, there_same}
pub use Rattle.vms_bodies.proofs.SettledLaws.{MeanSettled, SameIn, field_settled, item_settled, meanings_settled}
pub use Rattle.std.proofs.{Math.Bool.or-false, Math.Bool.or_assoc, Math.ListN.get_or-map, lemmas.Option.slice_get-get_or, Common.◌≤◌}
pub use Rattle.std.proofs.Common.{Bool, Err, List, None, Ok, Option, Result, Some, [], ap, append-nil, append_assoc, arith, drop, false, get_or}
pub use Rattle.std.proofs.Common.{if◌then◌else◌, length, length-append, length-set, min, nat_lt, negsuc, pos, refl, rules, slice_set, subst, suc, sym}
pub use Rattle.std.proofs.Common.{take, true, zero, ℕ, ℤ, ◌*◌, ◌++◌, ◌+◌, ◌-◌, ◌<◌, ◌==◌, ◌||◌, ◌∙◌, ◌∷◌, ◌≡◌}
pub use Rattle.std.proofs.lemmas.Bool.{eq-eqb, lt-ltb, ltb-false, ltb-true, ne_eqb, or_parts}
pub use Rattle.std.proofs.lemmas.List.{drop_more, get_or-set_other, take_all}
pub use Rattle.std.specs.{Prelude.IsErrAnd}
pub use Rattle.vms_kinds.specs.{declared.Item.Item, declared.Kind.Kind, declared.Item.TheVariants.Num, declared.Item.TheVariants.Struct}
pub use Rattle.vms_spec.proofs.{ListsAndNumbers.same_tests}
pub use Rattle.vms_spec.proofs.Tables.{elements_fit, field_size, one_fits, room_for_less, one_more, FieldsBelow, all_below, struct_cells_at, struct_slots}
pub use Rattle.vms_spec.specs.{Good.IsGood, Images.has_cell, Layout.no_field, Layout.no_meaning, Layout.no_parent, Numbers.exceeds, Numbers.is_above}
pub use Rattle.vms_spec.specs.{Rules.uses_below, Sets.Desc, Sets.Field, Sets.Set, Tests.is_there, declared.Part.Part, declared.TheConstants.MOST_ITEMS}
pub use Rattle.vms_spec.specs.Layout.{numbers_of, place_of, slots_from, struct_cells, times, Meaning, Rule, Slot, all_hold, capacity_of, cells_from, counted}
pub use Rattle.vms_spec.specs.Layout.{desc_cells, desc_slots, elements_of, field_cells, field_slots, item_size, item_slots, meaning, meanings, no_desc}
pub use Rattle.vms_spec.specs.Sound.{AreSoundFields, IsEarlier, IsSound, IsSoundField}
unfoldable pub use Rattle.vms_spec.specs.Layout.{first}
pub use Rattle.vms_desc.proofs.{AskLaws.found_field, EvalLaws.place_after, EvalLaws.place_within}
pub use Rattle.vms_desc.proofs.Clean.{good_of, field_clean, reach, struct_clean, item_rank, part_rank, rank_below, reach_whole, uses_more}
pub use Rattle.vms_desc.specs.{Formed.is_well_formed, Parts.HasPart, Parts.desc_at, Parts.sub_at, Asks.field_at, Asks.field_start, Asks.own_numbers}
pub use Rattle.vms_desc.specs.Described.{described, device_at}
pub use Rattle.vms_parts.specs.{Capacities.least_from, Capacities.least_of, Capacities.lesser, Sizes.in_u32}
pub use Rattle.vms_walk.specs.{Inside.Keeps, Inside.has_step, Laws.Does, Laws.IsWalk, Runs.run_of, Steps.elements_slots, Steps.holds_at, Steps.present_of}
pub use Rattle.vms_walk.specs.{declared.fields.PartAt.PartAt, declared.step.WalkStep.WalkStep, declared.step.WalkStep.TheVariants.Number}
pub use Rattle.vms_walk.specs.Steps.{size_in, slots_at, spot_numbers, spot_slots, steps_of, table, HasSpot, MayCome, capacities_of, cell_of, cells_in}
