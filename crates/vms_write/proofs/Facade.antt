-- The names of other crates, and of this crate's `specs`, that the proofs use.
pub use Rattle.std.proofs.{Math.Bool.and-true, Math.Bool.and_assoc, lemmas.List.Sums.AllPass-from_list_all, lemmas.Result.err_from_is_err_and}
pub use Rattle.std.proofs.Common.{Bool, List, None, Option, Some, [], ap, append_assoc, arith, drop, false, get_or, length, length-append, length-drop, map}
pub use Rattle.std.proofs.Common.{not, pos, refl, replicate, rules, subst, suc, sym, take, true, zero, ℕ, ℤ, ⊎_elim, ◌&&◌, ◌++◌, ◌+◌, ◌-◌}
pub use Rattle.std.proofs.Common.{◌<◌, ◌==◌, ◌||◌, ◌∙◌, ◌∷◌, ◌≡◌, ◌≤◌}
pub use Rattle.std.proofs.lemmas.Bool.{OnFalse_at, OnFalse_from, OnTrue_at, OnTrue_from, and_parts, cases_lt, eq-eqb, leb-true, ne_eqb}
pub use Rattle.std.proofs.lemmas.List.{drop_more, get_or-map, length-map, length-replicate, replicate-append-replicate, take-replicate}
pub use Rattle.std.proofs.lemmas.Option.{get_or_from_slice_get, slice_get-get_or, slice_get_within}
pub use Rattle.std.specs.{Bool.OnFalse, Bool.OnTrue, List.flat_map, List.slice_get, Option.option_copied}
pub use Rattle.vms_kinds.specs.declared.Kind.{Kind, TheVariants.U8}
pub use Rattle.vms_spec.proofs.ListsAndNumbers.{and_swap, both_below, or_second, versions_long, same_number_is}
pub use Rattle.vms_spec.proofs.WellFormedLaws.{ranges, within}
pub use Rattle.vms_spec.specs.{Good.IsGood, Heads.FitsHeads, Layout.no_desc, Lists.at_option, Names.is_name, Numbers.same_number, Places.own_cell_count}
pub use Rattle.vms_spec.specs.{Readiness.come_as_needed, Rules.counts_well, Rules.in_range, Rules.int_le, Sets.AtLeast, Sets.Desc, Sets.Device, Sets.Set}
pub use Rattle.vms_spec.specs.{Sets.Sub, Streams.sub_head, Streams.trailer, Streams.written_section, declared.TheConstants.MOST_ITEMS}
pub use Rattle.vms_spec.specs.Images.{zeroed, AreVersionsOf, Image, RulesHold, came_slots, has_cell, image_slots, own_cells, own_slots, sub_place, sub_slots}
pub use Rattle.vms_spec.specs.Layout.{struct_cells, Cell, Constant, Meaning, Number, Rule, Slot, desc_cells, desc_slots, device_cells, meanings, no_cell}
pub use Rattle.vms_spec.specs.Streams.{written_sections, written_subs, AreReady, IsReady, configuration, end_mark, foot, is_needed, optional, section_head}
unfoldable pub use Rattle.vms_spec.specs.WellFormed.{first_fault}
pub use Rattle.vms_bodies.proofs.{PartLaws.image_are, PartLaws.parts_together, PartLaws.sub_are, Places.IsAbove, Places.above_append, SpellLaws.FitSlots}
pub use Rattle.vms_bodies.proofs.Places.{above_less, above_none, desc_above, meanings_above, MeanCells, cells_first, desc_are, meanings_are, names_append}
pub use Rattle.vms_bodies.proofs.SettledLaws.{stands_behind, named_fits, constants_append, own_constants, part_constants, AreConstants, fit_slots, own_are}
pub use Rattle.vms_bodies.proofs.Stated.{are_needed, counted_well, is_same, needed_are, ranged}
pub use Rattle.vms_bodies.specs.{Cells.AreCells}
pub use Rattle.vms_desc.proofs.AskLaws.{few_cells, own_inside_device, sub_first, sub_inside, sub_next}
pub use Rattle.vms_desc.proofs.Clean.{good_of, none_is, device_clean, sub_clean}
pub use Rattle.vms_desc.specs.{Asks.first_cell, Formed.is_well_formed, Spots.defaults_at, Spots.kinds_at, Described.described, Described.device_at}
pub use Rattle.vms_desc.specs.Parts.{desc_at, sub_at}
pub use Rattle.vms_image.proofs.States.{at_state, image_at, state_at, states_long}
pub use Rattle.vms_image.specs.Typed.{AreImagesOf, IsImageOf, IsOfDevice, Typed, state_of}
pub use Rattle.vms_io.proofs.WritingLemmas.{Leaves, leaves_all, leaves_none, leaves_rest, leaves_stop, puts_as, puts_both, puts_none, stops_as, stops_behind}
pub use Rattle.vms_io.proofs.WritingLemmas.{stops_front, wrote_as, wrote_behind, wrote_fault}
pub use Rattle.vms_io.specs.Told.{outlet}
pub use Rattle.vms_parts.specs.{Capacities.least_from, Capacities.least_of, Capacities.lesser, Views.device_of, Views.form_of, declared.types.CellForm.CellForm}
pub use Rattle.vms_spots.specs.Spots.{Held, codes_of}
pub use Rattle.vms_walk.proofs.Spots.{Ascends, below_from, desc_ascends, from_end, meanings_ascend, run_each}
pub use Rattle.vms_walk.specs.{Runs.run_of, declared.fields.PartAt.PartAt, declared.step.WalkStep.WalkStep}
pub use Rattle.vms_walk.specs.Steps.{cells_in, spot_slots, steps_of, table}
pub use Rattle.vms_write.specs.{Bytes.CanStep, Bytes.CanSteps, Bytes.CanWrite, Bytes.bytes_of, Judged.all_subs_fine, Judged.forms_of, Writing.written_sub}
pub use Rattle.vms_write.specs.Fine.{are_fit, formed, formed_of, is_fine, is_within, no_form, settle, sub_fine, sub_size, subs_fine}
pub use Rattle.vms_write.specs.Steps.{are_steps_fine, behind, is_number_fine}
