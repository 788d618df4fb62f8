-- The names of other crates, and of this crate's `specs`, that the proofs use.
pub use Rattle.std.proofs.{lemmas.Bool.Decides.nat_tests, lemmas.Grind.and_numeral, lemmas.Int.ints, lemmas.Nat.and_le_l}
pub use Rattle.std.proofs.Common.{Bool, List, None, Option, Some, [], ap, arith, cond, drop, false, get_or, length, map, min, negsuc, not, pos, refl, replicate}
pub use Rattle.std.proofs.Common.{subst, suc, sym, take, true, zero, ℕ, ℤ, ◌%◌, ◌&&◌, ◌++◌, ◌+◌, ◌-◌, ◌<◌, ◌==◌, ◌^◌, ◌||◌, ◌∙◌, ◌∷◌, ◌≡◌, ◌≤ℤ◌, ◌≤◌}
pub use Rattle.std.proofs.Math.Bool.{and-false, and-true, or-false, or_assoc}
pub use Rattle.std.proofs.lemmas.Bool.{and_from, and_parts, cond_both, eq-eqb, eqb-false, eqb-true, leb-true, ltb-true, ne_eqb, not-false, or_from, or_left}
pub use Rattle.std.proofs.lemmas.Bool.{or_parts, or_right}
pub use Rattle.std.proofs.lemmas.List.{get_or-drop, get_or-replicate, get_or-take}
pub use Rattle.std.specs.{List.flat_map, List.slice_get, Prelude.bit_and, Prelude.codes, Prelude.nat_le, Prelude.nat_lt}
pub use Rattle.vms_kinds.specs.{Codes.InRange, Codes.residue, declared.Item.TheVariants.Num, declared.Kind.Kind}
pub use Rattle.vms_kinds.specs.declared.Kind.TheVariants.{I8, Timer, U16, U8}
pub use Rattle.vms_spec.proofs.{ListsAndNumbers.or_second, ListsAndNumbers.same_number_is, WellFormedLaws.within}
pub use Rattle.vms_spec.specs.{Images.own_slots, Images.sub_slots, Numbers.same_number, Rules.counts_well, Sets.Desc, Sets.Device, Sets.Set, Sets.Sub}
pub use Rattle.vms_spec.specs.Images.{AreVersionsOf, FitCells, Image, IsNormal, IsValid, IsVersionOf, RulesHold, came_slots, has_cell, image_slots, own_cells}
pub use Rattle.vms_spec.specs.Layout.{Cell, Constant, Filler, Number, Rule, Slot, desc_cells, device_cells, meanings, no_cell, no_meaning, struct_cells, times}
pub use Rattle.vms_spec.specs.Lookup.{find_device, index}
pub use Rattle.vms_spec.specs.Shipped.{divider, divisor, fcr, fifo, i8254_at_1, i8254_at_2, i8259_at_1, i8259_at_2, i8259_at_4, never, number, ring, serial, serial_fields, set_1}
pub use Rattle.vms_spec.specs.Shipped.{set_2, set_3, thr_ipending, timeout, timer}
pub use Rattle.vms_spec.specs.Streams.{AreReady, ComeAsNeeded, IsReady, is_needed}
pub use Rattle.vms_bodies.proofs.{Places.has_left, Places.names_append, Places.has_right, Stated.counted_well, Stated.is_same, SpellLaws.rules_append}
pub use Rattle.vms_check.specs.{Carrying.Carrier, Carrying.carried_at, Carrying.carried_device, Carrying.carried_sub, Carrying.no_image, Carrying.carriers, Carrying.carry_items, Carrying.no_carrier, Comparing.same_kind}
pub use Rattle.vms_desc.proofs.Clean.{by_list}
pub use Rattle.vms_desc.specs.Formed.{newest_set, shipped_set}
pub use Rattle.vms_fields.specs.{Fields.Row, Fields.place_under, Pic.place_of_pic, Pit.channel_rows, Serial.serial_rows}
pub use Rattle.vms_fields.specs.declared.pit.TheConstants.{CELLS, COUNTERS, LATCH, LATCHED, STATUS, STATUS_LATCHED, WLOW, WLOW_HELD}
pub use Rattle.vms_fields.specs.declared.serial.TheConstants.{RX, RX_COUNT, RX_DATA, RX_NUMBER, THR_IPENDING, TIMEOUT_AT, TX, TX_COUNT, TX_NUMBER}
pub use Rattle.dev_base.specs.{Tables.carried_by, Tables.places, declared.limits.TheConstants.NEWEST, Tables.Origin}
pub use Rattle.dev_base.specs.Cells.{AreOf, flag_at, kind_at, nat_of, number_at}
pub use Rattle.dev_board.proofs.{RestoredLaws.five, RestoredLaws.same-five, SavedLaws.saved_are_cells, SavedLaws.saved_comes_back, SavedLaws.saved_goes_on}
pub use Rattle.dev_board.specs.{Sound.IsSound, State.State, declared.cells.BoardCells.BoardCells}
pub use Rattle.dev_board.specs.Saved.{AreBoardCells, AreSavedCells, MaySaveUnder, restored, saved, timer_kinds}
pub use Rattle.dev_images.specs.{Kinds.KindsLaw, Kinds.kinds_in, Kinds.kinds_saved, Places.PlacesLaw, Places.chip_in, Places.pit_in, Places.serial_in, Places.timer_in}
pub use Rattle.dev_images.specs.Images.{bare, cells_in, image_of, images_of, lists_of, needed_from, saved_images}
pub use Rattle.dev_images.specs.Laws.{ChipIsCarried, InEachSet, ChipIsReady, ImagesComeBack, NormalMayBeRestored, PitIsCarried, PitIsReady, ReadyOf, SavedAreReady}
pub use Rattle.dev_images.specs.Laws.{SavedIsCarried, SerialIsCarried, SerialIsReady, TimerIsCarried, TimerIsReady, carried_numbers, AreChipCells, AreTimerCells, CarriedWhere, ReadyWhere}
pub use Rattle.dev_pic.specs.Cells.{cell_count}
pub use Rattle.dev_pit.specs.Cells.{AreCellsOf, channel_place, latched_place, status_place}
pub use Rattle.dev_serial.specs.{Cells.IsArray, Cells.IsPortCells, Laws.AreSaved}
unfoldable pub use Rattle.vms_spec.specs.Layout.{first}
unfoldable pub use Rattle.vms_check.specs.Carrying.{carried}
