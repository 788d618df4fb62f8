-- The names of other crates, and of this crate's `specs`, that the proofs use.
pub use Rattle.std.proofs.Common.{Bool, List, None, Option, Some, [], ap, arith, codes, false, get_or, if◌then◌else◌, length, pos, refl, subst, suc, sym, true}
pub use Rattle.std.proofs.Common.{zero, ℕ, ℤ, ◌∙◌, ◌∷◌, ◌≡◌, ◌≤◌}
pub use Rattle.std.specs.List.{slice_get}
pub use Rattle.vms_spec.specs.{Layout.device_cells, Sets.Device, Sets.Set, Sets.Sub, Streams.AreReady, Streams.IsReady, Streams.is_needed}
pub use Rattle.vms_spec.specs.Images.{Image, IsNormal, IsValid, image_slots}
unfoldable pub use Rattle.vms_spec.specs.Layout.{first}
pub use Rattle.vms_check.specs.{Carrying.carried_device, Comparing.Compatible}
unfoldable pub use Rattle.vms_check.specs.{Carrying.carried, Comparing.first_mismatch}
pub use Rattle.vms_desc.specs.Formed.{clock_set, newest_set}
pub use Rattle.vms_fields.specs.{Clock.mc146818_rows, Fields.place_under}
pub use Rattle.vms_rtc.specs.{Cells.kinds, Cells.saved_cells, declared.limits.TheConstants.NEWEST_CLOCK}
pub use Rattle.vms_shipped.specs.ClockSets.{clock_1, clock_2, mc146818_at_1, mc146818_at_2}
pub use Rattle.arrayvec.specs.ArrayVec.{ArrayVec}
pub use Rattle.dev_base.specs.{Cells.AreOf, declared.limits.TheConstants.NEWEST}
pub use Rattle.dev_board.specs.declared.cells.BoardCells.{BoardCells}
pub use Rattle.dev_clock.proofs.SavedLaws.{saved_are_cells, saved_comes_back, saved_goes_on}
pub use Rattle.dev_clock.specs.{SavedLaws.ComesBack, Sound.IsSound, State.ClockState, declared.cells.ClockCells.ClockCells}
pub use Rattle.dev_clock.specs.Saved.{AreClockCells, AreSavedCells, MaySaveUnder, restored}
unfoldable pub use Rattle.dev_clock.specs.Saved.{saved}
pub use Rattle.dev_clock_images.specs.{Images.cells_in, Places.PlacesLaw}
pub use Rattle.dev_clock_images.specs.Laws.{ChipIsReady, ImagesComeBack, KindsLaw, NormalMayBeRestored, SavedAreReady, SavedIsCarried, SetsAreCompatible}
pub use Rattle.dev_images.proofs.{ShippedDevices.needs, ShippedDevices.unneeded, NormalCells.of-kinds, ReadyOf.are_kept, ReadyOf.ready-of}
pub use Rattle.dev_images.specs.{Laws.ReadyOf}
pub use Rattle.dev_images.specs.Images.{bare, board_from, image_of, images_of, list_at, needed_from, numbers_in}
