-- Images of a clock board's devices in the clock sets.
use Rattle.std.specs.Prelude.{ℕ, List, ◌∷◌, ℤ}
use Rattle.dev_clock.specs.Saved.{saved}
use Rattle.dev_clock.specs.State.{ClockState}
use Rattle.dev_clock.specs.declared.cells.ClockCells.{ClockCells}
use Rattle.dev_images.specs.Images.{images_of, lists_of as board_lists, list_at, board_from, numbers_in}
use Rattle.vms_desc.specs.Formed.{clock_set}
use Rattle.vms_spec.specs.Images.{Image}

-- `lists_of cells` is the list of the cells of the devices, in their order.
abbrev pub lists_of : ClockCells → List (List ℤ)
lists_of cells = cells.clock.items ∷ board_lists cells.board

-- `saved_images set m` is the list of the images that the devices are saved in, in the clock set.
abbrev pub saved_images : ℕ → ClockState → List Image
saved_images set m = images_of (clock_set set) (clock_set set).devices (lists_of (saved set m))

-- `cells_of lists` has the cells of the devices in such lists: the chip's, and after them those of
-- the board's devices.
abbrev pub cells_of : List (List ℤ) → ClockCells
cells_of lists = record { clock = list_at lists 0; board = board_from 1 lists }

-- `cells_in images` has the cells of the devices in their images.
abbrev pub cells_in : List Image → ClockCells
cells_in images = cells_of (numbers_in images)
