-- Images at their set's version, with exactly the subsections that are needed.
use Rattle.std.specs.Prelude.{ℕ, suc, ◌+◌, if◌then◌else◌, List, [], ◌∷◌, Option, Some, None, ℤ, get_or, map}
use Rattle.arrayvec.specs.ArrayVec.{ArrayVec}
use Rattle.vms_spec.specs.Images.{Image}
use Rattle.vms_spec.specs.Sets.{Sub, Device, Set}
use Rattle.vms_spec.specs.Streams.{is_needed}
use Rattle.dev_board.specs.Saved.{saved}
pub use Rattle.dev_board.specs.Saved.{lists_of}
use Rattle.dev_board.specs.State.{State}
use Rattle.vms_desc.specs.Formed.{shipped_set}
use Rattle.dev_board.specs.declared.cells.BoardCells.{BoardCells}

-- `needed_from set d image j subs`: from subsection `j` on, each comes at its version in the set if
-- the image's numbers need it.
abbrev pub needed_from : Set → Device → Image → ℕ → List Sub → List (Option ℕ)
needed_from set d image j [] = []
needed_from set d image j (s ∷ subs) =
    (if is_needed set d image s j then Some s.desc.version else None) ∷ needed_from set d image (suc j) subs

-- `bare d numbers` is an image of these numbers without a subsection.
abbrev pub bare : Device → List ℤ → Image
bare d numbers = record { version = d.desc.version; came = []; numbers = numbers }

-- `image_of set d numbers` is the image of these numbers, with the needed subsections.
abbrev pub image_of : Set → Device → List ℤ → Image
image_of set d numbers = record (bare d numbers) { came = needed_from set d (bare d numbers) 0 d.subs }

-- `images_of set devices lists` is the list of an image of each device, by its list of numbers.
abbrev pub images_of : Set → List Device → List (List ℤ) → List Image
images_of set [] lists = []
images_of set (d ∷ devices) [] = []
images_of set (d ∷ devices) (numbers ∷ lists) = image_of set d numbers ∷ images_of set devices lists

-- `saved_images set m` is the list of the images that the board is saved in, in the shipped set.
abbrev pub saved_images : ℕ → State → List Image
saved_images set m = images_of (shipped_set set) (shipped_set set).devices (lists_of (saved set m))

-- `list_at lists k` is list `k`, as the cells of a device.
abbrev pub list_at : List (List ℤ) → ℕ → ArrayVec ℤ
list_at lists k = record { items = get_or lists k [] }

-- `board_from k lists` has the cells of a board's devices, whose lists follow each other from list
-- `k` on.
abbrev pub board_from : ℕ → List (List ℤ) → BoardCells
board_from k lists = record {
  timer = list_at lists k;
  master = list_at lists (k + 1);
  slave = list_at lists (k + 2);
  pit = list_at lists (k + 3);
  serial = list_at lists (k + 4);
}

-- `numbers_in images` is the list of the numbers of each image.
abbrev pub numbers_in : List Image → List (List ℤ)
numbers_in images = map (λ image. image.numbers) images

-- `cells_in images` has the cells of a board's devices in their images.
abbrev pub cells_in : List Image → BoardCells
cells_in images = board_from 0 (numbers_in images)
