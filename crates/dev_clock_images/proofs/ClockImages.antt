-- The images of a clock board: ready, normal, and carried from older clock sets.
use Rattle.dev_clock_images.proofs.Facade
use Facade.{AreClockCells, AreOf, AreReady, AreSavedCells, BoardCells, Bool, ChipIsReady, ClockCells, ClockState, Compatible, Device, Image, ImagesComeBack}
use Facade.{IsNormal, IsReady, IsSound, KindsLaw, List, MaySaveUnder, NEWEST, NEWEST_CLOCK, NormalMayBeRestored, PlacesLaw, ReadyOf, SavedAreReady}
use Facade.{SavedIsCarried, Set, SetsAreCompatible, Some, Sub, [], ap, arith, bare, carried, carried_device, cells_in, clock_1, clock_2, clock_set, codes}
use Facade.{device_cells, false, first, first_mismatch, get_or, image_of, images_of, kinds, length, mc146818_at_1, mc146818_at_2, mc146818_rows, needed_from}
use Facade.{needs, newest_set, of-kinds, place_under, pos, ready-of, refl, restored, saved, saved_are_cells, saved_cells, saved_comes_back, saved_goes_on}
use Facade.{slice_get, suc, sym, true, unneeded, zero, ℕ, ℤ, ◌∙◌, ◌∷◌, ◌≡◌, ◌≤◌}
use Rattle.dev_images.proofs.{NormalCells.normal_may_be_restored as board-may-be, BoardReady.saved_are_ready as board-ready}
use Rattle.dev_images.proofs.{Carried.saved_is_carried as board-is-carried}
use Rattle.dev_images.specs.Images.{lists_of as board_lists, cells_in as board_cells_in}
use Rattle.dev_board.specs.Saved.{saved as board_saved, carried as board_carried}
use Rattle.dev_clock.specs.Saved.{carried as clock_carried}
use Rattle.vms_rtc.specs.Cells.{carried as chip_carried}

-- ---- the places of the devices, by computation

pub places_are : PlacesLaw
places_are = record {
  first = record { clock = refl; board = record { timer = refl; master = refl; slave = refl; pit = refl; serial = refl } };
  second = record { clock = refl; board = record { timer = refl; master = refl; slave = refl; pit = refl; serial = refl } };
}

-- ---- the clock sets are compatible, and their cells are those that the devices save

pub kinds_are : KindsLaw
unfolding first
kinds_are = record { first = refl; second = refl }

-- What holds of both clock sets.
each_clock : (P : ℕ → Type 0) → P 1 → P 2 → (set : ℕ) → 1 ≤ set → set ≤ NEWEST_CLOCK → P set
each_clock P one two (suc zero) l h = one
each_clock P one two (suc (suc zero)) l h = two
each_clock P one two _ l h = absurd (omega arith)

to-newest : (set : ℕ) → 1 ≤ set → set ≤ NEWEST_CLOCK → Compatible (clock_set set) (clock_set NEWEST_CLOCK)
unfolding first_mismatch first
to-newest = each_clock (λ set. Compatible (clock_set set) (clock_set NEWEST_CLOCK)) refl refl

pub sets_are_compatible : SetsAreCompatible
sets_are_compatible = record { newest = to-newest }

-- ---- the image of the chip's cells is ready

-- The place of the flag's cell in a clock set, and the number that it holds.
abbrev pub flag_place : ℕ → ℕ
flag_place set = place_under mc146818_rows set (codes "pf")

abbrev pub flag_in : ℕ → List ℤ → ℤ
flag_in set numbers = get_or numbers (flag_place set) (pos 0)

-- The chip's numbers in the newest clock set.
abbrev chip_numbers : Set → Device → List ℤ → List ℤ
chip_numbers set d numbers = (carried_device set clock_2 d mc146818_at_2 (image_of set d numbers)).numbers

-- Its image is ready, and is carried to the newest clock set as these cells.
record IsSavedAs (set : Set) (d : Device) (numbers cells : List ℤ) : Type 0 where
  ready : ReadyOf set d numbers
  carried : chip_numbers set d numbers ≡ cells

-- By whether the flag's subsection is needed.
module _ (numbers : List ℤ) where
  chip-1 : AreOf (kinds 1) numbers → (needed : Bool) → needs (flag_in 1 numbers) ≡ needed → IsSavedAs clock_1 mc146818_at_1 numbers (chip_carried 1 numbers)
  unfolding first
  chip-1 are true e = record {
    ready = ready-of clock_1 mc146818_at_1 numbers (omega arith) (omega arith, tt) are refl (rw e refl) (rw e (refl, (refl, tt)));
    carried = rw e refl;
  }
  chip-1 are false e =
      let off = unneeded (flag_in 1 numbers) (are.in_range (flag_place 1) (omega arith)) e in
      record {
        ready = ready-of clock_1 mc146818_at_1 numbers (omega arith) (omega arith, tt) are refl (rw (e, off) refl) (rw e (refl, tt));
        carried = rw (e, off) refl;
      }

  chip-2 : AreOf (kinds 2) numbers → (needed : Bool) → needs (flag_in 2 numbers) ≡ needed → IsSavedAs clock_2 mc146818_at_2 numbers (chip_carried 2 numbers)
  unfolding first
  chip-2 are true e = record {
    ready = ready-of clock_2 mc146818_at_2 numbers (omega arith) (omega arith, tt) are refl (rw e refl) (rw e (refl, (refl, tt)));
    carried = rw e refl;
  }
  chip-2 are false e =
      let off = unneeded (flag_in 2 numbers) (are.in_range (flag_place 2) (omega arith)) e in
      record {
        ready = ready-of clock_2 mc146818_at_2 numbers (omega arith) (omega arith, tt) are refl (rw (e, off) refl) (rw e (refl, tt));
        carried = rw (e, off) refl;
      }

pub chip_is_ready : ChipIsReady
chip_is_ready = record { first = λ numbers are. (chip-1 numbers are _ refl).ready; second = λ numbers are. (chip-2 numbers are _ refl).ready }

-- ---- normal images of the newest clock set have the cells that a restore of the devices requires

-- ---- images of the devices after the first of a set: these devices, and the structures, are those of the newest shipped set

abbrev pub outer : List (List ℕ) → Device → Set
outer machines d = record { machines = machines; structs = newest_set.structs; devices = d ∷ newest_set.devices }

module _ (machines : List (List ℕ)) (d : Device) where
  pub inner_normal : (e : Device) (image : Image) → IsNormal (outer machines d) e image → IsNormal newest_set e image
  inner_normal e image n = record { version = n.version; subs = n.subs; cells = n.cells; absent = n.absent }

  pub inner_ready : (e : Device) (image : Image) → IsReady newest_set e image → IsReady (outer machines d) e image
  inner_ready e image r = record {
    normal = record { version = r.normal.version; subs = r.normal.subs; cells = r.normal.cells; absent = r.normal.absent };
    valid = r.valid;
    version = r.version;
    needed = r.needed;
  }

  -- An image needs the same subsections.
  needed-same : (e : Device) (image : Image) (j : ℕ) (subs : List Sub) → needed_from (outer machines d) e image j subs ≡ needed_from newest_set e image j subs
  needed-same e image j [] = refl
  needed-same e image j (s ∷ subs) = rw (needed-same e image (suc j) subs)

  image-same : (e : Device) (numbers : List ℤ) → image_of (outer machines d) e numbers ≡ image_of newest_set e numbers
  image-same e numbers = rw (needed-same e (bare e numbers) 0 e.subs)

  pub images_same : (devices : List Device) (lists : List (List ℤ)) → images_of (outer machines d) devices lists ≡ images_of newest_set devices lists
  images_same [] lists = refl
  images_same (e ∷ devices) [] = refl
  images_same (e ∷ devices) (numbers ∷ lists) = cc (image-same e numbers, images_same devices lists)

-- ---- normal images

chip-of : (image : Image) → IsNormal clock_2 mc146818_at_2 image → AreOf (kinds 2) image.numbers
unfolding first
chip-of image n = of-kinds (device_cells clock_2 mc146818_at_2) image.numbers n.cells

each : (images : List Image) → length images ≡ 6 → ((k : ℕ) (d : Device) (image : Image) → slice_get clock_2.devices k ≡ Some d → slice_get images k ≡ Some image → IsNormal clock_2 d image) → AreClockCells (cells_in images)
each [] l h = absurd (omega (arith, l))
each (image ∷ images) l h = record {
  clock = chip-of image (h 0 mc146818_at_2 image refl refl);
  board = board-may-be.cells images (omega (arith, l)) (λ k d found e f. inner_normal clock_2.machines mc146818_at_2 d found (h (suc k) d found e f));
}

pub normal_may_be_restored : NormalMayBeRestored
normal_may_be_restored = record { cells = each }

-- ---- sound devices are saved in ready images

-- A device's image before those of the newest shipped set.
module _ (machines : List (List ℕ)) (d : Device) (numbers : List ℤ) (lists : List (List ℤ)) where
  abbrev behind : List Image
  behind = images_of (outer machines d) newest_set.devices lists

  each-ready : IsReady (outer machines d) d (image_of (outer machines d) d numbers) → AreReady newest_set (images_of newest_set newest_set.devices lists) → (k : ℕ) (e : Device) (image : Image) → slice_get (d ∷ newest_set.devices) k ≡ Some e → slice_get (image_of (outer machines d) d numbers ∷ behind) k ≡ Some image → IsReady (outer machines d) e image
  each-ready first r zero e image h i =
      let same_device : d ≡ e = cc in
      let same_image : image_of (outer machines d) d numbers ≡ image = cc in
      rw (← same_device, ← same_image) first
  each-ready first r (suc k) e image h i =
      inner_ready machines d e image
      (r.ready k e image h (rw (images_same machines d newest_set.devices lists) at i))

  in-front : IsReady (outer machines d) d (image_of (outer machines d) d numbers) → AreReady newest_set (images_of newest_set newest_set.devices lists)
      → AreReady (outer machines d) (images_of (outer machines d) (d ∷ newest_set.devices) (numbers ∷ lists))
  in-front first r = record { one_each = ap suc (rw (images_same machines d newest_set.devices lists) (r.one_each)); ready = each-ready first r }

module _ (m : ClockState) (s : IsSound m) where
  board : AreReady newest_set (images_of newest_set newest_set.devices (board_lists (board_saved NEWEST m.board)))
  board = board-ready.images NEWEST m.board s.board (record { level_le_set = let e = s.devices.level in omega (arith, e); set_le_newest = omega arith })

  ready-by-set : (set : ℕ) → 1 ≤ set → set ≤ NEWEST_CLOCK → AreSavedCells set (saved set m)
      → AreReady (clock_set set) (images_of (clock_set set) (clock_set set).devices (saved_cells set m.clock ∷ board_lists (board_saved NEWEST m.board)))
  unfolding saved
  ready-by-set =
      let lists = board_lists (board_saved NEWEST m.board) in
      each_clock (λ set. AreSavedCells set (saved set m) → AreReady (clock_set set) (images_of (clock_set set) (clock_set set).devices (saved_cells set m.clock ∷ lists)))
      (λ a. in-front clock_1.machines mc146818_at_1 (saved_cells 1 m.clock) lists (chip_is_ready.first (saved_cells 1 m.clock) a.clock) board)
      (λ a. in-front clock_2.machines mc146818_at_2 (saved_cells 2 m.clock) lists (chip_is_ready.second (saved_cells 2 m.clock) a.clock) board)

pub saved_are_ready : SavedAreReady
unfolding saved
saved_are_ready = record {
  images = λ set m s may.
      let least = s.devices.clock.version.first in
      let le = may.level_le_set in
      ready-by-set m s set (omega (arith, least, le)) may.set_le_newest (saved_are_cells.of_set set m s may);
}

-- ---- what is saved of sound devices is carried to the newest clock set as their tables say, and can be restored

abbrev both : List ℤ → BoardCells → ClockCells
both clock board = record { clock = record { items = clock }; board = board }

-- The board's devices are carried as between shipped sets.
abbrev inner_cells : BoardCells → BoardCells
inner_cells cells = board_cells_in (carried newest_set newest_set (images_of newest_set newest_set.devices (board_lists cells)))

abbrev all_cells : Set → List ℤ → BoardCells → ClockCells
all_cells set numbers cells = cells_in (carried set clock_2 (images_of set set.devices (numbers ∷ board_lists cells)))

by-set : (numbers : List ℤ) (cells : BoardCells) (set : ℕ) → 1 ≤ set → set ≤ NEWEST_CLOCK → AreOf (kinds set) numbers
    → all_cells (clock_set set) numbers cells ≡ both (chip_carried set numbers) (inner_cells cells)
unfolding carried first
by-set numbers cells =
    each_clock (λ set. AreOf (kinds set) numbers → all_cells (clock_set set) numbers cells ≡ both (chip_carried set numbers) (inner_cells cells))
    (λ are. ap (λ clock. both clock (inner_cells cells)) (chip-1 numbers are _ refl).carried)
    (λ are. ap (λ clock. both clock (inner_cells cells)) (chip-2 numbers are _ refl).carried)

pub saved_is_carried : SavedIsCarried
unfolding saved clock_carried
saved_is_carried = record {
  cells = λ set m s may.
      let least = s.devices.clock.version.first in
      let le = may.level_le_set in
      let own = saved_are_cells.of_set set m s may in
      let at-level = s.devices.level in
      by-set (saved_cells set m.clock) (board_saved NEWEST m.board) set (omega (arith, least, le)) may.set_le_newest own.clock
      ∙ ap (both (chip_carried set (saved_cells set m.clock)))
      (board-is-carried.cells NEWEST m.board s.board (record { level_le_set = omega (arith, at-level); set_le_newest = omega arith }));
}

pub images_come_back : ImagesComeBack
images_come_back = record {
  back = λ set m s may. rw (saved_is_carried.cells set m s may) (saved_comes_back.back set m s may);
  answers = λ set m back events s may e. saved_goes_on.answers set m back events s may
      (ap (restored m.clock.version) (sym (saved_is_carried.cells set m s may)) ∙ e);
}
