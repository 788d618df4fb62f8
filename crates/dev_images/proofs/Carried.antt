-- What is saved of a sound board is carried to the newest set as its devices' tables say, and can be restored.
use Rattle.dev_images.proofs.Facade.{AreSavedCells, BoardCells, Device, Image, ImagesComeBack, IsSound, List, MaySaveUnder, NEWEST, SavedIsCarried, Set, Some}
use Rattle.dev_images.proofs.Facade.{State, ap, arith, carried, carried_at, carried_device, cells_in, chip_in, find_device, five, get_or, images_of, index}
use Rattle.dev_images.proofs.Facade.{lists_of, no_image, pit_in, refl, restored, same-five, saved, saved_are_cells, saved_comes_back, saved_goes_on}
use Rattle.dev_images.proofs.Facade.{saved_images, serial_in, shipped_set, slice_get, timer_in, ℕ, ◌∙◌, ◌≡◌, ◌≤◌}
use Rattle.dev_images.proofs.{PitSaved.pit_is_carried, SerialSaved.serial_is_carried}
use Rattle.dev_images.proofs.ShippedDevices.{chip_is_carried, five_devices, places_are, timer_is_carried}
use Rattle.dev_pic.specs.Cells.{carried as pic_carried}
use Rattle.dev_pit.specs.Cells.{carried as pit_carried}
use Rattle.dev_serial.specs.Cells.{carried as serial_carried}
use Rattle.dev_board.specs.Saved.{carried as board_carried}

-- A set's cells as its devices' tables carry them.
abbrev tables : ℕ → BoardCells → BoardCells
tables set cells =
    five cells.timer.items (pic_carried set cells.master.items) (pic_carried set cells.slave.items) (pit_carried set cells.pit.items)
    (serial_carried set cells.serial.items)

as-tables : (set : ℕ) (cells : BoardCells) → tables set cells ≡ board_carried set cells
unfolding board_carried
as-tables set cells = refl

-- The image of a device of the newest set, from that of the device of the same name and instance.
abbrev taken : Set → List Image → Device → Image
taken old images e =
    carried_at old (shipped_set NEWEST) images e (find_device 0 old.devices e.desc.name e.instance)
    (slice_get old.devices (index (find_device 0 old.devices e.desc.name e.instance)))

from-device : (old : Set) (images : List Image) (e d : Device) (k : ℕ) (image : Image) → find_device 0 old.devices e.desc.name e.instance ≡ Some k
    → slice_get old.devices k ≡ Some d → get_or images k (no_image old (shipped_set NEWEST)) ≡ image
    → (taken old images e).numbers ≡ (carried_device old (shipped_set NEWEST) d e image).numbers
from-device old images e d k image found there is = rw (found, there, is) refl

board-each : (s : ℕ) (m : State) → AreSavedCells s (saved s m) → 1 ≤ s → s ≤ NEWEST
    → cells_in (carried (shipped_set s) (shipped_set NEWEST) (saved_images s m)) ≡ tables s (saved s m)
unfolding carried
board-each s m a l h =
    let set = shipped_set s in
    let new = shipped_set NEWEST in
    let p = places_are s l h in
    let there = λ (k : ℕ). ap (λ (devices : List Device). slice_get devices k) (five_devices s l h) in
    let image = λ (k : ℕ). ap (λ (devices : List Device). get_or (images_of set devices (lists_of (saved s m))) k (no_image set new)) (five_devices s l h) in
    same-five
    (from-device set (saved_images s m) (timer_in new) (timer_in set) 0 _ p.timer (there 0) (image 0) ∙ timer_is_carried.each s l h _ a.timer)
    (from-device set (saved_images s m) (chip_in 0 new) (chip_in 0 set) 1 _ p.master (there 1) (image 1) ∙ (chip_is_carried.chip 0).each s l h _ a.master)
    (from-device set (saved_images s m) (chip_in 1 new) (chip_in 1 set) 2 _ p.slave (there 2) (image 2) ∙ (chip_is_carried.chip 1).each s l h _ a.slave)
    (from-device set (saved_images s m) (pit_in new) (pit_in set) 3 _ p.pit (there 3) (image 3) ∙ pit_is_carried.each s l h _ a.pit)
    (from-device set (saved_images s m) (serial_in new) (serial_in set) 4 _ p.serial (there 4) (image 4) ∙ serial_is_carried.each s l h _ a.serial)

cells-carried : (set : ℕ) (m : State) → IsSound m → MaySaveUnder m.level set
    → cells_in (carried (shipped_set set) (shipped_set NEWEST) (saved_images set m)) ≡ board_carried set (saved set m)
cells-carried set m s may = board-each set m (saved_are_cells.of_set set m s may) (omega arith) may.set_le_newest ∙ as-tables set (saved set m)

pub saved_is_carried : SavedIsCarried
saved_is_carried = record { cells = cells-carried }

pub images_come_back : ImagesComeBack
images_come_back = search (arith, cells-carried, saved_comes_back, saved_goes_on)
