-- A sound board is saved in ready images.
use Rattle.dev_images.proofs.Facade.{AreReady, AreSavedCells, Device, Image, IsReady, List, NEWEST, SavedAreReady, Set, Some, State, [], ap, arith, first}
use Rattle.dev_images.proofs.Facade.{image_of, images_of, length, lists_of, refl, saved, saved_are_cells, shipped_set, slice_get, subst, suc, sym, zero, ℕ}
use Rattle.dev_images.proofs.{PitSaved.pit_is_ready, SerialSaved.serial_is_ready, Facade.ℤ, Facade.◌∷◌, Facade.◌≡◌, Facade.◌≤◌}
use Rattle.dev_images.proofs.ShippedDevices.{chip_is_ready, five_devices, timer_is_ready}

-- Each device's image is ready.
AllReady : Set → List Device → List (List ℤ) → Type 0
AllReady set [] [] = Unit {0}
AllReady set (d ∷ devices) (numbers ∷ lists) = IsReady set d (image_of set d numbers) × AllReady set devices lists
AllReady set _ _ = ⊥

counts : (set : Set) (devices : List Device) (lists : List (List ℤ)) → AllReady set devices lists → length (images_of set devices lists) ≡ length devices
unfolding AllReady
counts set [] [] h = refl
counts set (d ∷ devices) (numbers ∷ lists) h = ap suc (counts set devices lists h.1)
counts set _ _ h = absurd h

all-ready : (set : Set) (devices : List Device) (lists : List (List ℤ)) → AllReady set devices lists → (k : ℕ) (d : Device) (image : Image)
    → slice_get devices k ≡ Some d → slice_get (images_of set devices lists) k ≡ Some image → IsReady set d image
unfolding AllReady
all-ready set [] [] h k d image e f = cc
all-ready set (first ∷ devices) (numbers ∷ lists) h zero d image e f = grind arith
all-ready set (first ∷ devices) (numbers ∷ lists) h (suc k) d image e f = all-ready set devices lists h.1 k d image e f
all-ready set _ _ h k _ image _ _ = absurd h

are-ready : (set : Set) (lists : List (List ℤ)) → AllReady set set.devices lists → AreReady set (images_of set set.devices lists)
are-ready set lists h = record { one_each = counts set set.devices lists h; ready = all-ready set set.devices lists h }

board-each : (s : ℕ) (m : State) → AreSavedCells s (saved s m) → 1 ≤ s → s ≤ NEWEST → AllReady (shipped_set s) (shipped_set s).devices (lists_of (saved s m))
unfolding AllReady
board-each s m a l h =
    subst (λ (devices : List Device). AllReady (shipped_set s) devices (lists_of (saved s m))) (sym (five_devices s l h)) (
      timer_is_ready.each s l h _ a.timer,
      (
        (chip_is_ready.chip 0).each s l h _ a.master,
        ((chip_is_ready.chip 1).each s l h _ a.slave, (pit_is_ready.each s l h _ a.pit, (serial_is_ready.each s l h _ a.serial, tt))),
      ),
    )

pub saved_are_ready : SavedAreReady
saved_are_ready = record {
  images = λ set m s may. let least = s.devices.level.first in let le = may.level_le_set in
      are-ready (shipped_set set) (lists_of (saved set m)) (board-each set m (saved_are_cells.of_set set m s may) (omega arith) may.set_le_newest);
}
