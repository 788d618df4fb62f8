-- The devices of the shipped sets, their places, kinds, structures and slots.
use Rattle.dev_images.proofs.Facade
use Facade.{AreChipCells, AreOf, AreTimerCells, Bool, CarriedWhere, ChipIsCarried, ChipIsReady, Device, InEachSet, InRange, KindsLaw, List, NEWEST, Origin}
use Facade.{PlacesLaw, ReadyOf, ReadyWhere, Set, TimerIsCarried, TimerIsReady, [], arith, bit_and, by_list, carried_by, carried_numbers, cell_count, chip_in}
use Facade.{codes, divider, divisor, false, fcr, fifo, first, get_or, i8254_at_2, i8259_at_1, i8259_at_2, i8259_at_4, kinds_in, kinds_saved, length, newest_set}
use Facade.{pit_in, place_of_pic, places, pos, refl, residue, ring, serial, serial_fields, serial_in, set_1, set_2, set_3, shipped_set, subst, sym}
use Facade.{thr_ipending, timeout, timer, timer_in, timer_kinds, true, ℕ, ℤ, ◌++◌, ◌==◌, ◌∷◌, ◌≡◌, ◌≤◌}
use Rattle.dev_images.proofs.ReadyOf.{needed, ready-of}
use Rattle.dev_pic.specs.Cells.{kinds as pic_kinds, origins as pic_origins, carried as pic_carried}
use Rattle.dev_pit.specs.Cells.{kinds_of, origins as origins_of_pit}
use Rattle.dev_serial.specs.Cells.{kinds as serial_kinds, origins as serial_origins}
use Rattle.vms_kinds.specs.declared.Kind.TheVariants.{Bool as Truth}

-- ---- the places of a board's devices, by computation

pub places_are : PlacesLaw
places_are s l h = search (arith, by_list)

-- ---- the kinds of the devices' cells, by computation

pub kinds_are : KindsLaw
unfolding first
kinds_are = by_list kinds_in kinds_saved 1 refl

-- ---- the devices and the structures that the shipped sets have

-- The serial port of set 1.
abbrev pub serial_at_1 : Device
serial_at_1 = serial 1 (divider ∷ serial_fields) (thr_ipending ∷ [])

-- The serial port of set 2.
abbrev pub serial_at_2 : Device
serial_at_2 = serial 2 (divider ∷ serial_fields ++ fcr ∷ []) (thr_ipending ∷ fifo ∷ [])

-- The serial port of set 3.
abbrev pub serial_at_3 : Device
serial_at_3 = serial 3 (divisor ∷ serial_fields ++ fcr ∷ []) (thr_ipending ∷ fifo ∷ timeout ∷ [])

-- The serial port of set 4.
abbrev pub serial_at_4 : Device
serial_at_4 = serial 4 (divisor ∷ serial_fields ++ fcr ∷ []) (thr_ipending ∷ fifo ∷ timeout ∷ ring ∷ [])

-- ---- what the shipped sets have from a number on, by computation

abbrev five_of : Set → List Device
five_of set = timer_in set ∷ chip_in 0 set ∷ chip_in 1 set ∷ pit_in set ∷ serial_in set ∷ []

pub five_devices : (s : ℕ) → 1 ≤ s → s ≤ NEWEST → (shipped_set s).devices ≡ five_of (shipped_set s)
five_devices = grind (arith, by_list, five_of)

pub is_chip : (instance s : ℕ) → 4 ≤ s → s ≤ NEWEST → chip_in instance (shipped_set s) ≡ i8259_at_4 instance
is_chip instance = grind (arith, by_list)

pub is_pit : (s : ℕ) → 2 ≤ s → s ≤ NEWEST → pit_in (shipped_set s) ≡ i8254_at_2
is_pit = by_list pit_in (λ s. i8254_at_2) 2 refl

pub later_structs : (s : ℕ) → 2 ≤ s → s ≤ NEWEST → (shipped_set s).structs ≡ set_2.structs
later_structs = grind (arith, by_list)

pub is_serial : (s : ℕ) → 4 ≤ s → s ≤ NEWEST → serial_in (shipped_set s) ≡ serial_at_4
is_serial = by_list serial_in (λ s. serial_at_4) 4 refl

-- What holds for each of the sets 1 to 3, and for all from 4 on.
pub from_four : (P : ℕ → Type 0) → P 1 → P 2 → P 3 → ((s : ℕ) → 4 ≤ s → s ≤ NEWEST → P s) → (s : ℕ) → 1 ≤ s → s ≤ NEWEST → P s
from_four P one two three more s l h = grind arith

-- ---- the kinds of the devices' cells, and where those of the newest set are, from a number on

pub chip_kinds : (s : ℕ) → 4 ≤ s → s ≤ NEWEST → pic_kinds s ≡ pic_kinds 4
chip_kinds s l h = grind (arith, by_list)

pub chip_origins : (s : ℕ) → 4 ≤ s → s ≤ NEWEST → pic_origins s ≡ pic_origins 4
chip_origins s l h = grind (arith, by_list)

pub pit_kinds : (s : ℕ) → 2 ≤ s → s ≤ NEWEST → kinds_of s ≡ kinds_of 2
pit_kinds s l h = grind (arith, by_list)

pub pit_origins : (s : ℕ) → 2 ≤ s → s ≤ NEWEST → origins_of_pit s ≡ origins_of_pit 2
pit_origins s l h = sym (by_list (λ set. origins_of_pit 2) origins_of_pit 2 refl s l h)

pub port_kinds : (s : ℕ) → 4 ≤ s → s ≤ NEWEST → serial_kinds s ≡ serial_kinds 4
port_kinds s l h = sym (by_list (λ set. serial_kinds 4) serial_kinds 4 refl s l h)

pub port_origins : (s : ℕ) → 4 ≤ s → s ≤ NEWEST → serial_origins s ≡ serial_origins 4
port_origins s l h = sym (by_list (λ set. serial_origins 4) serial_origins 4 refl s l h)

-- ---- a device's cells are saved in a ready image, which is carried as the device's own table says

-- Its image is ready, and is carried to the device `new` of the newest set as these cells.
pub record IsSavedAs (set : Set) (d new : Device) (numbers cells : List ℤ) : Type 0 where
  pub ready : ReadyOf set d numbers
  pub carried : carried_numbers set d new numbers ≡ cells

-- The same for every list of numbers that are such cells, by the table.
abbrev pub SavedWhere : (ℕ → List ℤ → Type 0) → (ℕ → List ℤ → List ℤ) → Device → ℕ → Set → Device → Type 0
SavedWhere Are table new s set d = (numbers : List ℤ) → Are s numbers → IsSavedAs set d new numbers (table s numbers)

module _ {Are : ℕ → List ℤ → Type 0} {table : ℕ → List ℤ → List ℤ} {new : Device} {device : Set → Device} where
  pub ready-in : InEachSet (SavedWhere Are table new) device → InEachSet (ReadyWhere Are) device
  ready-in h = record { each = λ s l m numbers are. (h.each s l m numbers are).ready }

  pub carried-in : InEachSet (SavedWhere Are table new) device → InEachSet (CarriedWhere Are table new) device
  carried-in h = record { each = λ s l m numbers are. (h.each s l m numbers are).carried }

-- ---- the moment

-- A list of one number.
one : (numbers : List ℤ) → length numbers ≡ 1 → (get_or numbers 0 (pos 0) ∷ []) ≡ numbers
one (z ∷ []) e = refl
one _ e = absurd (omega arith)

-- In any set, since the moment is no structure.
timer-saved : (set : Set) (numbers : List ℤ) → AreOf timer_kinds numbers → IsSavedAs set timer timer numbers numbers
unfolding first
timer-saved set numbers are = record { ready = ready-of set timer numbers (omega arith) tt are refl refl (refl, tt); carried = one numbers are.count }

pub timer_is_saved : InEachSet (SavedWhere AreTimerCells (λ set numbers. numbers) (timer_in newest_set)) timer_in
timer_is_saved = record { each = λ s l h. rw (by_list timer_in (λ s. timer) 1 refl) (timer-saved (shipped_set s)) }

pub timer_is_ready : TimerIsReady
timer_is_ready = ready-in timer_is_saved

pub timer_is_carried : TimerIsCarried
timer_is_carried = carried-in timer_is_saved

-- ---- a chip of the pair

-- The place of the level mode's cell in the newest set, and the number that it holds.
abbrev mode_place : ℕ
mode_place = place_of_pic (codes "ltim")

abbrev mode_in : List ℤ → ℤ
mode_in numbers = get_or numbers mode_place (pos 0)

-- The level mode's cell, by whether its subsection is needed.
abbrev pub needs : ℤ → Bool
needs z = bit_and (residue 1 z) 1 == 1

pub unneeded : (z : ℤ) → InRange Truth z → needs z ≡ false → z ≡ pos 0
unneeded z r e = grind arith

-- No item of a chip is a structure, so these hold in any set.
module _ (set : Set) (instance : ℕ) (numbers : List ℤ) where
  saved-1 : AreChipCells 1 numbers → IsSavedAs set (i8259_at_1 instance) (i8259_at_4 instance) numbers (pic_carried 1 numbers)
  unfolding first
  saved-1 are = record { ready = ready-of set (i8259_at_1 instance) numbers (omega arith) tt are refl refl (refl, tt); carried = refl }

  saved-2 : AreChipCells 2 numbers → IsSavedAs set (i8259_at_2 instance) (i8259_at_4 instance) numbers (pic_carried 2 numbers)
  unfolding first
  saved-2 are = record { ready = ready-of set (i8259_at_2 instance) numbers (omega arith) tt are refl refl (refl, tt); carried = refl }

  saved-4 : AreChipCells 4 numbers → (needed : Bool) → needs (mode_in numbers) ≡ needed
      → IsSavedAs set (i8259_at_4 instance) (i8259_at_4 instance) numbers (carried_by (places 0 cell_count) numbers)
  unfolding first
  saved-4 are true e = record {
    ready = ready-of set (i8259_at_4 instance) numbers (omega arith) (omega arith, tt) are refl (rw e refl) (rw e (refl, (refl, tt)));
    carried = rw e refl;
  }
  saved-4 are false e =
      let off = unneeded (mode_in numbers) (are.in_range mode_place (omega arith)) e in
      record {
        ready = ready-of set (i8259_at_4 instance) numbers (omega arith) (omega arith, tt) are refl (rw (e, off) refl) (rw e (refl, tt));
        carried = rw (e, off) refl;
      }

chip-each : (instance s : ℕ) → 1 ≤ s → s ≤ NEWEST → SavedWhere AreChipCells pic_carried (chip_in instance newest_set) s (shipped_set s) (chip_in instance (shipped_set s))
unfolding first
chip-each instance =
    from_four (λ s. SavedWhere AreChipCells pic_carried (chip_in instance newest_set) s (shipped_set s) (chip_in instance (shipped_set s)))
    (saved-1 set_1 instance) (saved-2 set_2 instance) (saved-2 set_3 instance)
    (λ s four h. subst (λ d. SavedWhere AreChipCells pic_carried (chip_in instance newest_set) s (shipped_set s) d) (sym (is_chip instance s four h))
    (λ numbers are.
    subst (λ (origins : List Origin). IsSavedAs (shipped_set s) (i8259_at_4 instance) (i8259_at_4 instance) numbers (carried_by origins numbers))
    (sym (chip_origins s four h)) (saved-4 (shipped_set s) instance numbers (rw (chip_kinds s four h) at are) _ refl)))

pub chip_is_saved : (instance : ℕ) → InEachSet (SavedWhere AreChipCells pic_carried (chip_in instance newest_set)) (chip_in instance)
chip_is_saved instance = record { each = chip-each instance }

pub chip_is_ready : ChipIsReady
chip_is_ready = record { chip = λ instance. ready-in (chip_is_saved instance) }

pub chip_is_carried : ChipIsCarried
chip_is_carried = record { chip = λ instance. carried-in (chip_is_saved instance) }
