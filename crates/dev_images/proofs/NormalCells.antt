-- Normal images of the newest set have the cells that a restore of a board takes.
use Rattle.dev_images.proofs.Facade.{AreBoardCells, AreCellsOf, AreOf, AreVersionsOf, Bool, CELLS, Cell, Device, FitCells, Image, InRange, IsNormal}
use Rattle.dev_images.proofs.Facade.{IsPortCells, IsVersionOf, LATCH, LATCHED, List, NEWEST, None, NormalMayBeRestored, Option, RX, RX_COUNT, RX_DATA}
use Rattle.dev_images.proofs.Facade.{STATUS_LATCHED, Set, Slot, Some, Sub, THR_IPENDING, TIMEOUT_AT, TX, TX_COUNT, U8, WLOW, WLOW_HELD, [], ap, arith}
use Rattle.dev_images.proofs.Facade.{came_slots, cells_in, channel_place, device_cells, false, fifo, first, flag_at, get_or, has_cell, i8254_at_2, i8259_at_4}
use Rattle.dev_images.proofs.Facade.{image_slots, kind_at, length, map, min, nat_le, nat_lt, nat_of, nat_tests, ne_eqb, no_cell, number, number_at, or_from}
use Rattle.dev_images.proofs.Facade.{or_second, own_slots, pos, refl, residue, ring, same_number, same_number_is, serial, set_2, shipped_set, slice_get}
use Rattle.dev_images.proofs.Facade.{sub_slots, suc, thr_ipending, timeout, timer, timer_kinds, times, true, zero, ℕ, ℤ, ◌+◌, ◌<◌, ◌==◌}
use Rattle.dev_images.proofs.{ShippedDevices.serial_at_4, SerialSaved.elements-none, SerialSaved.fifo_slots, ShippedDevices.needs, SerialSaved.elements}
use Rattle.dev_images.proofs.{SerialSaved.element, Facade.◌≤ℤ◌, Facade.◌∙◌, Facade.◌∷◌, Facade.◌≡◌, Facade.◌≤◌, Facade.◌||◌}
use Rattle.dev_images.proofs.ReadyOf.{all_within, count-of, from-at, has-none, kind-of, outside, sub_cells}
use Rattle.dev_images.proofs.PitSaved.{AreChannels, chip-has, chip_has, chip_slots, no_gate, second_at, third_at}
use Rattle.vms_kinds.specs.declared.Kind.TheVariants.{Bool as Truth}
use Rattle.dev_pic.specs.Cells.{kinds as pic_kinds}
use Rattle.dev_pit.proofs.CallLaws.{each_of}

-- ---- normal images of the newest set have the cells that a restore of a board requires

-- Cells that fit have their kinds.
pub of-kinds : (cells : List Cell) (normal-numbers : List ℤ) → FitCells cells normal-numbers → AreOf (map (λ cell. cell.kind) cells) normal-numbers
of-kinds cells normal-numbers fit = search (arith, count-of, kind-of)

pub timer-of : (image : Image) → IsNormal (shipped_set NEWEST) timer image → AreOf timer_kinds image.numbers
unfolding first
timer-of image n = of-kinds (device_cells (shipped_set NEWEST) timer) image.numbers n.cells

pub chip-of : (instance : ℕ) (image : Image) → IsNormal (shipped_set NEWEST) (i8259_at_4 instance) image → AreOf (pic_kinds NEWEST) image.numbers
unfolding first
chip-of instance image n = of-kinds (device_cells (shipped_set NEWEST) (i8259_at_4 instance)) image.numbers n.cells

-- ---- the timer chip

-- A clear flag.
flag-off : (z : ℤ) → InRange Truth z → (nat_of z == 1) ≡ false → needs z ≡ false
flag-off z r e = grind arith

-- The slots of an image of the chip, at either version.
record HasSlots (normal-numbers : List ℤ) (slots : List Slot) : Type 0 where
  rest : List Slot
  same : slots ≡ chip_slots set_2 normal-numbers rest
  none : (k : ℕ) → k < STATUS_LATCHED → has_cell rest k ≡ false

slots-at : (v : ℕ) (came : List (Option ℕ)) (normal-numbers : List ℤ) → 1 ≤ v → v ≤ 2 → AreVersionsOf [] came
    → HasSlots normal-numbers (image_slots (shipped_set NEWEST) i8254_at_2 (record { version = v; came = came; numbers = normal-numbers }))
unfolding first
slots-at (suc zero) [] normal-numbers l h a = record { rest = []; same = refl; none = λ k lt. refl }
slots-at (suc (suc zero)) [] normal-numbers l h a = search arith
slots-at v (o ∷ came) normal-numbers l h a = absurd a
slots-at _ came normal-numbers l h a = absurd (omega arith)

module _ (image : Image) (n : IsNormal (shipped_set NEWEST) i8254_at_2 image) where
  abbrev normal-numbers : List ℤ
  normal-numbers = image.numbers

  kinds : AreOf (map (λ cell. cell.kind) (device_cells (shipped_set NEWEST) i8254_at_2)) normal-numbers
  kinds = of-kinds (device_cells (shipped_set NEWEST) i8254_at_2) normal-numbers n.cells

  slots : HasSlots normal-numbers (image_slots (shipped_set NEWEST) i8254_at_2 image)
  slots = slots-at image.version image.came normal-numbers n.version.0 n.version.1 n.subs

  -- A cell that no channel has is at its default, 0.
  lacks : (k : ℕ) → k < STATUS_LATCHED → (get_or (device_cells (shipped_set NEWEST) i8254_at_2) k no_cell).default ≡ pos 0
      → chip_has normal-numbers [] k ≡ false → nat_of (get_or normal-numbers k (pos 0)) ≡ 0
  unfolding first
  lacks k lt d e =
      let channels : AreChannels set_2 normal-numbers no_gate = record { first = refl; second = refl; third = refl; none = λ k. refl; rules = tt } in
      let none : chip_has normal-numbers slots.rest k ≡ false = rw (slots.none k lt) e in
      ap nat_of (n.absent k (omega arith) (rw (slots.same) (chip-has set_2 normal-numbers no_gate slots.rest channels k ∙ none)) ∙ d)

  off : (place : ℕ) → place < CELLS → kind_at (map (λ cell. cell.kind) (device_cells (shipped_set NEWEST) i8254_at_2)) place ≡ Truth
      → (nat_of (get_or normal-numbers place (pos 0)) == 1) ≡ false → needs (get_or normal-numbers place (pos 0)) ≡ false
  unfolding first
  off place lt kind e = flag-off _ (rw kind at (kinds.in_range place (omega arith))) e

  pub pit-of : AreCellsOf NEWEST normal-numbers
  unfolding first
  pit-of =
      let default = λ (flag number k : ℕ). flag_at normal-numbers (channel_place k + flag) ≡ false → number_at normal-numbers (channel_place k + number) ≡ 0 in
      record {
        of_kinds = kinds;
        wlow = each_of (default WLOW_HELD WLOW)
            (λ e. lacks WLOW (omega arith) refl (rw (off WLOW_HELD (omega arith) refl e) refl))
            (λ e. lacks (second_at + WLOW) (omega arith) refl (rw (off (second_at + WLOW_HELD) (omega arith) refl e) refl))
            (λ e. lacks (third_at + WLOW) (omega arith) refl (rw (off (third_at + WLOW_HELD) (omega arith) refl e) refl));
        latch = each_of (default LATCHED LATCH)
            (λ e. lacks LATCH (omega arith) refl (rw (off LATCHED (omega arith) refl e) refl))
            (λ e. lacks (second_at + LATCH) (omega arith) refl (rw (off (second_at + LATCHED) (omega arith) refl e) refl))
            (λ e. lacks (third_at + LATCH) (omega arith) refl (rw (off (third_at + LATCHED) (omega arith) refl e) refl));
      }

-- ---- a normal image of the newest set's serial port has the cells that a restore of a port requires

-- The FIFOs' slots lack the cells after the elements of each array.
fifo-lack : (n m c : ℕ) → RX + n ≤ c → (TX_COUNT ≤ c → TX + m ≤ c) → has_cell (fifo_slots n m) c ≡ false
fifo-lack n m c rx tx = grind (arith, has-none, times, element, or_from, ne_eqb, elements-none)

-- Subsections that came lack a cell that none of them has.
abbrev SubsLack : Set → List ℤ → ℕ → ℕ → List Sub → Type 0
SubsLack set numbers c at [] = Unit {0}
SubsLack set numbers c at (s ∷ subs) =
    ((v : ℕ) → IsVersionOf s.desc v → has_cell (sub_slots set s v numbers at) c ≡ false) × SubsLack set numbers c (at + length (sub_cells set s)) subs

came-lack : (set : Set) (d : Device) (numbers : List ℤ) (c at : ℕ) (subs : List Sub) (came : List (Option ℕ)) → AreVersionsOf subs came
    → SubsLack set numbers c at subs → has_cell (came_slots set d numbers at subs came) c ≡ false
came-lack set d numbers c at [] came a h = refl
came-lack set d numbers c at (s ∷ subs) [] a h = absurd a
came-lack set d numbers c at (s ∷ subs) (None ∷ came) a h = came-lack set d numbers c (at + length (sub_cells set s)) subs came a h.1
came-lack set d numbers c at (s ∷ subs) (Some v ∷ came) a h = grind (arith, has-none, came-lack set d numbers c (at + length (sub_cells set s)) subs came a.1 h.1)

own-within : (v : ℕ) (numbers : List ℤ) → 1 ≤ v → v ≤ 4 → all_within 0 THR_IPENDING (own_slots (shipped_set NEWEST) serial_at_4 v numbers) ≡ true
unfolding first
own-within v numbers l h = grind arith

version-1 : (v : ℕ) (P : ℕ → Type 0) → 1 ≤ v → v ≤ 1 → P 1 → P v
version-1 (suc zero) P l h p = p
version-1 _ _ l h p = absurd (omega arith)

-- The FIFOs' cells have the default 0.
abbrev is_zero_cell : ℕ → Cell → Bool
is_zero_cell k cell = nat_lt k RX_COUNT || (nat_le TIMEOUT_AT k || same_number (pos 0) cell.default)

module _ (image : Image) (n : IsNormal (shipped_set NEWEST) serial_at_4 image) where
  abbrev numbers : List ℤ
  numbers = image.numbers

  are : AreOf (map (λ cell. cell.kind) (device_cells (shipped_set NEWEST) serial_at_4)) numbers
  are = of-kinds (device_cells (shipped_set NEWEST) serial_at_4) numbers n.cells

  byte-at : (place : ℕ) → place < 84 → kind_at (map (λ cell. cell.kind) (device_cells (shipped_set NEWEST) serial_at_4)) place ≡ U8
      → InRange U8 (get_or numbers place (pos 0))
  unfolding first
  byte-at place lt e = rw e at (are.in_range place (omega arith))

  rx-range : InRange U8 (get_or numbers RX_COUNT (pos 0))
  unfolding first
  rx-range = byte-at RX_COUNT (omega arith) refl

  tx-range : InRange U8 (get_or numbers TX_COUNT (pos 0))
  unfolding first
  tx-range = byte-at TX_COUNT (omega arith) refl

  at-most : (z : ℤ) → InRange U8 z → z ≤ℤ pos 16 → nat_of z ≤ 16
  at-most z r l = grind arith

  rx-fits : nat_of (get_or numbers RX_COUNT (pos 0)) ≤ 16
  unfolding first
  rx-fits = at-most _ rx-range (n.cells.fits RX_COUNT (omega arith)).1.0

  tx-fits : nat_of (get_or numbers TX_COUNT (pos 0)) ≤ 16
  unfolding first
  tx-fits = at-most _ tx-range (n.cells.fits TX_COUNT (omega arith)).1.0

  abbrev rx_elements : ℕ
  rx_elements = min (residue 1 (get_or numbers RX_COUNT (pos 0))) 16

  abbrev tx_elements : ℕ
  tx_elements = min (residue 1 (get_or numbers TX_COUNT (pos 0))) 16

  -- A cell outside of the fields and of the other subsections that is in no slot of the FIFOs is in
  -- no slot.
  lack : (c : ℕ) → RX_COUNT ≤ c → c < TIMEOUT_AT → has_cell (fifo_slots rx_elements tx_elements) c ≡ false
      → has_cell (image_slots (shipped_set NEWEST) serial_at_4 image) c ≡ false
  unfolding first
  lack c low high e =
      let set = shipped_set NEWEST in
      has-none (own_slots set serial_at_4 image.version numbers) (came_slots set serial_at_4 numbers THR_IPENDING serial_at_4.subs image.came) c
      (outside 0 THR_IPENDING (own_slots set serial_at_4 image.version numbers) c (own-within image.version numbers n.version.0 n.version.1) (λ l h. omega arith))
      (came-lack set serial_at_4 numbers c THR_IPENDING serial_at_4.subs image.came n.subs (
        (λ v h. version-1 v (λ v. has_cell (sub_slots set thr_ipending v numbers THR_IPENDING) c ≡ false) h.0 h.1
            (outside THR_IPENDING RX_COUNT (sub_slots set thr_ipending 1 numbers THR_IPENDING) c refl (λ l h. omega arith))),
        (
          (λ v h. version-1 v (λ v. has_cell (sub_slots set fifo v numbers RX_COUNT) c ≡ false) h.0 h.1 e),
          (
            (λ v h. version-1 v (λ v. has_cell (sub_slots set timeout v numbers TIMEOUT_AT) c ≡ false) h.0 h.1
                (outside TIMEOUT_AT RX_DATA (sub_slots set timeout 1 numbers TIMEOUT_AT) c refl (λ l h. omega arith))),
            (
              (λ v h. version-1 v (λ v. has_cell (sub_slots set ring v numbers RX_DATA) c ≡ false) h.0 h.1
                  (outside RX_DATA 84 (sub_slots set ring 1 numbers RX_DATA) c refl (λ l h. omega arith))),
              tt,
            ),
          ),
        ),
      ))

  -- An element that no slot has is at its default.
  element-zero : (c : ℕ) → RX_COUNT ≤ c → c < TIMEOUT_AT → has_cell (fifo_slots rx_elements tx_elements) c ≡ false → get_or numbers c (pos 0) ≡ pos 0
  unfolding first
  element-zero c low high e =
      let cells = device_cells (shipped_set NEWEST) serial_at_4 in
      let given : is_zero_cell c (get_or cells c no_cell) ≡ true = from-at is_zero_cell 0 cells refl c c (omega arith) (omega arith) in
      let there = or_second (nat_le TIMEOUT_AT c) _ (or_second (nat_lt c RX_COUNT) _ given (grind (arith, nat_tests))) (grind (arith, nat_tests)) in
      cc (n.absent c (omega arith) (lack c low high e), same_number_is (pos 0) (get_or cells c no_cell).default there)

  rx-zeros : (i : ℕ) → nat_of (get_or numbers RX_COUNT (pos 0)) ≤ i → i < 16 → get_or numbers (RX + i) (pos 0) ≡ pos 0
  unfolding first
  rx-zeros i l b =
      let is = elements (get_or numbers RX_COUNT (pos 0)) rx-range rx-fits in
      element-zero (RX + i) (omega arith) (omega arith) (fifo-lack rx_elements tx_elements (RX + i) (omega arith) (λ l. omega arith))

  tx-zeros : (i : ℕ) → nat_of (get_or numbers TX_COUNT (pos 0)) ≤ i → i < 16 → get_or numbers (TX + i) (pos 0) ≡ pos 0
  unfolding first
  tx-zeros i l b =
      let is = elements (get_or numbers TX_COUNT (pos 0)) tx-range tx-fits in
      element-zero (TX + i) (omega arith) (omega arith) (fifo-lack rx_elements tx_elements (TX + i) (omega arith) (λ m. omega arith))

  pub port-of : IsPortCells numbers
  unfolding first
  port-of = search (are, rx-fits, rx-zeros, tx-fits, tx-zeros)

-- ---- normal images of the newest set have the cells that a restore of a board requires

each : (images : List Image) → length images ≡ 5 → ((k : ℕ) (d : Device) (image : Image) → slice_get (shipped_set NEWEST).devices k ≡ Some d → slice_get images k ≡ Some image → IsNormal (shipped_set NEWEST) d image) → AreBoardCells (cells_in images)
each (a ∷ b ∷ c ∷ d ∷ e ∷ []) l h = record {
  timer = timer-of a (h 0 timer a refl refl);
  master = chip-of 0 b (h 1 (i8259_at_4 0) b refl refl);
  slave = chip-of 1 c (h 2 (i8259_at_4 1) c refl refl);
  pit = pit-of d (h 3 i8254_at_2 d refl refl);
  serial = port-of e (h 4 serial_at_4 e refl refl);
}
each _ l h = absurd (omega arith)

pub normal_may_be_restored : NormalMayBeRestored
normal_may_be_restored = record { cells = each }
