-- The saved cells of a port, of its own set and carried to the newest one.
use Rattle.dev_serial.proofs.AlikeLaws.{lsr-status}
use Rattle.dev_serial.proofs.Facade
use Facade.{PlacesAre, IsArray, ◌≡◌, ℕ, zero, suc, ◌+◌, ◌<◌, ◌≤◌, ◌^◌, Bool, false, List, ◌∷◌, ◌++◌, map, replicate, ℤ}
use Facade.{pos, refl, [], arith, append_assoc, length, take, drop, Option, None, range_with_len, nat_le, is_some, get_or-append-add, get_or_append_left}
use Facade.{get_or-map, get_or_past, and_le_r, nil_from_length, serial_rows, InRange, U8, I8, of_none, of_more, byte, word, timer, AllHold, one_holds, of_rows}
use Facade.{AreOf, firsts, cell_at, since, named, field_cells, array_cells, ring_cells, cells_of, kinds, IsPortCells, FIFOS_SINCE, TIMEOUT_SINCE, RINGS_SINCE}
use Facade.{PortNumbers, Counted, Ring, NEWEST, LAST_MOMENT, lsr_of, AreSaved, SavedAreCells, IsShort, Port, interrupt, id_number, saved, ipending_of}
use Facade.{single_byte, fifo_bytes, in_array, in_ring, fcr_number, shift_number, due_number, moment_number, IsSound, AreBytes, IsShift, IsTimeout, byte_of}
use Facade.{padded, counted_of, ring_of, Interrupt, Shift, Trigger, RX, TX_COUNT, TX, TIMEOUT_AT, number_at, RX_COUNT, cells_at, hook_restored, Ok, nat_tests}
use Facade.{AllLack, none_lacks, carried_rows, carried, numbers_of, SavedComesBack, Alike, Numbers, hook_result, CanSave, CanRestore}
use Rattle.dev_serial.proofs.SavedLaws.{byte_of-lt, byte_of-padded, array-short, ring-short, restored-saved}

-- ---- the places are the constants' by their definition

pub places_are : PlacesAre
places_are = search

-- ---- the saved cells are cells of their set: the numbers in each row of the list of fields

-- The sixteen elements are bytes.
abbrev pub AreSixteen : List ℕ → Type 0
AreSixteen bytes = AreOf (replicate 16 U8) (map pos bytes)

run : (f : ℕ → ℕ) (a n : ℕ) → ((i : ℕ) → a ≤ i → i < a + n → f i < 256) → AreOf (replicate n U8) (map pos (map f (range_with_len a n)))
run f a zero h = of_none
run f a (suc n) h =
    of_more U8 (pos (f a)) (replicate n U8) (map pos (map f (range_with_len (a + 1) n))) (byte (f a) (h a (omega arith) (omega arith)))
    (run f (a + 1) n (λ i l m. h i (omega arith) (omega arith)))

pub are_sixteen : (f : ℕ → ℕ) → ((i : ℕ) → i < 16 → f i < 256) → AreSixteen (firsts 16 f)
are_sixteen f h = run f 0 16 (λ i l m. h i (omega arith))

pub record IsArrayOf (array : Counted) : Type 0 where
  pub count : array.count < 256
  pub bytes : AreSixteen array.bytes

pub record IsRingOf (ring : Ring) : Type 0 where
  pub elements : AreSixteen ring.elements
  pub head : ring.head < 256
  pub number : ring.number < 256

-- Each number is in the range of its kind.
pub record InRanges (n : PortNumbers) : Type 0 where
  pub divisor : n.divisor < 2 ^ 16
  pub ier : n.ier < 256
  pub iir : n.iir < 256
  pub lcr : n.lcr < 256
  pub mcr : n.mcr < 256
  pub lsr : n.lsr < 256
  pub scr : n.scr < 256
  pub rbr : n.rbr < 256
  pub thr : n.thr < 256
  pub tsr : n.tsr < 256
  pub tx_due : n.tx_due < 2 ^ 64
  pub fcr : n.fcr < 256
  pub thr_ipending : InRange I8 n.thr_ipending
  pub rx : IsArrayOf n.rx
  pub tx : IsArrayOf n.tx
  pub timeout_at : n.timeout_at < 2 ^ 64
  pub rx_ring : IsRingOf n.rx_ring
  pub tx_ring : IsRingOf n.tx_ring

pub holds : (n : PortNumbers) → InRanges n → AllHold (named n) serial_rows
holds n r =
    one_holds _ _ (word _ r.divisor) (one_holds _ _ (byte _ r.ier) (one_holds _ _ (byte _ r.iir) (one_holds _ _ (byte _ r.lcr)
    (one_holds _ _ (byte _ r.mcr) (one_holds _ _ (byte _ r.lsr) (one_holds _ _ (byte _ r.scr) (one_holds _ _ (byte _ r.rbr)
    (one_holds _ _ (byte _ r.thr) (one_holds _ _ (byte _ r.tsr) (one_holds _ _ (timer _ r.tx_due) (one_holds _ _ (byte _ r.fcr)
    (one_holds _ _ r.thr_ipending (one_holds _ _ (byte _ r.rx.count) (
      r.rx.bytes,
      one_holds _ _ (byte _ r.tx.count) (
        r.tx.bytes,
        one_holds _ _ (timer _ r.timeout_at) (
          r.rx_ring.elements,
          one_holds _ _ (byte _ r.rx_ring.head) (one_holds _ _ (byte _ r.rx_ring.number)
              (r.tx_ring.elements, one_holds _ _ (byte _ r.tx_ring.head) (one_holds _ _ (byte _ r.tx_ring.number) tt))),
        ),
      ),
    ))))))))))))))

pub of_kinds : (set : ℕ) (n : PortNumbers) → InRanges n → AreOf (kinds set) (cells_of set n)
unfolding cells_of
of_kinds set n r = of_rows (named n) set serial_rows (holds n r)

-- ---- parts

-- The cells in the order in which code appends them.
abbrev pub parts : ℕ → PortNumbers → List ℤ
parts set n =
    field_cells n ++ since FIFOS_SINCE set (pos n.fcr ∷ []) ++ n.thr_ipending ∷ []
    ++ since FIFOS_SINCE set (array_cells n.rx) ++ since FIFOS_SINCE set (array_cells n.tx)
    ++ since TIMEOUT_SINCE set (pos n.timeout_at ∷ [])
    ++ since RINGS_SINCE set (ring_cells n.rx_ring) ++ since RINGS_SINCE set (ring_cells n.tx_ring)

pub parts_are : (set : ℕ) (n : PortNumbers) → parts set n ≡ cells_of set n
unfolding field_cells array_cells ring_cells cells_of
parts_are set n = grind (arith, nat_tests, append_assoc)

-- ---- saved cells

-- the numbers of a sound port are in their kinds' ranges
id-range : (interrupt : Interrupt) → id_number interrupt < 256
id-range interrupt = grind arith

single-range : (fifos : Option Trigger) (bytes : List ℕ) → AreBytes bytes → single_byte fifos bytes < 256
single-range fifos bytes b = grind arith

fifo-range : (fifos : Option Trigger) (bytes : List ℕ) → AreBytes bytes → AreBytes (fifo_bytes fifos bytes)
fifo-range fifos bytes b = grind arith

shift-range : (now : ℕ) (shift : Option Shift) → IsShift now shift → shift_number shift < 256
shift-range now shift s = grind arith

due-range : (now : ℕ) (shift : Option Shift) → now ≤ LAST_MOMENT → IsShift now shift → due_number shift < 18446744073709551616
due-range now shift h s = grind arith

moment-range : (now : ℕ) (runs : Bool) (timeout : Option ℕ) → now ≤ LAST_MOMENT → IsTimeout now runs timeout → moment_number timeout < 18446744073709551616
moment-range now runs timeout h t = grind arith

fcr-range : (fifos : Option Trigger) → fcr_number fifos < 256
fcr-range fifos = grind arith

ipending-range : (enabled latch identified : Bool) → InRange I8 (ipending_of enabled latch identified)
ipending-range enabled latch identified = grind (arith, nat_tests)

lsr-range : (now : ℕ) (port : Port) → now ≤ LAST_MOMENT → IsSound now port → lsr_of port < 256
lsr-range now port h s = let m = (lsr-status port).mask in omega (arith, and_le_r (lsr_of port) 0x63)

small : (n : ℕ) → n ≤ 16 → n < 256
small n h = omega arith

array-of : (bytes : List ℕ) → length bytes ≤ 16 → AreBytes bytes → IsArrayOf (counted_of bytes)
array-of bytes s b = record { count = small _ s; bytes = are_sixteen (byte_of bytes) (λ i l. byte_of-lt bytes i b) }

ring-of : (bytes : List ℕ) → length bytes ≤ 16 → AreBytes bytes → IsRingOf (ring_of bytes)
ring-of bytes s b = record { elements = are_sixteen (byte_of bytes) (λ i l. byte_of-lt bytes i b); head = omega arith; number = small _ s }

module _ (set now : ℕ) (port : Port) (early : now ≤ LAST_MOMENT) (sound : IsSound now port) where
  array-part : (bytes : List ℕ) → IsShort (is_some port.fifos) bytes → AreBytes bytes → IsArrayOf (counted_of (in_array set port.fifos bytes))
  array-part bytes s b = grind (arith, array-of, array-short, fifo-range)

  ring-part : (bytes : List ℕ) → IsShort (is_some port.fifos) bytes → AreBytes bytes → IsRingOf (ring_of (in_ring set port.fifos bytes))
  ring-part bytes s b = grind (arith, ring-of, ring-short, fifo-range)

  -- what a set saves
  pub in-ranges : InRanges (saved set now port)
  unfolding saved
  in-ranges =
      search (arith, id-range, lsr-range, single-range, shift-range, due-range, fcr-range, ipending-range, array-part, moment-range, ring-part)

-- a number from 2 to 4 is one of these
from_two : (P : ℕ → Type 0) (set : ℕ) → FIFOS_SINCE ≤ set → set ≤ NEWEST → P 2 → P 3 → P 4 → P set
from_two P set low high b c d = grind arith

-- a counted array by its index: the elements after the count are 0 from the count on
zero-from : (front back : List ℤ) (bytes : List ℕ) (i : ℕ) → length bytes ≤ i → i < 16
    → cell_at (front ++ (map pos (padded bytes) ++ back)) (length front + i) ≡ pos 0
zero-from front back bytes i low high =
    cc (get_or-append-add front (map pos (padded bytes) ++ back) i (pos 0), get_or_append_left (map pos (padded bytes)) back (pos 0) i high, get_or-map pos (padded bytes) i 0 (pos 0) high, byte_of-padded bytes i high, get_or_past bytes i 0 low)

-- The bytes and their count, as the cells have them.
array_in : (cells front back : List ℤ) (bytes : List ℕ) (place : ℕ) → cells ≡ front ++ (map pos (padded bytes) ++ back) → place + 1 ≡ length front
    → number_at cells place ≡ length bytes → length bytes ≤ 16 → IsArray cells place
array_in cells front back bytes place e l n s = record { fits = rw n s; zeros = λ i low high. rw (e, l) (zero-from front back bytes i (rw n at low) high) }

-- no bytes
no-arrays : (first second : List ℕ) → length first ≡ 0 → length second ≡ 0
    → (pos (length first) ∷ map pos (padded first)) ++ (pos (length second) ∷ map pos (padded second)) ≡ replicate 34 (pos 0)
no-arrays first second a b = grind (arith, nil_from_length)

module _ (now : ℕ) (port : Port) (early : now ≤ LAST_MOMENT) (sound : IsSound now port) where
  abbrev first : ℕ → List ℕ
  first set = in_array set port.fifos port.receiver.held

  abbrev second : ℕ → List ℕ
  second set = in_array set port.fifos port.transmitter.waiting

  abbrev cells : ℕ → List ℤ
  cells set = cells_of set (saved set now port)

  -- the two arrays of cells that hold a set's bytes
  rx-in : (set : ℕ) (all : List ℤ) → all ≡ take RX all ++ (map pos (padded (first set)) ++ drop TX_COUNT all) → RX ≡ length (take RX all)
      → number_at all RX_COUNT ≡ length (first set) → IsArray all RX_COUNT
  rx-in set all e l n = array_in all _ _ (first set) RX_COUNT e l n (array-short set port.fifos port.receiver.held sound.receiver.short)

  tx-in : (set : ℕ) (all : List ℤ) → all ≡ take TX all ++ (map pos (padded (second set)) ++ drop TIMEOUT_AT all) → TX ≡ length (take TX all)
      → number_at all TX_COUNT ≡ length (second set) → IsArray all TX_COUNT
  tx-in set all e l n = array_in all _ _ (second set) TX_COUNT e l n (array-short set port.fifos port.transmitter.waiting sound.transmitter.short)

  -- the saved numbers, as the newest set's cells
  pub newest-cells : (set : ℕ) → IsPortCells (cells_of 4 (saved set now port))
  unfolding cells_of saved
  newest-cells set =
      let all = cells_of 4 (saved set now port) in
      record { of_kinds = of_kinds 4 _ (in-ranges set now port early sound); rx = rx-in set all refl refl refl; tx = tx-in set all refl refl refl }

  pub are-saved : (set : ℕ) → 1 ≤ set → set ≤ NEWEST → AreSaved set (cells set)
  unfolding cells_of saved
  are-saved set low high = record {
    of_kinds = of_kinds set _ (in-ranges set now port early sound);
    rx = λ h. from_two (λ n. IsArray (cells n) RX_COUNT) set h high (rx-in 2 (cells 2) refl refl refl) (rx-in 3 (cells 3) refl refl refl)
        (rx-in 4 (cells 4) refl refl refl);
    tx = λ h. from_two (λ n. IsArray (cells n) TX_COUNT) set h high (tx-in 2 (cells 2) refl refl refl) (tx-in 3 (cells 3) refl refl refl)
        (tx-in 4 (cells 4) refl refl refl);
    no_fifo = λ h. from_two (λ n. number_at (cells n) RX_COUNT ≡ 0 → number_at (cells n) TX_COUNT ≡ 0
        → take 34 (drop RX_COUNT (cells n)) ≡ replicate 34 (pos 0)) set h high
        (no-arrays (first 2) (second 2)) (no-arrays (first 3) (second 3)) (no-arrays (first 4) (second 4));
    no_ring = λ h. let e : set ≡ 4 = omega arith in
        rw e (λ a b. rw (nil_from_length (in_ring 4 port.fifos port.receiver.held) a, nil_from_length (in_ring 4 port.fifos port.transmitter.waiting) b));
  }

pub saved_are_cells : SavedAreCells
saved_are_cells numbers port can sound = are-saved numbers.moment port can.moment sound numbers.set (omega arith) can.set_le_newest

-- ---- saved cells, carried to the newest set, are restored as a port like the saved one

-- ---- cells carried to the newest set

-- the newest set's cells are the numbers
pub numbers-back : (set now : ℕ) (port : Port) → numbers_of (cells_of 4 (saved set now port)) ≡ saved set now port
unfolding numbers_of cells_of saved
numbers-back set now port = refl

no-timeout : (now : ℕ) (port : Port) → IsSound now port → port.level < 3 → port.receiver.timeout ≡ None
no-timeout now port s early = let t = s.receiver.timeout in grind (arith, nat_tests)

module _ (set now : ℕ) (port : Port) (early : now ≤ LAST_MOMENT) (s : IsSound now port) (le : port.level ≤ set) where
  off : nat_le 2 set ≡ false → port.fifos ≡ None
  off e = grind (arith, is_some)

  empty : (bytes : List ℕ) → nat_le 2 set ≡ false → in_array set port.fifos bytes ≡ []
  empty bytes e = grind (arith, off)

  no-ring : (bytes : List ℕ) → nat_le 4 set ≡ false → in_ring set port.fifos bytes ≡ []
  no-ring bytes e = rw e

  -- no bytes
  no_bytes : (bytes : List ℕ) → bytes ≡ [] → map pos (padded bytes) ≡ replicate 16 (pos 0)
  no_bytes bytes e = rw e

  no_count : (bytes : List ℕ) → bytes ≡ [] → (pos (length bytes) ∷ []) ≡ (pos 0 ∷ [])
  no_count bytes e = rw e

  lacks : AllLack (named (saved set now port)) set serial_rows
  unfolding saved
  lacks =
      let n = named (saved set now port) in
      none_lacks n set (take 11 serial_rows) (drop 11 serial_rows) refl (
        λ e. rw (off e),
        none_lacks n set (take 1 (drop 12 serial_rows)) (drop 13 serial_rows) refl
            (search (arith, no_count, no_bytes, empty, no-ring, no-timeout, nat_tests)),
      )

  -- under every set from the port's level on, the cells are carried to those of the newest set
  pub carried-saved : carried set (cells_of set (saved set now port)) ≡ cells_of 4 (saved set now port)
  unfolding carried cells_of
  carried-saved = carried_rows (named (saved set now port)) set serial_rows (holds _ (in-ranges set now port early s)) lacks [] 0 refl

-- ---- a saved port comes back

module _ (numbers : Numbers) (port : Port) (can : CanSave numbers port) (sound : IsSound numbers.moment port) where
  abbrev newest : Numbers
  newest = record numbers { set = NEWEST }

  same : carried numbers.set (cells_at numbers port) ≡ cells_of 4 (saved numbers.set numbers.moment port)
  same = grind (arith, carried-saved)

  may : CanRestore newest (carried numbers.set (cells_at numbers port))
  may = search (arith, same, newest-cells)

  back : (other : Port) × (hook_restored newest (carried numbers.set (cells_at numbers port)) ≡ Ok other) × Alike port other
  unfolding hook_result
  back =
      let r = restored-saved numbers.set numbers.moment port can.moment sound in
      (r.0, rw (same, numbers-back numbers.set numbers.moment port, can.own_level, r.1), r.2)

pub saved_comes_back : SavedComesBack
saved_comes_back numbers port can sound =
    let b = back numbers port can sound in
    record { may = may numbers port can sound; back = b.0; restored = b.1; alike = b.2 }
