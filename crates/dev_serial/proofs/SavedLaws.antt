-- The saved numbers of a sound port meet every rule, and are restored as a port like it.
use Rattle.dev_serial.proofs.SoundLaws.{not_empty}
use Rattle.dev_serial.proofs.AlikeLaws.{IsStatus, lsr-status, latch_back, IsLatchBack, latch_comes_back}
use Rattle.dev_serial.proofs.Facade
use Facade.{◌≡◌, ℕ, ◌+◌, ◌<◌, Bool, true, false, take, ap, ◌∙◌, arith, zero, suc, ◌-◌, ◌%◌, ◌≤◌, ◌==◌, not, ◌&&◌}
use Facade.{cond, List, [], ◌∷◌, length, map, refl, sym, ◌++◌, ℤ, replicate, subst, nat_tests, and_from, le-leb, eq-eqb, or_right}
use Facade.{get_or-range_with_len, length-map-range_with_len, get_or-map-range_with_len, list_all_at, list_all_more, range_with_len, list_all, get_or_past}
use Facade.{nat_lt, cond_both, is_empty, ListsComeBack, HoldsWhatItGives, stored_bytes, is_unused, AreBytes, firsts, cell_at, kind_at, number_at, AreOf}
use Facade.{byte_of, padded, counted_of, counted_bytes, ring_of, ring_bytes, behind_head, is_held_or_zero, ring_holds, Counted, Ring, all_set, bytes_within}
use Facade.{InRange, U8, I8, Timer, field_kinds, kinds, AreBytesIn, bytes_at, number-lt, RX_COUNT, TIMEOUT_AT, RX_DATA, judged-all, Port, is_data_ready}
use Facade.{has_come, interrupt, id_number, ◌||◌, Option, Some, None, Ok, and-true, and-false, or-true, nat_le, is_some, lsr_of, LAST_MOMENT, moment_number}
use Facade.{due_number, shift_number, single_byte, fifo_bytes, in_array, in_ring, fcr_number, moment_of, shift_of, fifos_of, bytes_held, saved, port_of}
use Facade.{IsShort, same, has, is_stored_once, longest_timeout, registers_hold, fcr_holds, unused_hold, status_holds, shift_holds, timeout_holds, latch_holds}
use Facade.{id_holds, once_holds, rings_hold, rules, restored, IsShift, IsTimeout, IsSound, Alike, Shift, Trigger, LONGEST_CHARACTER, NEVER}
use Rattle.std.specs.Prelude.{min}

-- ---- a test of each of the sixteen elements of a ring

zero-add : (k : ℕ) → 0 + k ≡ k
zero-add k = omega arith

pub all_fails : (p : ℕ → Bool) (k : ℕ) → k < 16 → p k ≡ false → list_all p (range_with_len 0 16) ≡ false
all_fails p k l e = grind (arith, list_all_at, get_or-range_with_len, zero-add)

pub all_more : (p : ℕ → Bool) (k : ℕ) → k < 16 → list_all p (take k (range_with_len 0 16)) ≡ true → p k ≡ true
    → list_all p (take (k + 1) (range_with_len 0 16)) ≡ true
all_more p k l h e = list_all_more p (range_with_len 0 16) k 0 l ∙ and_from _ _ h (ap p (get_or-range_with_len 0 16 k 0 l ∙ zero-add k) ∙ e)

-- ---- lists

-- the bytes of a list, by their places
firsts-back : (f : ℕ → ℕ) (bytes : List ℕ) → ((i : ℕ) → i < length bytes → f i ≡ byte_of bytes i) → firsts (length bytes) f ≡ bytes
firsts-back f bytes h = grind (arith, all_set)

pub byte_of-padded : (bytes : List ℕ) (i : ℕ) → i < 16 → byte_of (padded bytes) i ≡ byte_of bytes i
byte_of-padded bytes i l = get_or-map-range_with_len (byte_of bytes) 0 16 i i 0 l (omega arith)

pub counted-back : (bytes : List ℕ) → length bytes ≤ 16 → counted_bytes (counted_of bytes) ≡ bytes
counted-back bytes h = grind (arith, firsts-back, byte_of-padded)

-- the ring of a list gives the list again
pub ring-back : (bytes : List ℕ) → length bytes ≤ 16 → ring_bytes (ring_of bytes) ≡ bytes
ring-back bytes h = grind (arith, firsts-back, byte_of-padded)

-- a test of a run of numbers
all-range : (p : ℕ → Bool) (a n : ℕ) → ((k : ℕ) → a ≤ k → k < a + n → p k ≡ true) → list_all p (range_with_len a n) ≡ true
all-range p a zero h = refl
all-range p a (suc n) h = grind (arith, and_from, all-range p (a + 1) n (λ k l m. h k (omega arith) (omega arith)))

back-round : (k : ℕ) → k < 16 → (k + 16 - 0) % 16 ≡ k
back-round k l = omega arith

held-or-zero : (bytes : List ℕ) (k : ℕ) → k < 16 → is_held_or_zero (ring_of bytes) k ≡ true
held-or-zero bytes k l = rw (back-round k l, byte_of-padded bytes k l) (let past = get_or_past bytes k 0 in grind (arith, nat_tests, or_right))

pub ring_of-holds : (bytes : List ℕ) → length bytes ≤ 16 → ring_holds (ring_of bytes) ≡ true
unfolding ring_holds
ring_of-holds bytes h =
    let all = all-range (is_held_or_zero (ring_of bytes)) 0 16 (λ k low high. held-or-zero bytes k (omega arith)) in
    grind (arith, nat_tests, and_from)

firsts-empty : (n : ℕ) (f : ℕ → ℕ) → is_empty (firsts (min n 16) f) ≡ (n == 0)
firsts-empty n f = grind arith

pub stored-empty : (array : Counted) (ring : Ring) → is_empty (stored_bytes array ring) ≡ is_unused array ring
stored-empty array ring = grind (arith, is_empty, firsts-empty)

pub stored-short : (array : Counted) (ring : Ring) → length (stored_bytes array ring) ≤ 16
stored-short array ring = grind (arith, length-map-range_with_len)

-- bytes
pub byte_of-lt : (bytes : List ℕ) (i : ℕ) → AreBytes bytes → byte_of bytes i < 256
byte_of-lt [] i b = omega arith
byte_of-lt (byte ∷ bytes) zero b = b.0
byte_of-lt (byte ∷ bytes) (suc i) b = byte_of-lt bytes i b.1

pub firsts-bytes : (f : ℕ → ℕ) (a n : ℕ) → ((k : ℕ) → a ≤ k → k < a + n → f k < 256) → AreBytes (map f (range_with_len a n))
firsts-bytes f a zero h = tt
firsts-bytes f a (suc n) h = (h a (omega arith) (omega arith), firsts-bytes f (a + 1) n (λ k l m. h k (omega arith) (omega arith)))

pub stored-bytes : (array : Counted) (ring : Ring) → AreBytes array.bytes → AreBytes ring.elements → AreBytes (stored_bytes array ring)
stored-bytes array ring a r = grind (arith, cond_both, firsts-bytes, byte_of, byte_of-lt)

-- the elements that a ring holds are those at (head + i) modulo 16 for i below its number
held-place : (head i : ℕ) → head ≤ 15 → i < 16 → ((head + i) % 16 + 16 - head) % 16 ≡ i
held-place head i h l = omega arith

pub holds_what_it_gives : HoldsWhatItGives
holds_what_it_gives ring place h m l = (
  λ held. (behind_head ring place, held, (omega arith)),
  λ given.
      let within : given.0 < 16 = (let few = given.1 in omega arith) in
      let same : behind_head ring place ≡ given.0 = rw (← given.2) (held-place ring.head given.0 h within) in
      rw same given.1,
)

pub lists_come_back : ListsComeBack
lists_come_back bytes h = record { ring = ring-back bytes h; holds = ring_of-holds bytes h; array = counted-back bytes h }

-- ---- the cells of the newest set that are bytes

arrays : (k : ℕ) → RX_COUNT ≤ k → k < TIMEOUT_AT → kind_at (kinds 4) k ≡ U8
arrays k low high = bytes_within (field_kinds ++ U8 ∷ I8 ∷ []) (Timer ∷ replicate 36 U8) 34 k low high

ring-kinds : (k : ℕ) → RX_DATA ≤ k → k < 84 → kind_at (kinds 4) k ≡ U8
ring-kinds k low high = bytes_within (field_kinds ++ U8 ∷ I8 ∷ replicate 34 U8 ++ Timer ∷ []) [] 36 k low high

-- the number in a cell that is a byte
pub byte-at : (cells : List ℤ) → AreOf (kinds 4) cells → (place : ℕ) → place < 84 → kind_at (kinds 4) place ≡ U8 → number_at cells place < 256
byte-at cells all place l e = grind (arith, number-lt)

-- a run of bytes, within the arrays or the rings
pub in_arrays : (cells : List ℤ) (place count : ℕ) → AreOf (kinds 4) cells → RX_COUNT ≤ place → place + count ≤ TIMEOUT_AT → AreBytesIn cells place count
in_arrays cells place count all low high k l h =
    subst (λ kind. InRange kind (cell_at cells k)) (arrays k (omega arith) (omega arith)) (all.in_range k (omega arith))

pub in_rings : (cells : List ℤ) (place count : ℕ) → AreOf (kinds 4) cells → RX_DATA ≤ place → place + count ≤ 84 → AreBytesIn cells place count
in_rings cells place count all low high k l h =
    subst (λ kind. InRange kind (cell_at cells k)) (ring-kinds k (omega arith) (omega arith)) (all.in_range k (omega arith))

-- the sixteen elements of an array or a ring
pub bytes-in : (cells : List ℤ) (place : ℕ) → AreBytesIn cells place 16 → AreBytes (bytes_at cells place)
bytes-in cells place are = firsts-bytes (λ i. number_at cells (place + i)) 0 16 (λ k l m. number-lt U8 (cell_at cells (place + k)) (are (place + k) (omega arith) (omega arith)))

-- ---- each part of a port is restored from its numbers

-- FIFOs that are on have a number of their own
pub on : (trigger : Trigger) → (fcr_number (Some trigger) == 0) ≡ false
on trigger = grind arith

pub fifos-back : (fifos : Option Trigger) → fifos_of (fcr_number fifos) ≡ fifos
fifos-back fifos = grind arith

pub fcr-saved : (level : ℕ) (fifos : Option Trigger) → (is_some fifos ≡ true → 2 ≤ level)
    → ((fcr_number fifos == 0) || (nat_le 2 level && (fcr_number fifos % 64 == 1))) ≡ true
fcr-saved level fifos h = grind (arith, or_right, and_from)

pub unused-saved : (fifos : Option Trigger) (held waiting : List ℕ) → cond (fcr_number fifos == 0) (is_empty (fifo_bytes fifos held) && is_empty (fifo_bytes fifos waiting)) ((single_byte fifos held == 0) && (single_byte fifos waiting == 0)) ≡ true
unused-saved fifos held waiting = grind (arith, on)

-- the bytes held, if the line status says whether there are any
pub bytes-back : (fifos : Option Trigger) (bytes : List ℕ) (is_held : Bool) → IsShort (is_some fifos) bytes → is_held ≡ not (is_empty bytes)
    → bytes_held (fcr_number fifos) is_held (single_byte fifos bytes) (fifo_bytes fifos bytes) ≡ bytes
bytes-back None (x ∷ (y ∷ bytes)) is_held s e = let h = s.one refl in absurd (omega arith)
bytes-back (Some trigger) bytes is_held s e = rw (on trigger)
bytes-back None _ is_held s e = rw e

same-self : (b : Bool) → same b b ≡ true
same-self b = grind arith

pub status-saved : (fifos : Option Trigger) (held waiting : List ℕ) (ready empty : Bool) → ready ≡ not (is_empty held) → empty ≡ is_empty waiting
    → cond (fcr_number fifos == 0) ((ready || (single_byte fifos held == 0)) && (not empty || (single_byte fifos waiting == 0)))
    (same ready (not (is_empty (fifo_bytes fifos held))) && same empty (is_empty (fifo_bytes fifos waiting))) ≡ true
status-saved fifos held waiting ready empty r e = grind (arith, on, and_from, not_empty, same-self, is_empty)

pub moment-back : (now : ℕ) (runs : Bool) (timeout : Option ℕ) → now ≤ LAST_MOMENT → IsTimeout now runs timeout → moment_of (moment_number timeout) ≡ timeout
moment-back now runs timeout h t = grind (arith, nat_tests)

pub shift-back : (now : ℕ) (shift : Option Shift) → now ≤ LAST_MOMENT → IsShift now shift → shift_of (shift_number shift) (due_number shift) ≡ shift
shift-back now shift h s = grind (arith, nat_tests)

pub shift-saved : (now : ℕ) (shift : Option Shift) (idle empty : Bool) → now ≤ LAST_MOMENT → IsShift now shift → (is_some shift ≡ false → empty ≡ true)
    → idle ≡ (empty && not (is_some shift))
    → (same idle (due_number shift == NEVER) && cond idle (empty && (shift_number shift == 0))
    (nat_lt now (due_number shift) && nat_le (due_number shift) (now + LONGEST_CHARACTER))) ≡ true
shift-saved now shift idle empty h s i e = grind (arith, and-false, and_from, nat_tests)

pub runs-same : (fifos : Option Trigger) (held : List ℕ)
    → (not (fcr_number fifos == 0) && not (is_empty (fifo_bytes fifos held))) ≡ (is_some fifos && not (is_empty held))
runs-same fifos held = grind (arith, on)

pub timeout-saved : (level now : ℕ) (fifos : Option Trigger) (held : List ℕ) (timeout : Option ℕ) → now ≤ LAST_MOMENT
    → IsTimeout now (nat_le 3 level && (is_some fifos && not (is_empty held))) timeout
    → cond (nat_le 3 level && (not (fcr_number fifos == 0) && not (is_empty (fifo_bytes fifos held))))
    (not (moment_number timeout == NEVER) && nat_le (moment_number timeout) (now + longest_timeout)) (moment_number timeout == NEVER) ≡ true
timeout-saved level now fifos held timeout h t = rw (runs-same fifos held) (grind (arith, nat_tests))

-- the FIFOs of a list, in the counted array or in the ring
module _ (set : ℕ) (fifos : Option Trigger) (bytes : List ℕ) where
  pub fifo-short : IsShort (is_some fifos) bytes → length (fifo_bytes fifos bytes) ≤ 16
  fifo-short = grind (arith, is_some)

  pub array-short : IsShort (is_some fifos) bytes → length (in_array set fifos bytes) ≤ 16
  array-short s = grind (arith, fifo-short)

  pub ring-short : IsShort (is_some fifos) bytes → length (in_ring set fifos bytes) ≤ 16
  ring-short s = grind (arith, fifo-short)

  pub unused-at : is_unused (counted_of (in_array set fifos bytes)) (ring_of (in_ring set fifos bytes)) ≡ is_empty (fifo_bytes fifos bytes)
  unused-at = grind (arith, is_empty, and-true)

  pub once-at : is_stored_once (counted_of (in_array set fifos bytes)) (ring_of (in_ring set fifos bytes)) ≡ true
  once-at = grind (arith, or-true, is_empty)

  pub stored-at : IsShort (is_some fifos) bytes
      → stored_bytes (counted_of (in_array set fifos bytes)) (ring_of (in_ring set fifos bytes)) ≡ fifo_bytes fifos bytes
  stored-at s = grind (arith, fifo-short, ring-back, not_empty, counted-back)

-- ---- the whole port

implied : (a b : Bool) → (a ≡ true → b ≡ true) → (not a || b) ≡ true
implied a b h = grind arith

module _ (set now : ℕ) (port : Port) (early : now ≤ LAST_MOMENT) (sound : IsSound now port) where
  abbrev lsr : IsStatus (lsr_of port) (not (is_empty port.receiver.held)) port.receiver.overrun (is_empty port.transmitter.waiting)
      (is_empty port.transmitter.waiting && not (is_some port.transmitter.shift))
  lsr = lsr-status port

  -- the port that comes back
  back_latch : Bool
  back_latch = latch_back (has port.ier 2 && port.receiver.overrun) (has port.ier 0 && is_data_ready port.fifos port.receiver.held) (has port.ier 0 && (nat_le 3 port.level && has_come now port.receiver.timeout)) (has port.ier 1) port.thr_empty

  back : Port
  back = record port { thr_empty = back_latch }

  tells : IsLatchBack (has port.ier 2 && port.receiver.overrun) (has port.ier 0 && is_data_ready port.fifos port.receiver.held)
      (has port.ier 0 && (nat_le 3 port.level && has_come now port.receiver.timeout)) (has port.ier 1) port.thr_empty
  tells = latch_comes_back _ _ _ _ _

  port-back : port_of port.level (saved set now port) ≡ back
  unfolding port_of saved interrupt back back_latch
  port-back = rw (
    lsr.ready_bit,
    lsr.overrun_bit,
    lsr.empty_bit,
    fifos-back port.fifos,
    stored-at set port.fifos port.receiver.held sound.receiver.short,
    stored-at set port.fifos port.transmitter.waiting sound.transmitter.short,
    bytes-back port.fifos port.receiver.held _ sound.receiver.short refl,
    bytes-back port.fifos port.transmitter.waiting _ sound.transmitter.short refl,
    moment-back now _ port.receiver.timeout early sound.receiver.timeout,
    shift-back now port.transmitter.shift early sound.transmitter.shift,
  )

  iir-saved : (saved set now port).iir ≡ id_number (interrupt now port)
  unfolding saved
  iir-saved = refl

  id : id_holds port.level now (saved set now port) ≡ true
  unfolding id_holds interrupt back back_latch
  id = rw port-back (eq-eqb _ _ (iir-saved ∙ (ap id_number (sym tells.same_id))))

  all : (registers_hold (saved set now port) ≡ true) × (fcr_holds port.level (saved set now port) ≡ true) × (unused_hold (saved set now port) ≡ true) × (status_holds (saved set now port) ≡ true) × (shift_holds now (saved set now port) ≡ true) × (timeout_holds port.level now (saved set now port) ≡ true) × (latch_holds (saved set now port) ≡ true) × (id_holds port.level now (saved set now port) ≡ true) × (once_holds (saved set now port) ≡ true) × (rings_hold (saved set now port) ≡ true)
  unfolding registers_hold fcr_holds unused_hold status_holds shift_holds timeout_holds latch_holds once_holds rings_hold saved interrupt
  all = (
    and_from _ _ (le-leb _ _ sound.registers.ier_range) (and_from _ _ (le-leb _ _ sound.registers.mcr_range) (eq-eqb _ _ lsr.mask)),
    fcr-saved port.level port.fifos sound.registers.fifos,
    rw (unused-at set port.fifos port.receiver.held, unused-at set port.fifos port.transmitter.waiting) (unused-saved port.fifos _ _),
    rw (unused-at set port.fifos port.receiver.held, unused-at set port.fifos port.transmitter.waiting)
        (status-saved port.fifos _ _ _ _ lsr.ready_bit lsr.empty_bit),
    rw lsr.empty_bit (shift-saved now port.transmitter.shift _ _ early sound.transmitter.shift sound.transmitter.idle lsr.idle_bit),
    rw (unused-at set port.fifos port.receiver.held)
        (timeout-saved port.level now port.fifos port.receiver.held port.receiver.timeout early sound.receiver.timeout),
    and_from _ _ tells.known (implied _ _ (λ h. lsr.empty_bit ∙ sound.transmitter.latched (tells.was_set h))),
    id,
    and_from _ _ (once-at set port.fifos port.receiver.held) (once-at set port.fifos port.transmitter.waiting),
    and_from _ _ (ring_of-holds _ (ring-short set port.fifos _ sound.receiver.short)) (ring_of-holds _ (ring-short set port.fifos _ sound.transmitter.short)),
  )

  restored-there : restored port.level now (saved set now port) ≡ Ok (port_of port.level (saved set now port))
  unfolding restored
  restored-there = judged-all (rules port.level now (saved set now port)) _
      (all.0, (all.1, (all.2, (all.3, (all.4, (all.5, (all.6, (all.7, (all.8, (all.9, tt))))))))))

  pub restored-saved : (other : Port) × (restored port.level now (saved set now port) ≡ Ok other) × Alike port other
  unfolding back back_latch
  restored-saved = search (arith, back, restored-there, port-back, tells)
