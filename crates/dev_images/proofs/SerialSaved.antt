-- The serial port's cells are saved in a ready image, and are carried as its own table says.
use Rattle.dev_images.proofs.Facade
use Facade.{AreSaved, Bool, Carrier, Cell, Device, I8, InEachSet, InRange, IsArray, List, NEWEST, Num, Number, Origin, RX, RX_COUNT, RX_DATA, RX_NUMBER, Rule}
use Facade.{RulesHold, SerialIsCarried, SerialIsReady, Set, Slot, Sub, THR_IPENDING, TIMEOUT_AT, TX, TX_COUNT, TX_NUMBER, Timer, U16, U8, [], and_le_l}
use Facade.{and_numeral, ap, arith, bit_and, carried_by, carried_sub, carriers, carry_items, codes, counted_well, counts_well, divider, divisor, eq-eqb}
use Facade.{eqb-false, eqb-true, false, fcr, fifo, first, get_or, has_cell, image_of, ints, min, names_append, nat_le, nat_of, ne_eqb, negsuc, never}
use Facade.{newest_set, not, not-false, number, or_from, or_left, or_parts, or_right, place_under, pos, refl, replicate, residue, ring, rules_append, serial}
use Facade.{serial_fields, serial_in, serial_rows, set_1, set_2, set_3, shipped_set, struct_cells, subst, suc, sym, thr_ipending, timeout, times, true, zero}
use Facade.{ℕ, ℤ, ◌%◌, ◌++◌, ◌+◌, ◌-◌, ◌<◌, ◌==◌, ◌^◌, ◌||◌, ◌∙◌, ◌∷◌, ◌≡◌, ◌≤◌}
use Rattle.dev_images.proofs.ReadyOf.{AreZeros, IsFineSub, kept-by, needed, ready-parts, run, run-zeros, zeros-in}
use Rattle.dev_images.proofs.ShippedDevices.{IsSavedAs, SavedWhere, carried-in, from_four, is_serial, port_kinds, port_origins, ready-in, serial_at_1}
use Rattle.dev_images.proofs.ShippedDevices.{serial_at_2, serial_at_3, serial_at_4}
use Rattle.dev_serial.specs.Cells.{carried as serial_carried}

-- Whether a signed byte isn't -1, and whether a timer isn't "never".
abbrev pub needs_sign : ℤ → Bool
needs_sign z = not (bit_and (residue 1 z) 255 == 255)

abbrev pub needs_timer : ℤ → Bool
needs_timer z = not (bit_and (residue 8 z) never == never)

pub no-sign : (z : ℤ) → InRange I8 z → needs_sign z ≡ false → z ≡ negsuc 0
no-sign (pos n) r e =
    let all : bit_and (n % 2 ^ 8) 255 ≡ 255 = eqb-true _ 255 (not-false _ e) in
    let most = r.1 in
    let less = and_le_l (n % 2 ^ 8) 255 in
    absurd (omega (arith, ints, all, most, less))
no-sign (negsuc n) r e = ap negsuc (omega (arith, ints, (eqb-true _ 255 (not-false _ e)), r.0, (and_le_l (2 ^ 8 - 1 - n % 2 ^ 8) 255)))

pub no-timer : (z : ℤ) → InRange Timer z → needs_timer z ≡ false → z ≡ pos never
no-timer (pos n) r e = ap pos (omega (arith, ints, (eqb-true _ never (not-false _ e)), r.1, (and_le_l (n % 2 ^ 64) never)))
no-timer (negsuc n) r e = absurd (omega arith)

-- The serial port of a set from 2 on, where other subsections may follow that of its FIFOs. Its
-- first field has another name from set 3 on.
abbrev pub serial_since_2 : ℕ → List ℕ → List (List ℕ) → List Sub → Device
serial_since_2 version name former more =
    serial version (record (number U16 name) { former = former } ∷ serial_fields ++ fcr ∷ []) (thr_ipending ∷ fifo ∷ more)

-- Its names from set 3 on.
abbrev pub new_name : List ℕ
new_name = codes "divisor"

abbrev pub former_names : List (List ℕ)
former_names = codes "divider" ∷ []

-- The place of the latch's cell in set 1.
abbrev pub old_latch : ℕ
old_latch = place_under serial_rows 1 (codes "thr_ipending")

-- What a subsection of the newest set has of an image.
abbrev part : Set → Device → List ℤ → Sub → List ℤ
part old d numbers t = carried_sub old (shipped_set NEWEST) d (image_of old d numbers) t

-- A subsection of a set is ready, and is carried as these cells.
record IsSaved (set : Set) (d : Device) (numbers : List ℤ) (s : Sub) (j at : ℕ) (cells : List ℤ) : Type 0 where
  fine : IsFineSub set d numbers s j at
  carried : part set d numbers s ≡ cells

-- The latch's cell, and the timeout's; no item of the port is a structure.
thr-1 : (set : Set) (numbers : List ℤ) → InRange I8 (get_or numbers old_latch (pos 0)) → (needed : Bool) → needs_sign (get_or numbers old_latch (pos 0)) ≡ needed
    → IsSaved set serial_at_1 numbers thr_ipending 0 old_latch (get_or numbers old_latch (pos 0) ∷ [])
unfolding first
thr-1 set numbers r needed e = search (arith, no-sign)

-- Whether a count isn't 0.
abbrev needs_count : ℤ → Bool
needs_count z = nat_le 1 (bit_and (residue 1 z) 255)

no-count : (z : ℤ) → InRange U8 z → needs_count z ≡ false → nat_of z ≡ 0
no-count z r e = grind (arith, and_numeral)

-- An array of bytes that is carried, with zeros after its elements.
module _ (numbers : List ℤ) (structs : List Carrier) (x y : List (List Cell)) where
  abbrev array : ℕ → ℕ → ℕ → List ℤ
  array n m at = carry_items structs x y numbers (Num U8) (Num U8) (pos 0 ∷ []) 1 n m at

  no-elements : (m at : ℕ) → array 0 m at ≡ replicate m (pos 0)
  no-elements zero at = refl
  no-elements (suc m) at = rw (no-elements m at)

  array-run : (n m at : ℕ) → AreZeros numbers (at + n) (at + m) → array n m at ≡ run numbers at m
  array-run n zero at zeros = refl
  array-run zero (suc m) at zeros = no-elements (suc m) at ∙ run-zeros numbers at (suc m) (λ k l h. zeros k (omega arith) h)
  array-run (suc n) (suc m) at zeros =
      let next : at + 1 ≡ suc at = omega arith in
      rw next (ap (λ l. get_or numbers at (pos 0) ∷ l) (array-run n m (suc at) (λ k l h. zeros k (omega arith) (omega arith))))

-- The number of elements of an array that are in the bytes.
pub elements : (z : ℤ) → InRange U8 z → nat_of z ≤ 16 → min (residue 1 z) 16 ≡ nat_of z
elements z r l = grind arith

counted-well : (z : ℤ) → InRange U8 z → nat_of z ≤ 16 → counts_well (16 ∷ []) z ≡ true
counted-well z r l = grind (arith, counted_well)

-- The FIFOs as counted arrays.
abbrev pub byte : Cell
byte = record { kind = U8; capacities = []; default = pos 0 }

-- The slot of one element.
abbrev pub element : ℕ → List Slot
element at = Number at U8 [] ∷ []

abbrev count : Cell
count = record { kind = U8; capacities = 16 ∷ []; default = pos 0 }

abbrev pub second_slots : ℕ → List Slot
second_slots m = (Number TX_COUNT U8 (16 ∷ []) ∷ []) ++ (times m element TX 1 ++ [])

abbrev pub inner_slots : ℕ → ℕ → List Slot
inner_slots n m = (Number RX_COUNT U8 (16 ∷ []) ∷ []) ++ (times n element RX 1 ++ second_slots m)

abbrev pub fifo_slots : ℕ → ℕ → List Slot
fifo_slots n m = inner_slots n m ++ Rule true ∷ []

abbrev fifo_cells : List Cell
fifo_cells = (count ∷ []) ++ (replicate 16 byte ++ ((count ∷ []) ++ (replicate 16 byte ++ [])))

-- Whether a cell is that of an element in the bytes.
elements-in : (n at k : ℕ) → at ≤ k → k < at + n → has_cell (times n element at 1) k ≡ true
elements-in zero at k l h = absurd (omega arith)
elements-in (suc n) at k l h = grind (arith, or_right, or_left, eq-eqb, elements-in n (at + 1) k)

pub elements-none : (n at k : ℕ) → (at ≤ k → at + n ≤ k) → has_cell (times n element at 1) k ≡ false
elements-none zero at k h = refl
elements-none (suc n) at k h = grind (arith, or_from, ne_eqb, elements-none n (at + 1) k (λ l. omega arith))

rules-times : (n at : ℕ) → RulesHold (times n element at 1)
rules-times zero at = tt
rules-times (suc n) at = rules-times n (at + 1)

module _ (numbers : List ℤ) (n m : ℕ) (rx : AreZeros numbers (RX + n) (RX + 16)) (tx : AreZeros numbers (TX + m) (TX + 16)) where
  -- A cell that isn't in the bytes is that of an element past a count.
  fifo-zero : (k : ℕ) → RX_COUNT ≤ k → k < TIMEOUT_AT → has_cell (fifo_slots n m) k ≡ false → get_or numbers k (pos 0) ≡ pos 0
  fifo-zero k l h out = grind (arith, names_append, or_parts, eqb-false, elements-in)

  fifo-rules : RulesHold (fifo_slots n m)
  fifo-rules = grind (arith, rules_append, rules-times)

  -- Carried to the newest set, with the structures' carriers and cells.
  module _ (structs : List Carrier) (x y : List (List Cell)) where
    abbrev both : List ℤ
    both =
        (get_or numbers RX_COUNT (pos 0) ∷ []) ++ (array numbers structs x y n 16 RX
        ++ ((get_or numbers TX_COUNT (pos 0) ∷ []) ++ (array numbers structs x y m 16 TX ++ [])))

    fifo-run : both ≡ run numbers RX_COUNT 34
    fifo-run = cc (array-run numbers structs x y n 16 RX rx, array-run numbers structs x y m 16 TX tx)

-- Cells of a set that has the FIFOs.
abbrev elements_at : List ℤ → ℕ → ℕ
elements_at numbers place = min (residue 1 (get_or numbers place (pos 0))) 16

array-zeros : (numbers : List ℤ) (place : ℕ) → InRange U8 (get_or numbers place (pos 0)) → IsArray numbers place
    → AreZeros numbers (place + 1 + elements_at numbers place) (place + 17)
array-zeros numbers place r is k l h =
    let same = elements _ r is.fits in
    let there : place + 1 + (k - (place + 1)) ≡ k = omega arith in
    rw there at (is.zeros (k - (place + 1)) (omega arith) (omega arith))

abbrev needs_fifo : List ℤ → Bool
needs_fifo numbers = needs_count (get_or numbers RX_COUNT (pos 0)) || needs_count (get_or numbers TX_COUNT (pos 0))

-- The FIFOs' subsection, and their counts.
record IsFifo (set : Set) (d : Device) (numbers : List ℤ) : Type 0 where
  saved : IsSaved set d numbers fifo 1 RX_COUNT (run numbers RX_COUNT 34)
  rx : counts_well (16 ∷ []) (get_or numbers RX_COUNT (pos 0)) ≡ true
  tx : counts_well (16 ∷ []) (get_or numbers TX_COUNT (pos 0)) ≡ true

module _ (set : Set) (version : ℕ) (name : List ℕ) (former : List (List ℕ)) (more : List Sub) (numbers : List ℤ) where
  thr : InRange I8 (get_or numbers THR_IPENDING (pos 0)) → (needed : Bool) → needs_sign (get_or numbers THR_IPENDING (pos 0)) ≡ needed
      → IsSaved set (serial_since_2 version name former more) numbers thr_ipending 0 THR_IPENDING (get_or numbers THR_IPENDING (pos 0) ∷ [])
  unfolding first
  thr r needed e = search (arith, no-sign)

  due : InRange Timer (get_or numbers TIMEOUT_AT (pos 0)) → (needed : Bool) → needs_timer (get_or numbers TIMEOUT_AT (pos 0)) ≡ needed
      → IsSaved set (serial_since_2 version new_name former_names (timeout ∷ more)) numbers timeout 2 TIMEOUT_AT (get_or numbers TIMEOUT_AT (pos 0) ∷ [])
  unfolding first
  due r needed e = search (arith, no-timer)

  -- In any set from 2 on.
  module _ (s : ℕ) (since : 2 ≤ s) (are : AreSaved s numbers) (rx : InRange U8 (get_or numbers RX_COUNT (pos 0))) (tx : InRange U8 (get_or numbers TX_COUNT (pos 0))) where
    fifo-saved : (needed : Bool) → needs_fifo numbers ≡ needed
        → IsSaved set (serial_since_2 version name former more) numbers fifo 1 RX_COUNT (run numbers RX_COUNT 34)
    unfolding first
    fifo-saved true e =
        let n = elements_at numbers RX_COUNT in
        let m = elements_at numbers TX_COUNT in
        let zeros = array-zeros numbers RX_COUNT rx (are.rx since) in
        let more_zeros = array-zeros numbers TX_COUNT tx (are.tx since) in
        record {
          fine = record {
            kept = rw e (kept-by (fifo_slots n m) numbers RX_COUNT fifo_cells refl (fifo-zero numbers n m zeros more_zeros));
            rules = rw e (fifo-rules numbers n m zeros more_zeros);
          };
          carried = rw e (fifo-run numbers n m zeros more_zeros
              (carriers (struct_cells set) (struct_cells (shipped_set NEWEST)) set.structs (shipped_set NEWEST).structs 1) (struct_cells set)
              (struct_cells (shipped_set NEWEST)));
        }
    fifo-saved false e =
        let p = or_parts (needs_count (get_or numbers RX_COUNT (pos 0))) _ e in
        let off = zeros-in numbers RX_COUNT 34 (are.no_fifo since (no-count _ rx p.0) (no-count _ tx p.1)) in
        record {
          fine = record { kept = rw e (kept-by [] numbers RX_COUNT fifo_cells refl (λ k l h out. off k l h)); rules = rw e tt };
          carried = rw e (run-zeros numbers RX_COUNT 34 off);
        }

    fifos : IsFifo set (serial_since_2 version name former more) numbers
    fifos = record { saved = fifo-saved _ refl; rx = counted-well _ rx (are.rx since).fits; tx = counted-well _ tx (are.tx since).fits }

-- The FIFOs as rings.
abbrev needs_ring : List ℤ → Bool
needs_ring numbers = needs_count (get_or numbers RX_NUMBER (pos 0)) || needs_count (get_or numbers TX_NUMBER (pos 0))

ring-4 : (set : Set) (numbers : List ℤ) → AreSaved 4 numbers → (needed : Bool) → needs_ring numbers ≡ needed
    → IsSaved set serial_at_4 numbers ring 3 RX_DATA (run numbers RX_DATA 36)
unfolding first
ring-4 set numbers are true e = record { fine = record { kept = rw e refl; rules = rw e (refl, tt) }; carried = rw e refl }
ring-4 set numbers are false e =
    let range = are.of_kinds.in_range in
    let p = or_parts (needs_count (get_or numbers RX_NUMBER (pos 0))) _ e in
    let off = zeros-in numbers RX_DATA 36
    (are.no_ring (omega arith) (no-count _ (range RX_NUMBER (omega arith)) p.0) (no-count _ (range TX_NUMBER (omega arith)) p.1)) in
    record {
      fine = record { kept = rw e (kept-by [] numbers RX_DATA (replicate 36 byte) refl (λ k l h out. off k l h)); rules = rw e tt };
      carried = rw e (run-zeros numbers RX_DATA 36 off);
    }

-- ---- the port of each set

-- The fields, and then the parts.
abbrev with_parts : List ℤ → List ℤ → List ℤ → List ℤ → List ℤ → List ℤ
with_parts own a b c d = own ++ (a ++ (b ++ (c ++ (d ++ []))))

same-parts : (own a b c d a' b' c' d' : List ℤ) → a ≡ a' → b ≡ b' → c ≡ c' → d ≡ d' → with_parts own a b c d ≡ with_parts own a' b' c' d'
same-parts own a b c d a' b' c' d' p q r s = rw (p, q, r, s) refl

module _ (set : Set) (numbers : List ℤ) where
  saved-1 : AreSaved 1 numbers → IsSavedAs set serial_at_1 serial_at_4 numbers (serial_carried 1 numbers)
  unfolding first serial_carried
  saved-1 are =
      let latch = thr-1 set numbers (are.of_kinds.in_range old_latch (omega arith)) _ refl in
      record {
        ready = ready-parts set serial_at_1 numbers (omega arith) (omega arith, tt) are.of_kinds refl refl (refl, tt) (latch.fine, tt);
        carried = same-parts (run numbers 0 old_latch ++ pos 0 ∷ []) _ (replicate 34 (pos 0)) (pos never ∷ []) (replicate 36 (pos 0)) _ _ _ _ latch.carried refl refl refl;
      }

  saved-2 : AreSaved 2 numbers → IsSavedAs set serial_at_2 serial_at_4 numbers (serial_carried 2 numbers)
  unfolding first serial_carried
  saved-2 are =
      let range = are.of_kinds.in_range in
      let latch = thr set 2 (codes "divider") [] [] numbers (range THR_IPENDING (omega arith)) _ refl in
      let f = fifos set 2 (codes "divider") [] [] numbers 2 (omega arith) are (range RX_COUNT (omega arith)) (range TX_COUNT (omega arith)) in
      record {
        ready = ready-parts set serial_at_2 numbers (omega arith) (omega arith, (omega arith, tt)) are.of_kinds (rw (f.rx, f.tx) refl) refl (refl, tt)
            (latch.fine, (f.saved.fine, tt));
        carried = same-parts (run numbers 0 THR_IPENDING) _ _ (pos never ∷ []) (replicate 36 (pos 0)) _ _ _ _ latch.carried f.saved.carried refl refl;
      }

  saved-3 : AreSaved 3 numbers → IsSavedAs set serial_at_3 serial_at_4 numbers (serial_carried 3 numbers)
  unfolding first serial_carried
  saved-3 are =
      let range = are.of_kinds.in_range in
      let more = timeout ∷ [] in
      let latch = thr set 3 new_name former_names more numbers (range THR_IPENDING (omega arith)) _ refl in
      let f = fifos set 3 new_name former_names more numbers 3 (omega arith) are (range RX_COUNT (omega arith)) (range TX_COUNT (omega arith)) in
      let late = due set 3 new_name former_names [] numbers (range TIMEOUT_AT (omega arith)) _ refl in
      record {
        ready = ready-parts set serial_at_3 numbers (omega arith) (omega arith, (omega arith, (omega arith, tt))) are.of_kinds
            (rw (f.rx, f.tx) refl) refl (refl, tt) (latch.fine, (f.saved.fine, (late.fine, tt)));
        carried = same-parts (run numbers 0 THR_IPENDING) _ _ _ (replicate 36 (pos 0)) _ _ _ _ latch.carried f.saved.carried late.carried refl;
      }

  saved-4 : AreSaved 4 numbers → IsSavedAs set serial_at_4 serial_at_4 numbers (serial_carried 4 numbers)
  unfolding first serial_carried
  saved-4 are =
      let range = are.of_kinds.in_range in
      let more = timeout ∷ ring ∷ [] in
      let latch = thr set 4 new_name former_names more numbers (range THR_IPENDING (omega arith)) _ refl in
      let f = fifos set 4 new_name former_names more numbers 4 (omega arith) are (range RX_COUNT (omega arith)) (range TX_COUNT (omega arith)) in
      let late = due set 4 new_name former_names (ring ∷ []) numbers (range TIMEOUT_AT (omega arith)) _ refl in
      let rings = ring-4 set numbers are _ refl in
      record {
        ready = ready-parts set serial_at_4 numbers (omega arith) (omega arith, (omega arith, (omega arith, (omega arith, tt)))) are.of_kinds
            (rw (f.rx, f.tx) refl) refl (refl, tt) (latch.fine, (f.saved.fine, (late.fine, (rings.fine, tt))));
        carried = same-parts (run numbers 0 THR_IPENDING) _ _ _ _ _ _ _ _ latch.carried f.saved.carried late.carried rings.carried;
      }

serial-each : (s : ℕ) → 1 ≤ s → s ≤ NEWEST → SavedWhere AreSaved serial_carried (serial_in newest_set) s (shipped_set s) (serial_in (shipped_set s))
unfolding serial_carried
serial-each =
    from_four (λ s. SavedWhere AreSaved serial_carried (serial_in newest_set) s (shipped_set s) (serial_in (shipped_set s)))
    (saved-1 set_1) (saved-2 set_2) (saved-3 set_3)
    (λ s four h numbers are.
    let as-4 : AreSaved 4 numbers = search (arith, port_kinds) in
    subst (λ (d : Device). IsSavedAs (shipped_set s) d serial_at_4 numbers (serial_carried s numbers)) (sym (is_serial s four h))
    (subst (λ (origins : List Origin). IsSavedAs (shipped_set s) serial_at_4 serial_at_4 numbers (carried_by origins numbers)) (sym (port_origins s four h)) (saved-4 (shipped_set s) numbers as-4)))

pub serial_is_saved : InEachSet (SavedWhere AreSaved serial_carried (serial_in newest_set)) serial_in
serial_is_saved = record { each = serial-each }

pub serial_is_ready : SerialIsReady
serial_is_ready = ready-in serial_is_saved

pub serial_is_carried : SerialIsCarried
serial_is_carried = carried-in serial_is_saved
