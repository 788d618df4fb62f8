-- The remembered lines.
use Rattle.dev_pic.proofs.BitLaws.{has-or, has-one_other, has-without_same, has-without_other, without_input-lt}
use Rattle.dev_pic.proofs.Facade.{◌≡◌, ◌≢◌, ℕ, ◌+◌, ◌-◌, ◌*◌, ◌/◌, ◌%◌, ◌<◌, ◌≤◌, ◌^◌, ◌==◌, Bool, true}
use Rattle.dev_pic.proofs.Facade.{bit_at_cat_low, bit_at_cat_high, false, not, ◌&&◌, cond, Option, Some, refl, ap, ◌∙◌, arith, cond_both, nat_tests}
use Rattle.dev_pic.proofs.Facade.{and-true, and-false, or-false, has, without_input, winner_at, taken, settled, started, selected, written_even, elcr_written}
use Rattle.dev_pic.proofs.Facade.{polled_by, read_of, answered, cascaded, LinesAreTaken, LinesAreKept, command_of, slave_int_of, lines_of, acked, acked_for}
use Rattle.dev_pic.proofs.Facade.{with_cascade, settled_pair, read_pair, written_pair, PairHasRegisters, Chip, Role, Master, Slave, PicPair}
use Rattle.dev_pic.proofs.StepLaws.{cascade-lt, commanded-keeps, odd-keeps}

-- The bits of a number of two bytes.
low-bit : (high low i : ℕ) → low < 256 → i < 8 → has (high * 256 + low) i ≡ has low i
low-bit high low i l h = ap (λ n. n == 1) (bit_at_cat_low high 8 low i h)

high-bit : (high low i : ℕ) → low < 256 → i < 8 → has (high * 256 + low) (8 + i) ≡ has high i
high-bit high low i l h =
    let back : 8 + i - 8 ≡ i = omega arith in
    ap (λ n. n == 1) (rw back at (bit_at_cat_high high 8 low (8 + i) l (omega arith)))

bytes : (inputs : ℕ) → inputs ≡ inputs / 256 * 256 + inputs % 256
bytes inputs = omega arith

-- The set of the cascade input only, or the empty set.
cascade-same : (b : Bool) → has (cond b 4 0) 2 ≡ b
cascade-same b = grind (arith, nat_tests)

cascade-other : (b : Bool) (i : ℕ) → i < 8 → i ≢ 2 → has (cond b 4 0) i ≡ false
cascade-other true i h n = has-one_other 2 i n
cascade-other false i h n = grind (arith, has)

with-other : (b : Bool) (inputs i : ℕ) → i < 8 → i ≢ 2 → has (with_cascade b inputs) i ≡ has inputs i
with-other b inputs i h n = grind (arith, has-or, cascade-other, or-false, has, has-without_other)

with-same : (b : Bool) (inputs : ℕ) → has (with_cascade b inputs) 2 ≡ b
with-same b inputs = cc (has-or (without_input inputs 2) (cond b 4 0) 2, has-without_same inputs 2 (omega arith), cascade-same b)

module _ (inputs edges : ℕ) (pair : PicPair) (bound : inputs < 2 ^ 16) where
  abbrev output : Bool
  output = slave_int_of (record pair { slave = settled (inputs / 256) (edges / 256) pair.slave })

  low-lt : with_cascade output (inputs % 256) < 256
  low-lt = grind (arith, cascade-lt)

  taken-master : (i : ℕ) → i < 8 → i ≢ 2 → has (lines_of (settled_pair inputs edges pair)) i ≡ has inputs i
  unfolding settled_pair lines_of settled
  taken-master i h n =
      low-bit (inputs / 256) (with_cascade output (inputs % 256)) i low-lt h ∙ with-other output (inputs % 256) i h n ∙ (grind (arith, has, bytes, low-bit))

  taken-cascade : has (lines_of (settled_pair inputs edges pair)) 2 ≡ slave_int_of (settled_pair inputs edges pair)
  unfolding settled_pair lines_of settled slave_int_of
  taken-cascade = low-bit (inputs / 256) (with_cascade output (inputs % 256)) 2 low-lt (omega arith) ∙ with-same output (inputs % 256)

  taken-slave : (i : ℕ) → i < 8 → has (lines_of (settled_pair inputs edges pair)) (8 + i) ≡ has inputs (8 + i)
  unfolding settled_pair lines_of settled
  taken-slave i h = high-bit (inputs / 256) (with_cascade output (inputs % 256)) i low-lt h ∙ (grind (arith, has, bytes, high-bit))

pub lines_are_taken : LinesAreTaken
lines_are_taken = search (taken-master, taken-cascade, taken-slave)

-- A chip has the same lines after a step as before it.
abbrev Same : Chip → Chip → Type 0
Same chip after = after.lines ≡ chip.lines

taken-lines : (w : ℕ) (chip : Chip) → Same chip (taken w chip)
unfolding taken
taken-lines w chip = grind (arith, nat_tests)

even-lines : (level value : ℕ) (chip : Chip) → Same chip (written_even level value chip)
unfolding written_even started selected
even-lines level value chip = let kept = (commanded-keeps (command_of value) chip).lines in grind (arith, nat_tests)

elcr-lines : (role : Role) (value : ℕ) (chip : Chip) → Same chip (elcr_written role value chip)
unfolding elcr_written
elcr-lines role value chip = refl

polled-lines : (o : Option ℕ) (chip : Chip) → Same chip (polled_by o chip).1
unfolding polled_by
polled-lines o chip = grind (arith, taken-lines)

read-lines : (role : Role) (is_odd : Bool) (chip : Chip) → Same chip (read_of role is_odd chip).1
unfolding read_of
read-lines role is_odd chip = grind (arith, polled-lines)

answered-lines : (o : Option ℕ) (chip : Chip) → Same chip (answered o chip).1
unfolding answered
answered-lines o chip = grind (arith, taken-lines)

cascaded-lines : (chip : Chip) → (cascaded chip).lines ≡ without_input chip.lines 2
unfolding cascaded
cascaded-lines chip = rw (taken-lines 2 chip)

-- The lines of a pair whose master or slave changes.
module _ (pair : PicPair) where
  with-master : (chip : Chip) → Same pair.master chip → lines_of (record pair { master = chip }) ≡ lines_of pair
  unfolding lines_of
  with-master chip e = rw e

  with-slave : (chip : Chip) → Same pair.slave chip → lines_of (record pair { slave = chip }) ≡ lines_of pair
  unfolding lines_of
  with-slave chip e = rw e

-- An answer after which a pair has these lines.
abbrev Kept : (lines : ℕ) → ℕ × PicPair → Type 0
Kept lines answer = lines_of answer.1 ≡ lines

read-kept : (port : ℕ) (pair : PicPair) → Kept (lines_of pair) (read_pair port pair)
unfolding read_pair lines_of
read-kept port pair = grind (arith, nat_tests, read-lines)

written-kept : (port value : ℕ) (pair : PicPair) → lines_of (written_pair port value pair) ≡ lines_of pair
unfolding written_pair
written-kept port value pair = grind (arith, nat_tests, with-master, with-slave, even-lines, odd-keeps, elcr-lines)

acked_for-kept : (o : Option ℕ) (pair : PicPair) → o ≢ Some 2 → Kept (lines_of pair) (acked_for o pair)
unfolding acked_for
acked_for-kept o pair n = grind (arith, with-master, answered-lines, cond_both)

-- The lines after the slave's output is acknowledged.
acked-slave : (pair : PicPair) → winner_at Master pair.master ≡ Some 2 → lines_of (acked pair).1 ≡ pair.slave.lines * 256 + without_input pair.master.lines 2
unfolding acked_for lines_of
acked-slave pair e = rw e (rw (answered-lines (winner_at Slave pair.slave) pair.slave, cascaded-lines pair.master))

high-acked : (slave master i : ℕ) → master < 256 → 8 ≤ i → i < 16
    → has (slave * 256 + without_input master 2) i ≡ (has (slave * 256 + master) i && not (i == 2))
high-acked slave master i bound least l =
    let place : i ≡ 8 + (i - 8) = omega arith in
    let within : i - 8 < 8 = omega arith in
    let other : (i == 2) ≡ false = grind (arith, nat_tests) in
    rw (other, and-true, place, high-bit slave (without_input master 2) (i - 8) (without_input-lt master 2 bound) within, high-bit slave master (i - 8) bound within)

acked-bit : (pair : PicPair) → PairHasRegisters pair → (i : ℕ) → i < 16
    → has (pair.slave.lines * 256 + without_input pair.master.lines 2) i ≡ (has (lines_of pair) i && not (i == 2))
unfolding lines_of
acked-bit pair h i l = grind (arith, low-bit, without_input-lt, has, has-without_same, and-false, has-without_other, and-true, high-acked)

pub lines_are_kept : LinesAreKept
lines_are_kept = search (arith, read-kept, written-kept, acked_for-kept, acked-slave, acked-bit)
