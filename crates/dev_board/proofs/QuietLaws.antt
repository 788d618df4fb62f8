-- Which inputs leave the board unchanged.
use Rattle.dev_board.proofs.Facade
use Facade.{◌⊎◌, either, ◌≡◌, ℕ, ◌+◌, ◌-◌, ◌*◌, ◌/◌, ◌%◌, ◌<◌, ◌≤◌, ◌^◌, Bool, true, false, ◌==◌, cond, min}
use Facade.{max, bit_and, bit_or, arith, refl, ap, ◌∙◌, sym, ⊎_elim, ◌≢◌, not, ◌&&◌, ◌||◌, Option, Some, None, zero, suc, cases_lt}
use Facade.{cases_eq, cond_both, w8, bit_at, and_numeral, and_le_l, or_of_8, pow_below, bit_at_and, bit_at_or, bit_at_not, bit_at-lt, bit_at-zero}
use Facade.{same_from_bits, same_from_bits_below, bit_at_cat_low, bit_at_cat_high, bit_at-pow_other, and_pow, nat_tests, is_some, IfSome, has, bits_where}
use Facade.{but_not, without_input, requests_hold, level_inputs_of, taken, answered, cascaded, lines_of, slave_int_of, settled_pair, with_cascade, written_pair}
use Facade.{acked, acked_for, from_slave, Chip, PicPair, HasTaken, IsSettled, is_command, Stays, is_nothing, asks_timer, asks_port, is_access, is_quiet}
use Facade.{is_untouched, DRIVEN, WIRES, level_inputs-lt, and-twice, each_input, without_input-lt, Keeps, even-keeps, odd-keeps, winner-lt, State, inputs_of}
use Facade.{Before, Touch}
use Rattle.dev_pic.specs.Chip.{settled}
use Rattle.dev_board.specs.Step.{settled as settled_board}

-- ---- updating the lines again changes nothing

-- Requests of edge inputs stay, and those of level inputs are their lines.
parts : (r l e : ℕ) → r < 256 → l < 256 → e < 256
    → bit_or (bit_and (bit_or r (bit_or (bit_and l (255 - l)) 0)) (255 - e)) (bit_and r e) ≡ r
parts r l e hr hl he =
    let risen = bit_or (bit_and l (255 - l)) 0 in
    let all-lt : bit_or r risen < 256 = or_of_8 r risen hr (or_of_8 (bit_and l (255 - l)) 0 (omega (arith, and_le_l l (255 - l))) (omega arith)) in
    let levels-lt : bit_and r e < 256 = omega (arith, and_le_l r e) in
    same_from_bits_below 8 _ _ (or_of_8 (bit_and (bit_or r risen) (255 - e)) (bit_and r e) (omega (arith, and_le_l (bit_or r risen) (255 - e))) levels-lt) hr
    (λ k h. simp (bit_at_and, bit_at_or, bit_at-zero, bit_at_not w8 l k hl h, bit_at_not w8 e k he h)
    (omega (arith, bit_at-lt r k, bit_at-lt l k, bit_at-lt e k)))

-- A settled chip that takes its own lines stays unchanged.
chip_again : (chip : Chip) → IsSettled chip → settled chip.lines 0 chip ≡ chip
unfolding settled but_not requests_hold
chip_again chip h = grind (arith, parts, level_inputs-lt)

-- The inputs of two bytes.
and-bytes : (a b c d : ℕ) → b < 256 → d < 256 → bit_and (a * 256 + b) (c * 256 + d) ≡ bit_and a c * 256 + bit_and b d
and-bytes a b c d hb hd =
    same_from_bits _ _ (λ k. bit_at_and (a * 256 + b) (c * 256 + d) k ∙ ⊎_elim
    (λ (l : k < 8). ap (λ n. min n (bit_at (c * 256 + d) k)) (bit_at_cat_low a 8 b k l) ∙ ap (min (bit_at b k)) (bit_at_cat_low c 8 d k l)
    ∙ sym (bit_at_and b d k) ∙ sym (bit_at_cat_low (bit_and a c) 8 (bit_and b d) k l))
    (λ (l : 8 ≤ k). ap (λ n. min n (bit_at (c * 256 + d) k)) (bit_at_cat_high a 8 b k hb l) ∙ ap (min (bit_at a (k - 8))) (bit_at_cat_high c 8 d k hd l)
    ∙ sym (bit_at_and a c (k - 8)) ∙ sym (bit_at_cat_high (bit_and a c) 8 (bit_and b d) k (omega (arith, and_le_l b d)) l))
    (cases_lt k 8))

-- The lines without the cascade, and with it again.
driven : (s m : ℕ) → s < 256 → m < 256 → bit_and (s * 256 + m) DRIVEN ≡ s * 256 + bit_and m 0xfb
driven s m hs hm = and-bytes s m 0xff 0xfb hm (omega arith) ∙ ap (λ n. n * 256 + bit_and m 0xfb) (and_numeral s 254 refl ∙ omega arith)

with-again : (b : Bool) (m : ℕ) → m < 256 → has m 2 ≡ b → bit_or (bit_and m 0xfb) (cond b 4 0) ≡ m
with-again b m h e =
    let bit : (◌≡◌ {A = ℕ} (cond b 4 0) 4 × (bit_at m 2 ≡ 1)) ⊎ (◌≡◌ {A = ℕ} (cond b 4 0) 0 × (bit_at m 2 ≡ 0)) = grind (arith, nat_tests, bit_at-lt) in
    same_from_bits_below 8 _ _ (or_of_8 (bit_and m 0xfb) _ (omega (arith, and_le_l m 0xfb)) (omega (arith, bit))) h
    (λ k l. bit_at_or (bit_and m 0xfb) _ k ∙ ap (λ n. max n (bit_at (cond b 4 0) k)) (bit_at_and m 0xfb k)
    ∙ each_input (λ k. max (min (bit_at m k) (bit_at 0xfb k)) (bit_at (cond b 4 0) k) ≡ bit_at m k)
    (omega (arith, bit, bit_at-lt m 0)) (omega (arith, bit, bit_at-lt m 1)) (omega (arith, bit)) (omega (arith, bit, bit_at-lt m 3)) (omega (arith, bit, bit_at-lt m 4))
    (omega (arith, bit, bit_at-lt m 5)) (omega (arith, bit, bit_at-lt m 6)) (omega (arith, bit, bit_at-lt m 7)) k l)

cascade-again : (b : Bool) (m : ℕ) → m < 256 → has m 2 ≡ b → with_cascade b (bit_and m 0xfb) ≡ m
unfolding without_input but_not
cascade-again b m h e = cc (and-twice m 0xfb, with-again b m h e)

pub low-two : (s m : ℕ) → m < 256 → has (s * 256 + m) 2 ≡ has m 2
low-two s m h = ap (λ n. n == 1) (omega arith)

-- So does a pair.
pub pair-again : (pair : PicPair) → HasTaken (lines_of pair) pair → settled_pair (bit_and (lines_of pair) DRIVEN) 0 pair ≡ pair
unfolding settled_pair lines_of slave_int_of without_input but_not
pair-again pair h =
    let s = pair.slave.lines in
    let m = pair.master.lines in
    let hs : s < 256 = h.slave.lines in
    let hm : m < 256 = h.master.lines in
    let high : bit_and (s * 256 + m) DRIVEN / 256 ≡ s = rw (driven s m hs hm) (omega (arith, and_le_l m 0xfb)) in
    let low : bit_and (s * 256 + m) DRIVEN % 256 ≡ bit_and m 0xfb = rw (driven s m hs hm) (omega (arith, and_le_l m 0xfb)) in
    let slave : settled (bit_and (s * 256 + m) DRIVEN / 256) 0 pair.slave ≡ pair.slave = cc (chip_again pair.slave h.slave) in
    let bit : has m 2 ≡ slave_int_of pair = cc (low-two s m hm) in
    let after : Chip → PicPair = (λ chip. record pair { slave = chip; master = settled (with_cascade (slave_int_of (record pair { slave = chip })) (bit_and (s * 256 + m) DRIVEN % 256)) 0 pair.master }) in
    ap after slave
    ∙ ap (λ n. record pair { master = settled n 0 pair.master }) (ap (with_cascade (slave_int_of pair)) low ∙ cascade-again (slave_int_of pair) m hm bit)
    ∙ ap (λ chip. record pair { master = chip }) (chip_again pair.master h.master)

-- ---- accesses of the pair after which it has still taken its lines

-- The master of a pair changes, and its lines are the same.
module _ (lines : ℕ) (pair : PicPair) (h : HasTaken lines pair) where
  with-master : (chip : Chip) → IsSettled chip → chip.lines ≡ pair.master.lines → HasTaken lines (record pair { master = chip })
  unfolding lines_of slave_int_of
  with-master chip settled e = record { master = settled; slave = h.slave; cascade = rw e h.cascade; same = cc }

  kept-taken : (chip : Chip) → Keeps pair.master chip → HasTaken lines (record pair { master = chip })
  kept-taken chip k = with-master chip (search arith) k.lines

  bit-from : (even odd bit : Bool) → odd ≡ false → (odd || (even && not bit)) ≡ true → bit ≡ false
  bit-from even odd bit f e = grind arith

  pub command-taken : (port value : ℕ) → is_command port value ≡ true → HasTaken lines (written_pair port value pair)
  unfolding is_command written_pair
  command-taken port value e = grind (arith, kept-taken, even-keeps, bit-from, has, odd-keeps)

-- The bits of a register without an input.
bit-without : (r w k : ℕ) → w < 8 → k < 8 → bit_at (without_input r w) k ≡ min (bit_at r k) (1 - bit_at (2 ^ w) k)
unfolding without_input but_not
bit-without r w k h l = cc (bit_at_and r (255 - 2 ^ w) k, bit_at_not w8 (2 ^ w) k (pow_below w 8 h) l)

no_bit : (r w : ℕ) → has r w ≡ false → bit_at r w ≡ 0
no_bit r w e = grind (arith, bit_at-lt)

without-and : (r w e : ℕ) → r < 256 → w < 8 → has e w ≡ false → bit_and (without_input r w) e ≡ bit_and r e
without-and r w e hr hw none =
    let b : without_input r w < 256 = without_input-lt r w hr in
    same_from_bits_below 8 _ _ (omega (arith, and_le_l (without_input r w) e)) (omega (arith, and_le_l r e))
    (λ k l. bit_at_and (without_input r w) e k ∙ ap (λ n. min n (bit_at e k)) (bit-without r w k hw l) ∙ ⊎_elim
    (λ (is : k ≡ w). let zero : bit_at e k ≡ 0 = rw is (no_bit e w none) in
    rw (bit_at_and r e k, zero) (omega arith)) (λ (other : k ≢ w). rw (bit_at_and r e k, bit_at-pow_other w k other) (omega (arith, bit_at-lt r k)))
    (cases_eq k w))

without-none : (r w : ℕ) → r < 256 → w < 8 → has r w ≡ false → without_input r w ≡ r
without-none r w hr hw none =
    same_from_bits_below 8 _ _ (without_input-lt r w hr) hr
    (λ k l. bit-without r w k hw l ∙ ⊎_elim (λ (is : k ≡ w). let zero : bit_at r k ≡ 0 = rw is (no_bit r w none) in rw zero (omega arith))
    (λ (other : k ≢ w). rw (bit_at-pow_other w k other) (omega (arith, bit_at-lt r k)))
    (cases_eq k w))

-- A winner that is taken.
module _ (chip : Chip) (w : ℕ) (h : IsSettled chip) (hw : w < 8) where
  served-settled : (isr lowest : ℕ) → IsSettled (record chip { isr = isr; lowest = lowest })
  served-settled isr lowest = record { irr = h.irr; lines = h.lines; elcr = h.elcr; requests = h.requests }

  ended-settled : has (level_inputs_of chip) w ≡ false → (isr lowest : ℕ)
      → IsSettled (record chip { isr = isr; lowest = lowest; irr = without_input chip.irr w })
  unfolding requests_hold
  ended-settled none isr lowest = record {
    irr = without_input-lt chip.irr w h.irr;
    lines = h.lines;
    elcr = h.elcr;
    requests = rw (without-and chip.irr w (level_inputs_of chip) h.irr hw none) h.requests;
  }

  taken-settled : IsSettled (taken w chip)
  unfolding taken
  taken-settled =
      cond_both (has (level_inputs_of chip) w) _ _ IsSettled
      (λ level. either IsSettled chip.auto_eoi _ _ (either IsSettled chip.rotate _ _ (served-settled _ _) h) (served-settled _ _))
      (λ edge. let ends : Chip → Type 0 = λ c. IsSettled (record c { irr = without_input chip.irr w }) in
      either ends chip.auto_eoi _ _ (either ends chip.rotate _ _ (ended-settled edge _ _) (ended-settled edge _ _)) (ended-settled edge _ _))

  taken-lines : (taken w chip).lines ≡ chip.lines
  unfolding taken
  taken-lines = grind (arith, nat_tests)

  -- With its line low, the cascade is taken as any other input.
  cascaded-is : (low : has chip.lines 2 ≡ false) (two : w ≡ 2) → cascaded chip ≡ taken w chip
  unfolding cascaded
  cascaded-is low two = grind (arith, without-none, taken, taken-lines)

-- An acknowledge while the slave's output is low.
module _ (lines : ℕ) (pair : PicPair) (h : HasTaken lines pair) (none : has lines 2 ≡ false) where
  low : has pair.master.lines 2 ≡ false
  unfolding lines_of
  low = cc (low-two pair.slave.lines pair.master.lines h.master.lines)

  slave-low : slave_int_of pair ≡ false
  slave-low = cc

  abbrev Taken : ℕ × PicPair → Type 0
  Taken answer = HasTaken lines answer.1

  -- The slave has no winner.
  by_slave : (o : Option ℕ) → is_some o ≡ false → (master : Chip) → HasTaken lines (record pair { master = master })
      → Taken (from_slave (record pair { master = master }) (answered o pair.slave))
  unfolding answered
  by_slave o e master k = grind arith

  by_winner : (o : Option ℕ) → IfSome o (λ w. w < 8) → Taken (acked_for o pair)
  unfolding acked_for answered slave_int_of
  by_winner None l = h
  by_winner (Some w) l =
      let master : HasTaken lines (record pair { master = taken w pair.master }) =
      with-master lines pair h _ (taken-settled pair.master w h.master l) (taken-lines pair.master w h.master l) in
      cond_both (w == 2) _ _ Taken
      (λ e. let two : w ≡ 2 = grind (arith, nat_tests) in
      by_slave _ slave-low (cascaded pair.master) (rw (cascaded-is pair.master w h.master l low two) master)) (λ e. master)

  pub ack-taken : HasTaken lines (acked pair).1
  ack-taken = by_winner _ (winner-lt _ pair.master)

-- ---- inputs that leave the board unchanged

again : (lines inputs : ℕ) (pair : PicPair) → HasTaken lines pair → inputs ≡ bit_and lines DRIVEN → settled_pair inputs 0 pair ≡ pair
again lines inputs pair h e = grind (arith, pair-again)

-- What the tests of quiet inputs say.
parts_of : (access edge same : Bool) → (not access && (not edge && same)) ≡ true → (access ≡ false) × (edge ≡ false) × (same ≡ true)
parts_of access edge same e = grind arith

pub quiet-settled : (wires inputs : ℕ) (before : Before) (edge : Bool) (touch : Touch) (m : State) → Stays touch before m → inputs ≡ inputs_of wires m
    → is_quiet touch edge inputs before.lines ≡ true → settled_board wires edge m ≡ m
unfolding settled_board is_quiet
quiet-settled wires inputs before edge touch m stays is e = grind (arith, nat_tests, parts_of, again)

-- If nothing was touched, the inputs are the lines.
untouched : (touch : Touch) (test : Bool) → (is_nothing touch && test) ≡ true
    → (asks_timer touch ≡ false) × (asks_port touch ≡ false) × (is_access touch ≡ false) × (test ≡ true)
untouched touch test e = grind arith

two-parts : (n a b : ℕ) → bit_or (bit_and n a) (bit_and n b) ≡ bit_and n (bit_or a b)
two-parts n a b = same_from_bits _ _ (λ k. simp (bit_at_and, bit_at_or) (omega (arith, bit_at-lt n k, bit_at-lt a k, bit_at-lt b k)))

one-bit : (b place : ℕ) → b < 2 → bits_where (b == 1) place ≡ b * place
one-bit zero place h = omega arith
one-bit (suc zero) place h = omega arith
one-bit (suc (suc b)) place h = absurd (omega arith)

line-bit : (n k : ℕ) → bits_where (has n k) (2 ^ k) ≡ bit_and n (2 ^ k)
line-bit n k = cc (one-bit (bit_at n k) (2 ^ k) (bit_at-lt n k), and_pow n k)

own-inputs : (n : ℕ) → bit_or (bit_or (bit_and n WIRES) (bits_where (has n 0) 0x01)) (bits_where (has n 4) 0x10) ≡ bit_and n DRIVEN
own-inputs n = cc (line-bit n 0, line-bit n 4, two-parts n WIRES 0x01, two-parts n 0xffeb 0x10)

pub untouched-settled : (wires : ℕ) (before : Before) (edge : Bool) (touch : Touch) (m : State) → Stays touch before m
    → is_untouched touch edge wires before.lines ≡ true → settled_board wires edge m ≡ m
unfolding settled_board is_untouched inputs_of
untouched-settled wires before edge touch m stays e =
    let q = untouched touch _ e in
    let no_edge : edge ≡ false = grind arith in
    let same : wires ≡ bit_and before.lines WIRES = grind (arith, nat_tests) in
    rw no_edge (rw (again before.lines (inputs_of wires m) m.pair (stays.pair q.2) (rw (same, sym (stays.out q.0), sym (stays.serial q.1)) (own-inputs before.lines))))
