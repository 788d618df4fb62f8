-- Sets of inputs, input by input, and their bounds.
use Rattle.dev_pic.proofs.Facade
use Facade.{◌≡◌, ◌≢◌, ℕ, ◌-◌, ◌<◌, ◌^◌, ◌==◌, min, max, Bool, true, false, not, ◌&&◌, arith, bit_or, refl, ◌||◌, bit_at}
use Facade.{w8, and_le_l, and_le_r, or_of_8, pow_below, bit_at_and, bit_at_or, bit_at_not, same_from_bits_below, bit_at-lt, bit_at-pow_same, bit_at-pow_other}
use Facade.{same_from_bits, or-true, or-false, has, but_not, with_input, without_input, level_inputs, LevelInputsAre}
use Rattle.std.proofs.Common.{bit_and}

not_bit : (r i : ℕ) → r < 256 → i < 8 → bit_at (255 - r) i ≡ 1 - bit_at r i
not_bit r i h l = bit_at_not w8 r i h l

pow_lt : (i : ℕ) → i < 8 → 2 ^ i < 256
pow_lt i h = pow_below i 8 h

-- Tests of bits.
both_tests : (a b : ℕ) → a < 2 → b < 2 → ((min a b == 1) ≡ ((a == 1) && (b == 1))) × ((max a b == 1) ≡ ((a == 1) || (b == 1)))
both_tests a b h l = grind arith

pub not_test : (a : ℕ) → a < 2 → ((1 - a) == 1) ≡ not (a == 1)
not_test a h = grind arith

pub has-and : (a b i : ℕ) → has (bit_and a b) i ≡ (has a i && has b i)
has-and a b i = grind (arith, bit_at_and, both_tests, bit_at-lt)

pub has-or : (a b i : ℕ) → has (bit_or a b) i ≡ (has a i || has b i)
has-or a b i = grind (arith, bit_at_or, both_tests, bit_at-lt)

pub has-but_not : (a b i : ℕ) → b < 256 → i < 8 → has (but_not a b) i ≡ (has a i && not (has b i))
unfolding but_not
has-but_not a b i h l = cc (has-and a (255 - b) i, not_bit b i h l, not_test (bit_at b i) (bit_at-lt b i))

-- A set of one input.
pub has-one : (i : ℕ) → has (2 ^ i) i ≡ true
has-one i = rw (bit_at-pow_same i)

pub has-one_other : (i other : ℕ) → other ≢ i → has (2 ^ i) other ≡ false
has-one_other i other h = rw (bit_at-pow_other i other h)

pub and_not_true : (b : Bool) → (b && not true) ≡ false
and_not_true b = grind arith

-- An input that is taken out or put in.
pub has-without_same : (r i : ℕ) → i < 8 → has (without_input r i) i ≡ false
unfolding without_input
has-without_same r i h = cc (has-but_not r (2 ^ i) i (pow_lt i h) h, has-one i, and_not_true (has r i))

pub has-without_other : (r i other : ℕ) → i < 8 → other < 8 → other ≢ i → has (without_input r i) other ≡ has r other
unfolding without_input
has-without_other r i other h l n = grind (arith, has-but_not, pow_lt, has-one_other, has)

pub has-with_same : (r i : ℕ) → has (with_input r i) i ≡ true
unfolding with_input
has-with_same r i = cc (has-or r (2 ^ i) i, has-one i, or-true (has r i))

-- Bounds.
pub but_not-lt : (a b : ℕ) → a < 256 → but_not a b < 256
unfolding but_not
but_not-lt a b h = omega (arith, and_le_l a (255 - b))

pub without_input-lt : (r i : ℕ) → r < 256 → without_input r i < 256
unfolding without_input
without_input-lt r i h = but_not-lt r (2 ^ i) h

pub with_input-lt : (r i : ℕ) → r < 256 → i < 8 → with_input r i < 256
unfolding with_input
with_input-lt r i h l = or_of_8 r (2 ^ i) h (pow_lt i l)

-- After the requests of level inputs are set to their lines, they agree.
pub level-lines : (x i e : ℕ) → x < 256 → i < 256 → e < 256 → bit_and (bit_or (bit_and x (255 - e)) (bit_and i e)) e ≡ bit_and i e
level-lines x i e hx hi he =
    same_from_bits_below 8 _ _ (omega (arith, and_le_r (bit_or (bit_and x (255 - e)) (bit_and i e)) e)) (omega (arith, and_le_r i e))
    (λ k h. simp (bit_at_and, bit_at_or, not_bit e k he h) (omega (arith, bit_at-lt x k, bit_at-lt i k, bit_at-lt e k)))

-- Masking twice is masking once.
pub and-twice : (v m : ℕ) → bit_and (bit_and v m) m ≡ bit_and v m
and-twice v m = same_from_bits _ _ (λ k. simp bit_at_and (omega arith))

-- What holds for each of eight inputs.
pub each_input : (P : ℕ → Type 0) → P 0 → P 1 → P 2 → P 3 → P 4 → P 5 → P 6 → P 7 → (i : ℕ) → i < 8 → P i
each_input P a b c d e f g h i l = grind arith

-- The level inputs.
has-all : (i : ℕ) → i < 8 → has 0xff i ≡ true
has-all = each_input (λ i. has 0xff i ≡ true) refl refl refl refl refl refl refl refl

pub level_inputs_are : LevelInputsAre
unfolding level_inputs
level_inputs_are ltim elcr input within = grind (arith, has-all, or-true, has, or-false)

pub level_inputs-lt : (ltim : Bool) (elcr : ℕ) → elcr < 256 → level_inputs ltim elcr < 256
unfolding level_inputs
level_inputs-lt ltim elcr h = grind arith
