-- The priority order: its places, the searches through it, and the winner that they find.
use Rattle.dev_pic.proofs.Facade.{◌≡◌, ℕ, zero, suc, ◌<◌, ◌≤◌, true, false, List, [], ◌∷◌, Option, Some, None, refl, arith, IfSome}
use Rattle.dev_pic.proofs.Facade.{find, get_or, sym, ◌∙◌, ap, ⊎_elim, cases_lt, false≢true, get_or-map-range_with_len, has, WinnerIsLeastRequest}
use Rattle.dev_pic.proofs.Facade.{input_at, order, before, ready_among, winner_of, highest_of, IsWinner, MeansWinner, ◌+◌, ◌==◌, drop, not, bit_at-zero}
use Rattle.dev_pic.proofs.Facade.{IsFirstPlace, ◌-◌, ◌*◌, ◌/◌, ◌%◌, ◌^◌, max, bit_or, div-add-mod', pow_pos, bit_at_or, bit_at_above}
use Rattle.dev_pic.proofs.Facade.{bit_at_cat_low, bit_at_cat_high, bit_at-trailing_zeros, mod-lt, bit_at, rotate_right, trailing_zeros, trailing_of_zero}
use Rattle.std.proofs.{Common.w8, Common.le_refl, Math.Seq.drop-cons, lemmas.Bool.cases_eq}
use Rattle.std.proofs.lemmas.List.Sums.{fails_before_first, passes_at_first, prefix_len-le-length}
use Rattle.std.specs.List.{position_or_len}

-- ---- the places of the priority order

at : (lowest place : ℕ) → place < 8 → get_or (order lowest) place 0 ≡ input_at lowest place
at lowest place h = grind (arith, get_or-map-range_with_len)

-- What is left of the order at a place.
from : (lowest place : ℕ) → place < 8 → drop place (order lowest) ≡ input_at lowest place ∷ drop (suc place) (order lowest)
from lowest place h = cc (drop-cons (order lowest) place 0 h, at lowest place h)

-- Each set has a first place.
first_of : (lowest inputs : ℕ) → IsFirstPlace lowest inputs (position_or_len (has inputs) (order lowest))
first_of lowest inputs =
    let most : position_or_len (has inputs) (order lowest) ≤ 8 = prefix_len-le-length (λ i. not (has inputs i)) (order lowest) in
    record {
      most = most;
      before = λ k h. rw (← at lowest k (omega arith)) (fails_before_first (has inputs) (order lowest) k 0 h);
      there = λ h. rw (← at lowest _ h) (passes_at_first (has inputs) (order lowest) 0 h);
    }

-- A search that skips each input before a place goes on there.
skips : (f : List ℕ → Option ℕ) (lowest place : ℕ) → place ≤ 8 → ((other : ℕ) (rest : List ℕ) → other < place → f (input_at lowest other ∷ rest) ≡ f rest)
    → f (order lowest) ≡ f (drop place (order lowest))
skips f lowest zero most each = refl
skips f lowest (suc place) most each =
    skips f lowest place (omega arith) (λ k rest h. each k rest (omega arith)) ∙ ap f (from lowest place (omega arith)) ∙ each place _ (omega arith)

-- ---- the search for a winner finds what the relation says

module _ (lowest requests served : ℕ) where
  idle : (place : ℕ) → place ≤ 8 → ((other : ℕ) → other < place → has requests (input_at lowest other) ≡ false)
      → ((other : ℕ) → other < place → has served (input_at lowest other) ≡ false)
      → winner_of lowest requests served ≡ find (has requests) (before (has served) (drop place (order lowest)))
  unfolding winner_of ready_among
  idle place most unasked unserved =
      skips (λ l. find (has requests) (before (has served) l)) lowest place most (λ k rest h. rw (unserved k h, unasked k h))

  -- The first request wins if it comes before the first input in service.
  pub wins : (first other : ℕ) → IsFirstPlace lowest requests first → IsFirstPlace lowest served other → first < other
      → Some (input_at lowest first) ≡ winner_of lowest requests served
  wins first other asked serving before =
      let requested = asked.there (omega arith) in
      rw (idle first asked.most asked.before (λ k h. serving.before k (omega arith)), from lowest first (omega arith), serving.before first before, requested)

  -- Otherwise nothing wins.
  pub loses : (first other : ℕ) → IsFirstPlace lowest requests first → IsFirstPlace lowest served other → other ≤ first
      → None ≡ winner_of lowest requests served
  loses first other asked serving before =
      let unasked : (k : ℕ) → k < other → has requests (input_at lowest k) ≡ false = λ k h. asked.before k (omega arith) in
      rw (idle other serving.most unasked serving.before)
      (⊎_elim (λ (within : other < 8). rw (from lowest other within, serving.there within)) (λ (last : 8 ≤ other).
      let all : other ≡ 8 = omega (arith, serving.most) in rw all) (cases_lt other 8))

  pub winner_of-means : MeansWinner lowest requests served (winner_of lowest requests served)
  winner_of-means =
      let asked = first_of lowest requests in
      let serving = first_of lowest served in
      let first = position_or_len (has requests) (order lowest) in
      let other = position_or_len (has served) (order lowest) in
      ⊎_elim
      (λ (before : first < other). rw (← wins first other asked serving before) (record {
        place = first;
        in_order = (omega (arith, serving.most), refl);
        requested = asked.there (omega (arith, serving.most));
        least = asked.before;
        before_served = λ k h. serving.before k (omega arith);
      }))
      (λ (before : other ≤ first). rw (← loses first other asked serving before) (λ k h e.
      let from : first ≤ k = ⊎_elim (λ (lt : k < first). absurd (false≢true (sym (asked.before k lt) ∙ e))) (λ (le : first ≤ k). le) (cases_lt k first) in
      (other, omega arith, serving.there (omega arith)))) (cases_lt first other)

  pub winner-lt : IfSome (winner_of lowest requests served) (λ w. w < 8)
  winner-lt = grind (arith, winner_of-means)

-- No two inputs meet the relation, and none does if there is no winner.
only_for : (lowest requests served winner : ℕ) (o : Option ℕ) → MeansWinner lowest requests served o → IsWinner lowest requests served winner → o ≡ Some winner
only_for lowest requests served winner o none w = grind arith

pub winner_is_least_request : WinnerIsLeastRequest
winner_is_least_request = search (arith, winner_of-means, only_for)

-- Nothing is found in the empty set.
find-nothing : (inputs : List ℕ) → find (has 0) inputs ≡ None
find-nothing [] = refl
find-nothing (input ∷ inputs) = rw (ap (λ b. b == 1) (bit_at-zero input)) (find-nothing inputs)

-- If nothing is requested, nothing wins.
pub nothing_wins : (lowest requests served : ℕ) → requests ≡ 0 → None ≡ winner_of lowest requests served
unfolding winner_of ready_among
nothing_wins lowest requests served none = sym (rw none (find-nothing (before (has served) (order lowest))))

-- ---- the input of highest priority in a set

module _ (lowest inputs : ℕ) where
  clear : (place : ℕ) → place ≤ 8 → ((other : ℕ) → other < place → has inputs (input_at lowest other) ≡ false)
      → highest_of lowest inputs ≡ find (has inputs) (drop place (order lowest))
  unfolding highest_of
  clear place most none = skips (find (has inputs)) lowest place most (λ k rest h. rw (none k h))

  -- The first place of a set has its highest input.
  pub is_highest : (first : ℕ) → IsFirstPlace lowest inputs first → first < 8 → Some (input_at lowest first) ≡ highest_of lowest inputs
  is_highest first is within = rw (clear first is.most is.before, from lowest first within, is.there within)

  pub has_none : (first : ℕ) → IsFirstPlace lowest inputs first → 8 ≤ first → None ≡ highest_of lowest inputs
  has_none first is last = sym (clear 8 (omega arith) (λ k h. is.before k (omega arith)))

  pub highest-lt : IfSome (highest_of lowest inputs) (λ w. w < 8)
  highest-lt =
      let first = first_of lowest inputs in
      ⊎_elim (λ (lt : position_or_len (has inputs) (order lowest) < 8). rw (← is_highest _ first lt) (omega arith))
      (λ (ge : 8 ≤ position_or_len (has inputs) (order lowest)). rw (← has_none _ first ge) tt) (cases_lt _ 8)

  pub highest_none : ((input : ℕ) → input < 8 → has inputs input ≡ false) → highest_of lowest inputs ≡ None
  highest_none none = clear 8 (omega arith) (λ k h. none (input_at lowest k) (omega arith))

-- ---- the place of an input in the priority order is that of its bit in a rotated register

-- A bit of a number that was shifted down, and of one that was shifted up and cut.
down : (n s k : ℕ) → bit_at (n / 2 ^ s) k ≡ bit_at n (s + k)
down n s k =
    let back : s + k - s ≡ k = omega arith in
    cc (bit_at_cat_high (n / 2 ^ s) s (n % 2 ^ s) (s + k) (mod-lt n (pow_pos s)) (omega arith), div-add-mod' n (2 ^ s))

cut : (n k : ℕ) → k < 8 → bit_at (n % 2 ^ 8) k ≡ bit_at (n + 0) k
cut n k within =
    let alone : n + 0 ≡ n = omega arith in
    cc (bit_at_cat_low (n / 2 ^ 8) 8 (n % 2 ^ 8) k within, div-add-mod' n (2 ^ 8))

up_low : (n j k : ℕ) → k < 8 → k < j → bit_at (n * 2 ^ j % 2 ^ 8) k ≡ 0
up_low n j k within below = cc (cut (n * 2 ^ j) k within, bit_at_cat_low n j 0 k below, bit_at-zero k)

up_high : (n j k : ℕ) → k < 8 → j ≤ k → bit_at (n * 2 ^ j % 2 ^ 8) k ≡ bit_at n (k - j)
up_high n j k within from = cut (n * 2 ^ j) k within ∙ bit_at_cat_high n j 0 k (pow_pos j) from

-- A bit of a register that was rotated right by `s`: its upper part goes down and its lower part up
-- by `j`.
bit_turned : (n s j k : ℕ) → n < 256 → s < 8 → j ≡ (8 - s) % 8 → k < 8 → bit_at (bit_or (n / 2 ^ s) (n * 2 ^ j % 2 ^ 8)) k ≡ bit_at n ((s + k) % 8)
bit_turned n s j k small turns whole within = bit_at_or (n / 2 ^ s) (n * 2 ^ j % 2 ^ 8) k ∙ ⊎_elim low high (cases_lt k j) where
  low : k < j → max (bit_at (n / 2 ^ s) k) (bit_at (n * 2 ^ j % 2 ^ 8) k) ≡ bit_at n ((s + k) % 8)
  low below =
      let same : (s + k) % 8 ≡ s + k = omega arith in
      rw same (omega (arith, up_low n j k within below, down n s k))

  -- the upper part has no such bit, or the register isn't rotated
  high : j ≤ k → max (bit_at (n / 2 ^ s) k) (bit_at (n * 2 ^ j % 2 ^ 8) k) ≡ bit_at n ((s + k) % 8)
  high from =
      let upper : bit_at (n / 2 ^ s) k ≤ bit_at n ((s + k) % 8) =
      ⊎_elim (λ (lt : s + k < 8). let same : (s + k) % 8 ≡ s + k = omega arith in rw (same, down n s k) (le_refl _))
      (λ (ge : 8 ≤ s + k). omega (arith, down n s k ∙ bit_at_above n 8 (s + k) small ge)) (cases_lt (s + k) 8) in
      let place : k - j ≡ (s + k) % 8 = omega arith in
      omega (arith, rw place at (up_high n j k within from), upper)

module _ (lowest inputs : ℕ) (small : inputs < 256) where
  -- The bit at a place is that of the input there.
  by_bit : (place bit : ℕ) → place < 8 → bit_at (rotate_right w8 inputs (lowest + 1)) place ≡ bit → has inputs (input_at lowest place) ≡ (bit == 1)
  by_bit place bit within e =
      ap (λ b. b == 1) (ap (bit_at inputs) (omega arith) ∙ sym (bit_turned inputs ((lowest + 1) % 8) _ place small (omega arith) refl within) ∙ e)

  -- The lowest bit of a register that was rotated right is the first place whose input is in the set.
  pub is_first : rotate_right w8 inputs (lowest + 1) < 256 → IsFirstPlace lowest inputs (trailing_zeros w8 (rotate_right w8 inputs (lowest + 1)))
  is_first fits = ⊎_elim none some (cases_eq (rotate_right w8 inputs (lowest + 1)) 0) where
    none : rotate_right w8 inputs (lowest + 1) ≡ 0 → IsFirstPlace lowest inputs (trailing_zeros w8 (rotate_right w8 inputs (lowest + 1)))
    none zeros =
        rw (zeros, trailing_of_zero 8) (record {
          most = omega arith;
          before = λ other h. by_bit other 0 h (rw zeros (bit_at-zero other));
          there = λ h. absurd (omega arith);
        })

    some : (rotate_right w8 inputs (lowest + 1) ≡ 0 → ⊥) → IsFirstPlace lowest inputs (trailing_zeros w8 (rotate_right w8 inputs (lowest + 1)))
    some other =
        let found = bit_at-trailing_zeros w8 (rotate_right w8 inputs (lowest + 1)) (omega arith) fits in
        record {
          most = omega arith;
          before = λ k h. by_bit k 0 (omega arith) (found.2 k h);
          there = λ h. by_bit _ 1 h found.1;
        }
