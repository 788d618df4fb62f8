-- The spots of kinds: each at a multiple of its width, inside of the buffer, apart from the others;
-- and the bytes there.
use Rattle.vms_spots.proofs.Facade
use Facade.{◌≡◌, ◌⊎◌, inl, inr, ℕ, zero, suc, ◌+◌, ◌-◌, ◌*◌, ◌%◌, ◌<◌, ◌≤◌, List, [], ◌∷◌, ◌++◌, length}
use Facade.{get_or, take, drop, map, replicate, set, ℤ, pos, refl, sym, ap, ◌∙◌, arith, append_assoc, length-append, length-replicate, length-map}
use Facade.{length-set, drop_at, take_at, get_or-map, set-get_or, ext_get_or, get_or-set_same, get_or-set_other, cases_eq, Kind, U8, width, code, InRange}
use Facade.{length-code, value_code, Spot, aligned, spots_from, spots_of, end_from, no_spot, kinds_of, raw_from, raw_of, AreOf, number_at, AreApart}

-- ---- the least multiple

pub record Aligned (w n at : ℕ) : Type 0 where
  pub below : n ≤ at
  pub whole : at % w ≡ 0
  pub eighth : (k : ℕ) → n ≤ 8 * k → at + w ≤ 8 * k + 8

pub aligned_is : (kind : Kind) (n : ℕ) → Aligned (width kind) n (aligned (width kind) n)
aligned_is U8 n = record { below = omega arith; whole = omega arith; eighth = λ k h. omega arith }
aligned_is _ n = record { below = omega arith; whole = omega arith; eighth = λ k h. omega arith }

-- ---- the spots of kinds

pub kinds_are : (e : ℕ) (kinds : List Kind) → kinds_of (spots_from e kinds) ≡ kinds
kinds_are e [] = refl
kinds_are e (kind ∷ kinds) = ap (λ (l : List Kind). kind ∷ l) (kinds_are (aligned (width kind) e + width kind) kinds)

pub spots_long : (e : ℕ) (kinds : List Kind) → length (spots_from e kinds) ≡ length kinds
spots_long e [] = refl
spots_long e (kind ∷ kinds) = ap (λ (n : ℕ). suc n) (spots_long (aligned (width kind) e + width kind) kinds)

pub end_after : (e : ℕ) (kinds : List Kind) → e ≤ end_from e kinds
end_after e [] = omega arith
end_after e (kind ∷ kinds) = omega (arith, end_after (aligned (width kind) e + width kind) kinds, aligned_is kind e)

pub end_small : (e : ℕ) (kinds : List Kind) (k : ℕ) → e ≤ 8 * k → end_from e kinds ≤ 8 * (k + length kinds)
end_small e [] k h = omega arith
end_small e (kind ∷ kinds) k h =
    let a : aligned (width kind) e + width kind ≤ 8 * k + 8 = (aligned_is kind e).eighth k h in
    omega (arith, end_small (aligned (width kind) e + width kind) kinds (k + 1) (omega arith))

pub record IsSpot (e end : ℕ) (kind : Kind) (s : Spot) : Type 0 where
  pub kind_is : s.kind ≡ kind
  pub multiple : s.offset % width kind ≡ 0
  pub behind : e ≤ s.offset
  pub inside : s.offset + width kind ≤ end

pub spot_is : (e : ℕ) (kinds : List Kind) (k : ℕ) → k < length kinds → IsSpot e (end_from e kinds) (get_or kinds k U8) (get_or (spots_from e kinds) k no_spot)
spot_is e [] k lt = absurd (omega arith)
spot_is e (kind ∷ kinds) zero lt = search (arith, aligned_is, end_after, aligned)
spot_is e (kind ∷ kinds) (suc k) lt = search (arith, aligned_is, aligned, spot_is (aligned (width kind) e + width kind) kinds k (omega arith))

pub apart : (e : ℕ) (kinds : List Kind) (j k : ℕ) → j < k → k < length kinds
    → (get_or (spots_from e kinds) j no_spot).offset + width (get_or kinds j U8) ≤ (get_or (spots_from e kinds) k no_spot).offset
apart e (kind ∷ kinds) zero (suc k) jk lt = (spot_is (aligned (width kind) e + width kind) kinds k (omega arith)).behind
apart e (kind ∷ kinds) (suc j) (suc k) jk lt = apart (aligned (width kind) e + width kind) kinds j k (omega arith) (omega arith)
apart e _ j k jk lt = absurd (omega arith)

-- each spot is of its kind, inside the buffer, and overlaps no other
pub are_apart : (kinds : List Kind) → AreApart kinds (spots_of kinds)
are_apart kinds = record {
  long = spots_long 0 kinds;
  kind = λ k lt. (spot_is 0 kinds k lt).kind_is;
  multiple = λ k lt. (spot_is 0 kinds k lt).multiple;
  inside = λ k lt. (spot_is 0 kinds k lt).inside;
  apart = λ j k jk lt. apart 0 kinds j k jk lt;
}

-- the last one ends where all end
pub last_end : (e : ℕ) (kinds : List Kind) (n : ℕ) → length kinds ≡ suc n
    → (get_or (spots_from e kinds) n no_spot).offset + width (get_or (spots_from e kinds) n no_spot).kind ≡ end_from e kinds
last_end e (kind ∷ []) zero lt = refl
last_end e (kind ∷ next ∷ kinds) (suc n) lt = last_end (aligned (width kind) e + width kind) (next ∷ kinds) n (omega arith)
last_end e _ n lt = absurd (omega arith)

-- ---- the bytes

-- the bytes before and after a spot, whichever number is there
pub record Split (e : ℕ) (kinds : List Kind) (numbers : List ℤ) (k : ℕ) : Type 0 where
  pub before : List ℕ
  pub after : List ℕ
  pub long : e + length before ≡ (get_or (spots_from e kinds) k no_spot).offset
  pub whole : (z : ℤ) → raw_from e kinds (set numbers k z) ≡ before ++ (code (get_or kinds k U8) z ++ after)

pub split : (e : ℕ) (kinds : List Kind) (numbers : List ℤ) (k : ℕ) → k < length kinds → length numbers ≡ length kinds → Split e kinds numbers k
split e (kind ∷ kinds) (y ∷ numbers) zero lt long =
    let at = aligned (width kind) e in
    record {
      before = replicate (at - e) 0;
      after = raw_from (at + width kind) kinds numbers;
      long = omega (arith, aligned_is kind e, length-replicate {A = ℕ} (at - e) 0);
      whole = λ z. refl;
    }
split e (kind ∷ kinds) (y ∷ numbers) (suc k) lt long =
    let a = aligned_is kind e in
    let at = aligned (width kind) e in
    let r = split (at + width kind) kinds numbers k (omega arith) (omega arith) in
    let front : List ℕ = replicate (at - e) 0 in
    record {
      before = front ++ (code kind y ++ r.before);
      after = r.after;
      long = omega (arith, length-append front (code kind y ++ r.before), length-append (code kind y) r.before, length-code kind y, length-replicate {A = ℕ} (at - e) 0);
      whole = λ z. rw (r.whole z, append_assoc, append_assoc);
    }
split e _ numbers k lt long = absurd (omega arith)

-- the bytes at an offset, by those before them
pub part_is : (before part after : List ℕ) (at n : ℕ) → length before ≡ at → length part ≡ n → take n (drop at (before ++ (part ++ after))) ≡ part
part_is before part after at n a p = cc (drop_at before (part ++ after) at a, take_at part after n p)

-- the code of a number is at its spot
pub code_at : (kinds : List Kind) (numbers : List ℤ) (k : ℕ) → k < length kinds → length numbers ≡ length kinds
    → take (width (get_or kinds k U8)) (drop (get_or (spots_of kinds) k no_spot).offset (raw_of kinds numbers)) ≡ code (get_or kinds k U8) (get_or numbers k (pos 0))
code_at kinds numbers k lt long =
    let s = split 0 kinds numbers k lt long in
    let kind = get_or kinds k U8 in
    let z = get_or numbers k (pos 0) in
    ap (λ (l : List ℕ). take (width kind) (drop (get_or (spots_of kinds) k no_spot).offset l)) (cc (set-get_or numbers k (pos 0), s.whole z))
    ∙ part_is s.before (code kind z) s.after (get_or (spots_of kinds) k no_spot).offset (width kind) (omega arith) (length-code kind z)

pub number_is : (kinds : List Kind) (numbers : List ℤ) (k : ℕ) → k < length kinds → AreOf kinds numbers
    → number_at (raw_of kinds numbers) (get_or (spots_of kinds) k no_spot) ≡ get_or numbers k (pos 0)
number_is kinds numbers k lt are = grind (arith, spot_is, code_at, value_code)

-- so the numbers can be read back from the bytes
pub numbers_are : (kinds : List Kind) (numbers : List ℤ) → AreOf kinds numbers → map (number_at (raw_of kinds numbers)) (spots_of kinds) ≡ numbers
numbers_are kinds numbers are =
    let spots = spots_of kinds in
    let long : length (map (number_at (raw_of kinds numbers)) spots) ≡ length numbers = length-map spots (number_at (raw_of kinds numbers)) ∙ spots_long 0 kinds ∙ sym are.long in
    ext_get_or (pos 0) (map (number_at (raw_of kinds numbers)) spots) numbers long
    (λ k lt. get_or-map (number_at (raw_of kinds numbers)) spots k no_spot (pos 0) (omega (arith, length-map spots (number_at (raw_of kinds numbers))))
    ∙ number_is kinds numbers k (omega arith) are)

-- ---- one number changes

pub set_fits : (kinds : List Kind) (numbers : List ℤ) (cell : ℕ) (z : ℤ) → AreOf kinds numbers → InRange (get_or kinds cell U8) z → AreOf kinds (set numbers cell z)
set_fits kinds numbers cell z are fits = record {
  long = cc (length-set numbers cell z);
  fits = λ k lt. at k lt (cases_eq k cell);
} where
  at : (k : ℕ) → k < length kinds → (k ≡ cell) ⊎ (k ≡ cell → ⊥) → InRange (get_or kinds k U8) (get_or (set numbers cell z) k (pos 0))
  at k lt (inl e) = rw (e, get_or-set_same numbers cell z (pos 0) (omega arith)) fits
  at k lt (inr n) = rw (get_or-set_other numbers cell k z (pos 0) n) (are.fits k lt)

-- the bytes of a spot are replaced
pub put_is : (before old part after xs : List ℕ) (at n : ℕ) → xs ≡ before ++ (old ++ after) → length before ≡ at → length old ≡ n
    → take at xs ++ (part ++ drop n (drop at xs)) ≡ before ++ (part ++ after)
put_is before old part after xs at n is a o = cc (take_at before (old ++ after) at a, drop_at before (old ++ after) at a, drop_at old after n o)

pub set_raw : (kinds : List Kind) (numbers : List ℤ) (cell : ℕ) (z : ℤ) (at n : ℕ) → cell < length kinds → length numbers ≡ length kinds
    → (get_or (spots_of kinds) cell no_spot).offset ≡ at → width (get_or kinds cell U8) ≡ n
    → take at (raw_of kinds numbers) ++ (code (get_or kinds cell U8) z ++ drop n (drop at (raw_of kinds numbers))) ≡ raw_of kinds (set numbers cell z)
set_raw kinds numbers cell z at n lt long a w =
    let s = split 0 kinds numbers cell lt long in
    let kind = get_or kinds cell U8 in
    let y = get_or numbers cell (pos 0) in
    let now : raw_of kinds numbers ≡ s.before ++ (code kind y ++ s.after) = cc (set-get_or numbers cell (pos 0), s.whole y) in
    put_is s.before (code kind y) (code kind z) s.after (raw_of kinds numbers) at n now (omega arith) (length-code kind y ∙ w) ∙ sym (s.whole z)

-- ---- all numbers 0

pub code_0 : (kind : Kind) → code kind (pos 0) ≡ replicate (width kind) 0
unfolding code
code_0 U8 = refl
code_0 _ = refl

pub range_0 : (kind : Kind) → InRange kind (pos 0)
range_0 U8 = omega arith
range_0 _ = omega arith
