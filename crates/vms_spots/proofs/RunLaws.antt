-- Numbers of one kind in consecutive cells follow one another without a gap.
use Rattle.vms_spots.proofs.Facade
use Facade.{codes_of, AreOne, ◌≡◌, ℕ, zero, suc, ◌+◌, ◌-◌, ◌*◌, ◌<◌, ◌≤◌, List, [], ◌∷◌, ◌++◌, length, get_or, take}
use Facade.{drop, map, replicate, ℤ, refl, sym, ap, ◌∙◌, subst, arith, length-append, append_assoc, length-replicate, length-map, length-take-le}
use Facade.{get_or_read, Kind, U8, width, code, length-code, Spot, aligned, spots_from, spots_of, no_spot, kinds_of, raw_from, number_at, Held, held, IsHeld}
use Rattle.vms_spots.proofs.SpotLaws.{aligned_is, part_is}
use Rattle.std.proofs.lemmas.List.{length-drop}

-- ---- after one at a multiple of its width the next follows

pub again : (kind : Kind) (n : ℕ) → aligned (width kind) n ≡ n → aligned (width kind) (n + width kind) ≡ n + width kind
again U8 n h = omega arith
again _ n h = omega arith

pub twice : (kind : Kind) (n : ℕ) → aligned (width kind) (aligned (width kind) n) ≡ aligned (width kind) n
twice U8 n = omega arith
twice _ n = omega arith

-- ---- the first of them at a multiple

run_front : (kind : Kind) (count e : ℕ) (kinds : List Kind) (numbers : List ℤ) → aligned (width kind) e ≡ e → ((k : ℕ) → k < count → get_or kinds k U8 ≡ kind)
    → count ≤ length kinds → length numbers ≡ length kinds → (rest : List ℕ) × (raw_from e kinds numbers ≡ codes_of kind (take count numbers) ++ rest)
run_front kind zero e kinds numbers at ones room long = (raw_from e kinds numbers, refl)
run_front kind (suc count) e (x ∷ kinds) (z ∷ numbers) at ones room long =
    let w = width kind in
    let r = run_front kind count (e + w) kinds numbers (again kind e at) (λ k lt. ones (suc k) (omega arith)) (omega arith) (omega arith) in
    let is : x ≡ kind = ones 0 (omega arith) in
    let none : e - e ≡ 0 = omega arith in
    (r.0, rw (is, at, none, r.1) (sym (append_assoc (code kind z) (codes_of kind (take count numbers)) r.0)))
run_front kind _ e kinds numbers at ones room long = absurd (omega arith)

-- ---- the first of them anywhere

record Run (kind : Kind) (count e : ℕ) (kinds : List Kind) (numbers : List ℤ) (first : ℕ) : Type 0 where
  before : List ℕ
  after : List ℕ
  long : e + length before ≡ (get_or (spots_from e kinds) first no_spot).offset
  whole : raw_from e kinds numbers ≡ before ++ (codes_of kind (take count (drop first numbers)) ++ after)

run_at : (kind : Kind) (count e : ℕ) (kinds : List Kind) (numbers : List ℤ) (first : ℕ) → 0 < count → AreOne kinds first count kind → first + count ≤ length kinds
    → length numbers ≡ length kinds → Run kind count e kinds numbers first
run_at kind count e (x ∷ kinds) (z ∷ numbers) zero some ones room long =
    let at = aligned (width x) e in
    let a = aligned_is x e in
    let there : aligned (width kind) at ≡ at = subst (λ (y : Kind). aligned (width y) at ≡ at) (ones 0 (omega arith) (omega arith)) (twice x e) in
    let r = run_front kind count at (x ∷ kinds) (z ∷ numbers) there (λ k lt. ones k (omega arith) (omega arith)) (omega arith) long in
    let none : aligned (width x) at - at ≡ 0 = omega (arith, twice x e) in
    record {
      before = replicate (at - e) 0;
      after = r.0;
      long = omega (arith, length-replicate {A = ℕ} (at - e) 0);
      whole = ap (λ (l : List ℕ). replicate (at - e) 0 ++ l) (sym (cc (twice x e)) ∙ r.1);
    }
run_at kind count e (x ∷ kinds) (y ∷ numbers) (suc k) some ones room long =
    let a = aligned_is x e in
    let at = aligned (width x) e in
    let r = run_at kind count (at + width x) kinds numbers k some (λ j le lt. ones (suc j) (omega arith) (omega arith)) (omega arith) (omega arith) in
    let front : List ℕ = replicate (at - e) 0 in
    let codes = codes_of kind (take count (drop k numbers)) in
    record {
      before = front ++ (code x y ++ r.before);
      after = r.after;
      long = omega (arith, length-append front (code x y ++ r.before), length-append (code x y) r.before, length-code x y, length-replicate {A = ℕ} (at - e) 0);
      whole = cc (append_assoc (code x y) r.before (codes ++ r.after), append_assoc front (code x y ++ r.before) (codes ++ r.after));
    }
run_at kind count e _ numbers first some ones room long = absurd (omega arith)

-- ---- their codes

codes_long : (kind : Kind) (numbers : List ℤ) → length (codes_of kind numbers) ≡ length numbers * width kind
codes_long kind [] = omega arith
codes_long kind (z ∷ numbers) = omega (arith, length-append (code kind z) (codes_of kind numbers), length-code kind z, codes_long kind numbers)

-- in a buffer, by what contracts see
pub codes_seen : {spots : List Spot} {bytes : List ℕ} {first count : ℕ} {kind : Kind} {s : Spot} {seen : Held} → held spots bytes ≡ seen → IsHeld spots bytes
    → 0 < count → first + count ≤ length seen.numbers → AreOne seen.kinds first count kind → s ≡ get_or spots first s
    → (s.offset + count * width kind ≤ length bytes) × (take (count * width kind) (drop s.offset bytes) ≡ codes_of kind (take count (drop first seen.numbers)))
codes_seen {spots} {bytes} {first} {count} {kind} {s} same h some room ones is =
    let kinds = kinds_of spots in
    let numbers = map (number_at bytes) spots in
    let all : first + count ≤ length numbers = rw (← same) at room in
    let long : length kinds ≡ length spots = length-map spots (λ s. s.kind) in
    let many : length numbers ≡ length spots = length-map spots (number_at bytes) in
    let r = run_at kind count 0 kinds numbers first some (rw (← same) at ones) (omega arith) h.fit.long in
    let offset : s.offset ≡ (get_or (spots_of kinds) first no_spot).offset = cc (get_or_read spots first s (omega arith) is no_spot) in
    let part = take count (drop first numbers) in
    let some_long : length part ≡ count = length-take-le count (drop first numbers) (omega (arith, length-drop first numbers)) in
    let codes : length (codes_of kind part) ≡ count * width kind = rw some_long at (codes_long kind part) in
    let whole : bytes ≡ r.before ++ (codes_of kind part ++ r.after) = h.raw ∙ r.whole in (
      omega (arith, ap length whole, length-append r.before (codes_of kind part ++ r.after), length-append (codes_of kind part) r.after),
      rw (← same) (cc (part_is r.before (codes_of kind part) r.after s.offset (count * width kind) (omega arith) codes)),
    )
