-- What contracts see of a buffer, and what is unchanged when a number is set.
use Rattle.vms_spots.proofs.{Facade.IsHeld, LayoutLaws.few_bytes, LayoutLaws.laid_again, LayoutLaws.kinds_again}
use Rattle.vms_spots.proofs.Facade.{◌≡◌, ℕ, ◌+◌, ◌-◌, ◌<◌, ◌≤◌, List, [], ◌∷◌, ◌++◌, length, get_or, take, drop, map}
use Rattle.vms_spots.proofs.Facade.{replicate, set, ℤ, pos, sym, ap, refl, ◌∙◌, arith, length-append, length-replicate, get_or_read, length-map}
use Rattle.vms_spots.proofs.Facade.{get_or-map, get_or-replicate, replicate-append-replicate, Kind, U8, width, code, InRange, MOST_ITEMS, length-code}
use Rattle.vms_spots.proofs.Facade.{MOST_BYTES, Spot, aligned, spots_of, end_from, bytes_of, no_spot, kinds_of, raw_from, raw_of, AreOf, number_at, Held, held}
use Rattle.vms_spots.proofs.SpotLaws.{aligned_is, spot_is, code_at, numbers_are, set_fits, set_raw, code_0, range_0, end_after}

-- there are the number of bytes that the spots need
pub raw_long : (e : ℕ) (kinds : List Kind) (numbers : List ℤ) → length numbers ≡ length kinds → e + length (raw_from e kinds numbers) ≡ end_from e kinds
raw_long e [] [] long = omega arith
raw_long e (kind ∷ kinds) (z ∷ numbers) long =
    let at = aligned (width kind) e in
    omega (
      arith,
      (aligned_is kind e).below,
      raw_long (at + width kind) kinds numbers (omega arith),
      length-append (replicate (at - e) 0) (code kind z ++ raw_from (at + width kind) kinds numbers),
      length-append (code kind z) (raw_from (at + width kind) kinds numbers),
      length-replicate {A = ℕ} (at - e) 0,
      length-code kind z,
    )
raw_long e _ _ long = absurd (omega arith)

-- ---- one number

-- a cell's spot, by what contracts see of the buffer
pub record AtSpot (spots : List Spot) (bytes : List ℕ) (seen : Held) (cell : ℕ) (s : Spot) : Type 0 where
  pub held_is : IsHeld spots bytes
  pub seen_is : held spots bytes ≡ seen
  pub within : cell < length spots
  pub is : s ≡ get_or spots cell no_spot
  pub small : s.offset ≤ MOST_BYTES
  pub inside : s.offset + width s.kind ≤ length bytes
  pub kind : s.kind ≡ get_or seen.kinds cell U8
  pub number : number_at bytes s ≡ get_or seen.numbers cell (pos 0)
  pub fits : InRange s.kind (number_at bytes s)
  pub code_is : take (width s.kind) (drop s.offset bytes) ≡ code (get_or seen.kinds cell U8) (get_or seen.numbers cell (pos 0))

pub at_spot : {spots : List Spot} {bytes : List ℕ} {cell : ℕ} {s : Spot} → IsHeld spots bytes → cell < length spots → s ≡ get_or spots cell no_spot
    → AtSpot spots bytes (held spots bytes) cell s
at_spot {spots} {bytes} {cell} {s} h lt is =
    let kinds = kinds_of spots in
    let numbers = map (number_at bytes) spots in
    let here : cell < length kinds = omega (arith, length-map spots (λ s. s.kind)) in
    let spot = spot_is 0 kinds cell here in
    let same : s ≡ get_or (spots_of kinds) cell no_spot = cc in
    let kind : s.kind ≡ get_or kinds cell U8 = cc in
    let number : number_at bytes s ≡ get_or numbers cell (pos 0) = cc (get_or-map (number_at bytes) spots cell no_spot (pos 0) lt) in
    let fits : InRange s.kind (number_at bytes s) = rw (number, kind) (h.fit.fits cell here) in
    let code_is : take (width s.kind) (drop s.offset bytes) ≡ code (get_or kinds cell U8) (get_or numbers cell (pos 0)) =
    cc (code_at kinds numbers cell here h.fit.long) in
    let all : length bytes ≡ bytes_of kinds = omega (arith, ap length h.raw, raw_long 0 kinds numbers h.fit.long) in
    let inside : s.offset + width s.kind ≤ length bytes = omega (arith, ap (λ (x : Spot). x.offset) same, ap width kind, all, spot.inside) in
    let small : s.offset ≤ MOST_BYTES = omega (arith, few_bytes kinds (omega (arith, h.few, length-map spots (λ s. s.kind)))) in
    record {
      held_is = h;
      seen_is = refl;
      within = lt;
      is = is;
      small = small;
      inside = inside;
      kind = kind;
      number = number;
      fits = fits;
      code_is = code_is;
    }

pub at_cell : {spots : List Spot} {bytes : List ℕ} {seen : Held} {cell : ℕ} {s : Spot} → held spots bytes ≡ seen → IsHeld spots bytes
    → cell < length seen.numbers → s ≡ get_or spots cell s → AtSpot spots bytes seen cell s
at_cell {spots} {bytes} {seen} {cell} {s} same h lt is =
    let within : cell < length spots = omega (arith, rw (← same) at lt, length-map spots (number_at bytes)) in
    rw (← same) (at_spot h within (get_or_read spots cell s within is no_spot))

-- ---- bytes of numbers

pub record Holds (spots : List Spot) (seen : Held) (bytes : List ℕ) : Type 0 where
  pub held_is : IsHeld spots bytes
  pub seen_is : held spots bytes ≡ seen

-- the bytes of numbers in range have these numbers
pub holds : (spots : List Spot) (numbers : List ℤ) (bytes : List ℕ) → length spots ≤ MOST_ITEMS → spots ≡ spots_of (kinds_of spots)
    → AreOf (kinds_of spots) numbers → bytes ≡ raw_of (kinds_of spots) numbers → Holds spots (record { kinds = kinds_of spots; numbers = numbers }) bytes
holds spots numbers bytes few laid are raw = search (arith, number_at, numbers_are)

-- a number is set in place of another
pub puts : {spots : List Spot} {bytes : List ℕ} {seen : Held} {cell : ℕ} {s : Spot} (new part : List ℕ) (n : ℕ) (z : ℤ) → AtSpot spots bytes seen cell s
    → InRange (get_or seen.kinds cell U8) z → part ≡ code s.kind z → n ≡ width s.kind
    → new ≡ take s.offset bytes ++ (part ++ drop n (drop s.offset bytes)) → Holds spots (record seen { numbers = set seen.numbers cell z }) new
puts {spots} {bytes} {seen} {cell} {s} new part n z a fits p w e =
    let kinds = kinds_of spots in
    let numbers = map (number_at bytes) spots in
    let h = a.held_is in
    let laid : spots ≡ spots_of kinds = h.laid in
    let raw : bytes ≡ raw_of kinds numbers = h.raw in
    let offset : (get_or (spots_of kinds) cell no_spot).offset ≡ s.offset = cc in
    let here : cell < length kinds = omega (arith, length-map spots (λ s. s.kind)) in
    let set_is = set_raw kinds numbers cell z s.offset n here h.fit.long offset (cc) in
    rw (← a.seen_is) (holds spots (set numbers cell z) new h.few laid (set_fits kinds numbers cell z h.fit (rw (← a.seen_is) at fits)) (cc))

-- ---- all numbers 0

zeros : (e : ℕ) (kinds : List Kind) (n : ℕ) → e + n ≡ end_from e kinds → raw_from e kinds (replicate (length kinds) (pos 0)) ≡ replicate n 0
zeros e [] n end = let none : n ≡ 0 = omega arith in rw none
zeros e (kind ∷ kinds) n end =
    let at = aligned (width kind) e in
    let a = aligned_is kind e in
    let rest = n - ((at - e) + width kind) in
    let more = end_after (at + width kind) kinds in
    let all : (at - e) + (width kind + rest) ≡ n = omega arith in
    rw (
      code_0 kind,
      zeros (at + width kind) kinds rest (omega arith),
      replicate-append-replicate {A = ℕ} (width kind) rest 0,
      replicate-append-replicate {A = ℕ} (at - e) (width kind + rest) 0,
      all,
    )

zeros_fit : (kinds : List Kind) → AreOf kinds (replicate (length kinds) (pos 0))
zeros_fit kinds = record {
  long = length-replicate (length kinds) (pos 0);
  fits = λ k lt. rw (get_or-replicate (length kinds) k (pos 0) (pos 0) lt) (range_0 (get_or kinds k U8));
}

-- a new buffer of these kinds
pub begun : {kinds : List Kind} (spots : List Spot) (bytes : List ℕ) (n : ℕ) → length kinds ≤ MOST_ITEMS → spots ≡ spots_of kinds
    → n ≡ bytes_of (kinds_of spots) → bytes ≡ replicate n 0 → Holds spots (record { kinds = kinds; numbers = replicate (length kinds) (pos 0) }) bytes
begun {kinds} spots bytes n few laid size e =
    let same : kinds_of spots ≡ kinds = kinds_again kinds spots laid in
    let few_spots : length spots ≤ MOST_ITEMS = omega (arith, few, length-map spots (λ s. s.kind), ap length same) in
    rw same at (holds spots (replicate (length (kinds_of spots)) (pos 0)) bytes few_spots (laid_again kinds spots laid) (zeros_fit (kinds_of spots))
    (e ∙ sym (zeros 0 (kinds_of spots) n (omega arith))))

-- buffers of the same kinds have the same number of bytes
pub same_long : {spots others : List Spot} {bytes more : List ℕ} {seen other : Held} → held spots bytes ≡ seen → held others more ≡ other
    → IsHeld spots bytes → IsHeld others more → seen.kinds ≡ other.kinds → length bytes ≡ length more
same_long {spots} {others} {bytes} {more} s o h k same = grind (arith, raw_long, number_at)
