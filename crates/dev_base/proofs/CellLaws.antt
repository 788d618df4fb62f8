-- Cells of given kinds, and what lists of fields and tables of origins make of them.
use Rattle.std.proofs.{lemmas.Int.ints, lemmas.List.get_or-replicate, lemmas.Slice.Eq.bytes_eq-Decides, Math.Seq.take-append_seam, Math.Seq.drop-append_seam}
use Rattle.std.proofs.Common.{◌≡◌, ℕ, zero, suc, ◌^◌, ◌<◌, ◌==◌, Bool, true, false, cond, List, [], ◌∷◌, ◌++◌, length, ℤ, pos}
use Rattle.std.proofs.Common.{refl, arith, ap, ◌+◌, ◌≤◌, take, drop, ◌∙◌, drop-cons, ◌-◌, ◌&&◌, replicate}
use Rattle.std.proofs.Common.{if◌then◌else◌, ◌⊎◌, inl, inr, sym, length-append, append_assoc, get_or, set, subst, ⊎_elim}
use Rattle.std.proofs.lemmas.Bool.{cases_Bool, false≢true, and_parts, cases_lt}
use Rattle.std.proofs.lemmas.List.{map-append, get_or_append_left, get_or-append_right, length-replicate, ext_get_or, get_or-set_same, get_or-set_other}
use Rattle.std.proofs.lemmas.List.FromFn.{map-range_with_len_more, length-map-range_with_len, get_or-map-range_with_len}
use Rattle.std.specs.Str.{bytes_eq}
use Rattle.vms_kinds.specs.{Codes.InRange, Codes.highest, declared.Kind.Kind}
use Rattle.vms_kinds.specs.declared.Kind.TheVariants.{U8, U16, U64, Bool as Truth, Timer}
use Rattle.dev_base.specs.Cells.{cell_at, nat_of, flag_number, kind_at, AreOf, firsts}
use Rattle.dev_base.specs.Tables.{Origin, number_of, carried_by, places, default_of, origins_from}
use Rattle.vms_fields.specs.Fields.{Row, Named, size_of, is_in, numbers_of, kinds_under, cells_under, place_from}

-- ---- cells of given kinds: how lists of them are joined and split, and the ranges of their numbers

pub of_none : AreOf [] []
of_none = record { count = refl; in_range = λ place h. absurd (omega (arith, h)) }

cons-range : (kind : Kind) (number : ℤ) (kinds : List Kind) (cells : List ℤ) → InRange kind number → AreOf kinds cells → (place : ℕ) → place < length (kind ∷ kinds) → InRange (kind_at (kind ∷ kinds) place) (cell_at (number ∷ cells) place)
cons-range kind number kinds cells first rest place h = grind arith

pub of_more : (kind : Kind) (number : ℤ) (kinds : List Kind) (cells : List ℤ) → InRange kind number → AreOf kinds cells → AreOf (kind ∷ kinds) (number ∷ cells)
of_more kind number kinds cells first rest = search (arith, cons-range)

-- The first cell, and the rest.
pub of_first : (kind : Kind) (number : ℤ) (kinds : List Kind) (cells : List ℤ) → AreOf (kind ∷ kinds) (number ∷ cells) → InRange kind number
of_first kind number kinds cells all = all.in_range 0 (omega arith)

pub of_rest : (kind : Kind) (number : ℤ) (kinds : List Kind) (cells : List ℤ) → AreOf (kind ∷ kinds) (number ∷ cells) → AreOf kinds cells
of_rest kind number kinds cells all = record {
  count = let e = all.count in omega (arith, e);
  in_range = λ place h. all.in_range (suc place) (omega (arith, h));
}

-- Lists that follow each other.
pub of_both : (kinds more_kinds : List Kind) (cells more : List ℤ) → AreOf kinds cells → AreOf more_kinds more → AreOf (kinds ++ more_kinds) (cells ++ more)
of_both [] more_kinds [] more all rest = rest
of_both [] more_kinds (number ∷ cells) more all rest = absurd (let e = all.count in omega (arith, e))
of_both (kind ∷ kinds) more_kinds [] more all rest = absurd (let e = all.count in omega (arith, e))
of_both (kind ∷ kinds) more_kinds (number ∷ cells) more all rest =
    of_more kind number (kinds ++ more_kinds) (cells ++ more) (of_first kind number kinds cells all) (of_both kinds more_kinds cells more (of_rest kind number kinds cells all) rest)

-- The cells that are there if a test holds.
pub of_where : (has : Bool) (kinds : List Kind) (cells : List ℤ) → AreOf kinds cells → AreOf (cond has kinds []) (cond has cells [])
of_where has kinds cells all = grind (arith, of_none)

-- Numbers that kinds hold.
pub byte : (n : ℕ) → n < 2 ^ 8 → InRange U8 (pos n)
byte n h = (omega (arith, ints), omega (arith, ints, h))

pub word : (n : ℕ) → n < 2 ^ 16 → InRange U16 (pos n)
word n h = (omega (arith, ints), omega (arith, ints, h))

pub long : (n : ℕ) → n < 2 ^ 64 → InRange U64 (pos n)
long n h = (omega (arith, ints), omega (arith, ints, h))

pub timer : (n : ℕ) → n < 2 ^ 64 → InRange Timer (pos n)
timer n h = (omega (arith, ints), omega (arith, ints, h))

pub flag : (b : Bool) → InRange Truth (pos (flag_number b))
flag b = grind (arith, ints)

-- The converse, for any kind.
pub number-lt : (kind : Kind) (z : ℤ) → InRange kind z → nat_of z < suc (nat_of (highest kind))
number-lt kind z range = grind arith

-- A truth value is that of its number.
pub flag-back : (b : Bool) → (flag_number b == 1) ≡ b
flag-back b = grind arith

-- ---- what tables make of cells

-- Tables that follow each other.
pub carried-append : (cells : List ℤ) (table more : List Origin) → carried_by (table ++ more) cells ≡ carried_by table cells ++ carried_by more cells
carried-append cells table more = map-append (number_of cells) table more

-- Cells of a part of the older set.
pub carried-places : (cells : List ℤ) (first count : ℕ) → first + count ≤ length cells → carried_by (places first count) cells ≡ take count (drop first cells)
carried-places cells first zero h = refl
carried-places cells first (suc count) h =
    let here : first < length cells = omega (arith, h) in
    let bound : (first + 1) + count ≤ length cells = omega (arith, h) in
    let next : suc first ≡ first + 1 = omega arith in
    let e : drop first cells ≡ cell_at cells first ∷ drop (first + 1) cells = drop-cons cells first (pos 0) here ∙ ap (λ n. cell_at cells first ∷ drop n cells) next in
    rw e (ap (λ more. cell_at cells first ∷ more) (carried-places cells (first + 1) count bound))

-- ---- properties of the cells of any list of fields

-- each row has the numbers that it counts, of its kind
abbrev pub AllHold : Named → List Row → Type 0
AllHold named [] = Unit {0}
AllHold named (row ∷ rows) = AreOf (replicate (size_of row) row.shape.kind) (numbers_of named row.name) × AllHold named rows

-- and its default in a set that lacks it
abbrev pub AllLack : Named → ℕ → List Row → Type 0
AllLack named set [] = Unit {0}
AllLack named set (row ∷ rows) = (is_in row.shape.first_set set ≡ false → numbers_of named row.name ≡ replicate (size_of row) row.shape.default) × AllLack named set rows

-- a row of one number, and what else holds
pub one_holds : {Others : Type 0} (kind : Kind) (number : ℤ) → InRange kind number → Others → AreOf (kind ∷ []) (number ∷ []) × Others
one_holds kind number range others = (of_more kind number [] [] range of_none, others)

-- a set has all rows
abbrev pub has_all : List Row → ℕ → Bool
has_all [] set = true
has_all (row ∷ rows) set = is_in row.shape.first_set set && has_all rows set

-- such rows lack nothing
pub none_lacks : (named : Named) (set : ℕ) (rows others : List Row) → has_all rows set ≡ true → AllLack named set others → AllLack named set (rows ++ others)
none_lacks named set [] others h lacks = lacks
none_lacks named set (row ∷ rows) others h lacks =
    let both = and_parts (is_in row.shape.first_set set) (has_all rows set) h in
    (λ e. absurd (false≢true (sym e ∙ both.0)), none_lacks named set rows others both.1 lacks)

counted : (n : ℕ) (kind : Kind) (xs : List ℤ) → AreOf (replicate n kind) xs → length xs ≡ n
counted n kind xs are = cc (length-replicate n kind)

-- the numbers of all rows
abbrev pub whole : Named → List Row → List ℤ
whole named [] = []
whole named (row ∷ rows) = numbers_of named row.name ++ whole named rows

module _ (named : Named) (set : ℕ) where
  pub of_rows : (rows : List Row) → AllHold named rows → AreOf (kinds_under rows set) (cells_under rows set named)
  of_rows [] h = of_none
  of_rows (row ∷ rows) h = of_both _ _ _ _ (of_where (is_in row.shape.first_set set) _ _ h.0) (of_rows rows h.1)

  defaults : (n : ℕ) (z : ℤ) (cells : List ℤ) → carried_by (replicate n (default_of z)) cells ≡ replicate n z
  defaults zero z cells = refl
  defaults (suc n) z cells = rw (defaults n z cells)

  -- a part of what was saved
  taken : (before here after : List ℤ) (at n : ℕ) → at ≡ length before → n ≡ length here → carried_by (places at n) (before ++ (here ++ after)) ≡ here
  taken before here after at n a h =
      rw (a, h)
      (carried-places (before ++ (here ++ after)) (length before) (length here) (omega (arith, length-append before (here ++ after), length-append here after))
      ∙ ap (take (length here)) (drop-append_seam before (here ++ after)) ∙ take-append_seam here after)

  -- one row more, by what its rest gives
  abbrev Carries : List Row → Type 0
  Carries rows = (before : List ℤ) (at : ℕ) → at ≡ length before → carried_by (origins_from at rows set) (before ++ cells_under rows set named) ≡ whole named rows

  carries_more : (row : Row) (rows : List Row) → length (numbers_of named row.name) ≡ size_of row
      → (is_in row.shape.first_set set ≡ false → numbers_of named row.name ≡ replicate (size_of row) row.shape.default) → Carries rows → Carries (row ∷ rows)
  carries_more row rows size lack rest before at a = by (cases_Bool (is_in row.shape.first_set set))
    where
      here : List ℤ
      here = numbers_of named row.name

      by : (is_in row.shape.first_set set ≡ true) ⊎ (is_in row.shape.first_set set ≡ false)
          → carried_by (origins_from at (row ∷ rows) set) (before ++ cells_under (row ∷ rows) set named) ≡ whole named (row ∷ rows)
      by (inl e) =
          rw e
          (carried-append (before ++ (here ++ cells_under rows set named)) (places at (size_of row)) (origins_from (at + size_of row) rows set)
          ∙ ap (λ (l : List ℤ). l ++ carried_by (origins_from (at + size_of row) rows set) (before ++ (here ++ cells_under rows set named)))
          (taken before here (cells_under rows set named) at (size_of row) a (sym size))
          ∙ ap (λ (l : List ℤ). here ++ carried_by (origins_from (at + size_of row) rows set) l) (sym (append_assoc before here (cells_under rows set named)))
          ∙ ap (λ (l : List ℤ). here ++ l) (rest (before ++ here) (at + size_of row) (omega (arith, a, length-append before here, size))))
      by (inr e) =
          rw e
          (carried-append (before ++ cells_under rows set named) (replicate (size_of row) (default_of row.shape.default)) (origins_from at rows set)
          ∙ ap (λ (l : List ℤ). l ++ carried_by (origins_from at rows set) (before ++ cells_under rows set named))
          (defaults (size_of row) row.shape.default (before ++ cells_under rows set named) ∙ sym (lack e))
          ∙ ap (λ (l : List ℤ). here ++ l) (rest before at a))

  pub carried_rows : (rows : List Row) → AllHold named rows → AllLack named set rows → Carries rows
  carried_rows [] h d = λ before at a. refl
  carried_rows (row ∷ rows) h d = carries_more row rows (counted _ _ _ h.0) d.0 (carried_rows rows h.1 d.1)

-- how many cells the field of a name has
abbrev pub size_at : List Row → List ℕ → ℕ
size_at [] name = 0
size_at (row ∷ rows) name = if bytes_eq row.name name then size_of row else size_at rows name

module _ (named : Named) (name : List ℕ) where
  -- a cell of a field is at the index of its name
  abbrev Stands : List Row → Type 0
  Stands rows = (before : List ℤ) (at k : ℕ) → at ≡ length before → k < size_at rows name
      → cell_at (before ++ whole named rows) (place_from at rows name + k) ≡ cell_at (numbers_of named name) k

  stands_more : (row : Row) (rows : List Row) → length (numbers_of named row.name) ≡ size_of row → Stands rows → Stands (row ∷ rows)
  stands_more row rows size rest before at k a l = by (cases_Bool (bytes_eq row.name name))
    where
      here : List ℤ
      here = numbers_of named row.name

      by : (bytes_eq row.name name ≡ true) ⊎ (bytes_eq row.name name ≡ false)
          → cell_at (before ++ whole named (row ∷ rows)) (place_from at (row ∷ rows) name + k) ≡ cell_at (numbers_of named name) k
      by (inl e) =
          let within : k < size_of row = rw e at l in
          rw e
          (get_or-append_right before (here ++ whole named rows) (length before) (at + k) (pos 0) refl (omega (arith, a))
          ∙ ap (cell_at (here ++ whole named rows)) (omega (arith, a)) ∙ get_or_append_left here (whole named rows) (pos 0) k (omega (arith, size, within))
          ∙ ap (λ (text : List ℕ). cell_at (numbers_of named text) k) ((bytes_eq-Decides row.name name).0 e))
      by (inr e) =
          let within : k < size_at rows name = rw e at l in
          rw e
          (rw (sym (append_assoc before here (whole named rows))) (rest (before ++ here) (at + size_of row) k (omega (arith, a, length-append before here, size)) within))

  pub stands : (rows : List Row) → AllHold named rows → Stands rows
  stands [] h = λ before at k a l. absurd (omega (arith, l))
  stands (row ∷ rows) h = stands_more row rows (counted _ _ _ h.0) (stands rows h.1)

-- ---- lists by their places, as loops build them

-- The values of a function at one number more.
pub firsts_more : (f : ℕ → ℕ) (n value : ℕ) (xs ys : List ℕ) → xs ≡ firsts n f → value ≡ f n → ys ≡ xs ++ value ∷ [] → ys ≡ firsts (n + 1) f
firsts_more f n value xs ys x e y = grind (arith, map-range_with_len_more)

-- An array that is filled place by place.
pub one_set : (f : ℕ → ℕ) (xs : List ℕ) (k value : ℕ) → k < length xs → value ≡ f k → ((i : ℕ) → i < k → get_or xs i 0 ≡ f i) → (i : ℕ) → i < k + 1 → get_or (set xs k value) i 0 ≡ f i
one_set f xs k value within e before i l =
    ⊎_elim (λ less. get_or-set_other xs k i value 0 (λ same. omega arith) ∙ before i less)
    (λ last.
    let same : i ≡ k = omega arith in
    subst (λ n. get_or (set xs k value) n 0 ≡ f n) (sym same) (get_or-set_same xs k value 0 within ∙ e)) (cases_lt i k)

pub all_set : (f : ℕ → ℕ) (xs : List ℕ) (n : ℕ) → length xs ≡ n → ((i : ℕ) → i < n → get_or xs i 0 ≡ f i) → xs ≡ firsts n f
all_set f xs n len at =
    ext_get_or 0 xs (firsts n f) (len ∙ sym (length-map-range_with_len f 0 n)) (λ i l.
    let within : i < n = omega (arith, len, l) in
    at i within ∙ sym (get_or-map-range_with_len f 0 n i i 0 within (omega arith)))

-- The kinds of a run of bytes.
pub bytes_within : (front back : List Kind) (n k : ℕ) → length front ≤ k → k < length front + n → kind_at (front ++ (replicate n U8 ++ back)) k ≡ U8
bytes_within front back n k low high =
    let i : k - length front < n = omega arith in
    get_or-append_right front (replicate n U8 ++ back) (length front) k U8 refl low
    ∙ get_or_append_left (replicate n U8) back U8 (k - length front) (rw (length-replicate n U8) i)
    ∙ get_or-replicate n (k - length front) U8 U8 i
