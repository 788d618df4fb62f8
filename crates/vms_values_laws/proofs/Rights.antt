-- Which numbers have fine lines, and which entries.
use Rattle.vms_values_laws.proofs.{SaidLaws.if_none, SaidLaws.lines_both, SecondPass.AreShort, SecondPass.of_numbers}
use Rattle.vms_values_laws.proofs.Facade
use Facade.{has_default, if_both, all_both, all_parts, ◌≡◌, ℕ, Bool, true, false, List, ◌∷◌, ◌++◌, length, get_or, drop, Some, None, ℤ, pos}
use Facade.{refl, sym, ap, ◌∙◌, codes, or_from, and_from, and-true, and-false, not-true, append_assoc, if◌then◌else◌, [], suc, ◌+◌, ◌-◌}
use Facade.{◌<◌, ◌≤◌, ◌&&◌, subst, arith, ⊎_elim, signed_decimal, ne_eqb, and_parts, or_parts, drop-append_seam, get_or_append_left}
use Facade.{get_or-append-add, length-append, cases_lt, Entry, AreCounted, or_else_none, same_number, Cell, no_cell, Slot, FitsCell, has_cell, begins_with}
use Facade.{is_same, ranged, ranges, or_second, same_number_is, within_all, not_exceeds, IsShort, number_holds, Number, Element, What, number_line, printed}
use Facade.{OfNumber, number_reason, element_reason, line_reason, have_defaults, DefaultsFit, names_append, cells_of, slots_of, numbers_in, CountsUp, AreFine}
use Facade.{has_line, Set, AllByRecursion, part_reason, none_joined, is_number, cells_with, slot_of}
use Rattle.vms_spec.specs.declared.ValuesReason.TheVariants as reasons
use Rattle.vms_spec.specs.Layout as slots

-- ---- What a fine line says of its number, and which numbers have fine lines.

pub begins_itself : (front text : List ℕ) → begins_with front (front ++ text) ≡ true
begins_itself [] text = refl
begins_itself (b ∷ front) text = grind (arith, begins_itself front text)

by_front : (front line text : List ℕ) (what : What) (present : Bool) → line ≡ front ++ text
    → (if begins_with front line then element_reason what present (drop (length front) line) else Some reasons.Form) ≡ element_reason what present text
by_front front line text what present e = rw (e, begins_itself front text, drop-append_seam front text)

-- the line of a number is judged by this number
pub line_number : (x : Element) (n : List ℤ) (cell : Cell) → x.what ≡ Number cell → IsShort (get_or n x.cell (pos 0))
    → line_reason (OfNumber x n) (number_line n x) ≡ number_reason cell x.present (get_or n x.cell (pos 0))
line_number x n cell e short =
    let z = get_or n x.cell (pos 0) in
    by_front (x.name ++ codes " = ") (number_line n x) (signed_decimal z) x.what x.present (sym (append_assoc x.name (codes " = ") (signed_decimal z)))
    ∙ rw (e, number_holds z short)

-- a number that fits its cell, and is the default if it is absent
pub record IsFitting (cell : Cell) (present : Bool) (z : ℤ) : Type 0 where
  pub fits : FitsCell cell z
  pub absent : present ≡ false → z ≡ cell.default

pub reason_fits : (cell : Cell) (present : Bool) (z : ℤ) → number_reason cell present z ≡ None → IsFitting cell present z
reason_fits cell present z h =
    let p = or_else_none _ _ h in
    let q = or_else_none _ _ p.1 in
    record {
      fits = (ranges _ z (if_none _ _ p.0), within_all _ z (not-true _ (if_none _ _ q.0)));
      absent = λ e. same_number_is z _ (or_second _ _ (if_none _ _ q.1) e);
    }

pub fits_reason : (cell : Cell) (present : Bool) (z : ℤ) → IsFitting cell present z → number_reason cell present z ≡ None
fits_reason cell present z f =
    rw (ranged _ z f.fits.0, (not_exceeds _ z f.fits.1)) (grind (arith, f.absent, is_same))

-- ---- When the numbers of a part of a state are right: each fits its cell, and is the default if it has no byte.

-- the number of a cell, beside slots
pub record IsRight (n : List ℤ) (ss : List Slot) (k : ℕ) (cell : Cell) : Type 0 where
  pub fits : FitsCell cell (get_or n k (pos 0))
  pub absent : has_cell ss k ≡ false → get_or n k (pos 0) ≡ cell.default

-- the same for these cells, from this one on
pub record AreRight (n : List ℤ) (at : ℕ) (cells : List Cell) (ss : List Slot) : Type 0 where
  pub right : (c k : ℕ) → c < length cells → k ≡ at + c → IsRight n ss k (get_or cells c no_cell)

-- beside slots with at least these bytes
pub right_by : {n : List ℤ} {ss ts : List Slot} {k : ℕ} {cell : Cell} → (has_cell ts k ≡ false → has_cell ss k ≡ false) → IsRight n ss k cell
    → IsRight n ts k cell
right_by h r = record { fits = r.fits; absent = λ e. r.absent (h e) }

pub right_none : (n : List ℤ) (at : ℕ) (ss : List Slot) → AreRight n at [] ss
right_none n at ss = record { right = λ c k lt e. absurd (omega arith) }

pub right_both : (n : List ℤ) (at next : ℕ) (xs ys : List Cell) (ss ts : List Slot) → next ≡ at + length xs → AreRight n at xs ss → AreRight n next ys ts
    → AreRight n at (xs ++ ys) (ss ++ ts)
right_both n at next xs ys ss ts is a b = record {
  right = λ c k lt e.
      ⊎_elim (λ (inside : c < length xs). rw (get_or_append_left xs ys no_cell c inside) (right_by (λ h. (bare k h).0) (a.right c k inside e)))
      (λ (past : length xs ≤ c).
      let m : ℕ = c - length xs in
      let whole : length xs + m ≡ c = omega arith in
      subst (λ (i : ℕ). IsRight n (ss ++ ts) k (get_or (xs ++ ys) i no_cell)) whole
      (rw (get_or-append-add xs ys m no_cell) (right_by (λ h. (bare k h).1) (b.right m k (omega (arith, length-append xs ys)) (omega arith)))))
      (cases_lt c (length xs));
} where
  bare : (k : ℕ) → has_cell (ss ++ ts) k ≡ false → (has_cell ss k ≡ false) × (has_cell ts k ≡ false)
  bare k h = or_parts _ _ (sym (names_append ss ts k) ∙ h)

pub fit_parts : (xs ys : List Cell) → DefaultsFit (xs ++ ys) → DefaultsFit xs × DefaultsFit ys
fit_parts xs ys h = (
  λ c lt. rw (get_or_append_left xs ys no_cell c lt) at (h c (omega (arith, length-append xs ys))),
  λ c lt. rw (get_or-append-add xs ys c no_cell) at (h (length xs + c) (omega (arith, length-append xs ys))),
)

-- the numbers of cells for which a test is false are defaults
abbrev pub AreBare : List ℤ → ℕ → List Cell → (ℕ → Bool) → Type 0
AreBare n at cells test = (c k : ℕ) → c < length cells → k ≡ at + c → test k ≡ false → get_or n k (pos 0) ≡ (get_or cells c no_cell).default

pub fine_rest : (n : List ℤ) (x : Element) (xs : List Element) (b : Bool) → AreFine (of_numbers n (if b then x ∷ printed xs else printed xs))
    → AreFine (of_numbers n (printed xs))
fine_rest n x xs b f = grind arith

pub none_in : (es fs : List Entry) (k : ℕ) → has_line es k ≡ false → has_line fs k ≡ false → has_line (es ++ fs) k ≡ false
none_in es fs k a b = lines_both es fs k ∙ or_from _ _ a b

-- no section or subsection is bad
abbrev pub AreGood : Set → List Entry → Type 0
AreGood set = AllByRecursion (λ (e : Entry). part_reason set e ≡ None)

right_parts : (n : List ℤ) (at next : ℕ) (xs ys : List Cell) (ss ts : List Slot) → next ≡ at + length xs → ((k : ℕ) → k < next → has_cell ts k ≡ false)
    → ((k : ℕ) → next ≤ k → has_cell ss k ≡ false) → AreRight n at (xs ++ ys) (ss ++ ts) → AreRight n at xs ss × AreRight n next ys ts
right_parts n at next xs ys ss ts is below above a = (
  record {
    right = λ c k lt e. rw (← (get_or_append_left xs ys no_cell c lt))
        (right_by (λ bare. none_joined k ss ts bare (below k (omega arith))) (a.right c k (omega (arith, length-append xs ys)) e));
  },
  record {
    right = λ c k lt e. rw (← (get_or-append-add xs ys c no_cell))
        (right_by (λ bare. none_joined k ss ts (above k (omega arith)) bare) (a.right (length xs + c) k (omega (arith, length-append xs ys)) (omega arith)));
  },
)

-- What is known of entries, by the numbers of a state, beside cells from one on and slots; `More` is what else they require.
pub record Known (set : Set) (n : List ℤ) (at : ℕ) (es : List Entry) (cells : List Cell) (ss : List Slot) (More : Type 0) : Type 0 where
  -- cells before and after these have no line and no byte, and a cell without a line has no byte
  pub outside : (k : ℕ) → (at ≤ k → at + length cells ≤ k) → (has_line es k ≡ false) × (has_cell ss k ≡ false)
  pub unsaid : (k : ℕ) → has_line es k ≡ false → has_cell ss k ≡ false
  -- fine lines without a bad part are those of right numbers
  pub said : AreFine es → AreGood set es → DefaultsFit cells → AreBare n at cells (λ k. has_line es k) → AreRight n at cells ss × More
  pub right : AreRight n at cells ss → More → AreFine es × AreGood set es

-- entries, and others behind them
pub known_both : {set : Set} {n : List ℤ} {at next : ℕ} {es fs : List Entry} {xs ys : List Cell} {ss ts : List Slot} {N M O : Type 0} → (N → M → O)
    → (O → N × M) → next ≡ at + length xs → Known set n at es xs ss N → Known set n next fs ys ts M → Known set n at (es ++ fs) (xs ++ ys) (ss ++ ts) O
known_both {set} {n} {at} {next} {es} {fs} {xs} {ys} {ss} {ts} to from is a b = record {
  outside = λ k h.
      let past : at ≤ k → at + (length xs + length ys) ≤ k = rw (length-append xs ys) at h in
      let f = a.outside k (λ low. let p = past low in omega arith) in
      let g = b.outside k (λ low. let p = past (omega arith) in omega arith) in
      (none_in es fs k f.0 g.0, none_joined k ss ts f.1 g.1);
  unsaid = λ k e.
      let p = or_parts _ _ (sym (lines_both es fs k) ∙ e) in none_joined k ss ts (a.unsaid k p.0) (b.unsaid k p.1);
  said = λ f g d bare.
      let f' = all_parts _ es fs f in
      let g' = all_parts _ es fs g in
      let d' = fit_parts xs ys d in
      let p = a.said f'.0 g'.0 d'.0 (λ c k lt e none.
      bare c k (omega (arith, length-append xs ys)) e (none_in es fs k none (b.outside k (λ low. omega arith)).0)
      ∙ ap (λ x. x.default) (get_or_append_left xs ys no_cell c lt)) in
      let q = b.said f'.1 g'.1 d'.1 (λ c k lt e none.
      bare _ k (omega (arith, length-append xs ys)) (omega arith) (none_in es fs k (a.outside k (λ low. omega arith)).0 none)
      ∙ ap (λ x. x.default) (get_or-append-add xs ys c no_cell)) in
      (right_both n at next xs ys ss ts is p.0 q.0, to p.1 q.1);
  right = λ r m.
      let r' = right_parts n at next xs ys ss ts is (λ k lt. (b.outside k (λ low. omega arith)).1) (λ k le. (a.outside k (λ low. omega arith)).1) r in
      let p = a.right r'.0 (from m).0 in
      let q = b.right r'.1 (from m).1 in
      (all_both _ es fs p.0 q.0, all_both _ es fs p.1 q.1);
}

same_bytes : {set : Set} {n : List ℤ} {at : ℕ} {es : List Entry} {cells : List Cell} {ss ts : List Slot} {N : Type 0}
    → ((k : ℕ) → has_cell ts k ≡ has_cell ss k) → Known set n at es cells ss N → Known set n at es cells ts N
same_bytes same p = record {
  outside = λ k h. let o = p.outside k h in (o.0, same k ∙ o.1);
  unsaid = λ k h. same k ∙ p.unsaid k h;
  said = λ f g d b. let q = p.said f g d b in (record { right = λ c k lt e. right_by (λ h. sym (same k) ∙ h) (q.0.right c k lt e) }, q.1);
  right = λ a m. p.right (record { right = λ c k lt e. right_by (λ h. same k ∙ h) (a.right c k lt e) }) m;
}

-- ---- The numbers of a part.

-- one number, which has bytes and a line or not
module _ (set : Set) (n : List ℤ) (short : AreShort n) (x : Element) (cell : Cell) (what : x.what ≡ Number cell) (at : ℕ) (here : x.cell ≡ at) where
  abbrev slot : Slot
  slot = slots.Number x.cell cell.kind cell.capacities

  abbrev line : Bool → List Entry
  line t = of_numbers n (if t then x ∷ [] else [])

  abbrev byte : Bool → List Slot
  byte b = if b then slot ∷ [] else []

  number_unsaid : (k : ℕ) (b t : Bool) → (b ≡ true → t ≡ true) → has_line (line t) k ≡ false → has_cell (byte b) k ≡ false
  number_unsaid k b t c e = grind arith

  hidden : (b : Bool) → has_cell (byte b) at ≡ false → b ≡ false
  hidden b h = grind (arith, here, or_parts)

  number_said : (b t : Bool) → x.present ≡ b → AreFine (line t) → FitsCell cell cell.default
      → (has_line (line t) at ≡ false → get_or n at (pos 0) ≡ cell.default) → IsRight n (byte b) at cell
  number_said b true p f d bare =
      let r = reason_fits cell _ _ (sym (line_number x n cell what (short x.cell)) ∙ f.0) in
      record { fits = rw here at r.fits; absent = λ h. rw here at (r.absent (p ∙ hidden b h)) }
  number_said b false p f d bare = let is = bare refl in record { fits = rw is d; absent = λ h. is }

  one_known : (b t : Bool) → x.present ≡ b → (b ≡ true → t ≡ true) → Known set n at (line t) (cell ∷ []) (byte b) (Unit {0})
  one_known b t p c = record {
    outside = λ k h.
        let ne : x.cell ≡ k → ⊥ = λ e. (let g : at + 1 ≤ k = h (omega arith) in omega arith) in
        let e = ne_eqb x.cell k ne in (
          if_both (λ l. has_line (of_numbers n l) k ≡ false) t _ [] (rw e) refl,
          if_both (λ l. has_cell l k ≡ false) b _ [] (rw e) refl,
        );
    unsaid = λ k e. number_unsaid k b t c e;
    said = λ f g d bare. (
      record {
        right = λ i k lt e.
            let first : i ≡ 0 = omega arith in
            let same : k ≡ at = omega arith in
            rw (first, same) (number_said b t p f (d 0 (omega arith)) (bare 0 at (omega arith) (omega arith)));
      },
      tt,
    );
    right = λ a m.
        let r = a.right 0 at (omega arith) (omega arith) in
        let fine = line_number x n cell what (short x.cell) ∙ fits_reason cell _ _
        (record { fits = rw here r.fits; absent = λ e. rw here (r.absent (rw (sym p ∙ e))) }) in
        if_both (λ l. AreFine (of_numbers n l) × AreGood set (of_numbers n l)) t _ [] ((fine, tt), (refl, tt)) (tt, tt);
  }

  number_known : (b t : Bool) → x.present ≡ b → (b ≡ true → t ≡ true) → (xs : List Element) (cells : List Cell) (ss : List Slot)
      → Known set n (at + 1) (of_numbers n (printed xs)) cells ss (Unit {0})
      → Known set n at (of_numbers n (if t then x ∷ printed xs else printed xs)) (cell ∷ cells) (if b then slot ∷ ss else ss) (Unit {0})
  number_known true true p c xs cells ss k = known_both (λ a b. tt) (λ m. (tt, tt)) refl (one_known true true p c) k
  number_known true false p c xs cells ss k = let f = c refl in cc
  number_known false true p c xs cells ss k = known_both (λ a b. tt) (λ m. (tt, tt)) refl (one_known false true p c) k
  number_known false false p c xs cells ss k = known_both (λ a b. tt) (λ m. (tt, tt)) refl (one_known false false p c) k

pub part : (set : Set) (n : List ℤ) → AreShort n → (at : ℕ) (xs : List Element) → CountsUp at (numbers_in xs) → AreCounted xs
    → Known set n at (of_numbers n (printed xs)) (cells_of xs) (slots_of xs) (Unit {0})
part set n short at [] up counted = record {
  outside = λ k h. (refl, refl);
  unsaid = λ k e. refl;
  said = λ f g d b. (right_none n at [], tt);
  right = λ a m. (tt, tt);
}
part set n short at (x ∷ xs) up counted = by_what x.what refl (λ at u. part set n short at xs u counted.1) up where
  by_what : (w : What) → x.what ≡ w
      → ((next : ℕ) → CountsUp next (numbers_in xs) → Known set n next (of_numbers n (printed xs)) (cells_of xs) (slots_of xs) (Unit {0}))
      → CountsUp at (if is_number w then x ∷ numbers_in xs else numbers_in xs)
      → Known set n at (of_numbers n (if x.counted && is_number w then x ∷ printed xs else printed xs)) (cells_with w (cells_of xs))
      (if x.present then slot_of x.cell w ∷ slots_of xs else slots_of xs) (Unit {0})
  by_what (Number cell) e later u = rw (and-true x.counted) (number_known set n short x cell e at u.0 _ _ refl counted.0 xs _ _ (later (at + 1) u.1))
  by_what _ e later u =
      rw (and-false x.counted) (same_bytes (λ k. if_both (λ l. has_cell l k ≡ has_cell (slots_of xs) k) x.present _ (slots_of xs) refl refl) (later at u))

first_bare : (n : List ℤ) (at : ℕ) (cell : Cell) (cells : List Cell) (c k : ℕ) → c < suc (length cells) → k ≡ at + c → get_or n at (pos 0) ≡ cell.default
    → AreBare n (at + 1) cells (λ k. false) → get_or n k (pos 0) ≡ (get_or (cell ∷ cells) c no_cell).default
first_bare n at cell cells c k lt e is later = grind arith

-- all are defaults exactly if this test is true
abbrev pub IfDefaults : List ℤ → ℕ → List Cell → Bool → Type 0
IfDefaults n at cells have = (have ≡ true → AreBare n at cells (λ k. false)) × (AreBare n at cells (λ k. false) → have ≡ true)

pub defaults_are : (n : List ℤ) (at : ℕ) (xs : List Element) → CountsUp at (numbers_in xs) → IfDefaults n at (cells_of xs) (have_defaults n xs)
defaults_are n at [] up = (λ h c k lt e f. absurd (omega arith), λ b. refl)
defaults_are n at (x ∷ xs) up = by_what x.what (λ next u. defaults_are n next xs u) up where
  by_what : (w : What) → ((next : ℕ) → CountsUp next (numbers_in xs) → IfDefaults n next (cells_of xs) (have_defaults n xs))
      → CountsUp at (if is_number w then x ∷ numbers_in xs else numbers_in xs)
      → IfDefaults n at (cells_with w (cells_of xs)) (has_default n x.cell w && have_defaults n xs)
  by_what (Number cell) later u = (
    λ h c k lt e f.
        let q = and_parts (same_number (get_or n x.cell (pos 0)) cell.default) _ h in
        first_bare n at cell (cells_of xs) c k lt e (rw u.0 at (same_number_is _ cell.default q.0)) ((later (at + 1) u.1).0 q.1),
    λ b.
        let is : get_or n x.cell (pos 0) ≡ cell.default = rw u.0 (b 0 at (omega arith) (omega arith) refl) in
        and_from _ _ (is_same _ cell.default is) ((later (at + 1) u.1).1 (λ i k lt e f. b (suc i) k (omega arith) (omega arith) refl)),
  )
  by_what _ later u = later at u
