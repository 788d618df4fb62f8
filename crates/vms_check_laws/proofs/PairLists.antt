-- Partners of cells among the cells from a place on; numbers that are in the bytes, or at their defaults.
use Rattle.vms_check_laws.proofs.Facade
use Facade.{◌≡◌, ◌⊎◌, inl, inr, ℕ, zero, suc, ◌+◌, ◌-◌, ◌<◌, ◌≤◌, List, ◌∷◌, ◌++◌, length, get_or, replicate, Option}
use Facade.{Some, None, refl, sym, ◌∙◌, arith, slice_get, get_or_append_left, get_or-append-add, length-replicate, cases_lt, ℤ, pos, true}
use Facade.{length-append, length-map, Bool, if◌then◌else◌, [], false, or-false, or_parts, false_from_ne_true, slice_get_within, Cell, no_cell, Kind}
use Facade.{Item, Slot, item_cells, has_cell, has_left, has_right, defaults, names_append, defaults_at, defaults_long, either_of}

abbrev pub one_cell : Kind → List ℕ → ℤ → List Cell
one_cell kind caps default = record { kind = kind; capacities = caps; default = default } ∷ []

-- cell c of these and the one of number k, which is one of the others, the first of which has the number `at`
pub record IsPair (cells others : List Cell) (at c k : ℕ) : Type 0 where
  pub r : ℕ
  pub is : k ≡ at + r
  pub inside : r < length others
  pub kind : (get_or cells c no_cell).kind ≡ (get_or others r no_cell).kind

-- no number is the partner of two
abbrev pub IsOnce : List (Option ℕ) → Type 0
IsOnce partners = (b c k : ℕ) → slice_get partners b ≡ Some (Some k) → slice_get partners c ≡ Some (Some k) → b ≡ c

pub record AreFrom (cells others : List Cell) (at : ℕ) (partners : List (Option ℕ)) : Type 0 where
  pub long : length partners ≡ length cells
  pub pairs : (c k : ℕ) → slice_get partners c ≡ Some (Some k) → IsPair cells others at c k
  pub once : IsOnce partners

pub if_least : (c : Bool) (m most : ℕ) → m ≤ most → (if c then m else 0) ≤ most
if_least c m most h = grind arith

-- what holds of none and of these holds of what is there on both sides, if it is
pub when_there : (P : List Slot → List Slot → Type 0) (s t : Bool) (xs ys : List Slot) → s ≡ t → (s ≡ false → P [] []) → (s ≡ true → P xs ys)
    → P (if s then xs else []) (if t then ys else [])
when_there P s t xs ys e none some = grind arith

-- ---- lists

pub at_left : {A : Type 0} (xs ys : List A) (c : ℕ) → c < length xs → slice_get (xs ++ ys) c ≡ slice_get xs c
at_left [] ys c lt = absurd (omega arith)
at_left (x ∷ xs) ys zero lt = refl
at_left (x ∷ xs) ys (suc c) lt = at_left xs ys c (omega arith)

pub at_right : {A : Type 0} (xs ys : List A) (c : ℕ) → slice_get (xs ++ ys) (length xs + c) ≡ slice_get ys c
at_right [] ys c = grind arith
at_right (x ∷ xs) ys c = grind (arith, at_right xs ys c)

pub at_none : (n c k : ℕ) → slice_get (replicate n None) c ≡ Some (Some k) → ⊥
at_none (suc n) (suc c) k e = at_none n c k e
at_none _ _ k e = cc

-- ---- joined

pub paired_none : (cells others : List Cell) (at n : ℕ) → n ≡ length cells → AreFrom cells others at (replicate n None)
paired_none cells others at n e =
    record { long = length-replicate n None ∙ e; pairs = λ c k h. absurd (at_none n c k h); once = λ b c k h g. absurd (at_none n b k h) }

-- in the first list, or in the second by so much
pub record IsBehind (n c : ℕ) : Type 0 where
  pub more : ℕ
  pub is : c ≡ n + more

pub before_or_behind : (n c : ℕ) → (c < n) ⊎ IsBehind n c
before_or_behind n c = elim (cases_lt c n) [ inl lt ↦ inl lt | inr le ↦ inr (record { more = c - n; is = omega arith }) ]

-- no number is the partner of one before and of one after
abbrev pub Apart : List (Option ℕ) → List (Option ℕ) → Type 0
Apart p q = (b c k : ℕ) → b < length p → IsBehind (length p) c → slice_get (p ++ q) b ≡ Some (Some k) → slice_get (p ++ q) c ≡ Some (Some k) → ⊥

-- an element of the second list
pub behind_at : {A : Type 0} (xs ys : List A) (c : ℕ) (b : IsBehind (length xs) c) {o : Option A} → slice_get (xs ++ ys) c ≡ o → slice_get ys b.more ≡ o
behind_at xs ys c b e = rw (b.is, at_right xs ys b.more) at e

pub once_append : (p q : List (Option ℕ)) → IsOnce p → IsOnce q → Apart p q → IsOnce (p ++ q)
once_append p q first second apart b c k e f = either (before_or_behind _ b) (before_or_behind _ c) where
  either : (b < length p) ⊎ IsBehind (length p) b → (c < length p) ⊎ IsBehind (length p) c → b ≡ c
  either (inl lb) (inl lc) = grind (arith, at_left)
  either (inl lb) (inr dc) = absurd (apart b c k lb dc e f)
  either (inr db) (inl lc) = absurd (apart c b k lc db f e)
  either (inr db) (inr dc) = omega (arith, second db.more dc.more k (behind_at p q b db e) (behind_at p q c dc f))

module _ {xs ys us vs : List Cell} {at next : ℕ} {p q : List (Option ℕ)} (h : AreFrom xs us at p) (seam : next ≡ at + length us)
    (g : AreFrom ys vs next q) where
  pair_left : (c k : ℕ) → c < length p → slice_get (p ++ q) c ≡ Some (Some k) → IsPair xs us at c k
  pair_left c k lt e = h.pairs c k (sym (at_left p q c lt) ∙ e)

  pair_right : (c k : ℕ) (b : IsBehind (length p) c) → slice_get (p ++ q) c ≡ Some (Some k) → IsPair ys vs next b.more k
  pair_right c k b e = g.pairs b.more k (behind_at p q c b e)

  pair_either : (c k : ℕ) → slice_get (p ++ q) c ≡ Some (Some k) → (c < length p) ⊎ IsBehind (length p) c → IsPair (xs ++ ys) (us ++ vs) at c k
  pair_either c k e (inl lt) =
      let i = pair_left c k lt e in
      let kind = rw (← (get_or_append_left xs ys no_cell c (omega arith)), ← (get_or_append_left us vs no_cell i.r i.inside)) at i.kind in
      record { r = i.r; is = i.is; inside = omega (arith, length-append us vs); kind = kind }
  pair_either c k e (inr b) =
      let i = pair_right c k b e in
      let place : length xs + b.more ≡ c = omega arith in
      let kind = rw (← (get_or-append-add xs ys b.more no_cell), ← (get_or-append-add us vs i.r no_cell), place) at i.kind in
      record { r = length us + i.r; is = omega arith; inside = omega (arith, length-append us vs); kind = kind }

  pub paired_append : AreFrom (xs ++ ys) (us ++ vs) at (p ++ q)
  paired_append = record {
    long = omega (arith, length-append p q, length-append xs ys);
    pairs = λ c k e. pair_either c k e (before_or_behind _ c);
    once = once_append p q h.once g.once (λ b c k lt d e f. omega (arith, pair_left b k lt e, pair_right c k d f));
  }

pub record Settled (slots : List Slot) (at : ℕ) (cells : List Cell) (segment : List ℤ) : Type 0 where
  pub each : (c : ℕ) → c < length segment → (has_cell slots (at + c) ≡ true) ⊎ (get_or segment c (pos 0) ≡ get_or (defaults cells) c (pos 0))

pub defaults_size : (cells : List Cell) → length (defaults cells) ≡ length cells
defaults_size cells = length-map cells (λ (c : Cell). c.default)

pub settled_defaults : (slots : List Slot) (at : ℕ) (cells : List Cell) → Settled slots at cells (defaults cells)
settled_defaults slots at cells = record { each = λ c lt. inr refl }

pub settled_empty : (slots : List Slot) (at : ℕ) (cells : List Cell) (segment : List ℤ) → length segment ≡ 0 → Settled slots at cells segment
settled_empty slots at cells segment e = record { each = λ c lt. absurd (omega arith) }

pub defaults_append : (xs ys : List Cell) → defaults (xs ++ ys) ≡ defaults xs ++ defaults ys
defaults_append [] ys = refl
defaults_append (x ∷ xs) ys = rw (defaults_append xs ys)

pub settled_append : {s t : List Slot} {at next : ℕ} {xs ys : List Cell} {zs us : List ℤ} → length zs ≡ length xs → Settled s at xs zs → next ≡ at + length zs
    → Settled t next ys us → Settled (s ++ t) at (xs ++ ys) (zs ++ us)
settled_append {s} {t} {at} {next} {xs} {ys} {zs} {us} size h e k = record { each = λ c lt. by c lt (before_or_behind _ c) } where
  sizes : length (defaults xs) ≡ length zs
  sizes = cc (defaults_size xs)

  by : (c : ℕ) → c < length (zs ++ us) → (c < length zs) ⊎ IsBehind (length zs) c
      → (has_cell (s ++ t) (at + c) ≡ true) ⊎ (get_or (zs ++ us) c (pos 0) ≡ get_or (defaults (xs ++ ys)) c (pos 0))
  by c lt (inl less) =
      rw (defaults_append, get_or_append_left zs us (pos 0) c less, get_or_append_left (defaults xs) (defaults ys) (pos 0) c (omega (arith, sizes)))
      (elim (h.each c less) [ inl has ↦ inl (has_left s t (at + c) has) | inr is ↦ inr is ])
  by c lt (inr b) =
      let place : next + b.more ≡ at + (length (defaults xs) + b.more) = omega (arith, sizes) in
      rw (defaults_append, b.is, get_or-append-add zs us b.more (pos 0), ← sizes, get_or-append-add (defaults xs) (defaults ys) b.more (pos 0))
      (elim (k.each b.more (omega (arith, length-append zs us))) [ inl has ↦ inl (has_right s t _ (rw place at has)) | inr is ↦ inr is ])

pub settled_more : (s t : List Slot) (at : ℕ) (xs : List Cell) (zs : List ℤ) → Settled s at xs zs → Settled (s ++ t) at xs zs
settled_more s t at xs zs h = record { each = λ c lt. elim (h.each c lt) [ inl has ↦ inl (has_left s t (at + c) has) | inr is ↦ inr is ] }

-- defaults don't depend on what is counted
pub same_defaults : (y : List (List Cell)) (j : Item) (caps caps' : List ℕ) (d : ℤ) → defaults (item_cells y j caps d) ≡ defaults (item_cells y j caps' d)
same_defaults y j caps caps' d = grind arith

-- ---- what is carried of a run of cells, cell by cell: the older number if it is in the bytes, else the default

-- slots only of cells between a place and its end
pub record IsWithin (at size : ℕ) (slots : List Slot) : Type 0 where
  pub in_range : (c : ℕ) → has_cell slots c ≡ true → (at ≤ c) × (c < at + size)

pub record Goes (cells others : List Cell) (numbers : List ℤ) (slots : List Slot) (at at' : ℕ) (partners : List (Option ℕ)) (segment : List ℤ) : Type 0 where
  pub paired : AreFrom cells others at' partners
  pub within : IsWithin at (length cells) slots
  pub long : length segment ≡ length others
  pub taken : (c r : ℕ) → slice_get partners c ≡ Some (Some (at' + r)) → has_cell slots (at + c) ≡ true
      → get_or segment r (pos 0) ≡ get_or numbers (at + c) (pos 0)
  pub other : (r : ℕ) → r < length others → ((c : ℕ) → slice_get partners c ≡ Some (Some (at' + r)) → has_cell slots (at + c) ≡ false)
      → get_or segment r (pos 0) ≡ (get_or others r no_cell).default

-- if none of the cells is in the bytes, all is default
pub goes_absent : {cells others : List Cell} {numbers : List ℤ} {at at' : ℕ} {partners : List (Option ℕ)} → AreFrom cells others at' partners
    → Goes cells others numbers [] at at' partners (defaults others)
goes_absent {others} h = record {
  paired = h;
  within = record { in_range = λ c h. absurd (cc) };
  long = defaults_long others;
  taken = λ c r e f. absurd (cc);
  other = λ r lt f. defaults_at others r;
}

-- and where none has a partner
pub goes_alone : {cells others : List Cell} {numbers : List ℤ} {slots : List Slot} {at at' : ℕ} {segment : List ℤ} (n : ℕ) → n ≡ length cells
    → IsWithin at (length cells) slots → segment ≡ defaults others → Goes cells others numbers slots at at' (replicate n None) segment
goes_alone {cells} {others} {numbers} {slots} {at} {at'} n e w is = record {
  paired = paired_none cells others at' n e;
  within = w;
  long = rw is (defaults_long others);
  taken = λ c r f g. absurd (at_none n c _ f);
  other = λ r lt f. rw is (defaults_at others r);
}

-- one run after the other
module _ {cells_a cells_b others_a others_b : List Cell} {numbers : List ℤ} {xs ys : List Slot} {at at' next next' : ℕ} {p q : List (Option ℕ)} {s t : List ℤ}
    (h : Goes cells_a others_a numbers xs at at' p s) (seam : next ≡ at + length cells_a) (seam' : next' ≡ at' + length others_a)
    (g : Goes cells_b others_b numbers ys next next' q t) where
  -- before the seam the second slots have none, and after it the first
  has_first : (c : ℕ) → c < next → has_cell (xs ++ ys) c ≡ has_cell xs c
  has_first c lt = grind (arith, names_append, false_from_ne_true, or-false)

  has_second : (c : ℕ) → next ≤ c → has_cell (xs ++ ys) c ≡ has_cell ys c
  has_second c le = grind (arith, names_append, false_from_ne_true)

  paired : AreFrom (cells_a ++ cells_b) (others_a ++ others_b) at' (p ++ q)
  paired = paired_append h.paired seam' g.paired

  abbrev HasIt : ℕ → ℕ → Type 0
  HasIt c r = slice_get (p ++ q) c ≡ Some (Some (at' + r))

  taken_at : (c r : ℕ) → HasIt c r → has_cell (xs ++ ys) (at + c) ≡ true → (c < length p) ⊎ IsBehind (length p) c
      → get_or (s ++ t) r (pos 0) ≡ get_or numbers (at + c) (pos 0)
  taken_at c r e f (inl lt) =
      let place : slice_get p c ≡ Some (Some (at' + r)) = cc (at_left p q c lt) in
      let pair = h.paired.pairs c (at' + r) place in
      get_or_append_left s t (pos 0) r (omega arith) ∙ h.taken c r place (sym (has_first _ (omega arith)) ∙ f)
  taken_at c r e f (inr b) =
      let place = behind_at p q c b e in
      let pair = g.paired.pairs b.more (at' + r) place in
      let r_is : r ≡ length s + pair.r = omega arith in
      let c_is : at + c ≡ next + b.more = omega arith in
      rw (r_is, get_or-append-add s t pair.r (pos 0), c_is) (g.taken b.more pair.r (rw (← pair.is) place) (rw (has_second (at + c) (omega arith), c_is) at f))

  other_at : (r : ℕ) → r < length (others_a ++ others_b) → ((c : ℕ) → HasIt c r → has_cell (xs ++ ys) (at + c) ≡ false)
      → (r < length others_a) ⊎ IsBehind (length others_a) r → get_or (s ++ t) r (pos 0) ≡ (get_or (others_a ++ others_b) r no_cell).default
  other_at r lt f (inl less) =
      rw (get_or_append_left s t (pos 0) r (omega arith), get_or_append_left others_a others_b no_cell r less)
      (h.other r less (λ c e.
      (or_parts _ _ (sym (names_append xs ys (at + c)) ∙ f c (at_left p q c (slice_get_within p c (Some (at' + r)) e) ∙ e))).0))
  other_at r lt f (inr b) =
      let s_is : length s ≡ length others_a = omega arith in
      let k_is : next' + b.more ≡ at' + r = omega arith in
      let none : (c : ℕ) → slice_get q c ≡ Some (Some (next' + b.more)) → has_cell ys (next + c) ≡ false = λ c e.
      let c_is : at + (length p + c) ≡ next + c = omega arith in
      rw (has_second (at + (length p + c)) (omega arith), c_is) at (f (length p + c) (at_right p q c ∙ rw k_is at e)) in
      rw (b.is, get_or-append-add others_a others_b b.more no_cell, ← s_is, get_or-append-add s t b.more (pos 0))
      (g.other b.more (omega (arith, length-append others_a others_b)) none)

  pub goes_append : Goes (cells_a ++ cells_b) (others_a ++ others_b) numbers (xs ++ ys) at at' (p ++ q) (s ++ t)
  goes_append = record {
    paired = paired;
    within = rw length-append (record {
      in_range = λ c e.
          either_of (has_cell xs c) (has_cell ys c) (sym (names_append xs ys c) ∙ e) (λ f. (let r = h.within.in_range c f in (r.0, omega arith)))
          (λ f. (let r = g.within.in_range c f in (omega arith, omega arith)));
    });
    long = omega (arith, length-append s t, length-append others_a others_b);
    taken = λ c r e f. taken_at c r e f (before_or_behind _ c);
    other = λ r lt f. other_at r lt f (before_or_behind _ r);
  }
