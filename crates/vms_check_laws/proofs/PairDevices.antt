-- The subsections of a device, and the partners of its cells.
use Rattle.vms_check_laws.proofs.Facade
use Facade.{places_apart, IsCellOf, ◌≡◌, ◌⊎◌, inl, inr, ℕ, zero, suc, ◌+◌, ◌<◌, ◌≤◌, true, List, ◌∷◌, length, get_or, Option}
use Facade.{Some, None, ℤ, refl, sym, ◌∙◌, arith, flat_map, sub_is, Image, carried_sub, carrying, defaults, sub_came, index, slice_get, length-append}
use Facade.{bytes_eq-Decides, cases_lt, [], slice_get-get_or, Sub, Device, Set, Cell, desc_cells, device_cells, struct_cells, has_cell, own_cells, came_slots}
use Facade.{sub_slots, sub_place, find_sub, names_append, sub_size, ◌*◌, ap, length-replicate, WellFormed, part_partners, no_cell, sub_place_up}
use Facade.{device_parts, sub_clean, sub_found, ArePartners, named_partners, device_partners, get_or_from_slice_get, cells_of_sub, ◌-◌, or_cases}
use Rattle.vms_check_laws.proofs.GoesFields.{part_goes, below_of}
use Rattle.vms_check_laws.proofs.PairLists.{IsBehind, at_left, at_right, before_or_behind, behind_at, AreFrom, at_none, IsOnce, IsPair, paired_append}

-- ---- what has a name, and where it is

pub record Found (subs : List Sub) (name : List ℕ) : Type 0 where
  pub number : ℕ
  pub sub : Sub
  pub found : find_sub 0 subs name ≡ Some number
  pub there : slice_get subs number ≡ Some sub
  pub name_is : sub.desc.name ≡ name

pub look_up : (subs : List Sub) (name : List ℕ) → (find_sub 0 subs name ≡ None) ⊎ Found subs name
look_up subs name = by _ refl where
  by : (r : Option ℕ) → find_sub 0 subs name ≡ r → (find_sub 0 subs name ≡ None) ⊎ Found subs name
  by None h = inl h
  by (Some r) h =
      let f = sub_is subs 0 name r h in
      let same : f.i ≡ r = omega arith in
      inr (record { number = r; sub = f.sub; found = h; there = rw same at f.there; name_is = (bytes_eq-Decides _ name).0 f.name_is })

-- what is carried to a subsection of new: the one of its name came with the older image, or none did
module _ (old new : Set) (d : Device) (image : Image) (t : Sub) where
  pub record Comes : Type 0 where
    pub f : Found d.subs t.desc.name
    pub v : ℕ
    pub is_come : slice_get image.came f.number ≡ Some (Some v)
    pub segment : carried_sub old new d image t ≡ carrying old new image.numbers v f.sub.desc t.desc (sub_place old (own_cells old d) d.subs f.number)

  pub record Stays : Type 0 where
    pub came : sub_came old new (find_sub 0 d.subs t.desc.name) (slice_get image.came (index (find_sub 0 d.subs t.desc.name))) ≡ None
    pub segment : carried_sub old new d image t ≡ defaults (desc_cells (struct_cells new) t.desc)

  pub comes : Stays ⊎ Comes
  comes = elim (look_up d.subs t.desc.name) [ inl none ↦ inl (record { came = rw none; segment = rw none }) | inr f ↦ by_came f _ refl ] where
    by_came : (f : Found d.subs t.desc.name) (o : Option (Option ℕ)) → slice_get image.came f.number ≡ o → Stays ⊎ Comes
    by_came f (Some (Some v)) g = inr (record { f = f; v = v; is_come = g; segment = rw (f.found, f.there, g) })
    by_came f _ g = inl (record { came = rw (f.found, g); segment = rw (f.found, f.there, g) })

-- ---- lists that have one part for each subsection

module _ {A : Type 0} (set : Set) (f : Sub → List A) where
  abbrev Sized : List Sub → Type 0
  Sized subs = (m : ℕ) (s : Sub) → slice_get subs m ≡ Some s → length (f s) ≡ sub_size set s

  -- where something is in such a list
  pub record StandsIn (from : ℕ) (subs : List Sub) (b : ℕ) (o : A) : Type 0 where
    pub m : ℕ
    pub sub : Sub
    pub there : slice_get subs m ≡ Some sub
    pub c : ℕ
    pub is : from + b ≡ sub_place set from subs m + c
    pub inside : c < sub_size set sub
    pub here : slice_get (f sub) c ≡ Some o

  pub stands_in : (from : ℕ) (subs : List Sub) (b : ℕ) (o : A) → Sized subs → slice_get (flat_map f subs) b ≡ Some o → StandsIn from subs b o
  stands_in from [] b o size e = absurd (cc)
  stands_in from (s ∷ subs) b o size e = go (before_or_behind _ b) (λ b' e'. stands_in (from + sub_size set s) subs b' o (λ m t h. size (suc m) t h) e')
    where
      go : (b < length (f s)) ⊎ IsBehind (length (f s)) b → ((b' : ℕ) → slice_get (flat_map f subs) b' ≡ Some o → StandsIn (from + sub_size set s) subs b' o)
          → StandsIn from (s ∷ subs) b o
      go (inl lt) more =
          record { m = 0; sub = s; there = refl; c = b; is = refl; inside = omega (arith, size 0 s refl); here = sym (at_left (f s) _ b lt) ∙ e }
      go (inr behind) more =
          let h = more behind.more (behind_at (f s) _ b behind e) in
          record { m = suc h.m; sub = h.sub; there = h.there; c = h.c; is = omega (arith, size 0 s refl); inside = h.inside; here = h.here }

  -- a part is at its subsection's place
  pub at_place : (from : ℕ) (subs : List Sub) (m : ℕ) (s : Sub) → Sized subs → slice_get subs m ≡ Some s → (b c : ℕ) → c < sub_size set s
      → from + b ≡ sub_place set from subs m + c → slice_get (flat_map f subs) b ≡ slice_get (f s) c
  at_place from [] m s size e b c lt is = absurd (cc)
  at_place from (t ∷ subs) zero s size e b c lt is =
      let same : s ≡ t = cc in
      let b_is : b ≡ c = omega arith in
      rw (same, b_is) (at_left (f t) (flat_map f subs) c (omega (arith, size 0 t refl, rw same at lt)))
  at_place from (t ∷ subs) (suc m) s size e b c lt is =
      let low = sub_place_up set (from + sub_size set t) subs m in
      let long = size 0 t refl in
      let b_is : b ≡ length (f t) + (b - length (f t)) = omega arith in
      rw b_is (at_right (f t) _ _ ∙ at_place (from + sub_size set t) subs m s (λ k u g. size (suc k) u g) e (b - length (f t)) c lt (omega arith))

  pub number_at : (from : ℕ) (subs : List Sub) (m : ℕ) (s : Sub) → Sized subs → slice_get subs m ≡ Some s → (z : A) (b c : ℕ) → c < sub_size set s
      → from + b ≡ sub_place set from subs m + c → get_or (flat_map f subs) b z ≡ get_or (f s) c z
  number_at from subs m s size e z b c lt is = grind (arith, get_or_from_slice_get, at_place, slice_get-get_or)

  pub all_long : (subs : List Sub) → Sized subs → length (flat_map f subs) ≡ length (flat_map (λ s. desc_cells (struct_cells set) s.desc) subs)
  all_long [] size = refl
  all_long (s ∷ subs) size = simp length-append (rw (size 0 s refl, all_long subs (λ m t e. size (suc m) t e)))

-- a subsection's cells end among those of all
pub sub_top : (set : Set) (from : ℕ) (subs : List Sub) (m : ℕ) (s : Sub) → slice_get subs m ≡ Some s
    → sub_place set from subs m + sub_size set s ≤ from + length (flat_map (λ s. desc_cells (struct_cells set) s.desc) subs)
sub_top set from subs m s e =
    cells_of_sub (λ at xs. at + length xs ≤ from + length (flat_map (λ (s : Sub). desc_cells (struct_cells set) s.desc) subs))
    (λ at xs ys h. omega (arith, length-append xs ys)) (λ at xs ys h. omega (arith, length-append xs ys)) set from subs m s e (omega arith)

-- ---- which part a cell in the bytes is of

pub record HasPart (set : Set) (d : Device) (numbers : List ℤ) (from : ℕ) (subs : List Sub) (came : List (Option ℕ)) (c : ℕ) : Type 0 where
  pub j : ℕ
  pub sub : Sub
  pub version : ℕ
  pub there : slice_get subs j ≡ Some sub
  pub is_come : slice_get came j ≡ Some (Some version)
  pub has : has_cell (sub_slots set sub version numbers (sub_place set from subs j)) c ≡ true

pub has_part : (set : Set) (d : Device) (numbers : List ℤ) (from : ℕ) (subs : List Sub) (came : List (Option ℕ)) (c : ℕ)
    → has_cell (came_slots set d numbers from subs came) c ≡ true → HasPart set d numbers from subs came c
has_part set d numbers from (s ∷ subs) (None ∷ came) c e =
    let h = has_part set d numbers (from + sub_size set s) subs came c e in
    record { j = suc h.j; sub = h.sub; version = h.version; there = h.there; is_come = h.is_come; has = h.has }
has_part set d numbers from (s ∷ subs) (Some v ∷ came) c e =
    let next = from + sub_size set s in
    elim (or_cases _ _ (sym (names_append (sub_slots set s v numbers from) (came_slots set d numbers next subs came) c) ∙ e)) [
      | inl f ↦ record { j = 0; sub = s; version = v; there = refl; is_come = refl; has = f }
      | inr f ↦
          let h = has_part set d numbers next subs came c f in
          record { j = suc h.j; sub = h.sub; version = h.version; there = h.there; is_come = h.is_come; has = h.has }
    ]
has_part set d numbers from _ _ c e = cc

-- two numbers of which neither is below the other are one
pub one_number : (i j : ℕ) → (i < j → ⊥) → (j < i → ⊥) → i ≡ j
one_number i j f g = omega arith

-- two subsections that have one cell are one
pub one_part : (set : Set) (from : ℕ) (subs : List Sub) (i j c : ℕ) (s t : Sub) → slice_get subs i ≡ Some s → slice_get subs j ≡ Some t
    → sub_place set from subs i ≤ c → c < sub_place set from subs i + sub_size set s
    → sub_place set from subs j ≤ c → c < sub_place set from subs j + sub_size set t → i ≡ j
one_part set from subs i j c s t e f low high low' high' =
    one_number i j (λ lt. omega (arith, places_apart set from subs i j s e lt)) (λ lt. omega (arith, places_apart set from subs j i t f lt))

-- ---- each cell

module _ (set : Set) where
  abbrev cells_of : Sub → List Cell
  cells_of s = desc_cells (struct_cells set) s.desc

  pub in_one : (from : ℕ) (subs : List Sub) (c : ℕ) → from ≤ c → c < from + length (flat_map cells_of subs)
      → (j : ℕ) × (s : Sub) × (slice_get subs j ≡ Some s) × (sub_place set from subs j ≤ c) × (c < sub_place set from subs j + sub_size set s)
  in_one from [] c low high = absurd (omega arith)
  in_one from (s ∷ subs) c low high = elim (cases_lt c (from + sub_size set s)) [
    | inl lt ↦ (0, s, refl, low, lt)
    | inr le ↦
        let rest = in_one (from + sub_size set s) subs c le (omega (arith, length-append (cells_of s) (flat_map cells_of subs))) in
        (suc rest.0, rest.1, rest.2, rest.3, rest.4)
  ]

  -- a cell of the device is its own, or one of a subsection
  pub own_or_sub : (d : Device) (c : ℕ) → c < length (device_cells set d) → (c < own_cells set d) ⊎ ((j : ℕ) × (s : Sub) × IsCellOf set d j s c)
  own_or_sub d c lt = elim (cases_lt c (own_cells set d)) [
    | inl own ↦ inl own
    | inr le ↦
        let i = in_one _ d.subs c le (omega (arith, length-append (desc_cells (struct_cells set) d.desc) (flat_map cells_of d.subs))) in
        inr (i.0, i.1, record { is = i.2; low = i.3; high = i.4 })
  ]

-- ---- the partners of a device's cells: each is a cell of the newer device, of the same kind, and no cell is the partner of two

module _ (old new : Set) (good_old : WellFormed old) (good_new : WellFormed new) (i : ℕ) (d e : Device) (at_i : slice_get old.devices i ≡ Some d) where
  abbrev old_cells : Sub → List Cell
  old_cells s = desc_cells (struct_cells old) s.desc

  abbrev new_cells : Sub → List Cell
  new_cells s = desc_cells (struct_cells new) s.desc

  -- cell c of a subsection and the newer one of number k, which is a cell of subsection l, of the same name
  pub record IsSubPair (s : Sub) (c k : ℕ) : Type 0 where
    pub f : Found e.subs s.desc.name
    pub pair : IsPair (old_cells s) (new_cells f.sub) (sub_place new (own_cells new e) e.subs f.number) c k
    pub open pair use *

  pub record OneSub (s : Sub) (partners : List (Option ℕ)) : Type 0 where
    pub long : length partners ≡ length (old_cells s)
    pub pairs : (c k : ℕ) → slice_get partners c ≡ Some (Some k) → IsSubPair s c k
    pub once : IsOnce partners

  pub one_sub : (j : ℕ) (s : Sub) → slice_get d.subs j ≡ Some s → OneSub s (named_partners old new e s)
  one_sub j s at_j = elim (look_up e.subs s.desc.name) [
    | inl h ↦
        let none = at_none (length (old_cells s)) in
        rw h (record { long = length-replicate _ None; pairs = λ c k f. absurd (none c k f); once = λ b c k f g. absurd (none b k f) })
    | inr f ↦
        let p = (part_goes old new good_old good_new [] _ s.desc f.sub.desc 0 _ (below_of _ s.desc _ (sub_clean old good_old i j d s at_i at_j))).paired in
        rw (f.found, f.there) (record { long = p.long; pairs = λ c k g. record { f = f; pair = p.pairs c k g }; once = p.once })
  ]

  -- two newer subsections that have one cell are one
  names_of : (s s' : Sub) (c c' k : ℕ) → IsSubPair s c k → IsSubPair s' c' k → s.desc.name ≡ s'.desc.name
  names_of s s' c c' k p q = grind (arith, one_part)

  abbrev qs : List (Option ℕ)
  qs = flat_map (named_partners old new e) d.subs

  pub sized : (m : ℕ) (s : Sub) → slice_get d.subs m ≡ Some s → length (named_partners old new e s) ≡ sub_size old s
  sized m s at = (one_sub m s at).long

  -- the subsection that a cell is of, and its pair
  record InSub (b k : ℕ) : Type 0 where
    stands : StandsIn old (named_partners old new e) (own_cells old d) d.subs b (Some k)
    pair : IsSubPair stands.sub stands.c k

  in_sub : (b k : ℕ) → slice_get qs b ≡ Some (Some k) → InSub b k
  in_sub b k f =
      let w = stands_in old _ _ d.subs b _ sized f in
      record { stands = w; pair = (one_sub w.m w.sub w.there).pairs w.c k w.here }

  once_in : IsOnce qs
  once_in b c k f g =
      let x = in_sub b k f in
      let y = in_sub c k g in
      let v = x.stands in
      let w = y.stands in
      let names = names_of v.sub w.sub v.c w.c k x.pair y.pair in
      let same : v.m ≡ w.m = cc (sub_found old good_old i v.m d v.sub at_i v.there, sub_found old good_old i w.m d w.sub at_i w.there) in
      let one : v.sub ≡ w.sub = cc in
      omega (arith, (one_sub w.m w.sub w.there).once v.c w.c k (rw one at v.here) w.here, ap (sub_place old (own_cells old d) d.subs) same)

  pair_in : (c k : ℕ) → slice_get qs c ≡ Some (Some k) → IsPair (flat_map old_cells d.subs) (flat_map new_cells e.subs) (own_cells new e) c k
  pair_in c k f =
      let z = in_sub c k f in
      let w = z.stands in
      let p = z.pair in
      let b = k - own_cells new e in
      let low = sub_place_up new (own_cells new e) e.subs p.f.number in
      let is : own_cells new e + b ≡ sub_place new (own_cells new e) e.subs p.f.number + p.r = omega arith in
      record {
        r = b;
        is = omega arith;
        inside = omega (arith, sub_top new (own_cells new e) e.subs p.f.number p.f.sub p.f.there);
        kind = rw (
          number_at old old_cells _ d.subs w.m w.sub (λ m s e. refl) w.there no_cell c w.c w.inside w.is,
          number_at new new_cells _ e.subs p.f.number p.f.sub (λ m s e. refl) p.f.there no_cell b p.r p.inside is,
        )
            p.kind;
      }

  -- the subsections, and before them the device's own cells
  pub rest_paired : AreFrom (flat_map old_cells d.subs) (flat_map new_cells e.subs) (own_cells new e) (flat_map (named_partners old new e) d.subs)
  rest_paired = record { long = all_long old _ d.subs sized; pairs = pair_in; once = once_in }

  own : AreFrom (desc_cells (struct_cells old) d.desc) (desc_cells (struct_cells new) e.desc) 0 (part_partners old new d.desc.version d.desc e.desc 0)
  own = (part_goes old new good_old good_new [] _ d.desc e.desc 0 0 (below_of _ d.desc _ (device_parts old good_old i d at_i).0)).paired

  pub device_paired : ArePartners (device_cells old d) (device_cells new e) (device_partners old new d e)
  unfolding device_partners
  device_paired =
      let all = paired_append own (omega arith) rest_paired in
      record {
        long = all.long;
        kinds = λ c k f. let p = all.pairs c k f in let k_is : k ≡ p.r = omega arith in rw k_is (p.inside, p.kind);
        once = all.once;
      }
