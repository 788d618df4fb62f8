-- The parts of a section: their slots together, what is fine of an image so far, and which parts
-- came.
use Rattle.vms_bodies.proofs.{Facade.first_missing, Places.none_joined, SpellLaws.at_set, SpellLaws.FitSlots, SpellLaws.fit_append, SpellLaws.rules_append}
use Rattle.vms_bodies.proofs.Facade.{IsVersionOf, or_turned, AreCells, ◌≡◌, ℕ, zero, suc, ◌+◌, ◌<◌, ◌≤◌, List, ◌∷◌, ◌++◌}
use Rattle.vms_bodies.proofs.Facade.{length, map, slice_set, Option, Some, None, ℤ, refl, sym, ap, ◌∙◌, arith, append-nil, [], ◌||◌, flat_map}
use Rattle.vms_bodies.proofs.Facade.{slice_get, or_assoc, cases_lt, ⊎_elim, drop-append_seam, Sub, Device, Set, Slot, Cell, desc_cells, device_cells}
use Rattle.vms_bodies.proofs.Facade.{struct_cells, sub_place, sub_slots, own_cells, came_slots, has_cell, AreVersionsOf, get_or, pos, false, cases_eq}
use Rattle.vms_bodies.proofs.Facade.{cases_Bool, or_parts, slice_get_within, no_cell, Image, own_slots, image_slots, RulesHold, IsNormal, IsValid, FitsCell}
use Rattle.vms_bodies.proofs.Facade.{IsSound, AreSound, DefaultsFit, ◌==◌, Bool, true, length-map, Spells, default_image, sub_head}
use Rattle.vms_bodies.proofs.Places.{names_append, Stands, front_stands, rest_stands, desc_are, meanings_are, cells_first, cells_append, none_in_both}
use Rattle.vms_bodies.proofs.SettledLaws.{own_are, named_fits, SameIn, its_same, its_fit, its_hold, its_below, its_outside}
use Rattle.vms_spec.specs.Streams

-- ---- the parts of a section: where they begin, and what their slots are together

abbrev pub sub_size : Set → Sub → ℕ
sub_size set s = length (desc_cells (struct_cells set) s.desc)

abbrev sub_cells : Set → List Sub → List Cell
sub_cells set subs = flat_map (λ s. desc_cells (struct_cells set) s.desc) subs

-- ---- lists

pub at_other : {A : Type 0} (xs : List A) (k j : ℕ) (x : A) → (j ≡ k → ⊥) → slice_get (slice_set xs k x) j ≡ slice_get xs j
at_other (y ∷ ys) zero zero x ne = absurd (ne refl)
at_other (y ∷ ys) (suc k) (suc j) x ne = at_other ys k j x (λ e. ne (ap suc e))
at_other _ _ _ x ne = refl

-- ---- places

pub sub_place_up : (set : Set) (from : ℕ) (subs : List Sub) (j : ℕ) → from ≤ sub_place set from subs j
sub_place_up set from (s ∷ subs) (suc j) = omega (arith, sub_place_up set (from + sub_size set s) subs j)
sub_place_up set from _ j = omega arith

pub places_apart : (set : Set) (from : ℕ) (subs : List Sub) (i j : ℕ) (s : Sub) → slice_get subs i ≡ Some s → i < j
    → sub_place set from subs i + sub_size set s ≤ sub_place set from subs j
places_apart set from [] i j s e lt = cc
places_apart set from (t ∷ subs) i zero s e lt = absurd (omega arith)
places_apart set from (t ∷ subs) zero (suc j) s e lt = grind (arith, sub_place_up)
places_apart set from (t ∷ subs) (suc i) (suc j) s e lt = places_apart set (from + sub_size set t) subs i j s e (omega arith)

-- a cell of one part is before another or after it
pub parts_apart : (set : Set) (from : ℕ) (subs : List Sub) (i j : ℕ) (s t : Sub) → slice_get subs i ≡ Some s → slice_get subs j ≡ Some t → (i ≡ j → ⊥) → (c : ℕ)
    → sub_place set from subs i ≤ c → c < sub_place set from subs i + sub_size set s → sub_place set from subs j ≤ c
    → sub_place set from subs j + sub_size set t ≤ c
parts_apart set from subs i j s t e f ne c up lt le =
    ⊎_elim (λ (l : i < j). absurd (omega (arith, places_apart set from subs i j s e l)))
    (λ (l : j ≤ i). omega (arith, places_apart set from subs j i t f (omega arith))) (cases_lt i j)

-- ---- cells

-- what holds of cells at a place, and so of their front and of the others, holds of a subsection's at its place
pub cells_of_sub : (P : ℕ → List Cell → Type 0) → ((at : ℕ) (xs ys : List Cell) → P at (xs ++ ys) → P at xs)
    → ((at : ℕ) (xs ys : List Cell) → P at (xs ++ ys) → P (at + length xs) ys) → (set : Set) (from : ℕ) (subs : List Sub) (j : ℕ) (s : Sub)
    → slice_get subs j ≡ Some s
    → P from (flat_map (λ s. desc_cells (struct_cells set) s.desc) subs) → P (sub_place set from subs j) (desc_cells (struct_cells set) s.desc)
cells_of_sub P front rest set from [] j s e h = cc
cells_of_sub P front rest set from (t ∷ subs) zero s e h = let same : t ≡ s = cc in rw (← same) (front from _ (sub_cells set subs) h)
cells_of_sub P front rest set from (t ∷ subs) (suc j) s e h =
    cells_of_sub P front rest set (from + sub_size set t) subs j s e (rest from (desc_cells (struct_cells set) t.desc) _ h)

-- a subsection's slots are among the device's cells
pub sub_are : (set : Set) (d : Device) (j : ℕ) (s : Sub) (v : ℕ) (m : List ℤ) → slice_get d.subs j ≡ Some s
    → AreCells (device_cells set d) (sub_slots set s v m (sub_place set (own_cells set d) d.subs j))
sub_are set d j s v m e =
    let all = device_cells set d in
    let rest : Stands all (own_cells set d) (sub_cells set d.subs) =
    record { more = []; is = rw append-nil (drop-append_seam (desc_cells (struct_cells set) d.desc) (sub_cells set d.subs)) } in
    desc_are _ (meanings_are _ _) s.desc v _ m all (rw (cells_first _ _) (cells_of_sub _ (front_stands all) (rest_stands all) set _ d.subs j s e rest))

-- ---- what holds of all parts that came

module _ (set : Set) (d : Device) (n : List ℤ) (P : List Slot → Type 0) where
  pub parts_together : P [] → ((xs ys : List Slot) → P xs → P ys → P (xs ++ ys)) → (from : ℕ) (subs : List Sub) (came : List (Option ℕ))
      → ((j : ℕ) (s : Sub) (v : ℕ) → slice_get subs j ≡ Some s → slice_get came j ≡ Some (Some v) → P (sub_slots set s v n (sub_place set from subs j)))
      → P (came_slots set d n from subs came)
  parts_together none both from (s ∷ subs) (None ∷ came) h = parts_together none both (from + sub_size set s) subs came (λ j t v e f. h (suc j) t v e f)
  parts_together none both from (s ∷ subs) (Some v ∷ came) h =
      both (sub_slots set s v n from) _ (h 0 s v refl refl) (parts_together none both (from + sub_size set s) subs came (λ j t v e f. h (suc j) t v e f))
  parts_together none both from _ _ h = none

  pub part_apart : ((xs ys : List Slot) → P (xs ++ ys) → P xs × P ys) → (from : ℕ) (subs : List Sub) (came : List (Option ℕ))
      → P (came_slots set d n from subs came)
      → (j : ℕ) (s : Sub) (v : ℕ) → slice_get subs j ≡ Some s → slice_get came j ≡ Some (Some v) → P (sub_slots set s v n (sub_place set from subs j))
  part_apart split from (t ∷ subs) (None ∷ came) h (suc j) s v e f = part_apart split (from + sub_size set t) subs came h j s v e f
  part_apart split from (t ∷ subs) (Some w ∷ came) h zero s v e f = grind arith
  part_apart split from (t ∷ subs) (Some w ∷ came) h (suc j) s v e f =
      part_apart split (from + sub_size set t) subs came (split (sub_slots set t w n from) (came_slots set d n _ subs came) h).1 j s v e f
  part_apart split from _ _ h _ s v e f = cc

-- what is named when one part more came
pub names_next : (set : Set) (d : Device) (n : List ℤ) (c from : ℕ) (subs : List Sub) (came : List (Option ℕ)) (j : ℕ) (s : Sub) (v : ℕ)
    → slice_get subs j ≡ Some s → slice_get came j ≡ Some None → has_cell (came_slots set d n from subs (slice_set came j (Some v))) c
    ≡ (has_cell (sub_slots set s v n (sub_place set from subs j)) c || has_cell (came_slots set d n from subs came) c)
names_next set d n c from (t ∷ subs) (None ∷ came) zero s v e f = grind (arith, names_append)
names_next set d n c from (t ∷ subs) (None ∷ came) (suc j) s v e f = names_next set d n c _ subs came j s v e f
names_next set d n c from (t ∷ subs) (Some w ∷ came) (suc j) s v e f =
    let next = from + sub_size set t in
    let here = sub_slots set t w n from in
    let part = has_cell (sub_slots set s v n (sub_place set next subs j)) c in
    names_append here (came_slots set d n next subs (slice_set came j (Some v))) c
    ∙ ap (λ b. has_cell here c || b) (names_next set d n c next subs came j s v e f) ∙ or_turned _ part _ ∙ or_assoc part _ _
    ∙ ap (λ b. part || b) (sym (names_append here (came_slots set d n next subs came) c))
names_next set d n c from _ _ _ s v e f = cc

-- ---- versions

pub versions_next : (subs : List Sub) (came : List (Option ℕ)) (j : ℕ) (s : Sub) (v : ℕ) → slice_get subs j ≡ Some s → IsVersionOf s.desc v
    → AreVersionsOf subs came → AreVersionsOf subs (slice_set came j (Some v))
versions_next [] came j s v e i h = cc
versions_next (t ∷ subs) [] j s v e i h = absurd h
versions_next (t ∷ subs) (None ∷ came) zero s v e i h = (let a : t ≡ s = cc in rw a i, h)
versions_next (t ∷ subs) (Some w ∷ came) zero s v e i h = (let a : t ≡ s = cc in rw a i, h.1)
versions_next (t ∷ subs) (None ∷ came) (suc j) s v e i h = versions_next subs came j s v e i h
versions_next (t ∷ subs) (Some w ∷ came) (suc j) s v e i h = (h.0, versions_next subs came j s v e i h.1)

pub version_at : (subs : List Sub) (came : List (Option ℕ)) (j : ℕ) (v : ℕ) → AreVersionsOf subs came → slice_get came j ≡ Some (Some v)
    → (s : Sub) × (slice_get subs j ≡ Some s) × IsVersionOf s.desc v
version_at [] (o ∷ came) j v h e = absurd h
version_at (t ∷ subs) (Some w ∷ came) zero v h e = (t, refl, (let a : w ≡ v = cc in rw a at h.0))
version_at (t ∷ subs) (None ∷ came) (suc j) v h e = version_at subs came j v h e
version_at (t ∷ subs) (Some w ∷ came) (suc j) v h e = version_at subs came j v h.1 e
version_at _ _ _ v h e = cc

abbrev pub none_of : List Sub → List (Option ℕ)
none_of subs = map (λ s. None) subs

pub none_came : (subs : List Sub) (j : ℕ) (v : ℕ) → slice_get (none_of subs) j ≡ Some (Some v) → ⊥
none_came (s ∷ subs) (suc j) v e = none_came subs j v e
none_came _ _ v e = cc

-- ---- what came, what is still to come, and both together

abbrev pub Beside : List (Option ℕ) → List (Option ℕ) → List (Option ℕ) → Type 0
Beside [] [] [] = Unit {0}
Beside (None ∷ came) (x ∷ left) (y ∷ all) = (x ≡ y) × Beside came left all
Beside (Some v ∷ came) (x ∷ left) (y ∷ all) = (x ≡ None) × (y ≡ Some v) × Beside came left all
Beside _ _ _ = ⊥

pub beside_first : (subs : List Sub) (all : List (Option ℕ)) → AreVersionsOf subs all → Beside (none_of subs) all all
beside_first [] [] h = tt
beside_first (s ∷ subs) (None ∷ all) h = (refl, beside_first subs all h)
beside_first (s ∷ subs) (Some v ∷ all) h = (refl, beside_first subs all h.1)
beside_first _ _ h = absurd h

pub beside_start : (subs : List Sub) (left all : List (Option ℕ)) → Beside (none_of subs) left all → left ≡ all
beside_start [] [] [] b = refl
beside_start (s ∷ subs) (x ∷ left) (y ∷ all) b = let e = b.0 in let f = beside_start subs left all b.1 in cc
beside_start _ _ _ b = absurd b

pub beside_next : (came left all : List (Option ℕ)) (j v : ℕ) → Beside came left all → slice_get left j ≡ Some (Some v)
    → (slice_get came j ≡ Some None) × (slice_get all j ≡ Some (Some v)) × Beside (slice_set came j (Some v)) (slice_set left j None) all
beside_next [] [] [] j v b e = cc
beside_next (None ∷ came) (x ∷ left) (y ∷ all) zero v b e = grind arith
beside_next (Some w ∷ came) (x ∷ left) (y ∷ all) zero v b e = let f = b.0 in cc
beside_next (None ∷ came) (x ∷ left) (y ∷ all) (suc j) v b e = let h = beside_next came left all j v b.1 e in (h.0, h.1, (b.0, h.2))
beside_next (Some w ∷ came) (x ∷ left) (y ∷ all) (suc j) v b e = let h = beside_next came left all j v b.2 e in (h.0, h.1, (b.0, b.1, h.2))
beside_next _ _ _ j v b e = absurd b

pub beside_back : (came left all : List (Option ℕ)) (j v : ℕ) → Beside (slice_set came j (Some v)) left all → slice_get came j ≡ Some None
    → (slice_get all j ≡ Some (Some v)) × (slice_get (slice_set left j (Some v)) j ≡ Some (Some v)) × (slice_set (slice_set left j (Some v)) j None ≡ left)
    × Beside came (slice_set left j (Some v)) all
beside_back [] left all j v b e = cc
beside_back (Some w ∷ came) left all zero v b e = cc
beside_back (None ∷ came) (x ∷ left) (y ∷ all) zero v b e = (ap Some b.1, refl, rw (sym b.0), (sym b.1, b.2))
beside_back (None ∷ came) (x ∷ left) (y ∷ all) (suc j) v b e = let h = beside_back came left all j v b.1 e in (h.0, h.1, ap (λ l. x ∷ l) h.2, (b.0, h.3))
beside_back (Some w ∷ came) (x ∷ left) (y ∷ all) (suc j) v b e =
    let h = beside_back came left all j v b.2 e in (h.0, h.1, ap (λ l. x ∷ l) h.2, (b.0, b.1, h.3))
beside_back _ _ _ zero v b e = absurd b
beside_back _ _ _ (suc j) v b e = absurd b

pub beside_end : (came left all : List (Option ℕ)) → Beside came left all → Streams.AreAll left → came ≡ all
beside_end [] [] [] b a = refl
beside_end (None ∷ came) (None ∷ left) (y ∷ all) b a = let e = b.0 in let f = beside_end came left all b.1 a in cc
beside_end (Some w ∷ came) (None ∷ left) (y ∷ all) b a = let e = b.1 in let f = beside_end came left all b.2 a in cc
beside_end (o ∷ came) (Some v ∷ left) all b a = absurd a
beside_end _ _ _ b a = absurd b

-- nothing is left
pub beside_done : (came : List (Option ℕ)) → (left : List (Option ℕ)) × Beside came left came × Streams.AreAll left
beside_done [] = ([], tt, tt)
beside_done (None ∷ came) = let h = beside_done came in (None ∷ h.0, (refl, h.1), h.2)
beside_done (Some v ∷ came) = let h = beside_done came in (None ∷ h.0, (refl, refl, h.1), h.2)

-- ---- an image whose parts so far are read is normal and valid so far, and stays so when one part more is read

-- where subsection j begins
abbrev pub part_place : Set → Device → ℕ → ℕ
part_place set d j = sub_place set (own_cells set d) d.subs j

-- one image, all of whose parts so far are right
pub record Fine (set : Set) (d : Device) (v : ℕ) (came : List (Option ℕ)) (n : List ℤ) : Type 0 where
  pub versions : AreVersionsOf d.subs came
  pub long : length n ≡ length (device_cells set d)
  pub own_fits : FitSlots n (own_slots set d v n)
  pub own_rules : RulesHold (own_slots set d v n)
  pub fits : (j : ℕ) (s : Sub) (w : ℕ) → slice_get d.subs j ≡ Some s → slice_get came j ≡ Some (Some w) → FitSlots n (sub_slots set s w n (part_place set d j))
  pub rules : (j : ℕ) (s : Sub) (w : ℕ) → slice_get d.subs j ≡ Some s → slice_get came j ≡ Some (Some w) → RulesHold (sub_slots set s w n (part_place set d j))
  pub absent : (c : ℕ) → has_cell (own_slots set d v n) c ≡ false → has_cell (came_slots set d n (own_cells set d) d.subs came) c ≡ false
      → get_or n c (pos 0) ≡ (get_or (device_cells set d) c no_cell).default

-- the cells of the parts that came are the same
pub record Stays (set : Set) (d : Device) (came : List (Option ℕ)) (n m : List ℤ) : Type 0 where
  pub own : SameIn 0 (0 + own_cells set d) n m
  pub parts : (i : ℕ) (s : Sub) (x : ℕ) → slice_get d.subs i ≡ Some s → slice_get came i ≡ Some (Some x)
      → SameIn (part_place set d i) (part_place set d i + sub_size set s) n m

pub in_trans : (low end : ℕ) (n m k : List ℤ) → SameIn low end n m → SameIn low end m k → SameIn low end n k
in_trans low end n m k a b = record { same = λ c up lt. b.same c up lt ∙ a.same c up lt }

pub in_refl : (low end : ℕ) (n : List ℤ) → SameIn low end n n
in_refl low end n = record { same = λ c up lt. refl }

pub stays_refl : (set : Set) (d : Device) (came : List (Option ℕ)) (n : List ℤ) → Stays set d came n n
stays_refl set d came n = record { own = in_refl 0 _ n; parts = λ i s x e f. in_refl _ _ n }

-- what came is another than what did not
other_part : (came : List (Option ℕ)) (i j x : ℕ) → slice_get came i ≡ Some (Some x) → slice_get came j ≡ Some None → i ≡ j → ⊥
other_part came i j x e f same = cc

pub stays_on : (set : Set) (d : Device) (came : List (Option ℕ)) (j w : ℕ) (n m k : List ℤ) → slice_get came j ≡ Some None → Stays set d came n m
    → Stays set d (slice_set came j (Some w)) m k → Stays set d came n k
stays_on set d came j w n m k f a b = record {
  own = in_trans _ _ _ _ _ a.own b.own;
  parts = λ i s x e g. in_trans _ _ _ _ _ (a.parts i s x e g) (b.parts i s x e (grind (arith, at_other)));
}

-- a part's body changes its own cells alone
pub stays_next : (set : Set) (d : Device) (came : List (Option ℕ)) (j w : ℕ) (t : Sub) (n m : List ℤ) → slice_get d.subs j ≡ Some t
    → slice_get came j ≡ Some None
    → ((c : ℕ) → has_cell (sub_slots set t w m (part_place set d j)) c ≡ false → get_or m c (pos 0) ≡ get_or n c (pos 0)) → Stays set d came n m
stays_next set d came j w t n m there new kept =
    let first = own_cells set d in
    record {
      own = record { same = λ c up lt. kept c (its_below set t.desc w _ m c (omega (arith, sub_place_up set first d.subs j))) };
      parts = λ i s x e f. record {
        same = λ c up lt. kept c (its_outside set t.desc w _ m c
            (parts_apart set first d.subs i j s t e there (other_part came i j x f new) c up lt));
      };
    }

-- what holds of the new part and of those before holds of all
pub next_parts : (subs : List Sub) (came : List (Option ℕ)) (j w : ℕ) (t : Sub) (P : ℕ → Sub → ℕ → Type 0) → slice_get subs j ≡ Some t
    → slice_get came j ≡ Some None → P j t w → ((i : ℕ) (s : Sub) (x : ℕ) → slice_get subs i ≡ Some s → slice_get came i ≡ Some (Some x) → P i s x)
    → (i : ℕ) (s : Sub) (x : ℕ) → slice_get subs i ≡ Some s → slice_get (slice_set came j (Some w)) i ≡ Some (Some x) → P i s x
next_parts subs came j w t P there new here before i s x e f =
    ⊎_elim (λ (same : i ≡ j).
    let g = at_set _ _ (Some w) (slice_get_within came j None new) in
    let ts : t ≡ s = cc in
    let wx : w ≡ x = cc in
    rw (same, ← ts, ← wx) here) (λ (ne : i ≡ j → ⊥). before i s x e (sym (at_other _ _ _ _ ne) ∙ f)) (cases_eq i j)

-- the slots of the parts that came name the same cells
pub names_stay : (set : Set) (d : Device) (came : List (Option ℕ)) (n m : List ℤ) (c : ℕ) → AreSound set.structs
    → ((j : ℕ) (s : Sub) → slice_get d.subs j ≡ Some s → IsSound s.desc) → Stays set d came n m
    → has_cell (came_slots set d m (own_cells set d) d.subs came) c ≡ false → has_cell (came_slots set d n (own_cells set d) d.subs came) c ≡ false
names_stay set d came n m c structs sound stays h =
    parts_together set d n (λ xs. has_cell xs c ≡ false) refl (none_joined c) _ d.subs came (λ i s x e f.
    rw (← (its_same set s.desc x _ structs (sound i s e) n m (stays.parts i s x e f)))
    (part_apart set d m (λ xs. has_cell xs c ≡ false) (none_in_both c) _ d.subs came h i s x e f))

pub fine_next : (set : Set) (d : Device) (v : ℕ) (came : List (Option ℕ)) (n m : List ℤ) (j w : ℕ) (t : Sub) → AreSound set.structs → IsSound d.desc
    → ((j : ℕ) (s : Sub) → slice_get d.subs j ≡ Some s → IsSound s.desc) → slice_get d.subs j ≡ Some t → slice_get came j ≡ Some None → IsVersionOf t.desc w
    → length m ≡ length n → FitSlots m (sub_slots set t w m (part_place set d j)) → RulesHold (sub_slots set t w m (part_place set d j))
    → ((c : ℕ) → has_cell (sub_slots set t w m (part_place set d j)) c ≡ false → get_or m c (pos 0) ≡ get_or n c (pos 0))
    → Fine set d v came n → Fine set d v (slice_set came j (Some w)) m
fine_next set d v came n m j w t structs own sound there new version long fits rules kept f =
    let stays = stays_next set d came j w t n m there new kept in
    record {
      versions = versions_next d.subs came j t w there version f.versions;
      long = cc;
      own_fits = its_fit set d.desc v 0 structs own n m stays.own f.own_fits;
      own_rules = its_hold set d.desc v 0 structs own n m stays.own f.own_rules;
      fits = next_parts d.subs came j w t (λ i s x. FitSlots m (sub_slots set s x m (part_place set d i))) there new fits
          (λ i s x e g. its_fit set s.desc x _ structs (sound i s e) n m (stays.parts i s x e g) (f.fits i s x e g));
      rules = next_parts d.subs came j w t (λ i s x. RulesHold (sub_slots set s x m (part_place set d i))) there new rules
          (λ i s x e g. its_hold set s.desc x _ structs (sound i s e) n m (stays.parts i s x e g) (f.rules i s x e g));
      absent = λ c a b.
          let both = or_parts _ _ (sym (names_next set d m c _ d.subs came j t w there new) ∙ b) in
          kept c both.0 ∙ f.absent c (rw (its_same set d.desc v 0 structs own n m stays.own) at a) (names_stay set d came n m c structs sound stays both.1);
    }

-- ---- the image at last

pub image_are : (set : Set) (d : Device) (image : Image) → AreCells (device_cells set d) (image_slots set d image)
image_are set d image =
    cells_append (device_cells set d) (own_slots set d image.version image.numbers) _ (own_are set d _ _)
    (parts_together set d _ _ tt (cells_append (device_cells set d)) _ d.subs _
    (λ j s w e f. sub_are set d j s w _ e))

-- the number of a cell fits if it is named or at its default
cell_fits : (all : List Cell) (n : List ℤ) (slots : List Slot) → DefaultsFit all → AreCells all slots → FitSlots n slots
    → ((c : ℕ) → has_cell slots c ≡ false → get_or n c (pos 0) ≡ (get_or all c no_cell).default) → (c : ℕ) → c < length all
    → FitsCell (get_or all c no_cell) (get_or n c (pos 0))
cell_fits all n slots fine a f h c lt =
    ⊎_elim (λ e. named_fits all n slots c e f a) (λ e. rw (h c e) (fine c lt)) (cases_Bool (has_cell slots c))

pub fine_normal : (set : Set) (d : Device) (v : ℕ) (came : List (Option ℕ)) (n : List ℤ) → IsVersionOf d.desc v → DefaultsFit (device_cells set d)
    → Fine set d v came n → IsNormal set d (record { version = v; came = came; numbers = n })
fine_normal set d v came n version defaults f =
    let image : Image = record { version = v; came = came; numbers = n } in
    let fits : FitSlots n (image_slots set d image) =
    fit_append n (own_slots set d v n) _ f.own_fits (parts_together set d n _ tt (fit_append n) _ d.subs came f.fits) in
    let absent : (c : ℕ) → has_cell (image_slots set d image) c ≡ false → get_or n c (pos 0) ≡ (get_or (device_cells set d) c no_cell).default = λ c e.
    let both = none_in_both c (own_slots set d v n) _ e in f.absent c both.0 both.1 in
    record {
      version = version;
      subs = f.versions;
      cells = record { long = f.long; fits = cell_fits (device_cells set d) n (image_slots set d image) defaults (image_are set d image) fits absent };
      absent = λ c lt e. absent c e;
    }

pub fine_valid : (set : Set) (d : Device) (v : ℕ) (came : List (Option ℕ)) (n : List ℤ) → Fine set d v came n
    → IsValid set d (record { version = v; came = came; numbers = n })
fine_valid set d v came n f = rules_append (own_slots set d v n) _ f.own_rules (parts_together set d n _ tt rules_append _ d.subs came f.rules)

-- ---- which devices and which subsections came: devices

pub all_came : (k : ℕ) (came : List Bool) → first_missing k came ≡ None → Streams.AllCame came
all_came k [] e = tt
all_came k (true ∷ came) e = all_came (suc k) came e
all_came k (false ∷ came) e = cc

pub falses : (ds : List Device) → length (map (λ (d : Device). false) ds) ≡ length ds
falses ds = length-map ds _

pub defaults_of : (set : Set) (ds : List Device) → length (map (default_image set) ds) ≡ length ds
defaults_of set ds = length-map ds _

pub never_true : (ds : List Device) (k : ℕ) → slice_get (map (λ (d : Device). false) ds) k ≡ Some true → ⊥
never_true (d ∷ ds) (suc k) e = never_true ds k e
never_true _ _ e = cc

pub none_missing : (k : ℕ) (came : List Bool) → Streams.AllCame came → first_missing k came ≡ None
none_missing k [] h = refl
none_missing k (true ∷ came) h = none_missing (suc k) came h
none_missing k (false ∷ came) h = absurd h

pub came_at : (came : List Bool) (k : ℕ) → Streams.AllCame came → k < length came → slice_get came k ≡ Some true
came_at [] k h lt = absurd (omega arith)
came_at (true ∷ came) zero h lt = refl
came_at (true ∷ came) (suc k) h lt = came_at came k h (omega arith)
came_at (false ∷ came) k h lt = absurd h

pub same_lists : {A : Type 0} (xs ys : List A) → length xs ≡ length ys → ((k : ℕ) → k < length xs → slice_get xs k ≡ slice_get ys k) → xs ≡ ys
same_lists [] [] e h = refl
same_lists (x ∷ xs) (y ∷ ys) e h =
    let a : Some x ≡ Some y = h 0 (omega arith) in
    let c = same_lists xs ys (omega arith) (λ k lt. h (suc k) (omega arith)) in
    cc
same_lists _ _ e h = absurd (omega arith)

pub agrees : (images now : List Image) (came : List Bool) (k j : ℕ) (image : Image) → k < length now → slice_get images k ≡ Some image
    → (slice_get came j ≡ Some true → slice_get now j ≡ slice_get images j) → slice_get (slice_set came k true) j ≡ Some true
    → (b : Bool) → (j == k) ≡ b → slice_get (slice_set now k image) j ≡ slice_get images j
agrees images now came k j image lt found agree e b same = grind (arith, at_set, at_other)

-- ---- subsections

pub none_versions : (subs : List Sub) → AreVersionsOf subs (none_of subs)
none_versions [] = tt
none_versions (s ∷ subs) = none_versions subs

pub sub_front : (set : Set) (d : Device) (image : Image) (j w : ℕ) (s : Sub) (body : List ℕ) (o : Option Sub) (p : Option (Option ℕ)) → Some s ≡ o
    → Some (Some w) ≡ p → Spells image.numbers (sub_slots set s w image.numbers (part_place set d j)) body
    → Streams.SubSpells set d image j o p (sub_head s.desc.name w ++ body)
sub_front set d image j w s body o p e f h = rw (← e, ← f) (body, h, refl)
