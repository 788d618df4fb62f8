-- Walks over the elements of a description, and the laws that they give.
use Rattle.vms_elements.proofs.Facade
use Facade.{get_or-append_right, cells_with, cells_of, names_of, CountsUp, elements_in, ◌≡◌, ℕ, zero, suc, ◌+◌, Bool, true, false, ◌&&◌}
use Facade.{if◌then◌else◌, List, [], ◌∷◌, ◌++◌, length, get_or, map, ℤ, refl, ap, ◌∙◌, subst, arith, append-nil, map-append, length-map}
use Facade.{Item, Num, Struct, Field, Desc, Set, Cell, no_desc, first, times, counted, item_cells, field_cells, cells_from, desc_cells, struct_cells}
use Facade.{numbers_of, pick_append, size_same, one_more, What, Number, Rule, Element, Shape, no_shape, shape, cells_in, dotted, behind, single, item_elements}
use Facade.{Stand, array_elements, field_elements, elements_from, desc_elements, absent, is_number, numbers_in, ElementsLaw, DeviceLaw, TextLaw, Option, Some}
use Facade.{None, zero-add, flat_map, Sub, Device, device_cells, Image, came_slots, slots_of, device_elements, sub_elements, subs_elements, index_text, ◌-◌}
use Facade.{◌*◌, ◌<◌, ◌≤◌, nat_lt, get_or-map, get_or_append_left}
use Rattle.vms_elements.proofs.LinesOf.{elements_slots, slots_append, text_is}
use Rattle.vms_elements.proofs.Members.{shapes_cells, cells_at, Each, all_both, all_map}

-- ---- one walk over the elements of a description, in two states side by side: their cells, their names, that the numbers count
-- up, and that what is in the bytes is counted

abbrev pub IsCounted : Element → Type 0
IsCounted x = x.present ≡ true → x.counted ≡ true

abbrev pub AreCounted : List Element → Type 0
AreCounted xs = Each IsCounted xs

-- ---- lists one after the other

pub cells_append : (xs ys : List Element) → cells_of (xs ++ ys) ≡ cells_of xs ++ cells_of ys
cells_append [] ys = refl
cells_append (x ∷ xs) ys = cc (cells_append xs ys, by x.what)
  where
    by : (w : What) → cells_with w (cells_of xs ++ cells_of ys) ≡ cells_with w (cells_of xs) ++ cells_of ys
    by (Number cell) = refl
    by _ = refl

pub numbers_append : (xs ys : List Element) → numbers_in (xs ++ ys) ≡ numbers_in xs ++ numbers_in ys
numbers_append [] ys = refl
numbers_append (x ∷ xs) ys = pick_append _ x _ _ _ (numbers_append xs ys)

pub names_append : (xs ys : List Element) → names_of (xs ++ ys) ≡ names_of xs ++ names_of ys
names_append xs ys = simp (numbers_append, map-append)

pub numbers_long : (xs : List Element) → length (numbers_in xs) ≡ length (cells_of xs)
numbers_long [] = refl
numbers_long (x ∷ xs) = by x.what (numbers_long xs)
  where
    by : (w : What) → length (numbers_in xs) ≡ length (cells_of xs) → length (if is_number w then x ∷ numbers_in xs else numbers_in xs) ≡ length (cells_with w (cells_of xs))
    by (Number cell) e = ap suc e
    by _ e = e

pub names_long : (xs : List Element) → length (names_of xs) ≡ length (cells_of xs)
names_long xs = simp length-map (numbers_long xs)

pub counts_append : (at : ℕ) (xs ys : List Element) → CountsUp at xs → CountsUp (at + length xs) ys → CountsUp at (xs ++ ys)
counts_append at [] ys h k = subst (λ n. CountsUp n ys) (omega arith) k
counts_append at (x ∷ xs) ys (e, h) k = (e, counts_append (at + 1) xs ys h (subst (λ n. CountsUp n ys) (omega arith) k))

-- ---- a step of the walk, at each element

pub record IsStep (text : List ℕ) (f : Element → Element) : Type 0 where
  pub what : (x : Element) → (f x).what ≡ x.what
  pub cell : (x : Element) → (f x).cell ≡ x.cell
  pub name : (x : Element) → (f x).name ≡ text ++ x.name
  pub counted : (x : Element) → IsCounted x → IsCounted (f x)

pub is_behind : (step : ℕ × ℕ) (text : List ℕ) (below there : Bool) → IsStep text (behind step text below (there && below))
is_behind step text below there = search (arith)

pub is_dotted : IsStep (Rattle.std.proofs.Common.codes ".") dotted
is_dotted = record { what = λ x. refl; cell = λ x. refl; name = λ x. refl; counted = λ x h. h }

pub is_absent : IsStep [] absent
is_absent = record { what = λ x. refl; cell = λ x. refl; name = λ x. refl; counted = λ x h e. cc }

module _ {text : List ℕ} {f : Element → Element} (s : IsStep text f) where
  pub cells_map : (xs : List Element) → cells_of (map f xs) ≡ cells_of xs
  cells_map [] = refl
  cells_map (x ∷ xs) = rw (s.what x, cells_map xs)

  pub names_map : (xs : List Element) → names_of (map f xs) ≡ map (λ l. text ++ l) (names_of xs)
  names_map [] = refl
  names_map (x ∷ xs) = grind (arith, by, names_map xs)
    where
      by : (b c : Bool) → b ≡ c → names_of (map f xs) ≡ map (λ l. text ++ l) (names_of xs)
          → map (λ x. x.name) (if b then f x ∷ numbers_in (map f xs) else numbers_in (map f xs)) ≡ map (λ l. text ++ l) (map (λ x. x.name) (if c then x ∷ numbers_in xs else numbers_in xs))
      by true true q e = rw (s.name x, e)
      by false false q e = e
      by _ _ q e = cc

  pub counts_map : (at : ℕ) (xs : List Element) → CountsUp at (numbers_in xs) → CountsUp at (numbers_in (map f xs))
  counts_map at [] h = tt
  counts_map at (x ∷ xs) h = by (is_number (f x).what) (is_number x.what) (ap is_number (s.what x)) h (λ at. counts_map at xs)
    where
      by : (b c : Bool) → b ≡ c → CountsUp at (if c then x ∷ numbers_in xs else numbers_in xs) → ((at : ℕ) → CountsUp at (numbers_in xs) → CountsUp at (numbers_in (map f xs)))
          → CountsUp at (if b then f x ∷ numbers_in (map f xs) else numbers_in (map f xs))
      by true true q (e, h) more = (s.cell x ∙ e, more (at + 1) h)
      by false false q h more = more at h
      by _ _ q h more = absurd (cc)

-- ---- the walk

-- elements that have these cells from a place on, and others that have the same names
pub record Walks (cells : List Cell) (at : ℕ) (xs ys : List Element) : Type 0 where
  pub cells_are : cells_of xs ≡ cells
  pub up : CountsUp at (numbers_in xs)
  pub names : names_of xs ≡ names_of ys
  pub counted : AreCounted xs

pub then_walks : {c d : List Cell} {at : ℕ} {xs ys us vs : List Element} → Walks c at xs ys → Walks d (at + length c) us vs → Walks (c ++ d) at (xs ++ us) (ys ++ vs)
then_walks {c} {d} {at} {xs} {ys} {us} {vs} h g = search (arith, cells_append, numbers_append, counts_append, numbers_long, names_append, all_both)

pub step_walks : {c : List Cell} {at : ℕ} {xs ys : List Element} {text : List ℕ} {f g : Element → Element} → IsStep text f → IsStep text g → Walks c at xs ys → Walks c at (map f xs) (map g ys)
step_walks {c} {at} {xs} {ys} {text} {f} {g} s t h = record {
  cells_are = cc (cells_map s xs);
  up = counts_map s at xs h.up;
  names = rw (names_map s xs, names_map t ys, h.names);
  counted = all_map IsCounted IsCounted f s.counted xs h.counted;
}

pub no_walk : (at : ℕ) → Walks [] at [] []
no_walk at = record { cells_are = refl; up = tt; names = refl; counted = tt }

-- one element that is no number
other_walks : (at k l : ℕ) (w v : What) → is_number w ≡ false → is_number v ≡ false → Walks [] at (single k w ∷ []) (single l v ∷ [])
other_walks at k l (Number c) v e f = cc
other_walks at k l w (Number c) e f = cc
other_walks at k l _ _ e f = record { cells_are = refl; up = tt; names = refl; counted = (λ e. refl, tt) }

end_walks : {c : List Cell} {at : ℕ} {xs ys : List Element} (k l : ℕ) (p q : Bool) → Walks c at xs ys → Walks c at (xs ++ single k (Rule p) ∷ []) (ys ++ single l (Rule q) ∷ [])
end_walks {c} {at} k l p q h = rw append-nil at (then_walks h (other_walks (at + length c) k l (Rule p) (Rule q) refl refl))

abbrev pub AreWalked : List Shape → Type 0
AreWalked ss = (j : ℕ) (n m : List ℤ) (a b : ℕ) → Walks (get_or ss j no_shape).cells a ((get_or ss j no_shape).elements n a) ((get_or ss j no_shape).elements m b)

module _ (ss : List Shape) (walked : AreWalked ss) where
  pub item_walks : (item : Item) (caps : List ℕ) (z : ℤ) (n m : List ℤ) (a b : ℕ) → Walks (item_cells (cells_in ss) item caps z) a (item_elements ss item caps z n a) (item_elements ss item caps z m b)
  item_walks (Num kind) caps z n m a b = record { cells_are = refl; up = (refl, tt); names = refl; counted = (λ e. refl, tt) }
  item_walks (Struct j) caps z n m a b = rw (cells_at ss j) (step_walks is_dotted is_dotted (walked j n m a b))
  item_walks _ caps z n m a b = other_walks a a b _ _ refl refl

  array_walks : (f : Field) (s t : Stand) (p q : ℕ → List Element) (c : List Cell) (step : ℕ) → length c ≡ step → ((a b : ℕ) → Walks c a (p a) (q b))
      → (e n a b x y : ℕ) → Walks (times n (λ _. c) x y) a (array_elements f s p step e n a) (array_elements f t q step e n b)
  array_walks f s t p q c step size h e zero a b x y = no_walk a
  array_walks f s t p q c step size h e (suc n) a b x y =
      then_walks (step_walks (is_behind _ _ _ _) (is_behind _ _ _ _) (h a b))
      (rw size (array_walks f s t p q c step size h (suc e) n (a + step) (b + step) (x + y) y))

  pub field_walks : (fields : List Field) (v w : ℕ) (own now : ℕ → ℕ) (n m : List ℤ) (i a b : ℕ) (f : Field)
      → Walks (field_cells (cells_in ss) fields i f) a (field_elements ss fields v own n i a f) (field_elements ss fields w now m i b f)
  field_walks fields v w own now n m i a b f = array_walks f _ _ _ _ _ _ (size_same _ f.item _ _) (item_walks f.item _ _ n m) 0 _ a b 0 0

  pub fields_walk : (fields : List Field) (v w : ℕ) (own now : ℕ → ℕ) (n m : List ℤ) (i a b : ℕ) (fs : List Field)
      → Walks (cells_from (cells_in ss) fields i fs) a (elements_from ss fields v own n i a fs) (elements_from ss fields w now m i b fs)
  fields_walk fields v w own now n m i a b [] = no_walk a
  fields_walk fields v w own now n m i a b (f ∷ fs) =
      let size = length (field_cells (cells_in ss) fields i f) in
      then_walks (field_walks fields v w own now n m i a b f) (fields_walk fields v w own now n m (suc i) (a + size) (b + size) fs)

  -- the end of a description has no name
  pub desc_names_are : (d : Desc) (v : ℕ) (n : List ℤ) (a : ℕ) → names_of (desc_elements ss d v n a) ≡ names_of (elements_from ss d.fields v (numbers_of (cells_in ss) d n a) n 0 a d.fields)
  desc_names_are d v n a = rw (names_append, append-nil) refl

  pub desc_walks : (d : Desc) (v w : ℕ) (n m : List ℤ) (a b : ℕ) → Walks (desc_cells (cells_in ss) d) a (desc_elements ss d v n a) (desc_elements ss d w m b)
  desc_walks d v w n m a b = end_walks _ _ _ _ (fields_walk d.fields v w _ _ n m 0 a b d.fields)

pub are_walked : (ds : List Desc) (k : ℕ) → AreWalked (first shape ds k)
unfolding first
are_walked ds zero j n m a b = no_walk a
are_walked ds (suc k) j n m a b =
    let ss = first shape ds k in
    let d = get_or ds k no_desc in
    one_more (λ (s : Shape). (n m : List ℤ) (a b : ℕ) → Walks s.cells a (s.elements n a) (s.elements m b)) no_shape (λ n m a b. no_walk a) ss (are_walked ds k)
    (shape ss d) (desc_walks ss (are_walked ds k) d _ _) j n m a b

pub walks : (set : Set) (d : Desc) (v w : ℕ) (n m : List ℤ) (a b : ℕ) → Walks (desc_cells (struct_cells set) d) a (elements_in set d v n a) (elements_in set d w m b)
walks set d v w n m a b = rw (← (shapes_cells set.structs (length set.structs))) (desc_walks _ (are_walked _ _) d v w n m a b)

-- ---- the laws of one description and of the text, as they are stated

pub elements_law : ElementsLaw
elements_law set d v n place =
    let w = walks set d v v n n place place in
    record { cells = w.cells_are; in_order = w.up; slots = elements_slots set d v n place }

-- ---- a whole device

absent_slots : (xs : List Element) → slots_of (map absent xs) ≡ []
absent_slots [] = refl
absent_slots (x ∷ xs) = absent_slots xs

subs_slots : (set : Set) (d : Device) (subs : List Sub) (came : List (Option ℕ)) (n : List ℤ) (place : ℕ) → slots_of (subs_elements set subs came n place) ≡ came_slots set d n place subs came
subs_slots set d (s ∷ subs) (None ∷ came) n place = rw (slots_append, absent_slots) (subs_slots set d subs came n _)
subs_slots set d (s ∷ subs) (Some v ∷ came) n place = rw (slots_append, elements_slots set s.desc v n place, subs_slots set d subs came n _) refl
subs_slots set d _ _ n place = refl

sub_walks : (set : Set) (s : Sub) (o : Option ℕ) (n : List ℤ) (place : ℕ) → Walks (desc_cells (struct_cells set) s.desc) place (sub_elements set s o n place) (sub_elements set s o n place)
sub_walks set s None n place = step_walks is_absent is_absent (walks set s.desc s.desc.version s.desc.version n n place place)
sub_walks set s (Some v) n place = walks set s.desc v v n n place place

subs_walk : (set : Set) (subs : List Sub) (came : List (Option ℕ)) (n : List ℤ) (place : ℕ) → length came ≡ length subs
    → Walks (flat_map (λ s. desc_cells (struct_cells set) s.desc) subs) place (subs_elements set subs came n place) (subs_elements set subs came n place)
subs_walk set [] came n place e = no_walk place
subs_walk set (s ∷ subs) [] n place e = absurd (omega arith)
subs_walk set (s ∷ subs) (o ∷ came) n place e = then_walks (sub_walks set s o n place) (subs_walk set subs came n _ (omega arith))

device_walks : (set : Set) (d : Device) (image : Image) → length image.came ≡ length d.subs → Walks (device_cells set d) 0 (device_elements set d image) (device_elements set d image)
device_walks set d image e = then_walks (walks set d.desc image.version image.version image.numbers image.numbers 0 0) (rw zero-add (subs_walk set d.subs _ _ _ e))

pub device_law : DeviceLaw
device_law set d image e =
    let w = device_walks set d image e in
    record { cells = w.cells_are; in_order = w.up; slots = rw (slots_append, elements_slots set d.desc image.version image.numbers 0, subs_slots set d d.subs _ _ _) refl }

pub text_law : TextLaw
text_law set machine images = text_is set machine images

-- ---- the name of a number is found from its cell

pub names_absent : (xs : List Element) → names_of (map absent xs) ≡ names_of xs
names_absent xs = names_map is_absent xs ∙ same (names_of xs)
  where
    same : (ls : List (List ℕ)) → map (λ l. l) ls ≡ ls
    same [] = refl
    same (l ∷ ls) = rw (same ls)

-- element q of an array, and cell r in it
pub array_name : (f : Field) (stand : Stand) (part : ℕ → List Element) (names : List (List ℕ)) (step : ℕ) → ((a : ℕ) → names_of (part a) ≡ names) → length names ≡ step
    → (q e n a r i k : ℕ) → q < n → r < step → i ≡ q * step + r → k ≡ e + q
    → get_or (names_of (array_elements f stand part step e n a)) i [] ≡ (f.name ++ index_text f.count k) ++ get_or names r []
array_name f stand part names step h long q e zero a r i k lt small index at = absurd (omega arith)
array_name f stand part names step h long zero e (suc n) a r i k lt small index at =
    let text = f.name ++ index_text f.count e in
    let here : i ≡ r = grind arith in
    let same : k ≡ e = omega arith in
    let inside : r < length (map (λ l. text ++ l) names) = rw length-map (omega arith) in
    rw (here, same, names_append, names_map (is_behind (stand.number, e) text (nat_lt e stand.count) stand.there) (part a), h a, get_or_append_left, get_or-map (λ l. text ++ l) names r [] [] (omega arith)) refl
array_name f stand part names step h long (suc q) e (suc n) a r i k lt small index at =
    let text = f.name ++ index_text f.count e in
    let here : List Element = map (behind (stand.number, e) text (nat_lt e stand.count) (stand.there && nat_lt e stand.count)) (part a) in
    let many : length (names_of here) ≡ step = rw (names_map (is_behind (stand.number, e) text (nat_lt e stand.count) stand.there) (part a), h a, length-map) long in
    let past : step ≤ i = grind arith in
    rw (names_append, get_or-append_right (names_of here) _ step i [] many past) (array_name f stand part names step h long q (suc e) n (a + step) r (i - step) k (omega arith) small (grind arith) (omega arith))
