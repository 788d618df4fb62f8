-- Which cells are in the bytes is known, cell by cell, from the numbers before: tests and counts name only earlier
-- fields.
use Rattle.vms_convert.proofs.Facade
use Facade.{get_or_append_left, get_or_from_slice_get, slice_get_within, ◌≡◌, ℕ, zero, suc, ◌+◌, ◌<◌, ◌≤◌, List, [], ◌∷◌, ◌++◌}
use Facade.{◌⊎◌, length, get_or, drop, Option, Some, None, ℤ, refl, sym, ap, ◌∙◌, arith, Bool, if◌then◌else◌, length-append, pos, inl, inr}
use Facade.{slice_get, ext_get_or, slice_get-get_or, cases_lt, sub_place_up, IsCellOf, one_part, Item, Field, Desc, Sub, Device, Set, is_there, Slot, Meaning}
use Facade.{no_meaning, no_desc, item_slots, item_size, times, field_slots, slots_from, desc_slots, desc_cells, struct_cells, field_cells, place_of, numbers_of}
use Facade.{elements_of, no_parent, first, meaning, meanings, Cell, no_cell, device_cells, has_cell, own_cells, came_slots, image_slots, Image, one_more}
use Facade.{IsSound, AreSound, IsSoundField, AreSoundFields, IsEarlier, names_append, SameBelow, there_same, elements_same, place_next, MeanAbove}
use Facade.{meanings_above, field_above, SameIn, in_less, own_in, cells_in, drop_next, place_first, zero_plus, is_needed, well_good, sub_within, image_of}
use Facade.{AreSettled, AreTaken, taken, whole, IsBack, ComesBackLaw, own_or_sub}
use Rattle.vms_convert.proofs.Settling.{by_last}

-- both have slot c, or neither has it
pub record Alike (c : ℕ) (xs us : List Slot) : Type 0 where
  pub is : has_cell xs c ≡ has_cell us c

alike : (c : ℕ) (xs : List Slot) → Alike c xs xs
alike c xs = record { is = refl }

either_part : {c : ℕ} {xs ys us vs : List Slot} → Alike c xs us → Alike c ys vs → Alike c (xs ++ ys) (us ++ vs)
either_part {c} {xs} {ys} {us} {vs} p q = search (arith, names_append)

-- ---- structures

pub record MeansKnown (m : Meaning) : Type 0 where
  pub means : (at c : ℕ) (n k : List ℤ) → SameIn at c n k → Alike c (m.slots k at) (m.slots n at)

abbrev pub MeanKnown : List Meaning → Type 0
MeanKnown ms = (j : ℕ) → MeansKnown (get_or ms j no_meaning)

none_known : MeansKnown no_meaning
none_known = record { means = λ at c n k s. alike c [] }

module _ (ms : List Meaning) (h : MeanKnown ms) (above : MeanAbove ms) where
  abbrev cs : List (List Cell)
  cs = cells_in ms

  item_known : (item : Item) (caps : List ℕ) (at c : ℕ) (n k : List ℤ) → SameIn at c n k → Alike c (item_slots ms item caps k at) (item_slots ms item caps n at)
  item_known item caps at c n k s = grind arith

  items_known : (item : Item) (caps : List ℕ) (count at step c : ℕ) (n k : List ℤ) → SameIn at c n k
      → Alike c (times count (item_slots ms item caps k) at step) (times count (item_slots ms item caps n) at step)
  items_known item caps zero at step c n k s = alike c []
  items_known item caps (suc count) at step c n k s =
      either_part (item_known item caps at c n k s) (items_known item caps count (at + step) step c n k (in_less at _ c c n k (omega arith) (omega arith) s))

  either : (c : ℕ) (b : Bool) (xs ys : List Slot) → Alike c xs ys → Alike c (if b then xs else []) (if b then ys else [])
  either c b xs ys e = grind (arith, alike)

  -- before a field none of its cells is in the bytes; from its first cell on it is known whether it is there and
  -- how often
  field_known : (d : Desc) (v base i cell c : ℕ) (f : Field) (n k : List ℤ) → IsSoundField d.fields i f → base ≤ cell
      → cell ≡ place_of cs d.fields 0 base d.fields i → SameIn base c n k
      → Alike c (field_slots ms d.fields v (numbers_of cs d k base) k i cell f) (field_slots ms d.fields v (numbers_of cs d n base) n i cell f)
  field_known d v base i cell c f n k sound up here s = elim (cases_lt c cell) [
    | inl l ↦ record {
      is = cc (
        (field_above ms above d.fields v (numbers_of cs d k base) k i cell f).below c l,
        (field_above ms above d.fields v (numbers_of cs d n base) n i cell f).below c l,
      );
    }
    | inr le ↦
        let before = numbers_of cs d n base in
        let now = numbers_of cs d k base in
        let below = in_less base base cell c n k (omega arith) le s in
        let same : (j : ℕ) → IsEarlier d.fields i j → now j ≡ before j = λ j x. own_in cs d base i cell j n k here below x in
        let known = items_known f.item _ (elements_of f.count before) cell (item_size cs f.item) c n k (in_less base cell c c n k up (omega arith) s) in
        record {
          is = rw (there_same d.fields i v f.since before now same f.test sound.test, elements_same d.fields i before now same f.count sound.count)
              (either c (is_there f.test f.since v before no_parent) _ _ known).is;
        }
  ]

  fields_known : (d : Desc) (v base i cell c : ℕ) (fs : List Field) (n k : List ℤ) → AreSoundFields d.fields i fs → base ≤ cell
      → cell ≡ place_of cs d.fields 0 base d.fields i → drop i d.fields ≡ fs → SameIn base c n k
      → Alike c (slots_from ms d.fields v (numbers_of cs d k base) k i cell fs) (slots_from ms d.fields v (numbers_of cs d n base) n i cell fs)
  fields_known d v base i cell c [] n k sound up here is s = alike c []
  fields_known d v base i cell c (f ∷ fs) n k sound up here is s =
      let next = cell + length (field_cells cs d.fields i f) in
      let there : next ≡ place_of cs d.fields 0 base d.fields (suc i) =
      omega (arith, place_next cs d.fields 0 base d.fields i f fs is, ap (λ (k : ℕ). length (field_cells cs d.fields k f)) (zero_plus i)) in
      either_part (field_known d v base i cell c f n k sound.0 up here s)
      (fields_known d v base (suc i) next c fs n k sound.1 (omega arith) there (drop_next d.fields i f fs is) s)

  desc_known : (d : Desc) (v base c : ℕ) (n k : List ℤ) → IsSound d → SameIn base c n k → Alike c (desc_slots ms d v k base) (desc_slots ms d v n base)
  desc_known d v base c n k sound s =
      either_part (fields_known d v base 0 base c _ n k sound.fields (omega arith) (sym (place_first cs d.fields 0 base d.fields)) refl s)
      (record { is = refl })

meanings_known : (ds : List Desc) → AreSound ds → (k : ℕ) → k ≤ length ds → MeanKnown (meanings ds k)
unfolding first
meanings_known ds sound zero le = λ j. none_known
meanings_known ds sound (suc k) le =
    let h : MeanKnown (meanings ds k) = meanings_known ds sound k (omega arith) in
    one_more MeansKnown no_meaning none_known (meanings ds k) h (meaning (meanings ds k) (get_or ds k no_desc))
    (record {
      means = λ at c n m s. desc_known (meanings ds k) h (meanings_above ds k) _ (get_or ds k no_desc).version at c n m
          (sound k (omega arith)) s;
    })

module _ (set : Set) (structs : AreSound set.structs) where
  part_known : (d : Desc) → IsSound d → (v base c : ℕ) (n m : List ℤ) → SameBelow c n m
      → Alike c (desc_slots (meanings set.structs (length set.structs)) d v m base) (desc_slots (meanings set.structs (length set.structs)) d v n base)
  part_known d sound v base c n m s =
      desc_known (meanings set.structs _) (meanings_known set.structs structs _ (omega arith)) (meanings_above set.structs _) d v base c n m sound
      (record { same = λ i up lt. s.same i lt })

  abbrev pub AllSound : List Sub → Type 0
  AllSound subs = (j : ℕ) (s : Sub) → slice_get subs j ≡ Some s → IsSound s.desc

  came_known : (d : Device) (from c : ℕ) (n m : List ℤ) (subs : List Sub) (came : List (Option ℕ)) → AllSound subs → SameBelow c n m
      → Alike c (came_slots set d m from subs came) (came_slots set d n from subs came)
  came_known d from c n m (t ∷ subs) (None ∷ came) sound s =
      came_known d (from + length (desc_cells (struct_cells set) t.desc)) c n m subs came (λ j u e. sound (suc j) u e) s
  came_known d from c n m (t ∷ subs) (Some v ∷ came) sound s =
      either_part (part_known t.desc (sound 0 t refl) v from c n m s) (came_known d _ c n m subs came (λ j u e. sound (suc j) u e) s)
  came_known d from c n m _ _ sound s = alike c []

  -- the numbers before a cell determine whether it is in the bytes of an image
  pub image_known : (d : Device) → IsSound d.desc → AllSound d.subs → (v : ℕ) (came : List (Option ℕ)) (c : ℕ) (n m : List ℤ) → SameBelow c n m
      → has_cell (image_slots set d (record { version = v; came = came; numbers = m })) c ≡ has_cell
      (image_slots set d (record { version = v; came = came; numbers = n })) c
  image_known d own sound v came c n m s = (either_part (part_known d.desc own v 0 c n m s) (came_known d (own_cells set d) c n m d.subs came sound s)).is

-- ---- Lists that are made item by item.

-- one more index
pub extend : (P : ℕ → Type 0) (n : ℕ) → ((i : ℕ) → i < n → P i) → P n → (i : ℕ) → i < suc n → P i
extend P n f h i lt = by_last i n lt (f i) (λ same. rw same h)

at_more : {A : Type 0} (xs : List A) (x : A) (i : ℕ) (y : A) → slice_get (xs ++ x ∷ []) i ≡ Some y → (slice_get xs i ≡ Some y) ⊎ ((i ≡ length xs) × (x ≡ y))
at_more [] x zero y e = inr (refl, cc)
at_more [] x (suc i) y e = cc
at_more (z ∷ xs) x zero y e = inl e
at_more (z ∷ xs) x (suc i) y e = grind (arith, at_more xs x i y e)

-- what holds of all items holds with one more
pub appended : {A : Type 0} (P : ℕ → A → Type 0) (xs : List A) (x : A) (n : ℕ) → length xs ≡ n → ((i : ℕ) (y : A) → slice_get xs i ≡ Some y → P i y) → P n x
    → (i : ℕ) (y : A) → slice_get (xs ++ x ∷ []) i ≡ Some y → P i y
appended P xs x n long each here i y e = elim (at_more xs x i y e) [ inl at ↦ each i y at | inr r ↦ rw (r.0, ← r.1, long) here ]

pub record Made {A : Type 0} (P : List A → ℕ → A → Type 0) (n : ℕ) : Type 0 where
  pub list : List A
  pub long : length list ≡ n
  pub each : (i : ℕ) (x : A) → slice_get list i ≡ Some x → P list i x

-- what holds of an item may depend on those before it
pub made : {A : Type 0} (P : List A → ℕ → A → Type 0) (n : ℕ) → ((xs : List A) (x : A) (i : ℕ) (y : A) → i < length xs → P xs i y → P (xs ++ x ∷ []) i y)
    → ((xs : List A) → length xs < n → (x : A) × P (xs ++ x ∷ []) (length xs) x) → (k : ℕ) → k ≤ n → Made P k
made P n stays next zero le = record { list = []; long = refl; each = λ i x e. absurd (cc) }
made P n stays next (suc k) le =
    let h = made P n stays next k (omega arith) in
    let x = next h.list (omega arith) in
    record {
      list = h.list ++ x.0 ∷ [];
      long = omega (arith, length-append h.list (x.0 ∷ []));
      each = appended (P (h.list ++ x.0 ∷ [])) h.list x.0 _ refl
          (λ i y at. stays h.list x.0 i y (slice_get_within h.list i y at) (h.each i y at)) x.1;
    }

-- ---- what is taken, cell by cell

module _ (to : Set) (structs : AreSound to.structs) (d : Device) (own : IsSound d.desc) (subs : AllSound to structs d.subs) (partners : List (Option ℕ))
    (numbers : List ℤ) where
  -- what cell c takes, where these numbers determine which cells are in the bytes
  abbrev takes : List ℤ → ℕ → ℤ
  takes now c = taken numbers (get_or (device_cells to d) c no_cell) (has_cell (image_slots to d (whole d now)) c) (get_or partners c None)

  takes_same : (c : ℕ) (n m : List ℤ) → SameBelow c n m → takes m c ≡ takes n c
  takes_same c n m s = grind (arith, image_known)

  -- one more number changes none before it
  same_front : (now : List ℤ) (z : ℤ) (c : ℕ) → c ≤ length now → SameBelow c now (now ++ z ∷ [])
  same_front now z c le = record { same = λ b lt. get_or_append_left now (z ∷ []) (pos 0) b (omega arith) }

  pub has_taken : (now : List ℤ) × AreTaken to d partners numbers now
  has_taken =
      let n = length (device_cells to d) in
      let h = made {A = ℤ} (λ now c z. z ≡ takes now c) n (λ now x c z lt e. e ∙ sym (takes_same c now _ (same_front now x c (omega arith))))
      (λ now lt. (takes now (length now), sym (takes_same _ now _ (same_front now _ _ (omega arith))))) n (omega arith) in
      (h.list, record { long = h.long; each = λ c lt. h.each c _ (slice_get-get_or h.list c (pos 0) (omega arith)) })

-- ---- what is settled, cell by cell

module _ (set : Set) (d : Device) (before : List ℤ) where
  abbrev settled : ℕ → ℕ → Sub → ℤ
  settled c j s = if is_needed set d (whole d before) s j then get_or before c (pos 0) else (get_or (device_cells set d) c no_cell).default

  record SettledAt (c : ℕ) (z : ℤ) : Type 0 where
    own : c < own_cells set d → z ≡ get_or before c (pos 0)
    subs : (j : ℕ) (s : Sub) → IsCellOf set d j s c → z ≡ settled c j s

  settled_at : (c : ℕ) → c < length (device_cells set d) → (z : ℤ) × SettledAt c z
  settled_at c lt = elim (own_or_sub set d c lt) [
    | inl own ↦ (
      get_or before c (pos 0),
      record { own = λ lt. refl; subs = λ j s h. absurd (omega (arith, sub_place_up set (own_cells set d) d.subs j)) },
    )
    | inr h ↦ (
      settled c h.0 h.1,
      record {
        own = λ lt. absurd (omega (arith, sub_place_up set (own_cells set d) d.subs h.0));
        subs = λ j s x.
            let same : h.0 ≡ j = one_part set (own_cells set d) d.subs h.0 j c h.1 s h.2.is x.is h.2.low h.2.high x.low x.high in
            let sub : h.1 ≡ s = cc (h.2.is, x.is) in rw (same, sub);
      },
    )
  ]

  cell_inside : (j : ℕ) (s : Sub) (c : ℕ) → IsCellOf set d j s c → c < length (device_cells set d)
  cell_inside j s c x =
      let within = rw (get_or_from_slice_get d.subs j s s x.is) at (sub_within set (own_cells set d) d.subs j s (slice_get_within d.subs j s x.is)) in
      omega (arith, length-append {A = Cell})

  pub has_settled : length before ≡ length (device_cells set d) → (now : List ℤ) × AreSettled set d before now
  has_settled long =
      let n = length (device_cells set d) in
      let h = made {A = ℤ} (λ now c z. SettledAt c z) n (λ now x c z lt p. p) (λ now lt. settled_at (length now) lt) n (omega arith) in
      let at : (c : ℕ) → c < n → SettledAt c (get_or h.list c (pos 0)) = λ c lt. h.each c _ (slice_get-get_or h.list c (pos 0) (omega arith)) in (
        h.list,
        record {
          long = cc;
          own = λ c lt. (at c (omega (arith, length-append {A = Cell}))).own lt;
          subs = λ j s c x. (at c (cell_inside j s c x)).subs j s x;
        },
      )

pub has_back : ComesBackLaw
has_back to fit i d there partners numbers =
    let good = well_good to fit.well fit.heads in
    let now = has_taken to good.structs d (good.devices i d there) (λ j s e. good.subs i j d s there e) partners numbers in
    let settled = has_settled to d now.0 now.1.long in
    record { image = image_of to d settled.0; is_back = record { now = now.0; are_taken = now.1; settled = settled.1; is = refl } }

-- ---- There is one way back.

module _ (to : Set) (structs : AreSound to.structs) (d : Device) (own : IsSound d.desc) (subs : AllSound to structs d.subs) (partners : List (Option ℕ)) where
  module _ (numbers a b : List ℤ) (p : AreTaken to d partners numbers a) (q : AreTaken to d partners numbers b) where
    below : (m : ℕ) → m ≤ length (device_cells to d) → SameBelow m a b
    below zero le = record { same = λ c lt. absurd (omega arith) }
    below (suc m) le = search (arith, image_known, by_last, below m (omega arith))

    -- the numbers that are taken
    pub one_taken : b ≡ a
    one_taken = ext_get_or (pos 0) b a (omega arith) (λ c lt. (below (length (device_cells to d)) (omega arith)).same c (omega arith))

  pub one_settled : (now a b : List ℤ) → length now ≡ length (device_cells to d) → AreSettled to d now a → AreSettled to d now b → b ≡ a
  one_settled now a b long p q = ext_get_or (pos 0) b a (omega arith) (λ c lt. elim (own_or_sub to d c (omega arith)) [
    | inl own ↦ q.own c own ∙ sym (p.own c own)
    | inr h ↦ q.subs h.0 h.1 c h.2 ∙ sym (p.subs h.0 h.1 c h.2)
  ])

  pub one_back : (numbers : List ℤ) (x y : Image) → IsBack to d partners numbers x → IsBack to d partners numbers y → y ≡ x
  one_back numbers x y p q =
      let same : q.now ≡ p.now = one_taken _ p.now q.now p.are_taken q.are_taken in
      rw (q.is, p.is) (ap (image_of to d) (one_settled p.now _ _ p.are_taken.long p.settled (rw same at q.settled)))
