-- What the slots of a description depend on: its own cells, their defaults and the constants.
use Rattle.vms_bodies.proofs.{Facade.Sub, Facade.IsGood, Facade.ConstantFits, WalkLaws.drop_next, WalkLaws.place_first, WalkLaws.zero_plus, SpellLaws.FitSlots}
use Rattle.vms_bodies.proofs.Facade.{◌≡◌, ℕ, zero, suc, ◌+◌, ◌*◌, ◌<◌, ◌≤◌, List, ◌∷◌, length, get_or, map, drop, ℤ, pos}
use Rattle.vms_bodies.proofs.Facade.{refl, sym, ap, arith, [], get_or-map, mul-le-mul_right, Item, Struct, Field, Desc, is_there, Cell, Meaning, no_meaning}
use Rattle.vms_bodies.proofs.Facade.{no_desc, item_slots, item_size, times, field_slots, slots_from, desc_slots, desc_cells, cells_from, field_cells, place_of}
use Rattle.vms_bodies.proofs.Facade.{numbers_of, elements_of, capacity_of, counted, no_parent, first, meaning, meanings, IsSound, AreSound, IsSoundField}
use Rattle.vms_bodies.proofs.Facade.{AreSoundFields, IsEarlier, field_size, elements_fit, one_more, ◌++◌, replicate, append-nil, true, false, ◌==◌}
use Rattle.vms_bodies.proofs.Facade.{◌||◌, eq-eqb, eqb-true, cases_lt, false_from_ne_true, or_left, or_right, ⊎_elim, length-replicate, drop_at, Set}
use Rattle.vms_bodies.proofs.Facade.{Slot, Number, Constant, Filler, Rule, no_cell, struct_cells, Spells, RulesHold, has_cell, AreCells, either_of, FitsCell}
use Rattle.vms_bodies.proofs.Facade.{flat_map, length-map, InRange, Device, device_cells, own_slots, FitCells, ConstantsFit, Some, slice_get, sub_slots}
use Rattle.vms_bodies.proofs.Places.{there_same, elements_same, hold_same, place_next, place_end, place_up, place_below, desc_above, meanings_above, Stands}
use Rattle.vms_bodies.proofs.Places.{desc_are, meanings_are, cells_first, if_there}
use Rattle.std.proofs.lemmas.List.{length-append}

-- ---- the slots of a description depend only on its own cells

-- the numbers of the cells from low on and below end are the same
pub record SameIn (low end : ℕ) (before now : List ℤ) : Type 0 where
  pub same : (c : ℕ) → low ≤ c → c < end → get_or now c (pos 0) ≡ get_or before c (pos 0)

pub in_less : (low base cell end : ℕ) (n k : List ℤ) → low ≤ base → cell ≤ end → SameIn low end n k → SameIn base cell n k
in_less low base cell end n k up le s = record { same = λ c h lt. s.same c (omega arith) (omega arith) }

pub own_in : (cs : List (List Cell)) (d : Desc) (base i cell j : ℕ) (n m : List ℤ) → cell ≡ place_of cs d.fields 0 base d.fields i → SameIn base cell n m
    → IsEarlier d.fields i j → numbers_of cs d m base j ≡ numbers_of cs d n base j
own_in cs d base i cell j n m e s x = grind (arith, place_up, place_below)

pub record MeansSettled (m : Meaning) : Type 0 where
  pub means : (at low end : ℕ) (n k : List ℤ) → low ≤ at → at + length m.cells ≤ end → SameIn low end n k → m.slots k at ≡ m.slots n at

abbrev pub MeanSettled : List Meaning → Type 0
MeanSettled ms = (j : ℕ) → MeansSettled (get_or ms j no_meaning)

abbrev pub cells_in : List Meaning → List (List Cell)
cells_in ms = map (λ m. m.cells) ms

module _ (ms : List Meaning) (h : MeanSettled ms) where
  pub item_settled : (item : Item) (caps : List ℕ) (at low end : ℕ) (n k : List ℤ) → low ≤ at → at + item_size (cells_in ms) item ≤ end → SameIn low end n k
      → item_slots ms item caps k at ≡ item_slots ms item caps n at
  item_settled (Struct j) caps at low end n k up le s =
      (h j).means at low end n k up (omega (arith, ap length (get_or-map (λ (m : Meaning). m.cells) ms j no_meaning))) s
  item_settled _ caps at low end n k up le s = refl

  items_settled : (item : Item) (caps : List ℕ) (c at low end : ℕ) (n k : List ℤ) → low ≤ at → at + c * item_size (cells_in ms) item ≤ end → SameIn low end n k
      → times c (item_slots ms item caps k) at (item_size (cells_in ms) item) ≡ times c (item_slots ms item caps n) at (item_size (cells_in ms) item)
  items_settled item caps zero at low end n k up le s = refl
  items_settled item caps (suc c) at low end n k up le s =
      let size = item_size (cells_in ms) item in
      let e : suc c * size ≡ size + c * size = grind arith in
      rw (item_settled item caps at low end n k up (omega arith) s, items_settled item caps c (at + size) low end n k (omega arith) (omega arith) s) refl

  module _ (d : Desc) (v base : ℕ) where
    abbrev own : List ℤ → ℕ → ℕ
    own n = numbers_of (cells_in ms) d n base

    pub field_settled : (i cell low end : ℕ) (f : Field) (n k : List ℤ) → IsSoundField d.fields i f → low ≤ base
        → cell ≡ place_of (cells_in ms) d.fields 0 base d.fields i → cell + length (field_cells (cells_in ms) d.fields i f) ≤ end → SameIn low end n k
        → field_slots ms d.fields v (own k) k i cell f ≡ field_slots ms d.fields v (own n) n i cell f
    field_settled i cell low end f n k sound up here le s =
        let cs = cells_in ms in
        let size = item_size cs f.item in
        let caps = counted i d.fields in
        let first : base ≤ cell = omega (arith, place_up cs d.fields 0 base d.fields i) in
        let same : (j : ℕ) → IsEarlier d.fields i j → own k j ≡ own n j =
        λ j x. own_in cs d base i cell j n k here (in_less low base cell end n k up (omega arith) s) x in
        let most : elements_of f.count (own n) * size ≤ capacity_of f.count * size =
        mul-le-mul_right {m = elements_of f.count (own n)} {n = capacity_of f.count} size (elements_fit f.count (own n)) in
        rw (there_same d.fields i v f.since (own n) (own k) same f.test sound.test, elements_same d.fields i (own n) (own k) same f.count sound.count)
        (rw (items_settled f.item caps (elements_of f.count (own n)) cell low end n k (omega arith) (omega (arith, field_size cs d.fields i f)) s))

    fields_settled : (i cell low end : ℕ) (fs : List Field) (n k : List ℤ) → AreSoundFields d.fields i fs → low ≤ base
        → cell ≡ place_of (cells_in ms) d.fields 0 base d.fields i → drop i d.fields ≡ fs → cell + length (cells_from (cells_in ms) d.fields i fs) ≤ end
        → SameIn low end n k → slots_from ms d.fields v (own k) k i cell fs ≡ slots_from ms d.fields v (own n) n i cell fs
    fields_settled i cell low end [] n k sound up here is le s = refl
    fields_settled i cell low end (f ∷ fs) n k sound up here is le s =
        let cs = cells_in ms in
        let next = cell + length (field_cells cs d.fields i f) in
        let parts = length-append (field_cells cs d.fields i f) (cells_from cs d.fields (suc i) fs) in
        let there : next ≡ place_of cs d.fields 0 base d.fields (suc i) =
        omega (arith, place_next cs d.fields 0 base d.fields i f fs is, ap (λ k. length (field_cells cs d.fields k f)) (zero_plus i)) in
        rw (field_settled i cell low end f n k sound.0 up here (omega arith) s)
        (rw (fields_settled (suc i) next low end fs n k sound.1 up there (drop_next d.fields i f fs is) (omega arith) s))

    pub desc_settled : (low end : ℕ) (n k : List ℤ) → IsSound d → low ≤ base → base + length (desc_cells (cells_in ms) d) ≤ end → SameIn low end n k
        → desc_slots ms d v k base ≡ desc_slots ms d v n base
    desc_settled low end n k sound up le s =
        let cs = cells_in ms in
        let last = base + length (desc_cells cs d) in
        rw (
          fields_settled 0 base low end _ n k sound.fields up (sym (place_first cs d.fields 0 base d.fields)) refl le s,
          hold_same _ _ v _ _
              (λ j x. own_in cs d base (length d.fields) last j n k (sym (place_end cs d.fields 0 base d.fields))
              (in_less low base last end n k up le s) x) _ sound.validate,
        )

pub meanings_settled : (ds : List Desc) → AreSound ds → (k : ℕ) → k ≤ length ds → MeanSettled (meanings ds k)
unfolding first
meanings_settled ds sound zero le = λ j. record { means = λ at low end n k up le s. refl }
meanings_settled ds sound (suc k) le =
    let h : MeanSettled (meanings ds k) = meanings_settled ds sound k (omega arith) in
    one_more MeansSettled no_meaning (record { means = λ at low end n k up le s. refl }) (meanings ds k) h (meaning (meanings ds k) (get_or ds k no_desc))
    (record { means = λ at low end n m up fit s. desc_settled _ h _ _ _ _ _ _ _ (sound k (omega arith)) up fit s })

pub slots_within : (ds : List Desc) → AreSound ds → (d : Desc) (v base low end : ℕ) (n k : List ℤ) → IsSound d → low ≤ base
    → base + length (desc_cells (cells_in (meanings ds (length ds))) d) ≤ end → SameIn low end n k
    → desc_slots (meanings ds (length ds)) d v k base ≡ desc_slots (meanings ds (length ds)) d v n base
slots_within ds structs d v base low end n k sound up le s = desc_settled _ (meanings_settled _ structs _ (omega arith)) _ _ _ _ _ _ _ sound up le s

-- ---- what is spelled depends on the cells that are named; a description's slots name cells between its place and its end

named : (c : ℕ) (xs : List Slot) → (c == c || has_cell xs c) ≡ true
named c xs = or_left _ _ (eq-eqb c c refl)

pub spells_agree : (n k : List ℤ) (xs : List Slot) (bytes : List ℕ) → ((c : ℕ) → has_cell xs c ≡ true → get_or k c (pos 0) ≡ get_or n c (pos 0))
    → Spells n xs bytes → Spells k xs bytes
spells_agree n k [] bytes h s = s
spells_agree n k (Number c kind caps ∷ xs) bytes h s = (s.0, rw (h c (named c xs)) s.1, spells_agree n k xs s.0 (λ j e. h j (or_right _ _ e)) s.2)
spells_agree n k (Constant kind z ∷ xs) bytes h s = (s.0, s.1, spells_agree n k xs s.0 h s.2)
spells_agree n k (Filler m ∷ xs) bytes h s = (s.0, s.1, s.2, s.3, spells_agree n k xs s.1 h s.4)
spells_agree n k (Rule b ∷ xs) bytes h s = spells_agree n k xs bytes h s

pub fits_agree : (n k : List ℤ) (xs : List Slot) → ((c : ℕ) → has_cell xs c ≡ true → get_or k c (pos 0) ≡ get_or n c (pos 0)) → FitSlots n xs → FitSlots k xs
fits_agree n k [] h f = tt
fits_agree n k (Number c kind caps ∷ xs) h f =
    let e = h c (named c xs) in
    (rw e f.0, rw e f.1, fits_agree n k xs (λ j e. h j (or_right _ _ e)) f.2)
fits_agree n k (Constant kind z ∷ xs) h f = (f.0, fits_agree n k xs h f.1)
fits_agree n k (_ ∷ xs) h f = fits_agree n k xs h f

-- a named cell is one of these
pub named_inside : (all : List Cell) (xs : List Slot) (c : ℕ) → AreCells all xs → has_cell xs c ≡ true → c < length all
named_inside all [] c a e = cc
named_inside all (Number k kind caps ∷ xs) c a e = grind (arith, named_inside all xs c a.1)
named_inside all (_ ∷ xs) c a e = named_inside all xs c a e

pub skip_long : (n : ℕ) (cells : List Cell) → length (replicate n no_cell ++ cells) ≡ n + length cells
skip_long n cells = rw (length-append, length-replicate) refl

-- cells that begin at a place, with others before them
pub stands_behind : (at : ℕ) (cells : List Cell) → Stands (replicate at no_cell ++ cells) at cells
stands_behind at cells = record { more = []; is = rw append-nil (drop_at _ cells at (length-replicate at no_cell)) }

module _ (set : Set) (d : Desc) (v base : ℕ) where
  -- a description's slots, from its place on, and how many cells it has
  abbrev pub its : List ℤ → List Slot
  its n = desc_slots (meanings set.structs (length set.structs)) d v n base

  abbrev pub size : ℕ
  size = length (desc_cells (struct_cells set) d)

  pub its_below : (n : List ℤ) (c : ℕ) → c < base → has_cell (its n) c ≡ false
  its_below n c lt = (desc_above _ (meanings_above _ _) d v n base).below c lt

  its_inside : (n : List ℤ) (c : ℕ) → has_cell (its n) c ≡ true → c < base + size
  its_inside n c e =
      let cells = desc_cells (struct_cells set) d in
      let a : AreCells (replicate base no_cell ++ cells) (its n) =
      desc_are _ (meanings_are _ _) d v base n _ (rw (cells_first _ _) (stands_behind base cells)) in
      omega (arith, named_inside _ (its n) c a e, skip_long base cells)

  pub its_above : (n : List ℤ) (c : ℕ) → base + size ≤ c → has_cell (its n) c ≡ false
  its_above n c le = false_from_ne_true _ (λ e. omega (arith, its_inside n c e))

  pub its_in : (n : List ℤ) (c : ℕ) → has_cell (its n) c ≡ true → (base ≤ c) × (c < base + size)
  its_in n c e = (⊎_elim (λ (lt : c < base). let f = its_below n c lt in cc) (λ le. le) (cases_lt c base), its_inside n c e)

  -- a cell before the description or after it
  pub its_outside : (n : List ℤ) (c : ℕ) → (base ≤ c → base + size ≤ c) → has_cell (its n) c ≡ false
  its_outside n c h = false_from_ne_true _ (λ e. omega (arith, its_in n c e))

  module _ (structs : AreSound set.structs) (sound : IsSound d) (n k : List ℤ) where
    pub its_same : SameIn base (base + size) n k → its k ≡ its n
    its_same s =
        let same : length (desc_cells (cells_in (meanings set.structs (length set.structs))) d) ≡ size = rw (cells_first _ _) refl in
        slots_within _ structs _ _ _ _ _ _ _ sound (omega arith) (omega arith) s

    pub its_spelled : (bytes : List ℕ) → SameIn base (base + size) n k → Spells n (its n) bytes → Spells k (its k) bytes
    its_spelled bytes s h = rw (its_same s) (spells_agree n k (its n) bytes (λ c e. let b = its_in n c e in s.same c b.0 b.1) h)

    pub its_fit : SameIn base (base + size) n k → FitSlots n (its n) → FitSlots k (its k)
    its_fit s h = rw (its_same s) (fits_agree n k (its n) (λ c e. let b = its_in n c e in s.same c b.0 b.1) h)

    pub its_hold : SameIn base (base + size) n k → RulesHold (its n) → RulesHold (its k)
    its_hold s h = rw (its_same s) h

-- ---- a named cell of slots that fit fits

-- a named cell fits
pub named_fits : (all : List Cell) (m : List ℤ) (slots : List Slot) (c : ℕ) → has_cell slots c ≡ true → FitSlots m slots → AreCells all slots
    → FitsCell (get_or all c no_cell) (get_or m c (pos 0))
named_fits all m [] c e f a = cc
named_fits all m (Number k kind caps ∷ slots) c e f a =
    either_of _ _ e (λ t. rw (← (eqb-true k c t), a.0.kind, a.0.capacities) (f.0, f.1)) (λ later. named_fits all m slots c later f.2 a.1)
named_fits all m (Constant kind z ∷ slots) c e f a = named_fits all m slots c e f.1 a
named_fits all m (_ ∷ slots) c e f a = named_fits all m slots c e f a

-- ---- a section's cells, defaults and footer

-- each constant of the slots fits its kind
abbrev pub AreConstants : List Slot → Type 0
AreConstants [] = Unit {0}
AreConstants (Constant kind z ∷ slots) = InRange kind z × AreConstants slots
AreConstants (_ ∷ slots) = AreConstants slots

pub fit_slots : (all : List Cell) (m : List ℤ) (slots : List Slot) → FitCells all m → AreCells all slots → AreConstants slots → FitSlots m slots
fit_slots all m [] f c k = tt
fit_slots all m (Number a kind caps ∷ slots) f c k =
    let fits : FitsCell (get_or all a no_cell) (get_or m a (pos 0)) = f.fits a c.0.within in
    (rw (c.0.kind) at fits.0, rw (c.0.capacities) at fits.1, fit_slots all m slots f c.1 k)
fit_slots all m (Constant kind z ∷ slots) f c k = (k.0, fit_slots all m slots f c k.1)
fit_slots all m (_ ∷ slots) f c k = fit_slots all m slots f c k

-- a device's own slots are among its cells
pub own_are : (set : Set) (d : Device) (v : ℕ) (m : List ℤ) → AreCells (device_cells set d) (own_slots set d v m)
own_are set d v m =
    let n = length set.structs in
    desc_are _ (meanings_are _ n) d.desc v 0 m _
    (record { more = flat_map (λ s. desc_cells (struct_cells set) s.desc) d.subs; is = rw (cells_first _ n) refl })

pub defaults_at : (cells : List Cell) (c : ℕ) → get_or (map (λ (x : Cell). x.default) cells) c (pos 0) ≡ (get_or cells c no_cell).default
defaults_at cells c = get_or-map (λ x. x.default) cells c _

pub defaults_long : (cells : List Cell) → length (map (λ (x : Cell). x.default) cells) ≡ length cells
defaults_long cells = length-map cells _

-- ---- the constants of slots are those of the descriptions

pub constants_append : (xs ys : List Slot) → AreConstants xs → AreConstants ys → AreConstants (xs ++ ys)
constants_append [] ys p q = q
constants_append (Constant kind z ∷ xs) ys p q = (p.0, constants_append xs ys p.1 q)
constants_append (_ ∷ xs) ys p q = constants_append xs ys p q

pub record MeansConstants (m : Meaning) : Type 0 where
  pub means : (at : ℕ) (numbers : List ℤ) → AreConstants (m.slots numbers at)

module _ (ms : List Meaning) (h : (j : ℕ) → MeansConstants (get_or ms j no_meaning)) where
  items_constants : (item : Item) → ConstantFits item → (caps : List ℕ) (numbers : List ℤ) (n at step : ℕ)
      → AreConstants (times n (item_slots ms item caps numbers) at step)
  items_constants item f caps numbers zero at step = tt
  items_constants item f caps numbers (suc n) at step =
      constants_append (item_slots ms item caps numbers at) _ (grind arith) (items_constants item f caps numbers n _ step)

  fields_constants : (fields : List Field) (v : ℕ) (own : ℕ → ℕ) (numbers : List ℤ) (i at : ℕ) (fs : List Field) → ConstantsFit fs
      → AreConstants (slots_from ms fields v own numbers i at fs)
  fields_constants fields v own numbers i at [] a = tt
  fields_constants fields v own numbers i at (f ∷ fs) a =
      constants_append (field_slots ms fields v own numbers i at f) _
      (if_there AreConstants tt (is_there f.test f.since v own no_parent) _
      (items_constants f.item a.0 (counted i fields) numbers (elements_of f.count own) at _)) (fields_constants fields v own numbers (suc i) _ fs a.1)

  pub desc_constants : (d : Desc) → ConstantsFit d.fields → (v : ℕ) (numbers : List ℤ) (at : ℕ) → AreConstants (desc_slots ms d v numbers at)
  desc_constants d a v numbers at = grind (arith, constants_append, fields_constants)

pub meanings_constants : (ds : List Desc) → ((j : ℕ) → ConstantsFit (get_or ds j no_desc).fields) → (k j : ℕ)
    → MeansConstants (get_or (meanings ds k) j no_meaning)
unfolding first
meanings_constants ds a zero = λ j. record { means = λ at numbers. tt }
meanings_constants ds a (suc k) =
    one_more MeansConstants no_meaning (record { means = λ at numbers. tt }) (meanings ds k) (meanings_constants ds a k)
    (meaning (meanings ds k) (get_or ds k no_desc))
    (record { means = λ at numbers. desc_constants (meanings ds k) (meanings_constants ds a k) (get_or ds k no_desc) (a k) _ numbers at })

-- the constants of the slots of a good set's devices and subsections are in range
module _ (set : Set) (good : IsGood set) where
  pub own_constants : (k : ℕ) (d : Device) → slice_get set.devices k ≡ Some d → (v at : ℕ) (numbers : List ℤ)
      → AreConstants (desc_slots (meanings set.structs (length set.structs)) d.desc v numbers at)
  own_constants k d e v at numbers = desc_constants _ (meanings_constants _ good.struct_constants _) d.desc (good.constants k d e) v _ at

  pub part_constants : (k j : ℕ) (d : Device) (s : Sub) → slice_get set.devices k ≡ Some d → slice_get d.subs j ≡ Some s → (v at : ℕ) (numbers : List ℤ)
      → AreConstants (sub_slots set s v numbers at)
  part_constants k j d s e f v at numbers = desc_constants _ (meanings_constants _ good.struct_constants _) s.desc (good.sub_constants k j d s e f) v _ at
