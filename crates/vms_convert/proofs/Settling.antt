-- Whether a subsection is needed depends on its own cells and on those of its device.
use Rattle.vms_convert.proofs.Facade
use Facade.{cases_lt, inl, inr, ◌≡◌, ℕ, ◌+◌, List, length, get_or, Option, Some, None, ℤ, refl, ap, ◌∙◌, arith, Bool, true, not, suc}
use Facade.{◌<◌, ◌≤◌, pos, sym, if◌then◌else◌, zero, [], ◌∷◌, slice_get, and_parts, slice_get_within, slice_get-get_or, Own, Parent}
use Facade.{Formula, Not, And, Or, Field, Desc, Sub, Device, Set, truth, place_of, numbers_of, desc_cells, no_cell, device_cells, Image, own_cells, is_needed}
use Facade.{is_steady, is_steady_in, names_well, WellFormed, IsEarlier, place_up, place_below, place_end, sub_size, sub_place_up, places_apart, part_place}
use Facade.{SameIn, earlier, sub_clean, bare, needed_from, IsCellOf, AreSettled, whole, IsBack, same_lists, IsAtVersions, device_at, needed_at, sub_at, Typed}
use Facade.{SettlesSub}
use Rattle.vms_spec.specs.{Sets.Cell, Layout.Cell as OneCell}

-- a test that names only fields of these numbers
module _ (ok okp : ℕ → Bool) (own own' parent parent' : ℕ → ℕ) (h : (i : ℕ) → ok i ≡ true → own' i ≡ own i)
    (hp : (i : ℕ) → okp i ≡ true → parent' i ≡ parent i) where
  pub truth_alike : (t : Formula) (v : ℕ) → names_well ok okp t ≡ true → truth t v own' parent' ≡ truth t v own parent
  truth_alike (Cell Own i mask rel value) v e = rw (h i e)
  truth_alike (Cell Parent i mask rel value) v e = rw (hp i e)
  truth_alike (Not t) v e = ap not (truth_alike t v e)
  truth_alike (And s t) v e = let p = and_parts (names_well ok okp s) (names_well ok okp t) e in rw (truth_alike s v p.0, truth_alike t v p.1)
  truth_alike (Or s t) v e = let p = and_parts (names_well ok okp s) (names_well ok okp t) e in rw (truth_alike s v p.0, truth_alike t v p.1)
  truth_alike _ v e = refl

-- ---- a field that tests may name

plain : (d : Desc) (j : ℕ) → is_steady_in d j ≡ true → IsEarlier d.fields (length d.fields) j
plain d j e = go (slice_get d.fields j) refl e where
  go : (o : Option Field) → slice_get d.fields j ≡ o → is_steady d.minimum o ≡ true → IsEarlier d.fields (length d.fields) j
  go None h s = cc
  go (Some f) h s = earlier d (length d.fields) j (slice_get_within d.fields j f h) e

-- its number, where the description's cells are the same
number_same : (cs : List (List OneCell)) (d : Desc) (base j : ℕ) (n m : List ℤ) → is_steady_in d j ≡ true → SameIn base (base + length (desc_cells cs d)) n m
    → numbers_of cs d m base j ≡ numbers_of cs d n base j
number_same cs d base j n m e s =
    let x = plain d j e in
    rw (s.same (place_of cs d.fields 0 base d.fields j) (place_up cs d.fields 0 base d.fields j)
    (omega (arith, place_below cs d.fields 0 base d.fields j (length d.fields) x.earlier x.there x.number x.one, place_end cs d.fields 0 base d.fields)))

module _ (set : Set) (well : WellFormed set) (k : ℕ) (d : Device) (there : slice_get set.devices k ≡ Some d) where
  pub needed_same : (j : ℕ) (s : Sub) → slice_get d.subs j ≡ Some s → (x y : Image) → SameIn 0 (0 + own_cells set d) x.numbers y.numbers
      → SameIn (part_place set d j) (part_place set d j + sub_size set s) x.numbers y.numbers → is_needed set d y s j ≡ is_needed set d x s j
  needed_same j s e x y own part =
      truth_alike _ (is_steady_in d.desc)
      (numbers_of _ s.desc x.numbers (part_place set d j)) (numbers_of _ s.desc y.numbers (part_place set d j)) (numbers_of _ d.desc x.numbers 0)
      (numbers_of _ d.desc y.numbers 0) (λ i h. number_same _ s.desc _ i _ _ h part)
      (λ i h. number_same _ d.desc 0 i _ _ h own) s.needed s.desc.version ((sub_clean set well k j d s there e).own.1.1.1.0)

-- ---- Subsections that aren't needed are put to their defaults one after the other.

-- an index below the next one is below this one, or is this one
pub by_last : {P : Type 0} (i j : ℕ) → i < suc j → (i < j → P) → (i ≡ j → P) → P
by_last i j lt f g = elim (cases_lt i j) [ inl less ↦ f less | inr le ↦ g (omega arith) ]

pub some_at : {A : Type 0} (xs : List A) (i : ℕ) → i < length xs → (x : A) × (slice_get xs i ≡ Some x)
some_at [] i lt = absurd (omega arith)
some_at (x ∷ xs) zero lt = (x, refl)
some_at (x ∷ xs) (suc i) lt = some_at xs i (omega arith)

-- the first j subsections are settled, and all else is as it was
pub record SettledTo (set : Set) (d : Device) (j : ℕ) (before now : List ℤ) : Type 0 where
  pub long : length now ≡ length before
  pub own : (c : ℕ) → c < own_cells set d → get_or now c (pos 0) ≡ get_or before c (pos 0)
  pub done : (i : ℕ) (s : Sub) (c : ℕ) → i < j → IsCellOf set d i s c
      → get_or now c (pos 0) ≡ (if is_needed set d (whole d before) s i then get_or before c (pos 0) else (get_or (device_cells set d) c no_cell).default)
  pub left : (i : ℕ) (s : Sub) (c : ℕ) → j ≤ i → IsCellOf set d i s c → get_or now c (pos 0) ≡ get_or before c (pos 0)

module _ (set : Set) (well : WellFormed set) (k : ℕ) (lt : k < length set.devices) (before : List ℤ) where
  abbrev d : Device
  d = device_at set k

  -- a test of subsection j answers as before
  still_needed : (now : List ℤ) (j : ℕ) (s : Sub) → slice_get d.subs j ≡ Some s → SettledTo set d j before now
      → is_needed set d (bare d now) s j ≡ is_needed set d (whole d before) s j
  still_needed now j s e h =
      needed_same set well k d (slice_get-get_or set.devices k _ lt) j s e (whole d before) (bare d now)
      (record { same = λ c low lt. h.own c (omega arith) })
      (record { same = λ c low lt. h.left j s c (omega arith) (record { is = e; low = low; high = lt }) })

  -- subsection j is settled: its cells are as they were if it is needed, else at their defaults, and all others are as they were
  record Settles (j : ℕ) (now next : List ℤ) : Type 0 where
    long : length next ≡ length now
    here : (c : ℕ) → IsCellOf set d j (sub_at d j) c
        → get_or next c (pos 0) ≡ (if needed_at set k j now then get_or now c (pos 0) else (get_or (device_cells set d) c no_cell).default)
    below : (c : ℕ) → c < part_place set d j → get_or next c (pos 0) ≡ get_or now c (pos 0)
    above : (c : ℕ) → part_place set d j + sub_size set (sub_at d j) ≤ c → get_or next c (pos 0) ≡ get_or now c (pos 0)

  settles : (a b : Typed) (j : ℕ) → SettlesSub set k j a b → Settles j a.numbers b.numbers
  settles a b j s = grind arith

  pub settled_next : (a b : Typed) (j : ℕ) → j < length d.subs → SettledTo set d j before a.numbers → SettlesSub set k j a b
      → SettledTo set d (j + 1) before b.numbers
  settled_next a b j less h x =
      let s = sub_at d j in
      let e : slice_get d.subs j ≡ Some (sub_at d j) = slice_get-get_or d.subs j _ less in
      let p = settles a b j x in
      record {
        long = p.long ∙ h.long;
        own = λ c lt. p.below c (omega (arith, sub_place_up set (own_cells set d) d.subs j)) ∙ h.own c lt;
        done = λ i t c lt x. by_last i j (omega arith)
            (λ less. p.below c (omega (arith, places_apart set (own_cells set d) d.subs i j t x.is less)) ∙ h.done i t c less x)
            (λ same.
            let sub : t ≡ s = cc (x.is, e) in
            let here : IsCellOf set d j s c = rw (same, sub) at x in
            rw (sub, same, ← still_needed a.numbers j s e h, ← h.left j s c (omega arith) here) (p.here c here));
        left = λ i t c le x.
            p.above c (omega (arith, places_apart set (own_cells set d) d.subs j i s e (omega arith))) ∙ h.left i t c (omega arith) x;
      }

pub all_settled : (set : Set) (d : Device) (before now : List ℤ) (j : ℕ) → j ≡ length d.subs → SettledTo set d j before now → AreSettled set d before now
all_settled set d before now j end h = record {
  long = h.long;
  own = h.own;
  subs = λ i s c x. h.done i s c (omega (arith, slice_get_within d.subs i s x.is)) x;
}

-- ---- Subsections that are needed are marked one after the other.

module _ (set : Set) (d : Device) (image : Image) where
  -- whether subsection j comes
  abbrev pub comes : ℕ → Sub → Option ℕ
  comes j s = if is_needed set d image s j then Some s.desc.version else None

  -- the first j are marked
  pub record MarkedTo (subs : List Sub) (j : ℕ) (came : List (Option ℕ)) : Type 0 where
    pub long : length came ≡ length subs
    pub done : (i : ℕ) (s : Sub) → i < j → slice_get subs i ≡ Some s → slice_get came i ≡ Some (comes i s)
    pub left : (i : ℕ) (s : Sub) → j ≤ i → slice_get subs i ≡ Some s → slice_get came i ≡ Some None

  pub comes_at : (subs : List Sub) (i j : ℕ) (s : Sub) → slice_get subs j ≡ Some s → slice_get (needed_from set d image i subs) j ≡ Some (comes (i + j) s)
  comes_at [] i j s e = absurd (cc)
  comes_at (t ∷ subs) i zero s e = grind arith
  comes_at (t ∷ subs) i (suc j) s e = grind (arith, comes_at subs (suc i) j s e)

  pub needed_long : (subs : List Sub) (i : ℕ) → length (needed_from set d image i subs) ≡ length subs
  needed_long [] i = refl
  needed_long (s ∷ subs) i = ap suc (needed_long subs (suc i))

  pub all_marked : (subs : List Sub) (came : List (Option ℕ)) (j : ℕ) → j ≡ length subs → MarkedTo subs j came → came ≡ needed_from set d image 0 subs
  all_marked subs came j end h =
      same_lists came (needed_from set d image 0 subs) (h.long ∙ sym (needed_long subs 0)) (λ i lt.
      let p = some_at subs i (omega arith) in
      let z : 0 + i ≡ i = omega arith in
      h.done i p.0 (omega (arith, slice_get_within subs i p.0 p.1)) p.1 ∙ sym (rw z at (comes_at subs 0 i p.0 p.1)))

-- ---- What comes back is at its set's versions.

version_if : (b : Bool) (v w : ℕ) → (if b then Some v else None) ≡ Some w → w ≡ v
version_if b v w e = grind arith

needed_version : (set : Set) (d : Device) (image : Image) (i j : ℕ) (subs : List Sub) (s : Sub) (v : ℕ) → slice_get subs j ≡ Some s
    → slice_get (needed_from set d image i subs) j ≡ Some (Some v) → v ≡ s.desc.version
needed_version set d image i j subs s v e f = version_if (is_needed set d image s (i + j)) _ v (cc (comes_at set d image subs i j s e))

pub back_versions : (to : Set) (d : Device) (partners : List (Option ℕ)) (numbers : List ℤ) (image : Image) → IsBack to d partners numbers image
    → IsAtVersions d image
back_versions to d partners numbers image back = search (arith, needed_version)
