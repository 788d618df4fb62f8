-- The paths of numbers and cells: of a description, and of a device.
use Rattle.vms_elements.proofs.Facade.{first_at, first_long, ◌≡◌, ℕ, zero, suc, ◌+◌, ◌*◌, ◌<◌, ◌≤◌, List, ◌∷◌, ◌++◌, length}
use Rattle.vms_elements.proofs.Facade.{get_or, map, ℤ, refl, sym, ap, ◌∙◌, arith, Bool, true, false, ◌&&◌, nat_lt, if◌then◌else◌, Option}
use Rattle.vms_elements.proofs.Facade.{Some, None, [], inl, slice_get, ltb-true, ltb-false, lt-ltb, slice_get-get_or, get_or_past, Kind, Item, Num, Struct}
use Rattle.vms_elements.proofs.Facade.{Field, Desc, Set, Cell, no_desc, first, counted, capacity_of, item_size, field_cells, desc_cells, place_of, numbers_of}
use Rattle.vms_elements.proofs.Facade.{item_at, element_at, path_at, Element, Shape, no_shape, shape, cells_in, dotted, behind, single, Number, item_elements}
use Rattle.vms_elements.proofs.Facade.{Stand, stand_of, array_elements, field_elements, elements_from, desc_elements, index_text, is_number, elements_in}
use Rattle.vms_elements.proofs.Facade.{last_field, field_named, IsFieldOf, DistinctLaw, PathLaw, inr, flat_map, Sub, Device, no_cell, struct_cells}
use Rattle.vms_elements.proofs.Facade.{device_cells, sub_place, own_cells, desc_of_sub, cell_in, cell_at, What, numbers_in, cells_of, cells_with, CountsUp}
use Rattle.vms_elements.proofs.{Walk.walks, Walk.numbers_long, Walk.IsCounted, Facade.ArePaths, Facade.part_desc, Facade.CellLaw, Facade.CountedLaw}
use Rattle.vms_elements.proofs.Members.{Each, all_both, all_map, Has, has_left, has_right, has_map, shapes_cells, all_at}

-- ---- the path of each number has its cell and names a field of its kind and default; and a path that has a cell is a number's

-- an element of a field that there is
element_is : (cs : List (List Cell)) (d : Desc) (base i e place : ℕ) (f : Field) (go : Item → ℕ → Option ℕ) → slice_get d.fields i ≡ Some f → nat_lt e (capacity_of f.count) ≡ true
    → place_of cs d.fields 0 base d.fields i + e * item_size cs f.item ≡ place → element_at cs d base i e (slice_get d.fields i) go ≡ go f.item place
element_is cs d base i e place f go there below is = rw (there, below, is)

abbrev pub IsAt : List (ℕ × ℕ) → ℕ → Element → Type 0
IsAt path c x = (x.path ≡ path) × (x.cell ≡ c) × (is_number x.what ≡ true)

module _ (set : Set) where
  abbrev into : ℕ → List (ℕ × ℕ) → ℕ → ℕ → Option ℕ
  into below path j cell = if nat_lt j below then path_at set path j (slice_get set.structs j) cell else None

  -- ---- each number's path

  abbrev pub Tells : ℕ → Desc → ℕ → Element → Type 0
  Tells below d base x = (cell : Cell) → x.what ≡ Number cell → (path_at set x.path below (Some d) base ≡ Some x.cell) × IsFieldOf cell (field_named set x.path (Some d))

  abbrev TellsItem : ℕ → Field → ℕ → Element → Type 0
  TellsItem below f place x = (cell : Cell) → x.what ≡ Number cell
      → (item_at (into below x.path) x.path f.item place ≡ Some x.cell) × IsFieldOf cell (last_field (λ j. field_named set x.path (slice_get set.structs j)) x.path (Some f))

  abbrev Complete : ℕ → Type 0
  Complete below = (d : Desc) (v : ℕ) (n : List ℤ) (base : ℕ) → Each (Tells below d base) (desc_elements (first shape set.structs below) d v n base)

  dotted_tells : (below : ℕ) (f : Field) (j place : ℕ) (d : Desc) → f.item ≡ Struct j → nat_lt j below ≡ true → slice_get set.structs j ≡ Some d
      → (x : Element) → Tells j d place x → TellsItem below f place (dotted x)
  dotted_tells below f j place d is lt there x tells cell what = grind (arith, item_at)

  num_tells : (below : ℕ) (f : Field) (caps : List ℕ) (place : ℕ) (kind : Kind) → f.item ≡ Num kind
      → TellsItem below f place (single place (Number (record { kind = kind; capacities = caps; default = f.default })))
  num_tells below f caps place kind is cell what = (rw is refl, (cc, cc))

  item_tells : (below : ℕ) → below ≤ length set.structs → ((j : ℕ) → j < below → Complete j)
      → (f : Field) (caps : List ℕ) (n : List ℤ) (place : ℕ) (item : Item) → f.item ≡ item → Each (TellsItem below f place) (item_elements (first shape set.structs below) item caps f.default n place)
  item_tells below le earlier f caps n place (Num kind) is = (num_tells below f caps place kind is, tt)
  item_tells below le earlier f caps n place (Struct j) is = by_test (nat_lt j below) refl
    where
      ss : List Shape
      ss = first shape set.structs below

      by_test : (b : Bool) → nat_lt j below ≡ b → Each (TellsItem below f place) (map dotted ((get_or ss j no_shape).elements n place))
      by_test true t =
          let lt : j < below = ltb-true j below t in
          let d = get_or set.structs j no_desc in
          rw (first_at shape _ _ below j lt)
          (all_map _ _ dotted (dotted_tells below f j place d is t (slice_get-get_or _ j _ (omega arith)))
          _ (earlier j lt d d.version n place))
      by_test false t = rw (get_or_past ss j no_shape (omega (arith, first_long shape set.structs below, ltb-false j below t))) tt
  item_tells below le earlier f caps n place _ is = (λ cell what. cc, tt)

  -- ---- fields

  abbrev sizes : ℕ → List (List Cell)
  sizes below = first desc_cells set.structs below

  behind_tells : (below : ℕ) (d : Desc) (base i e place : ℕ) (f : Field) (text : List ℕ) (c p : Bool) → slice_get d.fields i ≡ Some f → nat_lt e (capacity_of f.count) ≡ true
      → place_of (sizes below) d.fields 0 base d.fields i + e * item_size (sizes below) f.item ≡ place → (x : Element) → TellsItem below f place x → Tells below d base (behind (i, e) text c p x)
  behind_tells below d base i e place f text c p there lt is x tells cell what =
      let t = tells cell what in (element_is _ d base i e place f _ there lt is ∙ t.0, rw there t.1)

  array_tells : (below : ℕ) (d : Desc) (base : ℕ) (f : Field) (stand : Stand) (part : ℕ → List Element) (step : ℕ) → slice_get d.fields stand.number ≡ Some f
      → step ≡ item_size (sizes below) f.item → ((place : ℕ) → Each (TellsItem below f place) (part place))
      → (e n place : ℕ) → e + n ≤ capacity_of f.count → place_of (sizes below) d.fields 0 base d.fields stand.number + e * step ≡ place → Each (Tells below d base) (array_elements f stand part step e n place)
  array_tells below d base f stand part step there size h e zero place le is = tt
  array_tells below d base f stand part step there size h e (suc n) place le is =
      all_both _ _ _
      (all_map _ _ _
      (behind_tells below d base stand.number e place f (f.name ++ index_text f.count e) (nat_lt e stand.count) (stand.there && nat_lt e stand.count) there (lt-ltb e (capacity_of f.count) (omega arith)) (rw (← size) is)) (part place) (h place))
      (array_tells below d base f stand part step there size h (suc e) n (place + step) (omega arith) (grind (arith, is)))

  -- the fields from i on are those of the description
  abbrev Among : List (List Cell) → Desc → ℕ → ℕ → ℕ → List Field → Type 0
  Among cs d base i place fs = (j k : ℕ) → j ≡ i + k → (slice_get d.fields j ≡ slice_get fs k) × (place_of cs d.fields 0 base d.fields j ≡ place_of cs d.fields i place fs k)

  fields_tell : (below : ℕ) → below ≤ length set.structs → ((j : ℕ) → j < below → Complete j) → (d : Desc) (base v : ℕ) (own : ℕ → ℕ) (n : List ℤ) (i place : ℕ) (fs : List Field)
      → Among (sizes below) d base i place fs → Each (Tells below d base) (elements_from (first shape set.structs below) d.fields v own n i place fs)
  fields_tell below le earlier d base v own n i place [] a = tt
  fields_tell below le earlier d base v own n i place (f ∷ fs) a =
      let ss = first shape set.structs below in
      let cells : cells_in ss ≡ sizes below = shapes_cells _ below in
      let here = a i 0 (omega arith) in
      all_both (Tells below d base) (field_elements ss d.fields v own n i place f) _
      (array_tells below d base f (stand_of i f v own) (item_elements ss f.item (counted i d.fields) f.default n) (item_size (cells_in ss) f.item) here.0 (rw cells refl)
      (λ p. item_tells below le earlier f (counted i d.fields) n p f.item refl) 0 (capacity_of f.count) place (omega arith) (grind (arith, here.1)))
      (rw cells (fields_tell below le earlier d base v own n (suc i) (place + length (field_cells (sizes below) d.fields i f)) fs (λ j k at. a j (suc k) (omega arith))))

  desc_tells : (below : ℕ) → below ≤ length set.structs → ((j : ℕ) → j < below → Complete j) → Complete below
  desc_tells below le earlier d v n base =
      let own = numbers_of (cells_in (first shape set.structs below)) d n base in
      all_both _ _ _
      (fields_tell below le earlier d base v own n 0 base d.fields (λ j k at. let same : j ≡ k = omega arith in rw same (refl, refl))) (λ cell what. cc, tt)

  up_to : (most below : ℕ) → below ≤ most → below ≤ length set.structs → Complete below
  up_to zero below le few = desc_tells below few (λ j lt. absurd (omega arith))
  up_to (suc most) below le few = desc_tells below few (λ j lt. up_to most j (omega arith) (omega arith))

  pub each_tells : (d : Desc) (v : ℕ) (n : List ℤ) (base : ℕ) → Each (Tells (length set.structs) d base) (elements_in set d v n base)
  each_tells d v n base = up_to (length set.structs) (length set.structs) (omega arith) (omega arith) d v n base

  -- ---- each path's number

  abbrev Sound : List (ℕ × ℕ) → Type 0
  Sound path = (below : ℕ) (d : Desc) (base c : ℕ) → below ≤ length set.structs → path_at set path below (Some d) base ≡ Some c
      → (v : ℕ) (n : List ℤ) → Has (IsAt path c) (desc_elements (first shape set.structs below) d v n base)

  in_array : (f : Field) (stand : Stand) (part : ℕ → List Element) (step : ℕ) (path : List (ℕ × ℕ)) (c j q e n place k : ℕ) → k < n → j ≡ e + k → q ≡ place + k * step
      → Has (IsAt path c) (part q) → Has (IsAt ((stand.number, j) ∷ path) c) (array_elements f stand part step e n place)
  in_array f stand part step path c j q e zero place k lt at here h = absurd (omega arith)
  in_array f stand part step path c j q e (suc n) place zero lt at here h =
      let same : q ≡ place = grind (arith, here) in
      let first : e ≡ j = omega arith in
      has_left _ _ _ (has_map _ _ (behind (stand.number, e) (f.name ++ index_text f.count e) _ _) (λ x p. (rw (p.0, first) refl, p.1, p.2)) (part place) (rw same at h))
  in_array f stand part step path c j q e (suc n) place (suc k) lt at here h =
      has_right _ _ _ (in_array f stand part step path c j q (suc e) n (place + step) k (omega arith) (omega arith) (grind (arith, here)) h)

  in_fields : (ss : List Shape) (fields : List Field) (v : ℕ) (own : ℕ → ℕ) (n : List ℤ) (path : List (ℕ × ℕ)) (c e : ℕ) (f : Field)
      → e < capacity_of f.count → (j i place : ℕ) (fs : List Field) (k : ℕ) → slice_get fs k ≡ Some f → j ≡ i + k
      → Has (IsAt path c) (item_elements ss f.item (counted j fields) f.default n (place_of (cells_in ss) fields i place fs k + e * item_size (cells_in ss) f.item))
      → Has (IsAt ((j, e) ∷ path) c) (elements_from ss fields v own n i place fs)
  in_fields ss fields v own n path c e f lt j i place [] k there at h = cc
  in_fields ss fields v own n path c e f lt j i place (g ∷ fs) zero there at h =
      let same : f ≡ g = cc in
      let is : j ≡ i = omega arith in
      rw is (has_left _ _ _ (in_array g _ _ _ path c e _ 0 _ place e (rw same at lt) (omega arith) refl (rw (is, same) at h)))
  in_fields ss fields v own n path c e f lt j i place (g ∷ fs) (suc k) there at h =
      has_right _ (field_elements ss fields v own n i place g) _ (in_fields ss fields v own n path c e f lt j (suc i) (place + length (field_cells (cells_in ss) fields i g)) fs k there (omega arith) h)

  in_item : (path : List (ℕ × ℕ)) → Sound path → (below : ℕ) → below ≤ length set.structs → (item : Item) (caps : List ℕ) (z : ℤ) (n : List ℤ) (place c : ℕ)
      → item_at (into below path) path item place ≡ Some c → Has (IsAt path c) (item_elements (first shape set.structs below) item caps z n place)
  in_item [] sound below few (Num kind) caps z n place c h = inl (refl, cc, refl)
  in_item [] sound below few _ caps z n place c h = cc
  in_item (s ∷ path) sound below few (Struct j) caps z n place c h = by_test (nat_lt j below) refl h
    where
      ss : List Shape
      ss = first shape set.structs below

      d : Desc
      d = get_or set.structs j no_desc

      by_test : (b : Bool) → nat_lt j below ≡ b → (if b then path_at set (s ∷ path) j (slice_get set.structs j) place else None) ≡ Some c
          → Has (IsAt (s ∷ path) c) (map dotted ((get_or ss j no_shape).elements n place))
      by_test false t h = cc
      by_test true t h =
          let lt : j < below = ltb-true j below t in
          let there = slice_get-get_or set.structs j no_desc (omega arith) in
          rw (first_at shape set.structs no_shape below j lt) (has_map (IsAt (s ∷ path) c) (IsAt (s ∷ path) c) dotted (λ x p. p) (desc_elements (first shape set.structs j) d d.version n place)
          (sound j d place c (omega arith) (ap (λ o. path_at set (s ∷ path) j o place) (sym there) ∙ h) d.version n))
  in_item (s ∷ path) sound below few _ caps z n place c h = cc

  in_desc : (path : List (ℕ × ℕ)) → Sound path → (below : ℕ) → below ≤ length set.structs → (d : Desc) (base i e c : ℕ) (o : Option Field) → slice_get d.fields i ≡ o
      → element_at (sizes below) d base i e o (item_at (into below path) path) ≡ Some c
      → (v : ℕ) (n : List ℤ) → Has (IsAt ((i, e) ∷ path) c) (desc_elements (first shape set.structs below) d v n base)
  in_desc path sound below few d base i e c None there h v n = cc
  in_desc path sound below few d base i e c (Some f) there h v n = by_test (nat_lt e (capacity_of f.count)) refl h
    where
      ss : List Shape
      ss = first shape set.structs below

      own : ℕ → ℕ
      own = numbers_of (cells_in ss) d n base

      cells : cells_in ss ≡ sizes below
      cells = shapes_cells _ below

      by_test : (b : Bool) → nat_lt e (capacity_of f.count) ≡ b
          → (if b then item_at (into below path) path f.item (place_of (sizes below) d.fields 0 base d.fields i + e * item_size (sizes below) f.item) else None) ≡ Some c
          → Has (IsAt ((i, e) ∷ path) c) (desc_elements ss d v n base)
      by_test false t h = cc
      by_test true t h =
          has_left _ _ _ (in_fields ss d.fields v own n path c e f (ltb-true e (capacity_of f.count) t) i 0 base d.fields i there (omega arith)
          (rw cells (in_item path sound below few f.item (counted i d.fields) f.default n _ c h)))

  sound : (path : List (ℕ × ℕ)) → Sound path
  sound [] below d base c few h v n = cc
  sound (s ∷ path) below d base c few h v n = in_desc path (sound path) below few d base s.0 s.1 c _ refl h v n

  pub path_stands : (path : List (ℕ × ℕ)) (d : Desc) (base c : ℕ) → path_at set path (length set.structs) (Some d) base ≡ Some c → (v : ℕ) (n : List ℤ) → Has (IsAt path c) (elements_in set d v n base)
  path_stands path d base c h v n = sound path (length set.structs) d base c (omega arith) h v n

-- ---- the paths of a device's cells: numbers that count up

number_has : (path : List (ℕ × ℕ)) (c : ℕ) (xs : List Element) → Has (IsAt path c) xs → Has (IsAt path c) (numbers_in xs)
number_has path c [] h = absurd h
number_has path c (x ∷ xs) (inl p) = rw p.2 (inl p)
number_has path c (x ∷ xs) (inr h) = by_test _ (number_has path c xs h)
  where
    by_test : (b : Bool) → Has (IsAt path c) (numbers_in xs) → Has (IsAt path c) (if b then x ∷ numbers_in xs else numbers_in xs)
    by_test true k = inr k
    by_test false k = k

record Within (base size c : ℕ) : Type 0 where
  low : base ≤ c
  high : c < base + size

counts_within : (path : List (ℕ × ℕ)) (c base : ℕ) (xs : List Element) → CountsUp base xs → Has (IsAt path c) xs → Within base (length xs) c
counts_within path c base [] up h = absurd h
counts_within path c base (x ∷ xs) (e, up) (inl (at, is, number)) = record { low = omega arith; high = omega arith }
counts_within path c base (x ∷ xs) (e, up) (inr h) = let w = counts_within path c (base + 1) xs up h in record { low = omega arith; high = omega arith }

one_path : (path path' : List (ℕ × ℕ)) (c base : ℕ) (xs : List Element) → CountsUp base xs → Has (IsAt path c) xs → Has (IsAt path' c) xs → path ≡ path'
one_path path path' c base [] up h k = absurd h
one_path path path' c base (x ∷ xs) (e, up) (inl p) (inl q) = cc
one_path path path' c base (x ∷ xs) (e, up) (inl (at, is, number)) (inr k) = let w = counts_within path' c _ xs up k in absurd (omega arith)
one_path path path' c base (x ∷ xs) (e, up) (inr h) (inl (at, is, number)) = let w = counts_within path c _ xs up h in absurd (omega arith)
one_path path path' c base (x ∷ xs) (e, up) (inr h) (inr k) = one_path path path' c (base + 1) xs up h k

-- the number of a cell, which holds P
record Picked (P : Element → Type 0) (c : ℕ) (form : Cell) : Type 0 where
  element : Element
  place : element.cell ≡ c
  what : element.what ≡ Number form
  holds : P element

pick : (P : Element → Type 0) (base c k : ℕ) (xs : List Element) → c ≡ base + k → k < length (cells_of xs) → CountsUp base (numbers_in xs) → Each P xs → Picked P c (get_or (cells_of xs) k no_cell)
pick P base c k [] is lt up h = absurd (omega arith)
pick P base c k (x ∷ xs) at lt up (p, h) = by_what x.what refl k at lt up (λ base k at lt up. pick P base c k xs at lt up h)
  where
    by_what : (w : What) → x.what ≡ w → (k : ℕ) → c ≡ base + k → k < length (cells_with w (cells_of xs)) → CountsUp base (if is_number w then x ∷ numbers_in xs else numbers_in xs)
        → ((base k : ℕ) → c ≡ base + k → k < length (cells_of xs) → CountsUp base (numbers_in xs) → Picked P c (get_or (cells_of xs) k no_cell))
        → Picked P c (get_or (cells_with w (cells_of xs)) k no_cell)
    by_what (Number form) is zero at lt (e, up) later = record { element = x; place = omega arith; what = is; holds = p }
    by_what (Number form) is (suc k) at lt (e, up) later = later (base + 1) k (omega arith) (omega arith) up
    by_what _ is k at lt up later = later base k at lt up

-- a cell of two parts lies in one of them
split : (P : Cell → Type 0) (xs ys : List Cell) (k : ℕ) → k < length (xs ++ ys) → (k < length xs → P (get_or xs k no_cell))
    → ((j : ℕ) → k ≡ length xs + j → j < length ys → P (get_or ys j no_cell)) → P (get_or (xs ++ ys) k no_cell)
split P [] ys k lt here later = later k (omega arith) lt
split P (x ∷ xs) ys zero lt here later = here (omega arith)
split P (x ∷ xs) ys (suc k) lt here later = split P xs ys k (omega arith) (λ l. here (omega arith)) (λ j e l. later j (omega arith) l)

-- ---- one description

module _ (set : Set) (d : Desc) (base : ℕ) where
  abbrev whole : ℕ
  whole = length (desc_cells (struct_cells set) d)

  abbrev all : List Element
  all = elements_in set d 0 [] base

  abbrev IsPath : List (ℕ × ℕ) → ℕ → Type 0
  IsPath path c = path_at set path (length set.structs) (Some d) base ≡ Some c

  cells : cells_of all ≡ desc_cells (struct_cells set) d
  cells = (walks set d 0 0 [] [] base base).cells_are

  laid : CountsUp base (numbers_in all)
  laid = (walks set d 0 0 [] [] base base).up

  has : (path : List (ℕ × ℕ)) (c : ℕ) → IsPath path c → Has (IsAt path c) (numbers_in all)
  has path c h = number_has path c all (path_stands set path d base c h 0 [])

  inside : (path : List (ℕ × ℕ)) (c : ℕ) → IsPath path c → Within base whole c
  inside path c h = let w = counts_within path c base _ laid (has path c h) in rw (numbers_long all, cells) at w

  same_path : (path path' : List (ℕ × ℕ)) (c : ℕ) → IsPath path c → IsPath path' c → path ≡ path'
  same_path path path' c h k = grind (arith, one_path, laid, has)

  -- a cell of the description has this path
  record HasOwnPath (c : ℕ) (x : Cell) : Type 0 where
    path : List (ℕ × ℕ)
    has_it : IsPath path c
    names : IsFieldOf x (field_named set path (Some d))

  own_path : (c k : ℕ) → c ≡ base + k → k < whole → HasOwnPath c (get_or (desc_cells (struct_cells set) d) k no_cell)
  own_path c k is lt =
      let p = pick _ base c k all is (rw cells lt) laid (each_tells set d 0 [] base) in
      let t = p.holds (get_or (cells_of all) k no_cell) p.what in
      let names = rw cells at t.1 in
      record { path = p.element.path; has_it = t.0 ∙ ap Some p.place; names = names }

-- ---- subsections

module _ (set : Set) where
  abbrev size : Sub → ℕ
  size s = length (desc_cells (struct_cells set) s.desc)

  -- the cell of a path in subsection j
  abbrev InSub : ℕ → List Sub → ℕ → List (ℕ × ℕ) → ℕ → Type 0
  InSub base subs j path c = path_at set path (length set.structs) (desc_of_sub (slice_get subs j)) (sub_place set base subs j) ≡ Some c

  no_desc_path : (path : List (ℕ × ℕ)) (below base c : ℕ) → path_at set path below None base ≡ Some c → ⊥
  no_desc_path [] below base c h = cc
  no_desc_path (s ∷ path) below base c h = cc

  sub_low : (base : ℕ) (subs : List Sub) (j : ℕ) (path : List (ℕ × ℕ)) (c : ℕ) → InSub base subs j path c → base ≤ c
  sub_low base [] j path c h = absurd (no_desc_path path _ _ c h)
  sub_low base (s ∷ subs) zero path c h = (inside set s.desc base path c h).low
  sub_low base (s ∷ subs) (suc j) path c h = omega (arith, sub_low (base + size s) subs j path c h)

  -- a part's cells lie before those of the subsections after it
  apart : (d : Desc) (base next : ℕ) (subs : List Sub) (j : ℕ) (path path' : List (ℕ × ℕ)) (c : ℕ) → base + length (desc_cells (struct_cells set) d) ≤ next
      → path_at set path (length set.structs) (Some d) base ≡ Some c → InSub next subs j path' c → ⊥
  apart d base next subs j path path' c le h k = omega (arith, (inside set d base path c h).high, sub_low next subs j path' c k)

  same_sub : (base : ℕ) (subs : List Sub) (j j' : ℕ) (path path' : List (ℕ × ℕ)) (c : ℕ) → InSub base subs j path c → InSub base subs j' path' c → ArePaths (Some j) (Some j') path path'
  same_sub base [] j j' path path' c h k = absurd (no_desc_path path _ _ c h)
  same_sub base (s ∷ subs) zero zero path path' c h k = record { same_part = refl; same_path = same_path set s.desc base path path' c h k }
  same_sub base (s ∷ subs) zero (suc j') path path' c h k = absurd (apart s.desc base _ subs j' path path' c (omega arith) h k)
  same_sub base (s ∷ subs) (suc j) zero path path' c h k = absurd (apart s.desc base _ subs j path' path c (omega arith) k h)
  same_sub base (s ∷ subs) (suc j) (suc j') path path' c h k = search (arith, same_sub (base + size s) subs j j' path path' c h k)

  same_at : (o : Option Device) (part part' : Option ℕ) (path path' : List (ℕ × ℕ)) (c : ℕ) → cell_in set o part path ≡ Some c → cell_in set o part' path' ≡ Some c → ArePaths part part' path path'
  same_at o part part' path path' c h k = grind (arith, same_path, apart, same_sub)

  -- ---- each cell's path

  abbrev subs_cells : List Sub → List Cell
  subs_cells subs = flat_map (λ s. desc_cells (struct_cells set) s.desc) subs

  record HasSubPath (base : ℕ) (subs : List Sub) (c : ℕ) (x : Cell) : Type 0 where
    sub : ℕ
    path : List (ℕ × ℕ)
    has_it : InSub base subs sub path c
    names : IsFieldOf x (field_named set path (desc_of_sub (slice_get subs sub)))

  sub_path : (base : ℕ) (subs : List Sub) (c k : ℕ) → c ≡ base + k → k < length (subs_cells subs) → HasSubPath base subs c (get_or (subs_cells subs) k no_cell)
  sub_path base [] c k is lt = absurd (omega arith)
  sub_path base (s ∷ subs) c k is lt =
      split (HasSubPath base (s ∷ subs) c) (desc_cells (struct_cells set) s.desc) (subs_cells subs) k lt
      (λ l. let p = own_path set s.desc base c k is l in record { sub = 0; path = p.path; has_it = p.has_it; names = p.names })
      (λ j e l. let p = sub_path (base + size s) subs c j (omega arith) l in record { sub = suc p.sub; path = p.path; has_it = p.has_it; names = p.names })

  record Found (k : ℕ) (d : Device) (c : ℕ) (x : Cell) : Type 0 where
    part : Option ℕ
    path : List (ℕ × ℕ)
    has : cell_at set k part path ≡ Some c
    names : IsFieldOf x (field_named set path (part_desc d part))

  device_path : (k : ℕ) (d : Device) (c : ℕ) → slice_get set.devices k ≡ Some d → c < length (device_cells set d) → Found k d c (get_or (device_cells set d) c no_cell)
  device_path k d c there lt =
      split (Found k d c) (desc_cells (struct_cells set) d.desc) (subs_cells d.subs) c lt
      (λ l. let p = own_path set d.desc 0 c c (omega arith) l in record { part = None; path = p.path; has = rw there p.has_it; names = p.names })
      (λ j e l. let p = sub_path (own_cells set d) d.subs c j e l in record { part = Some p.sub; path = p.path; has = rw there p.has_it; names = p.names })

pub distinct_law : DistinctLaw
distinct_law set k part part' path path' c h e = same_at set _ part part' path path' c h e

pub path_law : PathLaw
path_law set k d c there lt = let f = device_path set k d c there lt in record { part = f.part; path = f.path; has = f.has; names = f.names }

-- ---- what is in the bytes is counted, and the path of a number is its cell's

pub counted_holds : CountedLaw
counted_holds set d v numbers place i x is = all_at IsCounted (elements_in set d v numbers place) i x is (walks set d v v numbers numbers place place).counted

pub cell_holds : CellLaw
cell_holds set d v numbers place i x cell is what =
    (all_at (Tells set (length set.structs) d place) (elements_in set d v numbers place) i x is (each_tells set d v numbers place) cell what).0
