-- The cell of a path, given the numbers of cells of the structures, and the first cell of a path.
use Rattle.vms_desc.proofs.Facade
use Facade.{◌≡◌, ℕ, zero, suc, ◌+◌, ◌*◌, ◌<◌, ◌≤◌, List, ◌∷◌, length, length-append, length-take-le, get_or, take, map, refl}
use Facade.{ap, cases_Bool, ◌∙◌, arith, inl, inr, Option, Some, None, [], nat_lt, if◌then◌else◌, flat_map, slice_get, ltb-true, lt-ltb, cases_lt}
use Facade.{length-map, take_all, take-append-le, take-map, map-map, get_or-map, Kind, Item, Num, Struct, MOST_ITEMS, first, no_desc, no_field, capacity_of}
use Facade.{place_of, item_size, desc_cells, struct_cells, device_cells, sub_place, own_cells, item_at, element_at, path_at, cell_in, element_room, first_long}
use Facade.{first_at, Cells, in_u32, size_of, fields_size, subs_size, field_of, desc_of, form_of, layout_of, capped_fields, capped_subs, Placed, Element}
use Facade.{sizes_of, element_in, element_of, begin_desc, begin_base, Begins, Enters, IsPlaced, slice_get-map, slice_get_within, slice_get-get_or}
use Facade.{get_or_from_slice_get}
use Rattle.vms_desc.proofs.EvalLaws.{cells_size, place_is, size_taken, take_less, exact}
use Rattle.vms_spec.specs.Layout.{Cell}
use Rattle.vms_parts.specs.declared.types.Field.{Field}
use Rattle.std.proofs.lemmas.List.{get_or-map as map_at}
use Rattle.vms_spec.specs.Sets as sets

-- ---- one element

pub at_there : {X Y : Type 0} (g : X → Y) (xs : List X) (i : ℕ) (x : X) → i < length xs → x ≡ get_or xs i x → slice_get (map g xs) i ≡ Some (g x)
at_there g xs i x lt is = cc (slice_get-map g xs i, slice_get-get_or xs i x lt)

pub element_fits : (sizes : List ℕ) (fs : List sets.Field) (base i e : ℕ) (f : sets.Field) → slice_get fs i ≡ Some f → e < capacity_of f.count
    → base + fields_size Cells sizes fs ≤ MOST_ITEMS
    → base + fields_size Cells sizes (take i fs) + e * size_of Cells sizes f.item + size_of Cells sizes f.item ≤ MOST_ITEMS
element_fits sizes fs base i e f there lt few =
    let taken = rw (get_or_from_slice_get fs i f no_field there) at (size_taken sizes fs i (slice_get_within fs i f there)) in
    omega (arith, taken, take_less sizes fs (suc i), element_room e (capacity_of f.count) (size_of Cells sizes f.item) lt)

-- the fields before it have few cells too
pub before_fits : (sizes : List ℕ) (fields : List Field) (base i before : ℕ) → base + fields_size Cells sizes (map field_of fields) ≤ MOST_ITEMS
    → before ≡ in_u32 (fields_size Cells sizes (map field_of (take i fields))) → before ≡ fields_size Cells sizes (take i (map field_of fields))
before_fits sizes fields base i before few e = rw take-map (omega (arith, rw (take-map field_of i fields) at (take_less sizes (map field_of fields) i)))

pub element_is : (sizes : List ℕ) (d : sets.Desc) (base cell : ℕ) (step : ℕ × ℕ) (f : sets.Field) → slice_get d.fields step.0 ≡ Some f
    → step.1 < capacity_of f.count → cell ≡ base + fields_size Cells sizes (take step.0 d.fields) + step.1 * size_of Cells sizes f.item
    → Some (record { item = f.item; cell = cell }) ≡ element_of sizes d base step
element_is sizes d base cell step f there lt is = rw (there, lt-ltb step.1 (capacity_of f.count) lt, is)

abbrev cell_by : List ℕ → sets.Desc → ℕ → (ℕ × ℕ) → sets.Field → ℕ
cell_by sizes d base step f = base + fields_size Cells sizes (take step.0 d.fields) + step.1 * size_of Cells sizes f.item

-- an element ends among the cells
within_in : (sizes : List ℕ) (d : sets.Desc) (base : ℕ) (step : ℕ × ℕ) (el : Element) (o : Option sets.Field) → slice_get d.fields step.0 ≡ o
    → base + fields_size Cells sizes d.fields ≤ MOST_ITEMS → Some el ≡ element_in sizes d base step o → el.cell + size_of Cells sizes el.item ≤ MOST_ITEMS
within_in sizes d base step el None there few e = cc
within_in sizes d base step el (Some f) there few e = elim (cases_Bool (nat_lt step.1 (capacity_of f.count))) [
  | inl t ↦ (
      let made : Some el ≡ Some (record { item = f.item; cell = cell_by sizes d base step f }) = rw t at e in
      let same : el ≡ record { item = f.item; cell = cell_by sizes d base step f } = cc made in
      rw same (element_fits sizes d.fields base step.0 step.1 f there (ltb-true step.1 (capacity_of f.count) t) few))
  | inr t ↦ (let none : Some el ≡ None = rw t at e in cc none)
]

pub element_within : (sizes : List ℕ) (d : sets.Desc) (base : ℕ) (step : ℕ × ℕ) (el : Element) → base + fields_size Cells sizes d.fields ≤ MOST_ITEMS
    → Some el ≡ element_of sizes d base step → el.cell + size_of Cells sizes el.item ≤ MOST_ITEMS
element_within sizes d base step el few e = within_in sizes d base step el (slice_get d.fields step.0) refl few e

-- ---- sizes that are cut at 2 ^ 32 - 1

size_capped : (cs : List (List Cell)) (item : Item) → size_of Cells (map (λ cells. in_u32 (length cells)) cs) item ≡ in_u32 (item_size cs item)
size_capped cs (Struct j) = get_or-map (λ (cells : List Cell). in_u32 (length cells)) cs j []
size_capped cs item = refl

take_first : {B : Type 0} (f : List B → sets.Desc → B) (ds : List sets.Desc) (j k : ℕ) → j ≤ k → take j (first f ds k) ≡ first f ds j
unfolding first
take_first {B = B} f ds j zero le = let none : j ≡ 0 = omega arith in rw none
take_first {B = B} f ds j (suc k) le = elim (cases_lt k j) [
  | inl l ↦ (let last : j ≡ suc k = omega arith in rw last (take_all (suc k) (first f ds (suc k)) (omega (arith, first_long f ds (suc k)))))
  | inr l ↦ take-append-le j (first f ds k) (f (first f ds k) (get_or ds k no_desc) ∷ []) (omega (arith, first_long f ds k)) ∙ take_first f ds j k l
]

module _ (set : sets.Set) (p : Placed) (placed : IsPlaced set p) where
  abbrev cells : List (List Cell)
  cells = first desc_cells set.structs (length p.sizes.now)

  abbrev fields : List sets.Field
  fields = (desc_of p.desc.now).fields

  few_cells : p.base + fields_size Cells (map length cells) fields ≤ MOST_ITEMS
  few_cells = omega (arith, cells_size cells fields 0 fields, placed.room)

  pub few_by_sizes : p.base + fields_size Cells p.sizes.now (desc_of p.desc.now).fields ≤ MOST_ITEMS
  few_by_sizes = rw placed.sized (omega (arith, exact cells fields (omega (arith, few_cells)), few_cells))

  -- the cell of an element
  same_cell : (i e : ℕ) (f : sets.Field) → slice_get fields i ≡ Some f → e < capacity_of f.count → p.base + fields_size Cells p.sizes.now
      (take i fields) + e * size_of Cells p.sizes.now f.item ≡ place_of cells fields 0 p.base fields i + e * item_size cells f.item
  same_cell i e f there lt =
      let front : fields_size Cells p.sizes.now (take i fields) ≡ fields_size Cells (map length cells) (take i fields) =
      ap (λ (l : List ℕ). fields_size Cells l (take i fields)) placed.sized ∙ exact cells (take i fields)
      (omega (arith, take_less (map length cells) fields i, few_cells)) in
      let capped : size_of Cells p.sizes.now f.item ≡ in_u32 (item_size cells f.item) =
      ap (λ (l : List ℕ). size_of Cells l f.item) placed.sized ∙ size_capped cells f.item in
      let size : size_of Cells p.sizes.now f.item ≡ item_size cells f.item =
      omega (arith, element_fits p.sizes.now fields p.base i e f there lt few_by_sizes) in
      rw size (omega (arith, front, place_is cells fields 0 p.base fields i))

  -- the cell of the rest of a path at an item
  abbrev goes : List (ℕ × ℕ) → Item → ℕ → Option ℕ
  goes path item cell = item_at (λ j cell. if nat_lt j (length p.sizes.now) then path_at set path j (slice_get set.structs j) cell else None) path item cell

  -- the cell of the rest of a path at an element
  abbrev pub after : List (ℕ × ℕ) → Option Element → Option ℕ
  after path None = None
  after path (Some el) = goes path el.item el.cell

  after_is : (path : List (ℕ × ℕ)) (step : ℕ × ℕ) (o : Option sets.Field) → slice_get fields step.0 ≡ o
      → element_at cells (desc_of p.desc.now) p.base step.0 step.1 o (goes path) ≡ after path (element_in p.sizes.now (desc_of p.desc.now) p.base step o)
  after_is path step o there = grind (arith, same_cell)

  pub path_is : (path : List (ℕ × ℕ)) (step : ℕ × ℕ)
      → path_at set (step ∷ path) (length p.sizes.now) (Some (desc_of p.desc.now)) p.base ≡ after path (element_of p.sizes.now (desc_of p.desc.now) p.base step)
  path_is path step = after_is path step (slice_get fields step.0) refl

  -- the structure that an element is
  pub inner_placed : (number cell : ℕ) (inner : Placed) → Enters set.structs p.sizes.now number cell inner
      → cell + size_of Cells p.sizes.now (Struct number) ≤ MOST_ITEMS → IsPlaced set inner
  inner_placed number cell inner enters few =
      let long : length inner.sizes.now ≡ number = ap length enters.sizes_are ∙ length-take-le number p.sizes.now (omega (arith, enters.known)) in
      let cut : take number p.sizes.now ≡ map (λ cells. in_u32 (length cells)) (first desc_cells set.structs number) =
      rw (placed.sized, take-map (λ cells. in_u32 (length cells)) number cells)
      (rw (take_first desc_cells set.structs number (length p.sizes.now) (omega (arith, enters.known)))) in
      let capped : size_of Cells p.sizes.now (Struct number) ≡ in_u32 (length (get_or cells number [])) =
      ap (λ (l : List ℕ). size_of Cells l (Struct number)) placed.sized ∙ size_capped cells (Struct number) in
      let made = ap length (first_at desc_cells set.structs [] (length p.sizes.now) number enters.known) in
      let here = ap (λ (d : sets.Desc). length (desc_cells (first desc_cells set.structs number) d)) enters.desc in
      record {
        known = omega (arith, enters.known, placed.known);
        sized = rw long (enters.sizes_are ∙ cut);
        room = rw long (omega (arith, capped, made, here, enters.base_is));
      }

-- ---- the rest of a path

-- in a structure
pub in_struct : (set : sets.Set) (below : ℕ) (path : List (ℕ × ℕ)) (j cell : ℕ) (d : sets.Desc) → j < below → slice_get set.structs j ≡ Some d
    → item_at (λ j cell. if nat_lt j below then path_at set path j (slice_get set.structs j) cell else None) path (Struct j) cell ≡ path_at set path j
    (Some d) cell
in_struct set below path j cell d lt there = grind arith

-- at a number
pub at_number : (inside : ℕ → ℕ → Option ℕ) (path : List (ℕ × ℕ)) (kind : Kind) (cell : ℕ) → path ≡ [] → item_at inside path (Num kind) cell ≡ Some cell
at_number inside path kind cell e = rw e

-- ---- the sizes of subsections

subs_cells : (cs : List (List Cell)) (subs : List sets.Sub) → length (flat_map (λ s. desc_cells cs s.desc) subs) ≡ subs_size Cells (map length cs) subs
subs_cells cs [] = refl
subs_cells cs (s ∷ subs) = rw (length-append, cells_size cs s.desc.fields 0 s.desc.fields, subs_cells cs subs)

subs_less : (sizes : List ℕ) (subs : List sets.Sub) (j : ℕ) → subs_size Cells sizes (take j subs) ≤ subs_size Cells sizes subs
subs_less sizes (s ∷ subs) (suc j) = omega (arith, subs_less sizes subs j)
subs_less sizes [] (suc j) = omega arith
subs_less sizes subs zero = omega arith

sub_room : (sizes : List ℕ) (subs : List sets.Sub) (j : ℕ) (s : sets.Sub) → slice_get subs j ≡ Some s
    → subs_size Cells sizes (take j subs) + fields_size Cells sizes s.desc.fields ≤ subs_size Cells sizes subs
sub_room sizes [] j s e = cc
sub_room sizes (r ∷ subs) zero s e = let same : s ≡ r = cc in rw same (omega arith)
sub_room sizes (r ∷ subs) (suc j) s e = omega (arith, sub_room sizes subs j s e)

place_of_sub : (set : sets.Set) (base : ℕ) (subs : List sets.Sub) (j : ℕ)
    → sub_place set base subs j ≡ base + subs_size Cells (map length (struct_cells set)) (take j subs)
place_of_sub set base (s ∷ subs) (suc j) = grind (arith, cells_size, place_of_sub set (base + length (desc_cells (struct_cells set) s.desc)) subs j)
place_of_sub set base [] (suc j) = omega arith
place_of_sub set base [] zero = omega arith
place_of_sub set base (s ∷ subs) zero = omega arith

-- ---- the first cell of a path

pub long_sizes : (set : sets.Set) (sizes : List ℕ) → sizes ≡ sizes_of set → length sizes ≡ length set.structs
long_sizes set sizes e = ap length e ∙ length-map (struct_cells set) (λ cells. in_u32 (length cells)) ∙ first_long desc_cells set.structs (length set.structs)

-- the first cell
abbrev pub base_of : sets.Set → sets.Device → Option ℕ → ℕ
base_of set d None = 0
base_of set d (Some j) = sub_place set (own_cells set d) d.subs j

pub begins_at : (set : sets.Set) (d : sets.Device) (part : Option ℕ) (path : List (ℕ × ℕ))
    → cell_in set (Some d) part path ≡ path_at set path (length set.structs) (begin_desc d part) (base_of set d part)
begins_at set d part path = grind arith

pub nowhere : (set : sets.Set) (path : List (ℕ × ℕ)) (below base : ℕ) → path_at set path below None base ≡ None
nowhere set [] below base = refl
nowhere set (step ∷ path) below base = refl

module _ (set : sets.Set) (d : sets.Device) (few : length (device_cells set d) ≤ MOST_ITEMS) where
  abbrev lengths : List ℕ
  lengths = map length (struct_cells set)

  own_size : length (desc_cells (struct_cells set) d.desc) ≡ fields_size Cells lengths d.desc.fields
  own_size = cells_size (struct_cells set) d.desc.fields 0 d.desc.fields

  all_few : fields_size Cells lengths d.desc.fields + subs_size Cells lengths d.subs ≤ MOST_ITEMS
  all_few =
      let cells = struct_cells set in
      omega (arith, length-append (desc_cells cells d.desc) (flat_map (λ s. desc_cells cells s.desc) d.subs), own_size, subs_cells cells d.subs)

  pub same_base : (part : Option ℕ) → begin_base (sizes_of set) d part ≡ base_of set d part
  same_base None = refl
  same_base (Some j) =
      let own = rw (map-map in_u32 length (struct_cells set)) at (capped_fields Cells lengths d.desc.fields) in
      let before = rw (map-map in_u32 length (struct_cells set)) at (capped_subs Cells lengths (take j d.subs)) in
      omega (arith, own, before, all_few, subs_less lengths d.subs j, place_of_sub set (own_cells set d) d.subs j, own_size)

  has_room : (part : Option ℕ) (e : sets.Desc) → begin_desc d part ≡ Some e → base_of set d part + length (desc_cells (struct_cells set) e) ≤ MOST_ITEMS
  has_room part e is = grind (arith, all_few, own_size, cells_size, sub_room, place_of_sub)

  pub begins_placed : (part : Option ℕ) (p : Placed) → Begins (sizes_of set) d part p → IsPlaced set p
  begins_placed part p begins =
      let long : length p.sizes.now ≡ length set.structs = long_sizes set p.sizes.now begins.sizes_are in
      record {
        known = omega arith;
        sized = rw long begins.sizes_are;
        room = rw long (omega (arith, begins.base, same_base part, has_room part (desc_of p.desc.now) begins.desc));
      }

pub few_of_device : (set : sets.Set) (k : ℕ) (d : sets.Device) → slice_get set.devices k ≡ Some d → length (get_or (layout_of set) k []) ≤ MOST_ITEMS
    → length (device_cells set d) ≤ MOST_ITEMS
few_of_device set k d there few =
    let cells = λ (d : sets.Device). map form_of (device_cells set d) in
    let here = map_at cells set.devices k d [] (slice_get_within set.devices k d there) in
    omega (arith, ap length here, ap (λ (d : sets.Device). length (cells d)) (get_or_from_slice_get set.devices k d d there), length-map (device_cells set d) form_of)
