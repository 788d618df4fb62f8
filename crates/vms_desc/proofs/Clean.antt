-- Well-formed sets: their limits, their properties part by part, and that the shipped sets are.
use Rattle.vms_desc.proofs.{Facade.nat_tests, Facade.newest_set, EvalLaws.cells_size, EvalLaws.struct_sizes}
use Rattle.vms_desc.proofs.Facade.{shipped_set, clock_set, heads_fit, items_are, items_to, is_well_formed, ◌≡◌, ℕ, zero, suc, ◌*◌, ◌≤◌, List}
use Rattle.vms_desc.proofs.Facade.{◌∷◌, ◌++◌, length, length-append, get_or, map, sym, ap, ◌∙◌, arith, true, ◌&&◌, nat_le, [], flat_map}
use Rattle.vms_desc.proofs.Facade.{and_parts, leb-true, length-map, map-map, Item, Struct, MOST_ITEMS, Field, Desc, Sub, Device, Set, first, no_desc}
use Rattle.vms_desc.proofs.Facade.{capacity_of, desc_cells, struct_cells, device_cells, first_fault, items_in, struct_items, subs_items, devices_items, IsFit}
use Rattle.vms_desc.proofs.Facade.{IsGood, FitsHeads, first_long, well_good, Cells, Items, in_u32, size_of, fields_size, sizes_to, form_of, layout_of, ◌<◌}
use Rattle.vms_desc.proofs.Facade.{Some, refl, Bool, list_all, slice_get, slice_get-get_or, Count, Part, Formula, AtLeast, no_field, is_name, is_steady_in}
use Rattle.vms_desc.proofs.Facade.{names_well, nobody, test_names_well, count_names_well, uses_below, has_good_count, field_rules, validation_rules, has_few}
use Rattle.vms_desc.proofs.Facade.{struct_rules, sub_rules, device_rules, WellFormed, device_at, mul-le, HasPart, desc_at, sub_at, AllTrue, Clean, device_parts}
use Rattle.vms_desc.proofs.Facade.{◌+◌, ◌-◌, drop, get_or_default, get_or-map, get_or-drop, get_or-map-range_with_len, range_with_len, NEWEST_SET}
use Rattle.vms_desc.proofs.Facade.{shipped_sets, all_fit, device_fits, each, fit, is_fit}
pub use Rattle.vms_spec.proofs.ShippedSets.{none_is}
use Rattle.vms_spec.proofs.WellFormedLaws.{set_clean, struct_clean as struct_at, sub_clean as sub_of}
use Rattle.vms_spec.specs.declared.Part.TheVariants as parts

-- ---- no fault at the set

module _ (set : Set) (h : is_well_formed set ≡ true) where
  limits : (nat_le (length set.machines) 16 && nat_le (length set.structs) 64 && nat_le (length set.devices) 64) ≡ true
  limits = (set_clean set (none_is (first_fault set) h)).own.1.1.1.1.1.1.0

  pub few_machines : length set.machines ≤ 16
  few_machines = grind (arith, nat_tests, limits)

  pub few_structs : length set.structs ≤ 64
  few_structs = grind (arith, nat_tests, limits)

  pub few_devices : length set.devices ≤ 64
  few_devices = grind (arith, nat_tests, limits)

  pub few_items : devices_items (struct_items set.structs) set.devices ≤ MOST_ITEMS
  few_items = leb-true (devices_items (struct_items set.structs) set.devices) MOST_ITEMS (set_clean set (none_is (first_fault set) h)).sizes.1.1.1.1.1.1.0

  -- a set whose instances and versions fit is fit, and good
  pub fit_of : FitsHeads set → IsFit set
  fit_of heads = record { well = none_is (first_fault set) h; heads = heads }

  pub good_of : FitsHeads set → IsGood set
  good_of heads = well_good set (none_is (first_fault set) h) heads

-- ---- there are at most as many cells as items

-- each number of one list is at most that of the other, also with one number more
less_append : (xs ys : List ℕ) (a b : ℕ) → length xs ≡ length ys → ((j : ℕ) → get_or xs j 0 ≤ get_or ys j 0) → a ≤ b → (j : ℕ)
    → get_or (xs ++ a ∷ []) j 0 ≤ get_or (ys ++ b ∷ []) j 0
less_append [] [] a b e h le zero = le
less_append [] [] a b e h le (suc j) = omega arith
less_append (c ∷ xs) (d ∷ ys) a b e h le zero = h 0
less_append (c ∷ xs) (d ∷ ys) a b e h le (suc j) = less_append xs ys a b (omega arith) (λ i. h (suc i)) le j
less_append xs ys a b e h le j = absurd (omega arith)

less_item : (xs ys : List ℕ) (item : Item) → ((j : ℕ) → get_or xs j 0 ≤ get_or ys j 0) → size_of Cells xs item ≤ size_of Items ys item
less_item xs ys item h = grind arith

less_fields : (xs ys : List ℕ) (fs : List Field) → ((j : ℕ) → get_or xs j 0 ≤ get_or ys j 0) → fields_size Cells xs fs ≤ fields_size Items ys fs
less_fields xs ys [] h = omega arith
less_fields xs ys (f ∷ fs) h =
    let n = capacity_of f.count in
    let most = mul-le n (size_of Cells xs f.item) n (size_of Items ys f.item) (omega arith) (less_item xs ys f.item h) in
    omega (arith, most, less_fields xs ys fs h)

less_structs : (ds : List Desc) (k j : ℕ) → get_or (sizes_to Cells ds k) j 0 ≤ get_or (sizes_to Items ds k) j 0
unfolding first
less_structs ds zero j = omega arith
less_structs ds (suc k) j = grind (arith, first_long, less_append, less_fields, less_structs ds k)

-- the cells of a description of the set
desc_less : (set : Set) (d : Desc) → length (desc_cells (struct_cells set) d) ≤ items_in (struct_items set.structs) d.fields
desc_less set d =
    let n = length set.structs in
    rw (cells_size (struct_cells set) d.fields 0 d.fields, items_are (struct_items set.structs) d.fields, items_to set.structs n, ← struct_sizes set.structs n)
    (less_fields (sizes_to Cells set.structs n) (sizes_to Items set.structs n) d.fields (less_structs set.structs n))

subs_less : (set : Set) (subs : List Sub) → length (flat_map (λ s. desc_cells (struct_cells set) s.desc) subs) ≤ subs_items (struct_items set.structs) subs
subs_less set [] = omega arith
subs_less set (s ∷ subs) = rw length-append (omega (arith, desc_less set s.desc, subs_less set subs))

devices_less : (set : Set) (devices : List Device) (k : ℕ)
    → length (get_or (map (λ d. map form_of (device_cells set d)) devices) k []) ≤ devices_items (struct_items set.structs) devices
devices_less set [] k = omega arith
devices_less set (d ∷ devices) zero = rw (length-map, length-append) (omega (arith, desc_less set d.desc, subs_less set d.subs))
devices_less set (d ∷ devices) (suc k) = omega (arith, devices_less set devices k)

pub small_layout : (set : Set) → is_well_formed set ≡ true → (k : ℕ) → length (get_or (layout_of set) k []) ≤ MOST_ITEMS
small_layout set h k = omega (arith, few_items set h, devices_less set set.devices k)

pub sizes_are : (set : Set) → map in_u32 (sizes_to Cells set.structs (length set.structs)) ≡ map (λ cells. in_u32 (length cells)) (struct_cells set)
sizes_are set = ap (map in_u32) (struct_sizes set.structs (length set.structs)) ∙ map-map in_u32 length (struct_cells set)

-- ---- the properties of a well-formed set, part by part: one description

-- field i of a description that may use the structures of numbers below k
pub record IsCleanField (k : ℕ) (d : Desc) (i : ℕ) (f : Field) : Type 0 where
  pub test : test_names_well d i f.test ≡ true
  pub count : count_names_well d i f.count ≡ true
  pub uses : uses_below k f.item ≡ true
  pub some : 1 ≤ capacity_of f.count
  pub name : length f.name ≤ 32

pub record IsClean (k : ℕ) (d : Desc) (rules : List Bool) : Type 0 where
  pub own : AllTrue rules
  pub each : (i : ℕ) → i < length d.fields → AllTrue (field_rules k d i (get_or d.fields i no_field))
  pub fields : (i : ℕ) → i < length d.fields → IsCleanField k d i (get_or d.fields i no_field)
  pub validate : list_all (names_well (is_steady_in d) nobody) d.validate ≡ true

some_elements : (item : Item) (count : Count) → has_good_count item count ≡ true → 1 ≤ capacity_of count
some_elements item count e = grind arith

short_name : (most : ℕ) (name : List ℕ) (others : Bool) → is_name most name && others ≡ true → length name ≤ most
short_name most name others e = grind arith

clean_field : (k : ℕ) (d : Desc) (i : ℕ) (f : Field) → AllTrue (field_rules k d i f) → IsCleanField k d i f
clean_field k d i f rules = search (arith, some_elements, short_name)

clean_validations : (d : Desc) (ts : List Formula) → ((i : ℕ) (t : Formula) → slice_get ts i ≡ Some t → AllTrue (validation_rules d t))
    → list_all (names_well (is_steady_in d) nobody) ts ≡ true
clean_validations d [] h = refl
clean_validations d (t ∷ ts) h = rw ((h 0 t refl).1.1.1.0) (clean_validations d ts (λ i s e. h (suc i) s e))

is_clean : (k : ℕ) (d : Desc) (rules : List Bool) → Clean k d rules → IsClean k d rules
is_clean k d rules c =
    let each = λ (i : ℕ) (lt : i < length d.fields). c.fields i (get_or d.fields i no_field) (slice_get-get_or d.fields i no_field lt) in
    record {
      own = c.own;
      each = each;
      fields = λ i lt. clean_field k d i (get_or d.fields i no_field)
          (each i lt);
      validate = clean_validations d d.validate c.validations;
    }

record IsCleanPart (k : ℕ) (d : Desc) : Type 0 where
  pub rules : List Bool
  pub is : IsClean k d rules
  pub few : length d.fields ≤ 256

few : (d : Desc) (more : Bool) → has_few d && more ≡ true → length d.fields ≤ 256
few d more e = leb-true (length d.fields) 256 (and_parts (nat_le (length d.fields) 256) (nat_le (length d.validate) 16) (and_parts (has_few d) more e).0).0

-- a list is as long as what it describes
pub long_seen : {A B : Type 0} (view : A → B) (items : List A) {seen : List B} → map view items ≡ seen → length items ≡ length seen
long_seen view items same = sym (length-map items view) ∙ ap length same

-- ---- the parts of a set

-- the structures that the fields of a part may use have numbers below this
abbrev pub reach : Set → Part → ℕ
reach set (parts.Struct j) = j
reach set part = length set.structs

module _ (set : Set) (well : is_well_formed set ≡ true) where
  no_fault : WellFormed set
  no_fault = none_is (first_fault set) well

  pub struct_clean : (j : ℕ) → j < length set.structs → IsClean j (get_or set.structs j no_desc) (struct_rules set.structs j (get_or set.structs j no_desc))
  struct_clean j h =
      let d = get_or set.structs j no_desc in
      is_clean j d (struct_rules set.structs j d) (struct_at set no_fault j d (slice_get-get_or set.structs j no_desc h))

  there : (i : ℕ) → i < length set.devices → slice_get set.devices i ≡ Some (device_at set i)
  there i h = slice_get-get_or set.devices i (record { instance = 0; desc = no_desc; subs = [] }) h

  pub device_clean : (i : ℕ) → i < length set.devices → IsClean (length set.structs) (device_at set i).desc (device_rules set i (device_at set i))
  device_clean i h =
      let d = device_at set i in
      is_clean (length set.structs) d.desc (device_rules set i d) (device_parts set no_fault i d (there i h)).0

  pub sub_clean : (i j : ℕ) → i < length set.devices → j < length (device_at set i).subs
      → IsClean (length set.structs) (sub_at (device_at set i) j).desc (sub_rules (device_at set i) j (sub_at (device_at set i) j))
  sub_clean i j h lt =
      let d = device_at set i in
      let s = sub_at d j in
      is_clean (length set.structs) s.desc (sub_rules d j s)
      (sub_of set no_fault i j d s (there i h) (slice_get-get_or d.subs j (record { desc = no_desc; needed = AtLeast 0 }) lt))

  part_clean : (part : Part) → HasPart set part → IsCleanPart (reach set part) (desc_at set part)
  part_clean parts.Set h = absurd h
  part_clean (parts.Struct j) h = let c = struct_clean j h in record { rules = _; is = c; few = few (get_or set.structs j no_desc) _ c.own.1.1.1.1.1.1.0 }
  part_clean (parts.Device k) h = let c = device_clean k h in record { rules = _; is = c; few = few (device_at set k).desc _ c.own.1.1.1.1.1.1.0 }
  part_clean (parts.Sub k j) h =
      let c = sub_clean k j h.0 h.1 in
      record { rules = _; is = c; few = few (sub_at (device_at set k) j).desc _ c.own.1.1.1.1.1.1.0 }

  module _ (part : Part) (h : HasPart set part) (i : ℕ) (lt : i < length (desc_at set part).fields) where
    -- the rules that hold for a field
    pub field_sound : AllTrue (field_rules (reach set part) (desc_at set part) i (get_or (desc_at set part).fields i no_field))
    field_sound = (part_clean part h).is.each i lt

    pub field_clean : IsCleanField (reach set part) (desc_at set part) i (get_or (desc_at set part).fields i no_field)
    field_clean = (part_clean part h).is.fields i lt

  pub validate_clean : (part : Part) → HasPart set part → list_all (names_well (is_steady_in (desc_at set part)) nobody) (desc_at set part).validate ≡ true
  validate_clean part h = (part_clean part h).is.validate

  pub few_fields : (part : Part) → HasPart set part → length (desc_at set part).fields ≤ 256
  few_fields part h = (part_clean part h).few

  pub few_subs : (i : ℕ) → i < length set.devices → length (device_at set i).subs ≤ 32
  few_subs i h =
      let d = device_at set i in
      leb-true (length d.subs) 32 (and_parts (has_few d.desc) (nat_le (length d.subs) 32) (device_clean i h).own.1.1.1.1.1.1.0).1

-- ---- how many levels of structures the calls can still go down

abbrev pub item_rank : Item → ℕ
item_rank (Struct j) = 5 * j + 5
item_rank item = 0

abbrev pub part_rank : Set → Part → ℕ
part_rank set part = 5 * reach set part

pub reach_whole : (set : Set) (part : Part) → HasPart set part → reach set part ≤ length set.structs
reach_whole set part h = grind arith

pub uses_more : (j k : ℕ) (item : Item) → j ≤ k → uses_below j item ≡ true → uses_below k item ≡ true
uses_more j k item le e = grind arith

pub rank_below : (r : ℕ) (item : Item) → uses_below r item ≡ true → item_rank item + 2 < 5 * r + 3
rank_below r item e = grind arith

-- ---- the shipped sets and the clock sets are well formed

each_entry : (p : Set → Bool) (sets : List Set) (d : Set) → list_all p sets ≡ true → p d ≡ true → (s : ℕ) → p (get_or sets s d) ≡ true
each_entry p [] d all last s = last
each_entry p (set ∷ sets) d all last zero = (and_parts (p set) (list_all p sets) all).0
each_entry p (set ∷ sets) d all last (suc s) = each_entry p sets d (and_parts (p set) (list_all p sets) all).1 last s

-- a property of each shipped set of the list holds of the set of each number
pub by_number : (p : Set → Bool) → list_all p shipped_sets ≡ true → (s : ℕ) → p (shipped_set s) ≡ true
by_number p all s = each_entry p shipped_sets newest_set all (each p shipped_sets NEWEST_SET newest_set all refl) s

-- what the shipped sets from `n` on have, computed one after the other, the set of each number has
pub by_list : {X : Type 0} (f : Set → X) (g : ℕ → X) (n : ℕ) → map f (drop n shipped_sets) ≡ map g (range_with_len n (length shipped_sets - n)) → (s : ℕ) → n ≤ s
    → s ≤ NEWEST_SET → f (shipped_set s) ≡ g s
by_list f g n same s low le =
    let at : n + (s - n) ≡ s = omega (arith, low) in
    cc (
      get_or-drop n shipped_sets (s - n) newest_set,
      get_or-map f (drop n shipped_sets) (s - n) newest_set,
      same,
      get_or-map-range_with_len g n (length shipped_sets - n) (s - n) s (f newest_set) (omega (arith, low, le)) at,
    )

-- the set of a number is that of the list
pub numbered : (s : ℕ) (d : Set) → s < length shipped_sets → get_or shipped_sets s d ≡ shipped_set s
numbered s d lt = get_or_default shipped_sets s d newest_set lt

pub fit_number : (s : ℕ) → IsFit (shipped_set s)
fit_number s = fit (shipped_set s) (by_number is_fit all_fit s)

pub formed : (s : ℕ) → is_well_formed (shipped_set s) ≡ true
formed s = (and_parts (is_well_formed (shipped_set s)) (list_all device_fits (shipped_set s).devices) (by_number is_fit all_fit s)).0

pub clock_formed : (c : ℕ) → is_well_formed (clock_set c) ≡ true
unfolding first_fault first
clock_formed c = grind arith

-- ---- the numbers of the clock sets fit their heads

pub clock_heads : (c : ℕ) → FitsHeads (clock_set c)
clock_heads c = grind (arith, heads_fit)
