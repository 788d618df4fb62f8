-- Well-formed sets: a bound on the slots of a part, and that a set is well formed without its
-- validations.
use Rattle.vms_stream_laws.proofs.Facade.{slots_of_sub, is_there, elements_fit, one_more, ◌≡◌, ℕ, zero, suc, ◌+◌, ◌*◌, ◌≤◌, List, []}
use Rattle.vms_stream_laws.proofs.Facade.{◌∷◌, length, length-append, get_or, if_there, Rule, all_hold, Option, Some, None, ℤ, arith, slice_get}
use Rattle.vms_stream_laws.proofs.Facade.{mul-le-mul_right, Item, Struct, Image, own_cells, sub_place, Slot, Meaning, no_meaning, no_desc, capacity_of, counted}
use Rattle.vms_stream_laws.proofs.Facade.{desc_slots, elements_of, field_cells, field_slots, first, item_size, item_slots, meaning, meanings, no_parent}
use Rattle.vms_stream_laws.proofs.Facade.{numbers_of, slots_from, times, Desc, Device, Field, Set, Sub, part_slots, both_none, ◌^◌, ◌<◌, Bool, true}
use Rattle.vms_stream_laws.proofs.Facade.{false, not, ◌&&◌, nat_le, map, take, refl, ap, ◌∙◌, subst, and_from, length-map, map-map, take-map, Part}
use Rattle.vms_stream_laws.proofs.Facade.{FitsHeads, first_answer, WellFormed, deepest, desc_fault, device_fault, device_rules, devices_items, failing}
use Rattle.vms_stream_laws.proofs.Facade.{first_fault, has_few, here, is_same_device, items_in, set_rules, size_rules, struct_depths, struct_fault}
use Rattle.vms_stream_laws.proofs.Facade.{struct_items, sub_fault, subs_items, AllTrue, all_true, or_else_none, unruled, unruled_desc, unruled_device}
use Rattle.vms_stream_laws.proofs.{Facade.unruled_sub, Parts.cells_in, Parts.any_map, Parts.came_from, Parts.none_after, Parts.first_unruled}
use Rattle.vms_spec.specs.declared.Part.TheVariants as parts

-- ---- a bound on the slots of a part, whatever its numbers are

-- a structure has at most this many
abbrev IsWithin : ℕ → Meaning → Type 0
IsWithin b m = (numbers : List ℤ) (at : ℕ) → length (m.slots numbers at) ≤ b

abbrev AreWithin : ℕ → List Meaning → Type 0
AreWithin b ms = (j : ℕ) → IsWithin b (get_or ms j no_meaning)

times_within : (n b : ℕ) (part : ℕ → List Slot) → ((at : ℕ) → length (part at) ≤ b) → (at step : ℕ) → length (times n part at step) ≤ n * b
times_within zero b part h at step = omega arith
times_within (suc n) b part h at step =
    let more : suc n * b ≡ b + n * b = grind arith in
    omega (arith, h at, times_within n b part h (at + step) step, length-append (part at) (times n part (at + step) step))

module _ (ms : List Meaning) (b : ℕ) (within : AreWithin b ms) where
  item_within : (item : Item) (caps : List ℕ) (numbers : List ℤ) (at : ℕ) → length (item_slots ms item caps numbers at) ≤ suc b
  item_within (Struct j) caps numbers at = omega (arith, within j numbers at)
  item_within _ caps numbers at = omega arith

  abbrev most_of : List Field → ℕ
  most_of [] = 0
  most_of (f ∷ fs) = capacity_of f.count * suc b + most_of fs

  module _ (fields : List Field) (v : ℕ) (own : ℕ → ℕ) (numbers : List ℤ) where
    field_within : (i at : ℕ) (f : Field) → length (field_slots ms fields v own numbers i at f) ≤ capacity_of f.count * suc b
    field_within i at f =
        let part : ℕ → List Slot = item_slots ms f.item (counted i fields) numbers in
        let step = item_size (cells_in ms) f.item in
        let n = elements_of f.count own in
        let all : length (times n part at step) ≤ n * suc b = times_within n (suc b) part (item_within f.item (counted i fields) numbers) at step in
        let few : n * suc b ≤ capacity_of f.count * suc b = mul-le-mul_right {m = n} {n = capacity_of f.count} (suc b) (elements_fit f.count own) in
        if_there (λ xs. length xs ≤ capacity_of f.count * suc b) (omega arith) (is_there f.test f.since v own no_parent) (times n part at step) (omega arith)

    fields_within : (i at : ℕ) (fs : List Field) → length (slots_from ms fields v own numbers i at fs) ≤ most_of fs
    fields_within i at [] = omega arith
    fields_within i at (f ∷ fs) =
        let next = at + length (field_cells (cells_in ms) fields i f) in
        let others = fields_within (suc i) next fs in
        omega (arith, field_within i at f, length-append (field_slots ms fields v own numbers i at f) (slots_from ms fields v own numbers (suc i) next fs))

  desc_within : (d : Desc) (v : ℕ) (numbers : List ℤ) (at : ℕ) → length (desc_slots ms d v numbers at) ≤ most_of d.fields + 1
  desc_within d v numbers at =
      let own = numbers_of (cells_in ms) d numbers at in
      let all = fields_within d.fields v own numbers 0 at d.fields in
      omega (arith, length-append (slots_from ms d.fields v own numbers 0 at d.fields) (Rule (all_hold d.validate v own) ∷ []))

structs_within : (ds : List Desc) (k : ℕ) → (b : ℕ) × AreWithin b (meanings ds k)
unfolding first
structs_within ds zero = (0, λ j numbers at. omega arith)
structs_within ds (suc k) =
    let r = structs_within ds k in
    let d = get_or ds k no_desc in
    let ms = meanings ds k in
    let most = r.0 + (most_of ms r.0 r.1 d.fields + 1) in (
      most,
      one_more (IsWithin most) no_meaning (λ numbers at. omega arith) ms (λ j numbers at. omega (arith, r.1 j numbers at)) (meaning ms d)
          (λ numbers at. omega (arith, desc_within ms r.0 r.1 d d.version numbers at)),
    )

-- the most slots of the part
pub record Bounded (set : Set) (o : Option Device) (p : Option ℕ) : Type 0 where
  pub most : ℕ
  pub fits : (i : Image) → length (part_slots set o i p) ≤ most

sub_bounded : (set : Set) (d : Device) (j : ℕ) (o : Option Sub) → (most : ℕ) × ((i : Image) (c : Option (Option ℕ)) → length (slots_of_sub set d i j o c) ≤ most)
sub_bounded set d j None = (0, λ i c. omega arith)
sub_bounded set d j (Some s) =
    let ds = set.structs in
    let r = structs_within ds (length ds) in
    (most_of (meanings ds (length ds)) r.0 r.1 s.desc.fields + 1, λ i c. by r.0 r.1 i c)
  where
    by : (b : ℕ) (within : AreWithin b (meanings set.structs (length set.structs))) (i : Image) (c : Option (Option ℕ))
        → length (slots_of_sub set d i j (Some s) c) ≤ most_of (meanings set.structs (length set.structs)) b within s.desc.fields + 1
    by b within i None = omega arith
    by b within i (Some None) = omega arith
    by b within i (Some (Some v)) = desc_within (meanings set.structs (length set.structs)) b within s.desc v i.numbers (sub_place set (own_cells set d) d.subs j)

pub bounded : (set : Set) (o : Option Device) (p : Option ℕ) → Bounded set o p
bounded set None p = record { most = 0; fits = λ i. omega arith }
bounded set (Some d) None =
    let ds = set.structs in
    let r = structs_within ds (length ds) in
    record { most = _; fits = λ i. desc_within (meanings ds (length ds)) r.0 r.1 d.desc i.version i.numbers 0 }
bounded set (Some d) (Some j) =
    let r = sub_bounded set d j (slice_get d.subs j) in
    record { most = r.0; fits = λ i. r.1 i (slice_get i.came j) }

-- ---- a well-formed set is well formed without its validations

none_failing : (r : ℕ) (rules : List Bool) (part : Part) → AllTrue rules → failing r rules (here part) ≡ None
none_failing r [] part h = refl
none_failing r (true ∷ rules) part h = none_failing (suc r) rules part h.1
none_failing r (false ∷ rules) part h = absurd (let e = h.0 in cc)

few_still : (d : Desc) (b : Bool) → (has_few d && b) ≡ true → (has_few (unruled_desc d) && b) ≡ true
few_still d b e = grind (arith, and_from)

-- a description whose own rules still hold
desc_still : (k : ℕ) (d : Desc) (part : Part) (rules rules' : List Bool) → (AllTrue rules → AllTrue rules') → desc_fault k d part rules ≡ None
    → desc_fault k (unruled_desc d) part rules' ≡ None
desc_still k d part rules rules' h e = grind (arith, or_else_none, failing, here, both_none, none_failing, all_true)

-- ---- structures

depths_same : (ds : List Desc) → struct_depths (map unruled_desc ds) ≡ struct_depths ds
depths_same ds = rw (length-map ds unruled_desc) (first_unruled (λ depths d. 1 + deepest depths d.fields) (λ depths d. refl) ds (length ds))

items_same : (ds : List Desc) → struct_items (map unruled_desc ds) ≡ struct_items ds
items_same ds = rw (length-map ds unruled_desc) (first_unruled (λ sizes d. items_in sizes d.fields) (λ sizes d. refl) ds (length ds))

-- the names of the first of them
first_names : {X : Type 0} (f : X → X) (name_of : X → List ℕ) → ((x : X) → name_of (f x) ≡ name_of x) → (i : ℕ) (xs : List X)
    → map name_of (take i (map f xs)) ≡ map name_of (take i xs)
first_names {X = X} f name_of same i xs = ap (map name_of) (take-map f i xs) ∙ map-map name_of f (take i xs) ∙ each (take i xs)
  where
    each : (ys : List X) → map (λ (x : X). name_of (f x)) ys ≡ map name_of ys
    each [] = refl
    each (y ∷ ys) = rw (same y, each ys)

struct_still : (ds : List Desc) (i : ℕ) (d : Desc) → struct_fault ds i d ≡ None → struct_fault (map unruled_desc ds) i (unruled_desc d) ≡ None
struct_still ds i d e = grind (arith, desc_still, first_names, few_still, depths_same)

-- ---- devices

module _ (set : Set) where
  count_same : length (map unruled_desc set.structs) ≡ length set.structs
  count_same = length-map set.structs unruled_desc

  device_still : (i : ℕ) (d : Device) → device_fault set i d ≡ None → device_fault (unruled set) i (unruled_device d) ≡ None
  device_still i d e =
      let k = length set.structs in
      let a = or_else_none (desc_fault k d.desc (parts.Device i) (device_rules set i d)) (first_answer (sub_fault k i d) 0 d.subs) e in
      rw count_same (both_none _ _
      (desc_still k d.desc (parts.Device i) (device_rules set i d) (device_rules (unruled set) i (unruled_device d)) (λ r.
      let same = ap not (any_map unruled_device (is_same_device d.desc.name d.instance) (take i set.devices)) in
      let few = few_still d.desc (nat_le (length (map unruled_sub d.subs)) 32) (rw (length-map d.subs unruled_sub) (r.1.1.1.1.1.1.0)) in
      (r.0, (rw (take-map unruled_device i set.devices) (same ∙ r.1.0), (r.1.1.0, (refl, (refl, (refl, (few, (refl, tt))))))))) a.0)
      (none_after unruled_sub (sub_fault k i d) (sub_fault k i (unruled_device d)) (λ j s e. grind (arith, desc_still, first_names, few_still)) 0 d.subs a.1))

  subs_counted : (sizes : List ℕ) (subs : List Sub) → subs_items sizes (map unruled_sub subs) ≡ subs_items sizes subs
  subs_counted sizes [] = refl
  subs_counted sizes (s ∷ subs) = rw (subs_counted sizes subs)

  devices_counted : (sizes : List ℕ) (devices : List Device) → devices_items sizes (map unruled_device devices) ≡ devices_items sizes devices
  devices_counted sizes [] = refl
  devices_counted sizes (d ∷ devices) = rw (subs_counted sizes d.subs, devices_counted sizes devices)

  set_rules_same : set_rules (unruled set) ≡ set_rules set
  set_rules_same = rw (count_same, length-map set.devices unruled_device) refl

  size_rules_same : size_rules (unruled set) ≡ size_rules set
  size_rules_same = rw (items_same set.structs, devices_counted (struct_items set.structs) set.devices) refl

  pub still_well : WellFormed set → WellFormed (unruled set)
  unfolding first_fault
  still_well well = grind (arith, failing, here, or_else_none, both_none, set_rules_same, none_after, struct_still, device_still, size_rules_same)

  pub still_fits : FitsHeads set → FitsHeads (unruled set)
  still_fits heads = record {
    instance = λ k d e. let r = came_from unruled_device set.devices k d e in
        subst (λ d. (d.instance < 2 ^ 32) × (d.desc.version < 2 ^ 32)) r.is (heads.instance k r.first r.there);
    sub_version = λ k j d s e f.
        let r = came_from unruled_device set.devices k d e in
        let q = came_from unruled_sub r.first.subs j s (ap (λ d. slice_get d.subs j) r.is ∙ f) in
        subst (λ s. s.desc.version < 2 ^ 32) q.is (heads.sub_version k j r.first q.first r.there q.there);
  }
