-- The fields that tests and counts of a well-formed set name exist, and the code's answers are
-- those of the definitions.
use Rattle.vms_desc.proofs.{Clean.small_layout, Clean.field_clean, Clean.validate_clean, Clean.sub_clean, EvalLaws.truth_same}
use Rattle.vms_desc.proofs.Facade
use Facade.{◌≡◌, ℕ, zero, suc, ◌+◌, ◌<◌, ◌≤◌, List, [], ◌∷◌, length, length-append, get_or, map, Some, refl, sym, ap, ◌∙◌}
use Facade.{arith, Bool, true, flat_map, slice_get, list_all, and_parts, length-map, get_or_from_slice_get, get_or-map, MOST_ITEMS, Counted, Own, Parent, Part}
use Facade.{Formula, AtLeast, Below, Cell, Not, And, Or, Field, Desc, Sub, Device, Set, own_cells, sub_place, no_desc, no_field, no_parent, all_hold}
use Facade.{desc_cells, struct_cells, device_cells, is_steady_in, is_earlier_in, is_counting, names_well, nobody, test_names_well, count_names_well, device_at}
use Facade.{field_of, desc_of, sub_of, device_of, form_of, get_map_at, Scope, is_well_formed, fields_in, HasPart, desc_at, sub_at, is_number_in, is_placed}
pub use Rattle.vms_spec.proofs.ListsAndNumbers.{sub_first}
use Rattle.vms_parts.specs.{declared.types.Desc.Desc as CodeDesc, declared.types.Device.Device as CodeDevice, declared.types.Field.Field as CodeField}
use Rattle.vms_parts.specs.declared.types.Sub.{Sub as CodeSub}
use Rattle.vms_spec.specs.declared.Part.TheVariants as parts

-- ---- what tests name

steady_number : (d : Desc) (j : ℕ) → is_steady_in d j ≡ true → is_number_in d.fields j ≡ true
steady_number d j e = grind arith

module _ (own more parent others : ℕ → Bool) (h : (j : ℕ) → own j ≡ true → more j ≡ true) (i : (j : ℕ) → parent j ≡ true → others j ≡ true) where
  names_more : (t : Formula) → names_well own parent t ≡ true → names_well more others t ≡ true
  names_more (AtLeast n) e = refl
  names_more (Below n) e = refl
  names_more (Cell Own j mask rel value) e = h j e
  names_more (Cell Parent j mask rel value) e = i j e
  names_more (Not t) e = names_more t e
  names_more (And s t) e = let p = and_parts (names_well own parent s) (names_well own parent t) e in rw (names_more s p.0) (names_more t p.1)
  names_more (Or s t) e = let p = and_parts (names_well own parent s) (names_well own parent t) e in rw (names_more s p.0) (names_more t p.1)

  every_more : (ts : List Formula) → list_all (names_well own parent) ts ≡ true → list_all (names_well more others) ts ≡ true
  every_more [] e = refl
  every_more (t ∷ ts) e = let p = and_parts (names_well own parent t) (list_all (names_well own parent) ts) e in rw (names_more t p.0) (every_more ts p.1)

earlier_number : (d : Desc) (k j : ℕ) → is_earlier_in d k j ≡ true → is_number_in d.fields j ≡ true
earlier_number d k j e = steady_number d j (and_parts _ (is_steady_in d j) e).1

module _ (set : Set) (well : is_well_formed set ≡ true) where
  module _ (part : Part) (h : HasPart set part) (k : ℕ) (lt : k < length (desc_at set part).fields) (f : Field)
      (fs : f ≡ get_or (desc_at set part).fields k no_field) where
    -- the test of a field
    pub field_names : (t : Formula) → f.test ≡ Some t → names_well (is_number_in (desc_at set part).fields) nobody t ≡ true
    field_names t is =
        let d = desc_at set part in
        let named : test_names_well d k (Some t) ≡ true = rw (← fs, is) at (field_clean set well part h k lt).test in
        names_more (is_earlier_in d k) (is_number_in d.fields) nobody nobody (earlier_number d k) (λ j x. x) t named

    -- the field that counts the elements of a field
    pub field_counts : (by most : ℕ) → f.count ≡ Counted by most → (own : Scope) → fields_in own ≡ (desc_at set part).fields
        → is_number_in (fields_in own) by ≡ true
    field_counts by most is own e =
        let d = desc_at set part in
        let c : count_names_well d k (Counted by most) ≡ true = cc ((field_clean set well part h k lt).count) in
        rw e (earlier_number d k by (and_parts (is_earlier_in d k by) (is_counting (slice_get d.fields by)) c).0)

  -- the validations
  pub rules_name : (part : Part) → HasPart set part → (own : Scope) → fields_in own ≡ (desc_at set part).fields → (ts : List Formula)
      → ts ≡ (desc_at set part).validate → list_all (names_well (is_number_in (fields_in own)) nobody) ts ≡ true
  rules_name part h own e ts is =
      let d = desc_at set part in
      rw (e, is) (every_more (is_steady_in d) (is_number_in d.fields) nobody nobody (steady_number d) (λ j x. x) d.validate (validate_clean set well part h))

  -- a needed test
  pub needed_placed : (i j : ℕ) → i < length set.devices → j < length (device_at set i).subs
      → is_placed set (parts.Sub i j) (sub_at (device_at set i) j).needed ≡ true
  needed_placed i j h lt =
      let d = device_at set i in
      let s = sub_at d j in
      names_more (is_steady_in s.desc) (is_number_in s.desc.fields) (is_steady_in d.desc) (is_number_in d.desc.fields) (steady_number s.desc)
      (steady_number d.desc) s.needed (sub_clean set well i j h lt).own.1.1.1.0

-- ---- the answers of the code

-- a subsection that the code found is that of the set
pub found_sub : (set : Set) (i j : ℕ) (device : CodeDevice) (subs : List CodeSub) (s : CodeSub) → device_of device ≡ device_at set i → subs ≡ device.subs
    → j < length (device_at set i).subs → s ≡ get_or subs j s → sub_of s ≡ sub_at (device_at set i) j
found_sub set i j device subs s d e lt is =
    let none : Sub = record { desc = no_desc; needed = AtLeast 0 } in
    let same : map sub_of subs ≡ (device_at set i).subs = ap (map sub_of) e ∙ ap (λ (x : Device). x.subs) d in
    sym (get_map_at sub_of subs j s none (omega (arith, ap length same, length-map subs sub_of)) is) ∙ rw same

-- the fields of a part, in the code's form
pub here_fields : (set : Set) (part : Part) (d : CodeDesc) (fields : List CodeField) → desc_of d ≡ desc_at set part → fields ≡ d.fields
    → map field_of fields ≡ (desc_at set part).fields
here_fields set part d fields is e = ap (map field_of) e ∙ ap (λ (x : Desc). x.fields) is

-- a field that the code found is that of the set
pub found_field : (fields : List CodeField) (all : List Field) (k : ℕ) (f : CodeField) → map field_of fields ≡ all → k < length all → f ≡ get_or fields k f
    → field_of f ≡ get_or all k no_field
found_field fields all k f e lt is = rw (← e) (sym (get_map_at field_of fields k f no_field (omega (arith, ap length e, length-map fields field_of)) is))

-- the same of a description that the code found
pub field_found : (set : Set) (part : Part) (d : CodeDesc) (fields : List CodeField) (k : ℕ) (f : CodeField) → desc_of d ≡ desc_at set part → fields ≡ d.fields
    → k < length (desc_at set part).fields → f ≡ get_or fields k f → field_of f ≡ get_or (desc_at set part).fields k no_field
field_found set part d fields k f d_is fields_are lt is = found_field fields (desc_at set part).fields k f (here_fields set part d fields d_is fields_are) lt is

pub all_hold_same : (ts : List Formula) (v : ℕ) (own now : ℕ → ℕ) → ((k : ℕ) → own k ≡ now k) → all_hold ts v own ≡ all_hold ts v now
all_hold_same [] v own now h = refl
all_hold_same (t ∷ ts) v own now h = cc (truth_same v own now no_parent no_parent h (λ k. refl) t, all_hold_same ts v own now h)

-- ---- where subsections begin

pub sub_next : (set : Set) (at' : ℕ) (subs : List Sub) (j : ℕ) (x : Sub) → j < length subs
    → sub_place set at' subs (j + 1) ≡ sub_place set at' subs j + length (desc_cells (struct_cells set) (get_or subs j x).desc)
sub_next set at' [] j x lt = absurd (omega arith)
sub_next set at' (s ∷ subs) zero x lt = sub_first set (at' + length (desc_cells (struct_cells set) s.desc)) subs
sub_next set at' (s ∷ subs) (suc j) x lt = grind (arith, sub_next set (at' + length (desc_cells (struct_cells set) s.desc)) subs j x (omega arith))

pub sub_within : (set : Set) (at' : ℕ) (subs : List Sub) (j : ℕ) (x : Sub) → j < length subs
    → sub_place set at' subs j + length (desc_cells (struct_cells set) (get_or subs j x).desc) ≤ at' + length
    (flat_map (λ s. desc_cells (struct_cells set) s.desc) subs)
sub_within set at' [] j x lt = absurd (omega arith)
sub_within set at' (s ∷ subs) zero x lt = rw length-append (omega arith)
sub_within set at' (s ∷ subs) (suc j) x lt =
    rw length-append (omega (arith, sub_within set (at' + length (desc_cells (struct_cells set) s.desc)) subs j x (omega arith)))

all_long : (set : Set) (d : Device) → length (device_cells set d) ≡ own_cells set d + length (flat_map (λ s. desc_cells (struct_cells set) s.desc) d.subs)
all_long set d = length-append (desc_cells (struct_cells set) d.desc) (flat_map (λ s. desc_cells (struct_cells set) s.desc) d.subs)

-- a subsection's cells are among its device's
pub sub_inside : (set : Set) (i j : ℕ) → j < length (device_at set i).subs → sub_place set (own_cells set (device_at set i)) (device_at set i).subs j + length
    (desc_cells (struct_cells set) (sub_at (device_at set i) j).desc) ≤ length (device_cells set (device_at set i))
sub_inside set i j lt = search (arith, all_long, sub_within)

pub own_inside_device : (set : Set) (i : ℕ) → length (desc_cells (struct_cells set) (device_at set i).desc) ≤ length (device_cells set (device_at set i))
own_inside_device set i = omega (arith, all_long set (device_at set i))

pub few_cells : (set : Set) → is_well_formed set ≡ true → (i : ℕ) → length (device_cells set (device_at set i)) ≤ MOST_ITEMS
few_cells set well i =
    let here = get_or-map (λ d. map form_of (device_cells set d)) set.devices i (record { instance = 0; desc = no_desc; subs = [] }) in
    omega (arith, rw here at (small_layout set well i), length-map (device_cells set (device_at set i)) form_of)

-- a device that is at an index is the one there
pub device_is : (set : Set) (i : ℕ) (d : Device) → slice_get set.devices i ≡ Some d → device_at set i ≡ d
device_is set i d there = get_or_from_slice_get set.devices i d _ there
