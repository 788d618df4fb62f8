-- The eight rules hold exactly if the walk finds no fault.
use Rattle.vms_rules_laws.proofs.{Facade.or_cases, Facade.sub_clean, Facade.At, Facade.IsDesc, Facade.IsDevice, Facade.IsStruct}
use Rattle.vms_rules_laws.proofs.Facade.{IsSub, EightLaw, ◌≡◌, ℕ, zero, suc, ◌+◌, ◌<◌, ◌≤◌, Bool, true, false, not, nat_le, List, []}
use Rattle.vms_rules_laws.proofs.Facade.{◌∷◌, length, get_or, take, Option, None, le_decides, set_clean, inl, inr, refl, arith, Decides, list_any}
use Rattle.vms_rules_laws.proofs.Facade.{leb-true, le-leb, or_left, or_right, Decides-and, Decides-eqb, slice_get_within, bytes_eq-Decides, Part, Place}
use Rattle.vms_rules_laws.proofs.Facade.{first_answer, Desc, Sub, Device, Set, desc_fault, device_fault, device_rules, failing, first_fault, has_few, here}
use Rattle.vms_rules_laws.proofs.Facade.{in_field, is_same_device, set_rules, size_rules, struct_depths, struct_fault, struct_rules, sub_fault, sub_rules}
use Rattle.vms_rules_laws.proofs.Facade.{AllTrue, both_none, Clean, device_parts, struct_clean}
use Rattle.vms_rules_laws.proofs.Fields.{distinct_decides, name_decides, sub_name_decides, all_eight, field_decides, validation_decides}
use Rattle.vms_rules_laws.proofs.Tests.{steady_decides, deep_struct, shallow_struct, set_counts, all_decides, names_decides, never, new_decides, small_decides}
use Rattle.vms_spec.specs.declared.Part.TheVariants as parts

-- ---- nothing fails

none_failing : (r : ℕ) (rules : List Bool) (p : Place) → AllTrue rules → failing r rules p ≡ None
none_failing r [] p h = refl
none_failing r (true ∷ rules) p h = none_failing (suc r) rules p h.1
none_failing r (false ∷ rules) p h = absurd (never h.0)

none_answers : {X Y : Type 0} (f : ℕ → X → Option Y) (i : ℕ) (xs : List X) → ((j : ℕ) (x : X) → At xs j x → f (i + j) x ≡ None) → first_answer f i xs ≡ None
none_answers f i [] h = refl
none_answers f i (x ∷ xs) h =
    let plus : i + 0 ≡ i = omega arith in
    both_none _ _ (rw plus at (h 0 x refl))
    (none_answers f (suc i) xs (λ j y e. let more : i + suc j ≡ suc i + j = omega arith in rw more at (h (suc j) y e)))

from_zero : {X Y : Type 0} (f : ℕ → X → Option Y) (xs : List X) → ((j : ℕ) (x : X) → At xs j x → f j x ≡ None) → first_answer f 0 xs ≡ None
from_zero f xs h = grind (arith, none_answers)

-- ---- devices of one name and instance

any_found : {X : Type 0} (p : X → Bool) (xs : List X) (i : ℕ) → list_any p (take i xs) ≡ true → (k : ℕ) × (x : X) × (k < i) × At xs k x × (p x ≡ true)
any_found p xs zero e = cc
any_found p [] (suc i) e = cc
any_found p (x ∷ xs) (suc i) e = elim (or_cases (p x) (list_any p (take i xs)) e) [
  | inl a ↦ (0, x, omega arith, refl, a)
  | inr b ↦ let r = any_found p xs i b in (suc r.0, r.1, omega arith, r.3, r.4)
]

any_there : {X : Type 0} (p : X → Bool) (xs : List X) (i k : ℕ) (x : X) → k < i → At xs k x → p x ≡ true → list_any p (take i xs) ≡ true
any_there p xs zero k x lt e t = absurd (omega arith)
any_there p [] (suc i) k x lt e t = cc
any_there p (y ∷ xs) (suc i) zero x lt e t = grind (arith, or_left)
any_there p (y ∷ xs) (suc i) (suc k) x lt e t = or_right (p y) _ (any_there p xs i k x (omega arith) e t)

abbrev AreNone : Set → ℕ → Device → Type 0
AreNone set i d = (j : ℕ) (e : Device) → j < i → At set.devices j e → (e.desc.name ≡ d.desc.name) × (e.instance ≡ d.instance) → ⊥

same_decides : (name : List ℕ) (instance : ℕ) (e : Device) → Decides (is_same_device name instance e) ((e.desc.name ≡ name) × (e.instance ≡ instance))
same_decides name instance e = Decides-and _ _ (bytes_eq-Decides _ name) (Decides-eqb e.instance instance)

new_device_decides : (set : Set) (i : ℕ) (d : Device) → Decides (not (list_any (is_same_device d.desc.name d.instance) (take i set.devices))) (AreNone set i d)
new_device_decides set i d = grind (arith, same_decides, any_there, any_found)

-- ---- a description

few_decides : (d : Desc) → Decides (has_few d) ((length d.fields ≤ 256) × (length d.validate ≤ 16))
few_decides d = Decides-and _ _ (le_decides _ 256) (le_decides _ 16)

module _ (k : ℕ) (d : Desc) (rules : List Bool) where
  desc_on : Clean k d rules → nat_le d.minimum d.version ≡ true → (length d.fields ≤ 256) × (length d.validate ≤ 16) → IsDesc k d
  desc_on c versions few = record {
    versions = leb-true d.minimum d.version versions;
    few_fields = few.0;
    few_validations = few.1;
    fields = λ i f e. (field_decides k d i f).0 (c.fields i f e);
    validations = λ i t e. (validation_decides d t).0 (c.validations i t e);
  }

  desc_back : (part : Part) → AllTrue rules → IsDesc k d → desc_fault k d part rules ≡ None
  desc_back part own h = grind (arith, both_none, none_failing, from_zero, in_field, field_decides, here, validation_decides)

-- ---- structures

struct_decides : (structs : List Desc) (i : ℕ) (d : Desc) → At structs i d
    → (Clean i d (struct_rules structs i d) → IsStruct structs i d) × (IsStruct structs i d → struct_fault structs i d ≡ None)
struct_decides structs i d there =
    let named = name_decides 100 d.name in
    let new = new_decides (λ e. e.name) _ i d.name in
    let limits = Decides-and _ _ (few_decides d) (le_decides (get_or (struct_depths structs) i 0) 4) in (
      λ c.
          let own = c.own in
          let few = limits.0 own.1.1.1.1.1.1.0 in
          let shallow = few.1 in
          record {
            named = named.0 own.0;
            new = new.0 own.1.0;
            is = desc_on i d _ c own.1.1.0 few.0;
            shallow = λ on. let deep = deep_struct structs 4 i (slice_get_within structs i d there) on in absurd (omega arith);
            some = leb-true 1 (length d.fields) own.1.1.1.1.1.1.1.0;
          },
      λ h.
          desc_back i d (struct_rules structs i d) (parts.Struct i)
          (all_eight (named.1 h.named) (new.1 h.new) (le-leb d.minimum d.version h.is.versions) refl refl refl
          (limits.1 ((h.is.few_fields, h.is.few_validations), shallow_struct structs 4 i d there h.shallow)) (le-leb 1 (length d.fields) h.some)) h.is,
    )

-- ---- subsections

sub_decides : (k i : ℕ) (d : Device) (j : ℕ) (s : Sub) → (Clean k s.desc (sub_rules d j s) → IsSub k d j s) × (IsSub k d j s → sub_fault k i d j s ≡ None)
sub_decides k i d j s =
    let named = sub_name_decides d.desc.name s.desc.name in
    let new = new_decides (λ t. t.desc.name) d.subs j _ in
    let needed = names_decides _ _ _ _ (steady_decides s.desc) (steady_decides d.desc) _ in
    let limits = Decides-and _ _ (few_decides s.desc) (small_decides s.needed) in (
      λ c.
          let few = limits.0 c.own.1.1.1.1.1.1.0 in
          record {
            named = named.0 c.own.0;
            new = new.0 c.own.1.0;
            is = desc_on k s.desc _ c c.own.1.1.0 few.0;
            needed = needed.0 c.own.1.1.1.0;
            small = few.1;
          },
      λ h.
          desc_back k s.desc (sub_rules d j s) (parts.Sub i j)
          (all_eight (named.1 h.named) (new.1 h.new) (le-leb s.desc.minimum s.desc.version h.is.versions) (needed.1 h.needed) refl refl
          (limits.1 ((h.is.few_fields, h.is.few_validations), h.small)) refl) h.is,
    )

-- ---- devices

device_decides : (set : Set) (i : ℕ) (d : Device)
    → (Clean (length set.structs) d.desc (device_rules set i d) → ((j : ℕ) (s : Sub) → At d.subs j s → IsSub (length set.structs) d j s) → IsDevice set i d)
    × (IsDevice set i d → device_fault set i d ≡ None)
device_decides set i d =
    let k = length set.structs in
    let named = name_decides 100 d.desc.name in
    let new = new_device_decides set i d in
    let limits = Decides-and _ _ (few_decides d.desc) (le_decides _ 32) in (
      λ c subs.
          let few = limits.0 c.own.1.1.1.1.1.1.0 in
          record {
            named = named.0 c.own.0;
            new = new.0 c.own.1.0;
            is = desc_on k d.desc _ c c.own.1.1.0 few.0;
            few_subs = few.1;
            subs = subs;
          },
      λ h.
          both_none _ _
          (desc_back k d.desc (device_rules set i d) (parts.Device i)
          (all_eight (named.1 h.named) (new.1 h.new) (le-leb d.desc.minimum d.desc.version h.is.versions) refl refl refl
          (limits.1 ((h.is.few_fields, h.is.few_validations), h.few_subs)) refl) h.is)
          (from_zero _ d.subs (λ j s e. (sub_decides k i d j s).1 (h.subs j s e))),
    )

-- ---- the set

pub eight_holds : EightLaw
unfolding first_fault
eight_holds set =
    let of_devices = first_answer (device_fault set) 0 set.devices in
    let last = failing 1 (size_rules set) (here parts.Set) in
    let named = all_decides _ _ (name_decides 64) _ in
    let new = distinct_decides set.machines in
    let limits = Decides-and _ _ (Decides-and _ _ (le_decides _ 16) (le_decides _ 64)) (le_decides _ 64) in
    let items = le_decides _ _ in (
      λ well.
          let clean = set_clean set well in
          let few = limits.0 clean.own.1.1.1.1.1.1.0 in
          record {
            named = named.0 clean.own.0;
            new = new.0 clean.own.1.0;
            few_machines = few.0.0;
            few_structs = few.0.1;
            few_devices = few.1;
            structs = λ i d e. (struct_decides _ i d e).0 (struct_clean set well i d e);
            devices = λ i d e. (device_decides set i d).0 (device_parts set well i d e).0
                (λ j s f. (sub_decides _ i d j s).0 (sub_clean set well i j d s e f));
            items = omega (arith, items.0 clean.sizes.1.1.1.1.1.1.0, set_counts set set.devices);
          },
      λ h. both_none _ _ (none_failing 1 (set_rules set) (here parts.Set)
          (all_eight (named.1 h.named) (new.1 h.new) refl refl refl refl (limits.1 ((h.few_machines, h.few_structs), h.few_devices)) refl))
          (both_none _ _ (from_zero _ _ (λ i d e. (struct_decides _ i d e).1 (h.structs i d e)))
          (both_none of_devices last (from_zero (device_fault set) set.devices (λ i d e. (device_decides set i d).1 (h.devices i d e)))
          (none_failing 1 (size_rules set) (here parts.Set)
          (all_eight refl refl refl refl refl refl (items.1 (omega (arith, set_counts set set.devices))) refl)))),
    )
