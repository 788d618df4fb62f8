-- The walk over a set: rules at a place, sizes, capacities, structures, devices and machines.
use Rattle.vms_rules.proofs.Facade
use Facade.{arith, ◌≡◌, ℕ, ◌<◌, List, ◌∷◌, length, get_or, Bool, true, Option, Some, None, ℤ, pos, refl, [], ◌&&◌, and_assoc, counted}
use Facade.{int_le, counts_well, both_below, lesser, least_from, AreLeast, fits, ◌+◌, ◌≤◌, drop, false, ap, ◌∙◌, add-one, drop_all, drop_more}
use Facade.{Place, failing, map, nat_le, nat_tests, MOST_ITEMS, items_in, struct_items, subs_items, devices_items, Items, in_u32, subs_size, sizes_to}
use Facade.{capped_fields, capped_subs, items_are, items_to, Result, sym, IsErrAnd, err_from_is_err_and, or_else, first_answer, SetFault, DescFault, IsFirst}
use Facade.{Judges, take, ◌==◌, list_any, bytes_eq, take-map, Own, Parent, names_well, Formula, Cell, Not, And, Or, is_same_device, Device, device_of, zero}
use Facade.{suc, ◌++◌, length-map, Item, first, item_depth, deepest, struct_depths, Desc, field_of, desc_of, get_map_at, first_long, are_new_to, not}
use Facade.{◌||◌, is_at, BTreeSet, nat_list_eq_equiv, Bor, is_one_of, are_distinct, and_swap, key, by_key, has_name, with_name, get_or_default}
use Rattle.vms_spec.specs.Sets.{Field}
use Rattle.vms_spec.specs.Sets as sets

-- ---- the least capacity decides for all capacities that a number counts

fits_lesser : (o : Option ℕ) (most : ℕ) (z : ℤ) → fits (lesser o most) z ≡ (fits o z && int_le z (pos most))
fits_lesser o most z = grind (arith, both_below)

fits_all : (o : Option ℕ) (capacities : List ℕ) (z : ℤ) → fits (least_from o capacities) z ≡ (fits o z && counts_well capacities z)
fits_all o [] z = grind arith
fits_all o (most ∷ capacities) z = grind (arith, fits_lesser, and_assoc, fits, fits_all (lesser o most) capacities z)

-- a number is at most the least capacity exactly if it is at most each of them
pub least_fits : (fields : List Field) (table : List (Option ℕ)) (i : ℕ) (z : ℤ) → AreLeast fields table → i < length fields
    → fits (get_or table i None) z ≡ counts_well (counted i fields) z
least_fits fields table i z h lt = cc (h.least i lt, fits_all None (counted i fields) z)

-- ---- the rules at a place, in order

pub rule_holds : (rules : List Bool) (i : ℕ) (d : Bool) (place : Place) → i < length rules → get_or rules i d ≡ true
    → failing (i + 1) (drop i rules) place ≡ failing 1 rules place → failing (i + 1 + 1) (drop (i + 1) rules) place ≡ failing 1 rules place
rule_holds rules i d place lt is e = rw (add-one (i + 1)) (rw (drop_more rules i d lt, is) at e)

pub rule_fails : (rules : List Bool) (i : ℕ) (d : Bool) (place : Place) → i < length rules → get_or rules i d ≡ false
    → failing (i + 1) (drop i rules) place ≡ failing 1 rules place → failing 1 rules place ≡ Some (record { rule = i + 1; place = place })
rule_fails rules i d place lt is e = sym (rw (drop_more rules i d lt, is) at e)

pub rules_hold : (rules : List Bool) (i : ℕ) (place : Place) → length rules ≤ i
    → failing (i + 1) (drop i rules) place ≡ failing 1 rules place → failing 1 rules place ≡ None
rules_hold rules i place all e = cc (drop_all i rules all)

pub ruleset lowest_laws = (rule_holds, rule_fails, rules_hold)

-- ---- the number of items of a set, with sums that are cut at 2 ^ 32 - 1: items by sizes

pub subs_are : (sizes : List ℕ) (subs : List sets.Sub) → subs_items sizes subs ≡ subs_size Items sizes subs
subs_are sizes [] = refl
subs_are sizes (s ∷ subs) = cc (items_are sizes s.desc.fields, subs_are sizes subs)

-- ---- sizes that are cut give the same result

capped_items : (sizes : List ℕ) (fs : List sets.Field) → in_u32 (items_in (map in_u32 sizes) fs) ≡ in_u32 (items_in sizes fs)
capped_items sizes fs = cc (items_are (map in_u32 sizes) fs, capped_fields Items sizes fs, items_are sizes fs)

items_of_subs : (sizes : List ℕ) (subs : List sets.Sub) → in_u32 (subs_items (map in_u32 sizes) subs) ≡ in_u32 (subs_items sizes subs)
items_of_subs sizes subs = cc (subs_are (map in_u32 sizes) subs, capped_subs Items sizes subs, subs_are sizes subs)

capped_devices : (sizes : List ℕ) (devices : List sets.Device) → in_u32 (devices_items (map in_u32 sizes) devices) ≡ in_u32 (devices_items sizes devices)
capped_devices sizes [] = refl
capped_devices sizes (d ∷ devices) = omega (arith, capped_items sizes d.desc.fields, items_of_subs sizes d.subs, capped_devices sizes devices)

same_limit : (n : ℕ) → nat_le (in_u32 n) MOST_ITEMS ≡ nat_le n MOST_ITEMS
same_limit n = grind (arith, nat_tests)

pub few_items : (structs : List sets.Desc) (devices : List sets.Device) (sizes : List ℕ) (items : ℕ)
    → sizes ≡ map in_u32 (sizes_to Items structs (length structs))
    → items ≡ in_u32 (devices_items sizes devices) → nat_le items MOST_ITEMS ≡ nat_le (devices_items (struct_items structs) devices) MOST_ITEMS
few_items structs devices sizes items is e = grind (arith, capped_devices, same_limit, items_to)

-- ---- walks over lists of places that have no fault so far: the exit of a `?`

pub stops_by : {X : Type 0} (x : Option SetFault) (r : Result X DescFault) (e : DescFault) → IsErrAnd r (λ y. y ≡ e) → IsFirst x e → Judges x r
stops_by x r e is_err h = let p = err_from_is_err_and r is_err in rw (p.1, p.2) h

-- ---- one check after another

-- a fault of the first is the fault of both
pub first_stops : (x y : Option SetFault) (e : DescFault) → IsFirst x e → IsFirst (or_else x y) e
first_stops x y e h = grind arith

-- if the first has none, the others decide
pub judged_after : {X : Type 0} (x y : Option SetFault) (r : Result X DescFault) → x ≡ None → Judges y r → Judges (or_else x y) r
judged_after x y r none h = rw none h

-- ---- over a list

module _ {Y : Type 0} (f : ℕ → Y → Option SetFault) (i : ℕ) (y : Y) (ys rest : List Y) (whole : Option SetFault) (is : ys ≡ y ∷ rest)
    (is_whole : first_answer f i ys ≡ whole) where
  first_is : or_else (f i y) (first_answer f (i + 1) rest) ≡ whole
  first_is = rw add-one (sym (ap (first_answer f i) is) ∙ is_whole)

  pub goes_on : f i y ≡ None → first_answer f (i + 1) rest ≡ whole
  goes_on none = rw none at first_is

  pub stops_here : (e : DescFault) → IsFirst (f i y) e → IsFirst whole e
  stops_here e h = rw first_is at (first_stops (f i y) (first_answer f (i + 1) rest) e h)

pub spots_good : {Y : Type 0} (f : ℕ → Y → Option SetFault) (ys : List Y) (i : ℕ) (whole : Option SetFault) → length ys ≤ i
    → first_answer f i (drop i ys) ≡ whole → whole ≡ None
spots_good f ys i whole all e = cc (drop_all i ys all)

-- ---- devices and their subsections

any_same : (name : List ℕ) (instance : ℕ) (devices : List Device)
    → list_any (is_same_device name instance) (map device_of devices) ≡ list_any (λ d. bytes_eq d.desc.name name && d.instance == instance) devices
any_same name instance [] = refl
any_same name instance (d ∷ devices) = rw (any_same name instance devices)

pub same_device : (name : List ℕ) (instance k : ℕ) (devices : List Device)
    → list_any (is_same_device name instance) (take k (map device_of devices)) ≡ list_any (λ d. bytes_eq d.desc.name name && d.instance == instance)
    (take k devices)
same_device name instance k devices = rw take-map (any_same name instance (take k devices))

-- ---- tests and names

-- if both may name the same fields, the same tests name well
pub needed_names : (own known parent device : ℕ → Bool) (t : Formula) → ((i : ℕ) → own i ≡ known i) → ((i : ℕ) → parent i ≡ device i)
    → names_well own parent t ≡ names_well known device t
needed_names own known parent device (Cell Own field mask rel value) same alike = same field
needed_names own known parent device (Cell Parent field mask rel value) same alike = alike field
needed_names own known parent device (Not t) same alike = needed_names own known parent device t same alike
needed_names own known parent device (And s t) same alike =
    cc (needed_names own known parent device s same alike, needed_names own known parent device t same alike)
needed_names own known parent device (Or s t) same alike =
    cc (needed_names own known parent device s same alike, needed_names own known parent device t same alike)
needed_names own known parent device _ same alike = refl

-- ---- structures: their depths and their names: depths

item_small : (depths : List ℕ) (most : ℕ) (item : Item) → ((j : ℕ) → get_or depths j 0 ≤ most) → item_depth depths item ≤ most
item_small depths most item small = grind arith

pub deepest_small : (depths : List ℕ) (most : ℕ) (fs : List sets.Field) → ((j : ℕ) → get_or depths j 0 ≤ most) → deepest depths fs ≤ most
deepest_small depths most [] small = omega arith
deepest_small depths most (f ∷ fs) small = omega (arith, item_small depths most f.item small, deepest_small depths most fs small)

abbrev pub depths_to : List sets.Desc → ℕ → List ℕ
depths_to structs k = first (λ depths d. 1 + deepest depths d.fields) structs k

pub depths_more : (structs : List Desc) (depths : List ℕ) (i depth : ℕ) (d : Desc) → i < length structs → d ≡ get_or structs i d
    → depths ≡ depths_to (map desc_of structs) i → depth ≡ 1 + deepest depths (map field_of d.fields)
    → depths ++ depth ∷ [] ≡ depths_to (map desc_of structs) (i + 1)
unfolding first
depths_more structs depths i depth d lt is e now = grind (arith, get_map_at)

push_small : (xs : List ℕ) (x most j : ℕ) → ((k : ℕ) → get_or xs k 0 ≤ most) → x ≤ most → get_or (xs ++ x ∷ []) j 0 ≤ most
push_small [] x most zero small le = le
push_small [] x most (suc j) small le = omega arith
push_small (y ∷ xs) x most zero small le = small 0
push_small (y ∷ xs) x most (suc j) small le = push_small xs x most j (λ k. small (suc k)) le

pub depths_small : (depths : List ℕ) (i depth j : ℕ) → ((k : ℕ) → get_or depths k 0 ≤ i) → depth ≤ i + 1 → get_or (depths ++ depth ∷ []) j 0 ≤ i + 1
depths_small depths i depth j small le = push_small depths depth (i + 1) j (λ k. omega (arith, small k)) le

pub none_small : (depths : List ℕ) (j : ℕ) → depths ≡ [] → get_or depths j 0 ≤ 0
none_small depths j e = rw e (omega arith)

-- there are the same number of depths and structures
pub depths_long : (structs : List Desc) (depths : List ℕ) → depths ≡ struct_depths (map desc_of structs) → length depths ≡ length structs
depths_long structs depths e =
    cc (first_long (λ depths d. 1 + deepest depths d.fields) (map desc_of structs) (length (map desc_of structs)), length-map structs desc_of)

pub depth_at : (structs : List Desc) (depths : List ℕ) (i depth : ℕ) → i < length structs → depths ≡ struct_depths (map desc_of structs)
    → depth ≡ get_or depths i depth
    → depth ≡ get_or (struct_depths (map desc_of structs)) i 0
depth_at structs depths i depth lt e is = cc (get_or_default depths i depth 0 (omega (arith, lt, depths_long structs depths e)), is)

-- ---- the machines of a set, and the whole walk: distinct names

none : (List ℕ → Bool) → List (List ℕ) → Bool
none had [] = true
none had (n ∷ names) = not (had n) && none had names

none_with : (had : List ℕ → Bool) (x : List ℕ) (names : List (List ℕ)) → none (with_name had x) names ≡ (not (is_one_of names x) && none had names)
unfolding none
none_with had x [] = refl
none_with had x (n ∷ names) =
    cc (none_with had x names, nat_list_eq_equiv.symm x n, regroup (bytes_eq n x) (had n) (is_one_of names x) (none had names)) where
      regroup : (a b c d : Bool) → (not (a || b) && (not c && d)) ≡ (not (a || c) && (not b && d))
      regroup a b c d = grind arith

new_and_distinct : (had : List ℕ → Bool) (names : List (List ℕ)) → are_new_to had names ≡ (none had names && are_distinct names)
unfolding none
new_and_distinct had [] = refl
new_and_distinct had (n ∷ names) = grind (arith, none, none_with, and_assoc, and_swap, new_and_distinct (with_name had n) names)

none_of_none : (had : List ℕ → Bool) (names : List (List ℕ)) → ((n : List ℕ) → had n ≡ false) → none had names ≡ true
unfolding none
none_of_none had [] empty = refl
none_of_none had (n ∷ names) empty = cc (empty n, none_of_none had names empty)

-- names that are new to the empty set are distinct
pub distinct_is : (had : List ℕ → Bool) (names : List (List ℕ)) → ((n : List ℕ) → had n ≡ false) → are_new_to had names ≡ are_distinct names
distinct_is had names empty = cc (new_and_distinct had names, none_of_none had names empty)

pub empty_has_none : (names : BTreeSet (ℕ × Bor (List ℕ))) → names.keys ≡ [] → (n : List ℕ) → has_name names n ≡ false
empty_has_none names e n = ap (λ (keys : List (ℕ × Bor (List ℕ))). list_any (is_at (λ k. by_key (key n, n) (k.0, k.1.now))) keys) e
