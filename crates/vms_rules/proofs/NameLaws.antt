-- Names that are distinct, and the earlier fields that a field may name.
use Rattle.vms_rules.proofs.Facade
use Facade.{◌≡◌, ℕ, ◌+◌, ◌<◌, ◌≤◌, List, ◌∷◌, ◌++◌, length, length-take, length-append, get_or, drop, take, map, Bool, true}
use Facade.{false, Ordering, refl, sym, ◌∙◌, arith, [], ◌&&◌, not, nat_eq, ◌||◌, BTreeSet, UpdatesBy, KeepsOthers, IsKeyTest, AreApart}
use Facade.{IsTotalOrder, then_total, on_total, nat_cmp_total, unequal, slice_cmp, nat_list_cmp_total, nat_cmp, is_eq, eq_by_cmp, ordering_then, list_any}
use Facade.{bytes_eq, length-map, map-append, take_more, is_eq-slice_cmp, bytes_eq-Decides, and-true, or-false, and_assoc, or_assoc, or_comm, Bor, is_name}
use Facade.{is_sub_name, is_one_of, or_turned, drop_is, get_map_at, key, by_key, has_name, with_name, are_new_to, one_of_both, Field, field_of, zero, suc}
use Facade.{append_assoc, nat_lt, slice_get, nat_tests, take-map, and-false, Formula, is_steady, names_well, all_names, are_new, append-nil, IsDistinct}
use Facade.{AllByRecursion, IsStrictlyIncreasing, IsPermutation, eq_by_cmp_equiv, take-append-drop, IsPermutation-sym, IsDistinct-IsPermutation}
use Facade.{IsDistinct-from_sorted, sorted_from_strictly_increasing, all_right, either_of}
use Rattle.vms_rules.proofs.WalkLaws.{needed_names}
use Rattle.std.specs.Cmp.{eq_by_cmp_equiv as equiv_by}
use Rattle.vms_spec.specs.Sets as sets

-- ---- sets

in_order : IsTotalOrder by_key
in_order = then_total (on_total (λ (t : ℕ × List ℕ). t.0) nat_cmp_total) (on_total (λ (t : ℕ × List ℕ). t.1) nat_list_cmp_total)

second_differs : (a b : Ordering) → is_eq b ≡ false → is_eq (ordering_then a b) ≡ false
second_differs a b e = grind arith

apart_in_order : (name n : List ℕ) (k : ℕ × List ℕ) → bytes_eq name n ≡ false → eq_by_cmp by_key (key name, name) k ≡ true
    → eq_by_cmp by_key (key n, n) k ≡ false
apart_in_order name n k differ same =
    let equal = equiv_by in_order in
    let other : ℕ × List ℕ = (key n, n) in
    equal.symm other k ∙ sym (equal.congr (key name, name) k other same)
    ∙ second_differs (nat_cmp (key name) (key n)) (slice_cmp nat_cmp name n) (is_eq-slice_cmp name n ∙ differ)

other_keys : {K : Type 0} (eq : K → K → Bool) (test : K → Bool) (old new : List K) → KeepsOthers eq test old new
    → (other : K → Bool) → IsKeyTest eq other → AreApart test other → list_any other new ≡ list_any other old
unfolding KeepsOthers
other_keys eq test old new h = h

or_is : (b c r : Bool) → (b ≡ true → r ≡ true) → (b ≡ false → r ≡ c) → r ≡ (b || c)
or_is b c r left right = grind arith

abbrev pub seen : ℕ × Bor (List ℕ) → ℕ × List ℕ
seen k = (k.0, k.1.now)

pub name_added : (names after : BTreeSet (ℕ × Bor (List ℕ))) (name : List ℕ)
    → UpdatesBy (λ x y. by_key (seen x) (seen y)) (λ k. by_key (key name, name) (seen k)) names after true
    → (n : List ℕ) → has_name after n ≡ with_name (has_name names) name n
name_added names after name h n =
    or_is (bytes_eq name n) (has_name names n) (has_name after n) (λ y. rw (← (bytes_eq-Decides name n).0 y) h.1)
    (λ e. other_keys _ _ _ _ h.3 _ (λ x y. (equiv_by in_order).congr (key n, n) (seen x) (seen y)) (λ k. apart_in_order name n (seen k) e))

-- ---- lists of names that are new to a set

pub same_new : (had have : List ℕ → Bool) (names : List (List ℕ)) → ((n : List ℕ) → had n ≡ have n) → are_new_to had names ≡ are_new_to have names
same_new had have [] same = refl
same_new had have (n ∷ names) same = cc (same n, same_new (with_name had n) (with_name have n) names (λ m. rw (same m)))

-- one more name in a list
pub is_one_more : (names : List (List ℕ)) (x n : List ℕ) → is_one_of (names ++ x ∷ []) n ≡ (is_one_of names n || bytes_eq x n)
is_one_more [] x n = or-false (bytes_eq x n)
is_one_more (m ∷ names) x n = cc (is_one_more names x n, or_assoc (bytes_eq m n) (is_one_of names n) (bytes_eq x n))

-- the names of one more element of a list
pub names_so_far : {X Y : Type 0} (view : X → Y) (name : Y → List ℕ) (xs : List X) (i : ℕ) (x : X) (had have : List ℕ → Bool) → i < length xs
    → x ≡ get_or xs i x
    → ((n : List ℕ) → had n ≡ is_one_of (map name (take i (map view xs))) n) → ((n : List ℕ) → have n ≡ with_name had (name (view x)) n)
    → (n : List ℕ) → have n ≡ is_one_of (map name (take (i + 1) (map view xs))) n
names_so_far view name xs i x had have lt is before now n =
    let earlier = take i (map view xs) in
    cc (
      now n,
      before n,
      or_comm (bytes_eq (name (view x)) n) (is_one_of (map name earlier) n),
      is_one_more (map name earlier) (name (view x)) n,
      take_more (map view xs) i (view x) (omega (arith, length-map xs view)),
      get_map_at view xs i x (view x) lt is,
      map-append name earlier (view x ∷ []),
    )

pub added_more : (list : List (List ℕ)) (i : ℕ) (x : List ℕ) (first had have : List ℕ → Bool) → i < length list → x ≡ get_or list i x
    → ((n : List ℕ) → had n ≡ (is_one_of (take i list) n || first n)) → ((n : List ℕ) → have n ≡ with_name had x n)
    → (n : List ℕ) → have n ≡ (is_one_of (take (i + 1) list) n || first n)
added_more list i x first had have lt is before now n =
    cc (now n, before n, or_turned (bytes_eq x n) (is_one_of (take i list) n) (first n), is_one_more (take i list) x n, take_more list i x lt)

pub new_more : (list : List (List ℕ)) (i : ℕ) (x : List ℕ) (had have : List ℕ → Bool) (so_far whole : Bool) → i < length list → x ≡ get_or list i x
    → (so_far && are_new_to had (drop i list)) ≡ whole → ((n : List ℕ) → have n ≡ with_name had x n)
    → ((so_far && not (had x)) && are_new_to have (drop (i + 1) list)) ≡ whole
new_more list i x had have so_far whole lt is before now = grind (arith, same_new, and_assoc, drop_is)

-- ---- a subsection's name

equal_push : (xs ys : List ℕ) (x y : ℕ) → length xs ≡ length ys → bytes_eq (xs ++ x ∷ []) (ys ++ y ∷ []) ≡ (bytes_eq xs ys && nat_eq x y)
equal_push [] [] x y e = and-true (nat_eq x y)
equal_push (a ∷ xs) (b ∷ ys) x y e = cc (equal_push xs ys x y (omega arith), and_assoc (nat_eq a b) (bytes_eq xs ys) (nat_eq x y))
equal_push _ _ x y e = absurd (omega arith)

pub sub_name_parts : (device name : List ℕ) → length device < length name
    → is_sub_name device name ≡ ((bytes_eq (take (length device) name) device && nat_eq (get_or name (length device) 0) 47) && is_name 64
    (drop (length device + 1) name))
sub_name_parts device name lt =
    cc (take_more name (length device) 0 lt, equal_push (take (length device) name) device (get_or name (length device) 0) 47 (omega (arith, length-take (length device) name)))

pub no_sub_name : (device name : List ℕ) → length name ≤ length device → is_sub_name device name ≡ false
no_sub_name device name le =
    rw (unequal nat_eq (take (length device + 1) name) (device ++ 47 ∷ []) (λ e. omega (arith, length-take (length device + 1) name, length-append device (47 ∷ []))))

pub ruleset sub_name_laws = (sub_name_parts, no_sub_name)

-- ---- the earlier fields that a field may name

pub earlier_is : (fields : List Field) (m k i : ℕ)
    → is_steady m (slice_get (map field_of (take k fields)) i) ≡ (nat_lt i k && is_steady m (slice_get (map field_of fields) i))
earlier_is [] m zero i = grind (arith, and-false)
earlier_is [] m (suc k) i = grind (arith, and-false)
earlier_is (f ∷ fields) m zero i = grind (arith, nat_tests)
earlier_is (f ∷ fields) m (suc k) zero = grind (arith, nat_tests)
earlier_is (f ∷ fields) m (suc k) (suc i) = grind (arith, nat_tests, earlier_is fields m k i)

pub named_in : (own known parent : ℕ → Bool) (t : Formula) → ((i : ℕ) → own i ≡ known i) → names_well own parent t ≡ names_well known parent t
named_in own known parent t same = needed_names own known parent parent t same (λ i. refl)

-- ---- names so far

pub new_is : (earlier names : List (List ℕ)) → are_new earlier names ≡ are_new_to (is_one_of earlier) names
new_is earlier [] = refl
new_is earlier (n ∷ names) = rw (new_is (n ∷ earlier) names)

pub names_of_both : (fs gs : List sets.Field) → all_names (fs ++ gs) ≡ all_names fs ++ all_names gs
names_of_both [] gs = refl
names_of_both (f ∷ fs) gs = cc (names_of_both fs gs, append_assoc f.former (all_names fs) (all_names gs))

-- ---- the names of one more field

module _ (fields : List Field) (i : ℕ) (f : Field) (lt : i < length fields) (is : f ≡ get_or fields i f) where
  pub names_with : all_names (map field_of (take (i + 1) fields)) ≡ all_names (map field_of (take i fields)) ++ (f.name ∷ f.former)
  names_with =
      let more : map field_of (take (i + 1) fields) ≡ map field_of (take i fields) ++ field_of f ∷ [] = cc (take_more fields i f lt, map-append field_of (take i fields) (f ∷ [])) in
      rw (more, names_of_both, append-nil)

  pub keys_with : map key (all_names (map field_of (take (i + 1) fields)))
      ≡ (map key (all_names (map field_of (take i fields))) ++ key f.name ∷ []) ++ map key f.former
  keys_with =
      rw (names_with, map-append, append_assoc)

pub names_more : (fields : List Field) (i : ℕ) (f : Field) (had have : List ℕ → Bool) → i < length fields → f ≡ get_or fields i f
    → ((n : List ℕ) → had n ≡ is_one_of (all_names (map field_of (take i fields))) n) → ((n : List ℕ) → have n ≡ (is_one_of (f.name ∷ f.former) n || had n))
    → (n : List ℕ) → have n ≡ is_one_of (all_names (map field_of (take (i + 1) fields))) n
names_more fields i f had have lt is before now n =
    rw (now n, before n, names_with fields i f lt is, one_of_both) (or_comm (is_one_of (f.name ∷ f.former) n) (is_one_of (all_names (map field_of (take i fields))) n))

-- ---- names whose keys differ are distinct

abbrev pub same : ℕ → ℕ → Bool
same = eq_by_cmp nat_cmp

-- ---- rising numbers are distinct, whatever their order was

pub distinct_before : (before rising : List ℕ) → IsPermutation before rising → IsStrictlyIncreasing rising → IsDistinct same before
distinct_before before rising moved up =
    IsDistinct-IsPermutation same (eq_by_cmp_equiv nat_cmp_total).symm rising before (IsPermutation-sym before rising moved)
    (IsDistinct-from_sorted nat_cmp rising (sorted_from_strictly_increasing rising up))

-- ---- names with distinct keys

all_left : (P : ℕ → Type 0) (xs ys : List ℕ) → AllByRecursion P (xs ++ ys) → AllByRecursion P xs
all_left P [] ys h = tt
all_left P (x ∷ xs) ys h = (h.0, all_left P xs ys h.1)

distinct_both : (xs ys : List ℕ) → IsDistinct same (xs ++ ys) → IsDistinct same xs × IsDistinct same ys
unfolding IsDistinct
distinct_both [] ys h = (tt, h)
distinct_both (x ∷ xs) ys h = let r = distinct_both xs ys h.1 in ((all_left (λ y. same x y ≡ false) xs ys h.0, r.0), r.1)

-- no name of the list has the key of this one
abbrev pub KeysApart : List ℕ → List (List ℕ) → Type 0
KeysApart n names = AllByRecursion (λ e. same (key n) e ≡ false) (map key names)

-- the earlier names and the others
apart_from : (earlier names : List (List ℕ)) → IsDistinct same (map key (earlier ++ names)) → (n : List ℕ) → is_one_of earlier n ≡ true → KeysApart n names
unfolding IsDistinct
apart_from [] names h n e = cc
apart_from (x ∷ earlier) names h n e =
    either_of (bytes_eq x n) (is_one_of earlier n) e
    (λ y. rw (← (bytes_eq-Decides x n).0 y) (all_right (λ e. same (key x) e ≡ false) (map key earlier) (map key names) (rw (map-append key earlier names) at h.0)))
    (λ y. apart_from earlier names h.1 n y)

is_itself : (n : ℕ) → same n n ≡ false → ⊥
is_itself n e = let r : same n n ≡ true = (eq_by_cmp_equiv nat_cmp_total).refl n in cc

new_to : (had : List ℕ → Bool) (names : List (List ℕ)) → ((n : List ℕ) → had n ≡ true → KeysApart n names) → IsDistinct same (map key names)
    → are_new_to had names ≡ true
unfolding IsDistinct
new_to had [] h d = refl
new_to had (y ∷ names) h d =
    let new : had y ≡ true → ⊥ = λ e. is_itself (key y) (h y e).0 in
    let rest = new_to (with_name had y) names (λ n e. either_of (bytes_eq y n) (had n) e (λ z. rw (← (bytes_eq-Decides y n).0 z) d.0) (λ z. (h n z).1)) d.1 in
    grind (arith, new, rest)

-- the names of a field are new if the keys of all fields' names are distinct
module _ (fields : List Field) (i : ℕ) (f : Field) (lt : i < length fields) (is : f ≡ get_or fields i f) where
  pub new_names : IsDistinct same (map key (all_names (map field_of fields)))
      → are_new (all_names (take i (map field_of fields))) (f.name ∷ f.former) ≡ true
  new_names d =
      let before = all_names (map field_of (take i fields)) in
      let names : List (List ℕ) = f.name ∷ f.former in
      let rest = all_names (map field_of (drop (i + 1) fields)) in
      let whole : all_names (map field_of fields) ≡ before ++ (names ++ rest) =
      cc (take-append-drop i fields, drop_is fields i f lt is, map-append field_of (take i fields) (f ∷ drop (i + 1) fields), names_of_both (map field_of (take i fields)) (map field_of (f ∷ drop (i + 1) fields))) in
      let split : map key (all_names (map field_of fields)) ≡ map key (before ++ names) ++ map key rest =
      cc (append_assoc before names rest, map-append key (before ++ names) rest) in
      let both : IsDistinct same (map key (before ++ names)) = (distinct_both (map key (before ++ names)) (map key rest) (rw split at d)).0 in
      let own : IsDistinct same (map key names) = (distinct_both (map key before) (map key names) (rw (map-append key before names) at both)).1 in
      rw take-map (new_is before names ∙ new_to (is_one_of before) names (apart_from before names both) own)

-- whether they are new: the keys of all differ, or they are looked up
pub names_known : (fields : List Field) (i : ℕ) (f : Field) (had : List ℕ → Bool) (differ is_new : Bool) → i < length fields → f ≡ get_or fields i f
    → (differ ≡ true → IsDistinct same (map key (all_names (map field_of fields))))
    → (differ ≡ false → (n : List ℕ) → had n ≡ is_one_of (all_names (map field_of (take i fields))) n) → is_new ≡ (differ || are_new_to had (f.name ∷ f.former))
    → is_new ≡ are_new (all_names (take i (map field_of fields))) (f.name ∷ f.former)
names_known fields i f had true is_new lt is distinct before e = cc (new_names fields i f lt is (distinct refl))
names_known fields i f had false is_new lt is distinct before e =
    let earlier = all_names (map field_of (take i fields)) in
    cc (same_new had (is_one_of earlier) (f.name ∷ f.former) (before refl), new_is earlier (f.name ∷ f.former), take-map field_of i fields)
