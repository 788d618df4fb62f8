-- What was read of an object's members and of a list's items, and keys in order.
use Rattle.vms_analyze.proofs.Facade
use Facade.{natural_at, four_at, whole_of, whole_at, each, Ordering, Less, Equal, Greater, ◌≡◌, ℕ, Bool, true, false, ◌&&◌, List, [], ◌∷◌}
use Facade.{◌++◌, append-nil, unwrap_or, Option, Some, None, refl, sym, ap, ◌∙◌, IfSome, option_map, option_and_then, map, ℤ, arith, and_parts}
use Facade.{nat_list_cmp_total, exact_bytes, is_eq-slice_cmp, nat_cmp, match_ordering, ordering_reverse, is_eq, slice_cmp, list_all, Data, null, boolean}
use Facade.{number, string, array, object, Members, no_members, member, put, Items, item, unsigned, no_items, get, get_member, as_bool, as_number, as_str}
use Facade.{as_array, as_u64, of_integer, is_one_of, has, has_no_others, has_all, fits, IsLess, IsBefore, AreOrdered, keys_of, IsSorted, AreSorted, HoldSorted}
use Facade.{tokens, number_of, of_json, of_items, of_members, max_depth, read, items_of, natural, is_path, fits_four, next, only, path_at}
use Rattle.vms_analyze.proofs.Shapes.{each_good}
use Rattle.serde_json.specs.Data.{Num}
use Rattle.std.proofs.lemmas.Option.{same_Some}
use Rattle.json.specs.Json as json

-- ---- An object whose keys are in order and are exactly these has them one after the other.

less_turned : (k l : List ℕ) → slice_cmp nat_cmp k l ≡ Greater → IsLess l k
less_turned k l e = cc (nat_list_cmp_total.antisymm l k)

greater_turned : (k l : List ℕ) → IsLess l k → slice_cmp nat_cmp k l ≡ Greater
greater_turned k l e = cc (nat_list_cmp_total.antisymm k l)

before_more : (k l : List ℕ) (keys : List (List ℕ)) → IsLess k l → IsBefore l keys → IsBefore k keys
before_more k l [] lt h = tt
before_more k l (m ∷ keys) lt h = (nat_list_cmp_total.trans k l m lt h.0, before_more k l keys lt h.1)

-- ---- putting keeps it

put_before : (l k : List ℕ) (d : Data) (ms : Members) → IsLess l k → IsBefore l (keys_of ms) → IsBefore l (keys_of (put k d ms))
put_before l k d no_members lt h = (lt, tt)
put_before l k d (member m e ms) lt h = grind (arith, put_before l k d ms lt h.1)

abbrev AreBoth : Members → Type 0
AreBoth ms = AreOrdered (keys_of ms) × HoldSorted ms

put_both : (k : List ℕ) (d : Data) (ms : Members) → IsSorted d → AreBoth ms → AreBoth (put k d ms)
put_both k d no_members x h = ((tt, tt), (x, tt))
put_both k d (member m e ms) x h = go (slice_cmp nat_cmp k m) refl (put_both k d ms x (h.0.1, h.1.1))
  where
    go : (o : Ordering) → slice_cmp nat_cmp k m ≡ o → AreBoth (put k d ms)
        → AreBoth (match_ordering o (member k d (member m e ms)) (member m d ms) (member m e (put k d ms)))
    go Less is more = (((is, before_more _ _ _ is h.0.0), h.0), (x, h.1))
    go Equal is more = (h.0, (x, h.1.1))
    go Greater is more = ((put_before _ _ _ _ (less_turned k m is) h.0.0, more.0), (h.1.0, more.1))

-- ---- exactly these keys

-- a key before all of these isn't one of them, and has no value
none_of : (l : List ℕ) (keys : List (List ℕ)) → IsBefore l keys → is_one_of keys l ≡ false
none_of l [] h = refl
none_of l (k ∷ keys) h = rw (sym (is_eq-slice_cmp k l) ∙ ap is_eq (greater_turned k l h.0)) (none_of l keys h.1)

none_under : (k : List ℕ) (ms : Members) → IsBefore k (keys_of ms) → get_member k ms ≡ None
none_under k no_members h = refl
none_under k (member l e ms) h = rw h.0 (none_under k ms h.1)

-- without the first key, if no other is it
others_left : (k : List ℕ) (keys : List (List ℕ)) (ms : Members) → IsBefore k (keys_of ms) → has_no_others (k ∷ keys) ms ≡ true → has_no_others keys ms ≡ true
others_left k keys no_members h e = refl
others_left k keys (member l d ms) h e =
    let p = and_parts (is_one_of (k ∷ keys) l) (has_no_others (k ∷ keys) ms) e in
    let here : is_one_of keys l ≡ true = sym (rw (sym (is_eq-slice_cmp k l) ∙ ap is_eq h.0)) ∙ p.0 in
    rw here (others_left k keys ms h.1 p.1)

all_left : (l : List ℕ) (d : Data) (ms : Members) (keys : List (List ℕ)) → IsBefore l keys → has_all keys (object (member l d ms)) ≡ true
    → has_all keys (object ms) ≡ true
all_left l d ms [] h e = refl
all_left l d ms (k ∷ keys) h e =
    let p = and_parts (has k (object (member l d ms))) (has_all keys (object (member l d ms))) e in
    let same : has k (object (member l d ms)) ≡ has k (object ms) = rw (greater_turned k l h.0) in
    ap (λ b. b && has_all keys (object ms)) (sym same ∙ p.0) ∙ all_left l d ms keys h.1 p.1

pub just_keys : (keys : List (List ℕ)) (ms : Members) → AreOrdered keys → AreOrdered (keys_of ms) → has_no_others keys ms ≡ true
    → has_all keys (object ms) ≡ true → keys_of ms ≡ keys
just_keys [] no_members h g e f = refl
just_keys [] (member l d ms) h g e f = cc
just_keys (k ∷ keys) no_members h g e f = cc
just_keys (k ∷ keys) (member l d ms) h g e f = go (slice_cmp nat_cmp k l) refl (λ a b. just_keys keys ms h.1 g.1 a b)
  where
    p : (is_one_of (k ∷ keys) l ≡ true) × (has_no_others (k ∷ keys) ms ≡ true)
    p = and_parts (is_one_of (k ∷ keys) l) (has_no_others (k ∷ keys) ms) e

    q : (has k (object (member l d ms)) ≡ true) × (has_all keys (object (member l d ms)) ≡ true)
    q = and_parts (has k (object (member l d ms))) (has_all keys (object (member l d ms))) f

    go : (o : Ordering) → slice_cmp nat_cmp k l ≡ o → (has_no_others keys ms ≡ true → has_all keys (object ms) ≡ true → keys_of ms ≡ keys)
        → l ∷ keys_of ms ≡ k ∷ keys
    go Less is more =
        let none : has k (object (member l d ms)) ≡ false = cc (none_under k ms (before_more k l (keys_of ms) is g.0)) in
        cc (q.0)
    go Greater is more =
        let lt = less_turned k l is in
        cc (none_of l (k ∷ keys) (lt, before_more l k keys lt h.0), p.0)
    go Equal is more =
        let same : k ≡ l = exact_bytes k l is in
        rw (sym same, more (others_left k keys ms (rw same g.0) p.1) (all_left l d ms keys (rw same at h.0) q.1))

-- ---- their values

-- the members of these keys, one after the other
abbrev pub picked : List (List ℕ) → Data → Members
picked [] d = no_members
picked (k ∷ keys) d = member k (unwrap_or (get k d) null) (picked keys d)

picked_behind : (keys : List (List ℕ)) (l : List ℕ) (e : Data) (ms : Members) → IsBefore l keys → picked keys (object (member l e ms)) ≡ picked keys (object ms)
picked_behind [] l e ms h = refl
picked_behind (k ∷ keys) l e ms h = rw (greater_turned k l h.0, picked_behind keys l e ms h.1)

is_itself : (k : List ℕ) → slice_cmp nat_cmp k k ≡ Equal
is_itself k = itself (slice_cmp nat_cmp k k) (nat_list_cmp_total.antisymm k k)
  where
    itself : (o : Ordering) → o ≡ ordering_reverse o → o ≡ Equal
    itself Equal e = refl
    itself _ e = cc

all_picked : (ms : Members) → AreOrdered (keys_of ms) → ms ≡ picked (keys_of ms) (object ms)
all_picked no_members h = refl
all_picked (member l d ms) h = rw (is_itself l, picked_behind (keys_of ms) l d ms h.0) (ap (member l d) (all_picked ms h.1))

-- an object of exactly these keys
pub is_picked : (keys : List (List ℕ)) → AreOrdered keys → (d : Data) → IsSorted d → fits keys [] d ≡ true → d ≡ object (picked keys d)
is_picked keys h (object ms) sorted e =
    let p = and_parts (has_no_others (keys ++ []) ms) (has_all keys (object ms)) e in
    ap object (all_picked ms sorted.0 ∙ rw (just_keys _ _ h sorted.0 (rw append-nil at p.0) p.1))
is_picked keys h _ sorted e = cc

-- ---- A value that was read has the keys of each object in order.

by_map : {A B : Type 0} (P : A → Type 0) (Q : B → Type 0) (f : A → B) → ((a : A) → P a → Q (f a)) → (o : Option A) → IfSome o P → IfSome (option_map f o) Q
by_map P Q f h o x = grind arith

by_then : {A B : Type 0} (P : A → Type 0) (Q : B → Type 0) (f : A → Option B) → ((a : A) → P a → IfSome (f a) Q) → (o : Option A) → IfSome o P
    → IfSome (option_and_then f o) Q
by_then P Q f h o x = grind arith

any : {A : Type 0} (o : Option A) → IfSome o (λ _. Unit {0})
any o = grind arith

mutual
  sorted_json : (j : json.Json) → IfSome (of_json j) IsSorted
  sorted_json (json.number s) = by_map (λ _. Unit {0}) IsSorted number (λ n x. tt) _ (any (number_of s))
  sorted_json (json.array js) = by_map AreSorted IsSorted array (λ ds x. x) _ (sorted_items js)
  sorted_json (json.object ms) = by_map AreBoth IsSorted object (λ ds x. x) _ (sorted_members ms no_members (tt, tt))
  sorted_json _ = tt

  sorted_items : (js : json.Items) → IfSome (of_items js) AreSorted
  sorted_items json.no_items = tt
  sorted_items (json.item j js) =
      by_then IsSorted AreSorted _ (λ d x. by_map AreSorted AreSorted (item d) (λ ds y. (x, y)) (of_items js) (sorted_items js)) (of_json j) (sorted_json j)

  sorted_members : (ms : json.Members) (found : Members) → AreBoth found → IfSome (of_members ms found) AreBoth
  sorted_members json.no_members found h = h
  sorted_members (json.member k j ms) found h =
      by_then IsSorted AreBoth _ (λ d x. sorted_members ms (put k d found) (put_both k d found x h)) (of_json j) (sorted_json j)

if_parsed : (o : Option json.Json) → IfSome (option_and_then of_json o) IsSorted
if_parsed None = tt
if_parsed (Some j) = sorted_json j

pub read_sorted : (text : List ℕ) → IfSome (read text) IsSorted
read_sorted text = if_parsed (option_and_then (λ p. json.if_last p.0 p.1) (json.value max_depth (tokens text)))

-- ---- What was read of the members of an object, and of a list's items.

-- something was read, of which this holds, and then this of it
pub record After {A B : Type 0} (P : A → Type 0) (f : A → Option B) (b : B) : Type 0 where
  pub value : A
  pub is : P value
  pub then : f value ≡ Some b

pub after : {A B : Type 0} {P : A → Type 0} (o : Option A) → ((a : A) → o ≡ Some a → P a) → (f : A → Option B) (b : B) → next o f ≡ Some b → After P f b
after None is f b e = cc
after (Some a) is f b e = record { value = a; is = is a refl; then = e }

-- and so it was read
pub first_then : {A B : Type 0} {o : Option A} {a : A} {r : Option B} (f : A → Option B) → o ≡ Some a → f a ≡ r → next o f ≡ r
first_then f e g = rw e (g)

pub record Only {A : Type 0} (b : Bool) (a c : A) : Type 0 where
  pub so : b ≡ true
  pub same : a ≡ c

pub only_is : {A : Type 0} (b : Bool) (a c : A) → only b a ≡ Some c → Only b a c
only_is b a c e = grind arith

pub only_so : {A : Type 0} (b : Bool) (a : A) → b ≡ true → only b a ≡ Some a
only_so b a e = grind arith

-- ---- members

abbrev pub under : List ℕ → Data → Data
under key d = unwrap_or (get key d) null

pub text_is : (o : Option Data) (t : List ℕ) → next o as_str ≡ Some t → unwrap_or o null ≡ string t
text_is (Some (string s)) t e = cc
text_is _ t e = cc

pub record IsPathAt (most : ℕ) (key : List ℕ) (d : Data) (t : List ℕ) : Type 0 where
  pub is : under key d ≡ string t
  pub good : is_path most t ≡ true

pub path_is : (most : ℕ) (key : List ℕ) (d : Data) (t : List ℕ) → path_at most key d ≡ Some t → IsPathAt most key d t
path_is most key d t e = search (arith, text_is, only_is)

pub flag_is : (o : Option Data) (b : Bool) → next o as_bool ≡ Some b → unwrap_or o null ≡ boolean b
flag_is (Some (boolean b)) t e = cc
flag_is _ t e = cc

pub list_is : (o : Option Data) (ds : Items) → next o as_array ≡ Some ds → unwrap_or o null ≡ array ds
list_is (Some (array ds)) t e = cc
list_is _ t e = cc

number_in : (o : Option Data) (n : Num) → next o as_number ≡ Some n → unwrap_or o null ≡ number n
number_in (Some (number n)) t e = cc
number_in _ t e = cc

unsigned_is : (n : Num) (k : ℕ) → as_u64 n ≡ Some k → n ≡ unsigned k
unsigned_is n k e = grind arith

pub natural_is : (key : List ℕ) (d : Data) (k : ℕ) → natural_at key d ≡ Some k → under key d ≡ natural k
natural_is key d k e = grind (arith, unsigned_is)

pub record IsFourAt (key : List ℕ) (d : Data) (k : ℕ) : Type 0 where
  pub is : under key d ≡ natural k
  pub good : fits_four k ≡ true

pub four_is : (key : List ℕ) (d : Data) (k : ℕ) → four_at key d ≡ Some k → IsFourAt key d k
four_is key d k e = search (arith, natural_is, only_is)

whole_is_of : (n : Num) (z : ℤ) → whole_of n ≡ Some z → n ≡ of_integer z
whole_is_of n z e = grind arith

pub whole_is : (key : List ℕ) (d : Data) (z : ℤ) → whole_at key d ≡ Some z → under key d ≡ number (of_integer z)
whole_is key d z e = grind (arith, whole_is_of)

pub whole_back : (z : ℤ) → whole_of (of_integer z) ≡ Some z
whole_back z = grind arith

-- ---- lists

-- a value is the tree of this, which is good
pub record Says {A : Type 0} (tree : A → Data) (good : A → Bool) (d : Data) (a : A) : Type 0 where
  pub tree_is : d ≡ tree a
  pub good_is : good a ≡ true

pub record EachSays {A : Type 0} (tree : A → Data) (good : A → Bool) (ds : Items) (list : List A) : Type 0 where
  pub trees_are : ds ≡ items_of (map tree list)
  pub good_are : list_all good list ≡ true

says_more : {A : Type 0} {tree : A → Data} {good : A → Bool} {d : Data} {ds : Items} {list : List A} (x : A) (rest : List A) → x ∷ rest ≡ list
    → Says tree good d x → EachSays tree good ds rest → EachSays tree good (item d ds) list
says_more x rest e s more = rw (← e) (record { trees_are = rw (s.tree_is, more.trees_are); good_are = rw (s.good_is, more.good_are) })

module _ {A : Type 0} (tree : A → Data) (good : A → Bool) (says : Data → Option A) where
  pub each_says : ((d : Data) → IsSorted d → (a : A) → says d ≡ Some a → Says tree good d a) → (ds : Items) → AreSorted ds → (list : List A)
      → each says ds ≡ Some list → EachSays tree good ds list
  each_says one no_items sorted [] e = record { trees_are = refl; good_are = refl }
  each_says one no_items sorted (b ∷ list) e = cc
  each_says one (item d ds) sorted list e =
      let a = after _ (one d sorted.0) (λ a. next (each says ds) (λ rest. Some (a ∷ rest))) _ e in
      let b = after _ (each_says one ds sorted.1) (λ rest. Some (a.value ∷ rest)) _ a.then in
      says_more _ _ (same_Some _ _ b.then) a.is b.is

  pub each_back : ((a : A) → good a ≡ true → says (tree a) ≡ Some a) → (list : List A) → list_all good list ≡ true
      → each says (items_of (map tree list)) ≡ Some list
  each_back one list e =
      each_good good (λ l. each says (items_of (map tree l)) ≡ Some l) refl (λ a l p q. first_then _ (one a p) (first_then _ q refl)) _ e
