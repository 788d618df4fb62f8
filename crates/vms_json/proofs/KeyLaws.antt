-- Lists of keys, lists of answers of items, the value of bytes, and members one after the other.
use Rattle.vms_json.proofs.Facade
use Facade.{MatchOption, ◌≡◌, ℕ, zero, suc, take, drop, false, List, ◌∷◌, ◌++◌, ◌&&◌, Bool, map, Ordering, Less, Equal, Greater, is_eq}
use Facade.{refl, ap, true, sym, ◌∙◌, [], ◌||◌, ◌+◌, decimal, append_assoc, if◌then◌else◌, Option, Some, None, is_some, Result, IfOk}
use Facade.{IsUtf8, is_eq-slice_cmp, bytes_eq-Decides, slice_cmp, nat_cmp, match_ordering, list_all, list_any, bytes_eq, is_utf8, and-false, and_self_left, Bor}
use Facade.{append-nil, map-append, IsUtf8-from_is_utf8, is_utf8-from_IsUtf8, Data, object, Members, no_members, member, put, Items, no_items, item, as_object}
use Facade.{Row, front, data_in, members_in, tree_view, is_one_of, one_of_both, has, has_all, has_no_others, Fault, Answer, good, bad, under, next, changed}
use Facade.{each_from, Refuses, read, value_in, Tree, NoNode, ◌≤◌, cond, eqb, ltb, option_and_then, length, codes, arith, position, length-append}
use Facade.{position_or_len_push, prefix_len-le-length, get, as_str, or_else, at_name, text_or_none, names_of, first_of}
use Rattle.vms_json.specs.Answers.{IsUnder}
use Rattle.vms_json.specs.declared.node.Row.TheVariants as rows
use Rattle.vms_json.specs.declared.fault.Fault.TheVariants as faults

-- ---- Lists of keys.

pub all_has : (d : Data) (ks : List (Bor (List ℕ))) → list_all (λ k. has k.now d) ks ≡ has_all (map (λ k. k.now) ks) d
all_has d [] = refl
all_has d (k ∷ ks) = rw (all_has d ks)

pub any_is : (key : List ℕ) (ks : List (Bor (List ℕ))) → list_any (λ k. bytes_eq k.now key) ks ≡ is_one_of (map (λ k. k.now) ks) key
any_is key [] = refl
any_is key (k ∷ ks) = rw (any_is key ks)

-- ---- the keys of members that are added in order

turned : (a b c : Bool) → (a && (b && c)) ≡ (b && (a && c))
turned a b c = grind (arith, and-false)

put_key : (keys : List (List ℕ)) (k : List ℕ) (d : Data) (ms : Members) → has_no_others keys (put k d ms) ≡ (is_one_of keys k && has_no_others keys ms)
put_key keys k d no_members = refl
put_key keys k d (member l e ms) = by_order (put_key keys k d ms) (slice_cmp nat_cmp k l) refl
  where
    by_order : has_no_others keys (put k d ms) ≡ (is_one_of keys k && has_no_others keys ms) → (o : Ordering) → slice_cmp nat_cmp k l ≡ o
        → has_no_others keys (match_ordering o (member k d (member l e ms)) (member l d ms) (member l e (put k d ms)))
        ≡ (is_one_of keys k && (is_one_of keys l && has_no_others keys ms))
    by_order h Less is = refl
    by_order h Equal is =
        let same : k ≡ l = (bytes_eq-Decides k l).0 (sym (is_eq-slice_cmp k l) ∙ ap is_eq is) in
        rw same (sym (and_self_left (is_one_of keys l) (has_no_others keys ms)))
    by_order h Greater is = rw h (turned (is_one_of keys l) (is_one_of keys k) (has_no_others keys ms))

-- a key that isn't among them remains
pub others_stay : (keys : List (List ℕ)) (n : ℕ) (rs : List Row) (found : Members) → has_no_others keys found ≡ false
    → has_no_others keys (members_in n rs found) ≡ false
unfolding members_in
others_stay keys zero rs found e = e
others_stay keys (suc n) [] found e = e
others_stay keys (suc n) (rows.Key s ∷ rs) found e =
    let d = data_in n (take (front rs) rs) in
    others_stay keys n (drop (front rs) rs) (put s.now d found) (rw (put_key keys s.now d found, e, and-false (is_one_of keys s.now)))
others_stay keys (suc n) _ found e = e

-- one of the first keys or of the others
pub key_more : (needed allowed : List (List ℕ)) (k : List ℕ) (d : Data) (ms : Members)
    → has_no_others (needed ++ allowed) (put k d ms) ≡ ((is_one_of needed k || is_one_of allowed k) && has_no_others (needed ++ allowed) ms)
key_more needed allowed k d ms = rw (put_key (needed ++ allowed) k d ms, one_of_both needed allowed k)

-- ---- Lists of answers of items.

-- the answers of earlier items before those of the others
abbrev pub before : {A : Type 0} → List A → Answer (List A) → Answer (List A)
before done answer = changed (λ rest. done ++ rest) answer

pub before_one : {A : Type 0} (done : List A) (a : A) (answer : Answer (List A))
    → before done (changed (λ list. a ∷ list) answer) ≡ before (done ++ a ∷ []) answer
before_one done a (good rest) = ap good (sym (append_assoc done (a ∷ []) rest))
before_one done a (bad path) = refl

pub before_none : {A : Type 0} (answer : Answer (List A)) → answer ≡ before [] answer
before_none answer = grind arith

pub goes_on : {A T : Type 0} (m : T → A) (says : Data → Answer A) (i : ℕ) {now : Items} (rest : Items) {d : Data} {whole : Answer (List A)}
    (done : List T) (t : T)
    → whole ≡ before (map m done) (each_from says i now) → now ≡ item d rest → says d ≡ good (m t)
    → whole ≡ before (map m (done ++ t ∷ [])) (each_from says (i + 1) rest)
goes_on m says i rest done t e is said =
    rw (e, is, said, map-append m done (t ∷ [])) (before_one (map m done) (m t) (each_from says (i + 1) rest))

refused : {A B : Type 0} (done : List B) (key : List ℕ) (answer : Answer A) (f : A → Answer (List B)) (fault result : Fault)
    → Refuses answer fault → IsUnder key fault result → Refuses (before done (next (under key answer) f)) result
refused done key answer f fault result said is = grind arith

pub stops : {A : Type 0} (says : Data → Answer A) (i : ℕ) {now : Items} (rest : Items) (d : Data) {whole : Answer (List A)} (done : List A)
    (fault result : Fault)
    → whole ≡ before done (each_from says i now) → now ≡ item d rest → Refuses (says d) fault → IsUnder (decimal i) fault result
    → Refuses whole result
stops says i rest d done fault result e is said under_it =
    rw (e, is) (refused _ _ _ (λ a. changed (λ list. a ∷ list) (each_from says (i + 1) rest)) _ _ said under_it)

pub ends : {A : Type 0} (says : Data → Answer A) (i : ℕ) {now : Items} {whole : Answer (List A)} (done : List A)
    → whole ≡ before done (each_from says i now) → now ≡ no_items → whole ≡ good done
ends says i done e none = rw (e, none, append-nil done)

-- ---- The value of bytes, whether or not they are UTF-8.

pub has_value : (text : List ℕ) (d : Data) → IsUtf8 text → read text ≡ Some d → value_in text ≡ Some d
has_value text d utf8 e = rw (is_utf8-from_IsUtf8 text utf8) e

no_value_if : (text : List ℕ) (b : Bool) → is_utf8 text ≡ b → (IsUtf8 text → read text ≡ None) → (if b then read text else None) ≡ None
no_value_if text true e no_read = no_read (IsUtf8-from_is_utf8 text e)
no_value_if text false e no_read = refl

pub has_none : (text : List ℕ) → (IsUtf8 text → read text ≡ None) → value_in text ≡ None
has_none text no_read = no_value_if _ _ refl no_read

-- ---- the result of reading a text

pub if_read : (bytes text : List ℕ) → text ≡ bytes → IsUtf8 bytes → (r : Result Tree NoNode) → IfOk r (λ v. read text ≡ Some (tree_view v))
    → IfOk r (λ v. value_in bytes ≡ Some (tree_view v))
if_read bytes text same utf8 r e = grind (arith, has_value)

-- ---- Members that are read one after the other.

pub object_is : (d : Data) (ms : Members) → Some ms ≡ as_object d → d ≡ object ms
object_is d ms e = grind arith

-- after the last one
pub none_left : {A : Type 0} (o : Option A) (P : Type 0) (Q : A → Type 0) → is_some o ≡ false → MatchOption o P Q → P
none_left o P Q e m = grind arith

-- ---- one more at the end

-- the first number below n, or one more, if the first q fail
one_more : (n q : ℕ) (b : Bool) → q ≤ n → cond (ltb (cond (eqb q n) (n + cond b 0 1) q) (n + 1)) (Some (cond (eqb q n) (n + cond b 0 1) q)) None
    ≡ or_else (cond (ltb q n) (Some q) None) (if b then Some n else None)
one_more n q b le = grind arith

pub position_push : {X : Type 0} (p : X → Bool) (xs : List X) (y : X)
    → position p (xs ++ y ∷ []) ≡ or_else (position p xs) (if p y then Some (length xs) else None)
position_push p xs y = rw (length-append xs (y ∷ []), position_or_len_push p xs y) (one_more _ _ _ (prefix_len-le-length _ xs))

-- ---- the names of fields

-- one more name
pub one_named : (before : List (List ℕ)) (name q : List ℕ) (i : ℕ) → length before ≡ i
    → first_of (before ++ name ∷ []) q ≡ or_else (first_of before q) (at_name name i q)
one_named before name q i long = rw (← long) (position_push (λ n. bytes_eq n q) before name)

pub names_on : (before : List (List ℕ)) {whole : List (List ℕ)} {name : List ℕ} {now rest : Items} {d : Data} → whole ≡ before ++ names_of now
    → now ≡ item d rest
    → name ≡ text_or_none (option_and_then as_str (get (codes "name") d)) → whole ≡ (before ++ name ∷ []) ++ names_of rest
names_on before {name = name} {rest = rest} e is named = rw (e, is, ← named, append_assoc before (name ∷ []) (names_of rest))

pub names_end : (before : List (List ℕ)) {whole : List (List ℕ)} {now : Items} → whole ≡ before ++ names_of now → now ≡ no_items
    → before ≡ whole
names_end before e none = rw (e, none, append-nil before)

-- ---- one more in the index

or_else_none : {A : Type 0} (o : Option A) → or_else o None ≡ o
or_else_none o = grind arith

-- a name that wasn't in the index
pub put_one : (name q : List ℕ) (number : ℕ) (old : List ℕ → Option ℕ) (new : Option ℕ) → old name ≡ None
    → new ≡ cond (bytes_eq name q) (Some number) (old q)
    → new ≡ or_else (old q) (if bytes_eq name q then Some number else None)
put_one name q number old new none is = grind (arith, bytes_eq-Decides, or_else_none)

pub is_none_of : (o : Option ℕ) → is_some o ≡ false → o ≡ None
is_none_of o e = grind arith
