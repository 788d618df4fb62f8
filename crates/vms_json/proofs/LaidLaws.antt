-- The value of rows, and rows that are laid in order.
use Rattle.vms_json.proofs.Facade
use Facade.{◌≡◌, Bool, true, false, cond, if◌then◌else◌, Option, Some, None, ℕ, zero, suc, ◌+◌, ◌*◌, ◌<◌, ◌≤◌, List, []}
use Facade.{◌∷◌, length, take, drop, refl, sym, ap, ap₂, ◌∙◌, arith, length-take, length-drop, ◌++◌, append_assoc, ◌||◌, Bor, bytes_eq}
use Facade.{false≢true, bytes_eq-Decides, append-nil, length-append, take-append_seam, drop-append_seam, Data, null, array, object, Members, no_members, put}
use Facade.{no_items, item, get_member-put, get_member-put_other, get_member, as_number, as_str, as_bool, as_array, as_object, Row, flag_at, is_list, is_object}
use Facade.{key_at, number_at, text_at, front, data_in, items_in, members_in, rows_view, count_at, Token, token_of, value, value_is, number_view, Number}
use Facade.{number_of, of_json, converted, Frame, in_list, in_object, before, has_one, AreBelow, IsRowOf, items_of, IsOpen, IsRun, AreItems, AreMembers, InList}
use Facade.{InObject, IsLaid, HasValue}
use Rattle.vms_json.proofs.FrameLaws.{before_one}
use Rattle.json.specs.declared.token.Token.{Token as TokenRead}
use Rattle.vms_json.specs.declared.node.Row.TheVariants as rows
use Rattle.json.specs.declared.token.Token.TheVariants as reads

-- ---- The value of rows, with a bound that is large enough.

pub front_some : (r : Row) (rs : List Row) → 0 < front (r ∷ rs)
front_some r rs = omega arith

pub taken_few : (rs : List Row) → length (take (front rs) rs) ≤ length rs
taken_few rs = omega (arith, length-take (front rs) rs)

pub dropped_fewer : (r : Row) (rs : List Row) → length (drop (front (r ∷ rs)) (r ∷ rs)) < length (r ∷ rs)
dropped_fewer r rs = omega (arith, length-drop (front (r ∷ rs)) (r ∷ rs), front_some r rs)

pub dropped_few : (rs : List Row) → length (drop (front rs) rs) ≤ length rs
dropped_few rs = omega (arith, length-drop (front rs) rs)

mutual
  unfolding data_in items_in members_in

  pub data_enough : (n m : ℕ) (rs : List Row) → 2 * length rs ≤ n → 2 * length rs ≤ m → data_in n rs ≡ data_in m rs
  data_enough zero zero rs a b = refl
  data_enough zero (suc m) [] a b = refl
  data_enough zero (suc m) (r ∷ rs) a b = absurd (omega arith)
  data_enough (suc n) zero [] a b = refl
  data_enough (suc n) zero (r ∷ rs) a b = absurd (omega arith)
  data_enough (suc n) (suc m) (rows.List x ∷ rs) a b = ap array (items_enough n m rs (omega arith) (omega arith))
  data_enough (suc n) (suc m) (rows.Object x ∷ rs) a b = ap object (members_enough n m rs no_members (omega arith) (omega arith))
  data_enough (suc n) (suc m) _ a b = refl

  pub items_enough : (n m : ℕ) (rs : List Row) → 2 * length rs + 1 ≤ n → 2 * length rs + 1 ≤ m → items_in n rs ≡ items_in m rs
  items_enough zero m rs a b = absurd (omega arith)
  items_enough (suc n) zero rs a b = absurd (omega arith)
  items_enough (suc n) (suc m) [] a b = refl
  items_enough (suc n) (suc m) (r ∷ rs) a b =
      ap₂ item (data_enough n m _ (omega (arith, taken_few (r ∷ rs))) (omega (arith, taken_few (r ∷ rs))))
      (items_enough n m _ (omega (arith, dropped_fewer r rs)) (omega (arith, dropped_fewer r rs)))

  pub members_enough : (n m : ℕ) (rs : List Row) (found : Members) → 2 * length rs + 1 ≤ n → 2 * length rs + 1 ≤ m
      → members_in n rs found ≡ members_in m rs found
  members_enough zero m rs found a b = absurd (omega arith)
  members_enough (suc n) zero rs found a b = absurd (omega arith)
  members_enough (suc n) (suc m) (rows.Key x ∷ rs) found a b =
      rw (data_enough n m (take (front rs) rs) (omega (arith, taken_few rs)) (omega (arith, taken_few rs)))
      (members_enough n m _ _ (omega (arith, dropped_few rs)) (omega (arith, dropped_few rs)))
  members_enough (suc n) (suc m) _ found a b = refl

pub no_items_left : (rs : List Row) → length rs ≡ 0 → items_in (2 * length rs + 1) rs ≡ no_items
unfolding items_in
no_items_left rs none = grind arith

pub an_item_left : (rs first rest : List Row) → 0 < length rs → first ≡ take (front rs) rs → rest ≡ drop (front rs) rs
    → items_in (2 * length rs + 1) rs ≡ item (rows_view first) (items_in (2 * length rest + 1) rest)
unfolding items_in
an_item_left rs first rest some a b = grind (arith, item, data_enough, taken_few, items_enough, dropped_fewer)

pub a_member_left : (rs inside first rest : List Row) (k : Bor (List ℕ)) (found : Members) → rs ≡ rows.Key k ∷ inside
    → first ≡ take (front inside) inside → rest ≡ drop (front inside) inside
    → members_in (2 * length rs + 1) rs found ≡ members_in (2 * length rest + 1) rest (put k.now (rows_view first) found)
unfolding members_in
a_member_left rs inside first rest k found is a b = grind (arith, front, put, data_enough, taken_few, members_enough, dropped_few)

-- a row that isn't a key ends the members
pub no_member_at : (rs inside : List Row) (r : Row) (found : Members) → rs ≡ r ∷ inside → key_at r ≡ None
    → members_in (2 * length rs + 1) rs found ≡ found
unfolding members_in
no_member_at rs inside r found is none =
    let one : 2 * length (r ∷ inside) + 1 ≡ suc (2 * length (r ∷ inside)) = omega arith in
    rw (is, one) (grind arith)

pub no_member_left : (rs : List Row) (found : Members) → length rs ≡ 0 → members_in (2 * length rs + 1) rs found ≡ found
unfolding members_in
no_member_left rs found none = grind arith

pub key_is : (r : Row) (k : Bor (List ℕ)) → key_at r ≡ Some k → r ≡ rows.Key k
key_is r k is = grind arith

two_more : (r : Row) (rs : List Row) → 2 * length (r ∷ rs) ≡ suc (2 * length rs + 1)
two_more r rs = omega arith

pub none_in : {A : Type 0} (f : Data → Option A) (rs : List Row) → length rs ≡ 0 → f null ≡ None → f (rows_view rs) ≡ None
unfolding data_in
none_in f rs none is = grind arith

-- the value by its first row and those after it
pub record SaysAt (r : Row) (rs : List Row) (d : Data) : Type 0 where
  pub number : as_number d ≡ number_at r
  pub text : as_str d ≡ text_at r
  pub flag : as_bool d ≡ flag_at r
  pub items : as_array d ≡ (if is_list r then Some (items_in (2 * length rs + 1) rs) else None)
  pub members : as_object d ≡ (if is_object r then Some (members_in (2 * length rs + 1) rs no_members) else None)

says_at : (r : Row) (rs : List Row) → SaysAt r rs (rows_view (r ∷ rs))
unfolding data_in
says_at r rs = rw (two_more r rs) (at r)
  where
    at : (r : Row) → SaysAt r rs (data_in (suc (2 * length rs + 1)) (r ∷ rs))
    at rows.Null = record { number = refl; text = refl; flag = refl; items = refl; members = refl }
    at _ = record { number = refl; text = refl; flag = refl; items = refl; members = refl }

pub says : (rs inside : List Row) (r : Row) → rs ≡ r ∷ inside → SaysAt r inside (rows_view rs)
says rs inside r is = rw is (says_at r inside)

-- ---- the value under a key

pub put_found : (b : Bool) (q k : List ℕ) (d : Data) (ms : Members) → bytes_eq k q ≡ b → get_member q (put k d ms) ≡ cond b (Some d) (get_member q ms)
put_found true q k d ms e = rw (sym ((bytes_eq-Decides k q).0 e)) (get_member-put k d ms)
put_found false q k d ms e = get_member-put_other q k d ms (λ same. false≢true (sym e ∙ (bytes_eq-Decides k q).1 (sym same)))

-- one of two keys
pub one_put : (q r k : List ℕ) (d : Data) (ms : Members) (b : Bool) → b ≡ (bytes_eq k q || bytes_eq k r)
    → has_one q r (put k d ms) ≡ (has_one q r ms || b)
one_put q r k d ms b e = let f = put_found _ q k d ms refl in let g = put_found _ r k d ms refl in grind arith

-- ---- Rows that are laid in order: of a value, of the items of a list, of the members of an object.

pub no_items_laid : AreItems [] []
no_items_laid = record { first = λ more. refl }

pub no_members_laid : AreMembers [] no_members
no_members_laid = record { first = λ more. refl }

taken : (run more : List Row) (d : Data) → IsRun run d → run ≡ take (front (run ++ more)) (run ++ more)
taken run more d is = sym (rw (is.all more) (take-append_seam run more))

dropped : (run more : List Row) (d : Data) → IsRun run d → more ≡ drop (front (run ++ more)) (run ++ more)
dropped run more d is = sym (rw (is.all more) (drop-append_seam run more))

pub one_item_laid : (rs run : List Row) (done : List Data) (d : Data) → AreItems rs done → IsRun run d → AreItems (rs ++ run) (done ++ d ∷ [])
one_item_laid rs run done d are is = record {
  first = λ more.
      let one = an_item_left (run ++ more) run more (omega (arith, length-append run more)) (taken run more d is) (dropped run more d is) in
      rw (append_assoc rs run more, are.first (run ++ more), one, is.says, before_one done d (items_of more));
}

pub one_member_laid : (rs run : List Row) (k : Bor (List ℕ)) (found : Members) (d : Data) → AreMembers rs found → IsRun run d
    → AreMembers (rs ++ rows.Key k ∷ run) (put k.now d found)
one_member_laid rs run k found d are is = record {
  first = λ more.
      let one = a_member_left (rows.Key k ∷ run ++ more) (run ++ more) run more k found refl (taken run more d is) (dropped run more d is) in
      rw (append_assoc rs (rows.Key k ∷ run) more, are.first (rows.Key k ∷ run ++ more), one, is.says);
}

-- ---- a list and an object that end

all_of : (r : Row) (rs : List Row) → count_at r ≡ length (r ∷ rs) → (more : List Row) → front (r ∷ rs ++ more) ≡ length (r ∷ rs)
all_of r rs count more = omega (arith, length-append rs more)

-- a row with the number of all, before the rows of its contents
counted_run : (r : Row) (rs : List Row) (d : Data) → count_at r ≡ length rs + 1 → data_in (suc (2 * length rs + 1)) (r ∷ rs) ≡ d
    → IsRun (r ∷ rs) d
counted_run r rs d count says =
    let double : 2 * length (r ∷ rs) ≡ suc (2 * length rs + 1) = omega arith in
    record { some = omega arith; all = all_of r rs (omega (arith, count)); says = ap (λ n. data_in n (r ∷ rs)) double ∙ says }

pub list_laid : (rs : List Row) (done : List Data) → AreItems rs done → IsRun (rows.List (length rs + 1) ∷ rs) (array (before done no_items))
unfolding data_in
list_laid rs done are =
    counted_run (rows.List (length rs + 1)) rs (array (before done no_items)) refl
    (ap array (rw (← append-nil rs) (rw (are.first [], no_items_left [] refl))))

pub object_laid : (rs : List Row) (found : Members) → AreMembers rs found → IsRun (rows.Object (length rs + 1) ∷ rs) (object found)
unfolding data_in
object_laid rs found are =
    counted_run (rows.Object (length rs + 1)) rs (object found) refl (ap object (rw (← append-nil rs) (are.first [] ∙ no_member_left [] found refl)))

-- ---- a value within open ones

pub value_in_list : (n : ℕ) (done : List Data) (fs : List Frame) {rs : List Row} {starts : List ℕ} {d : Data}
    → HasValue (in_list n done ∷ fs) rs starts d
    → InList (IsLaid fs) (done ++ d ∷ []) rs starts
value_in_list n done fs {d = d} has =
    let l = has.laid in
    record {
      below = l.below;
      own = l.own ++ has.run;
      places = l.places;
      count = l.count;
      are = rw (has.are, l.are, append_assoc l.below (rows.List l.count ∷ l.own) has.run);
      begins = l.begins;
      inside = one_item_laid l.own has.run done d l.inside has.value;
      laid = l.laid;
    }

pub value_in_object : (n : ℕ) (found : Members) (k : List ℕ) (fs : List Frame) {rs : List Row} {starts : List ℕ} {d : Data}
    → HasValue (in_object n found k ∷ fs) rs starts d → InObject (IsLaid fs) (put k d found) rs starts
value_in_object n found k fs {d = d} has =
    let at = has.laid in
    let l = at.laid in
    record {
      below = l.below;
      own = l.own ++ rows.Key at.key ∷ has.run;
      places = l.places;
      count = l.count;
      are =
          rw (has.are, at.are, l.are, append_assoc (l.below ++ rows.Object l.count ∷ l.own) (rows.Key at.key ∷ []) has.run)
          (append_assoc l.below (rows.Object l.count ∷ l.own) (rows.Key at.key ∷ has.run));
      begins = l.begins;
      inside = rw (← at.name) (one_member_laid l.own has.run at.key found d l.inside has.value);
      laid = l.laid;
    }

-- ---- values of one token

pub text_row : (s : Bor (List ℕ)) → IsRowOf (Token.string s.now) (rows.Text s)
unfolding data_in
text_row s = record { says = λ n ts. rw (value_is n (Token.string s.now ∷ ts)); one = refl }

pub flag_row : (b : Bool) → IsRowOf (Token.boolean b) (rows.Bool b)
unfolding data_in
flag_row b = record { says = λ n ts. rw (value_is n (Token.boolean b ∷ ts)); one = refl }

pub null_row : IsRowOf Token.null rows.Null
unfolding data_in
null_row = record { says = λ n ts. rw (value_is n (Token.null ∷ ts)); one = refl }

pub number_row : (s : List ℕ) (k : Number) → Some (number_view k) ≡ number_of s → IsRowOf (Token.number s) (rows.Number k)
unfolding data_in
number_row s k is = record { says = λ n ts. rw (value_is n (Token.number s ∷ ts), ← is); one = refl }

pub no_number : (s : List ℕ) (n : ℕ) (ts : List Token) → None ≡ number_of s → converted of_json (value n (Token.number s ∷ ts)) ≡ None
no_number s n ts is = rw (value_is n (Token.number s ∷ ts), ← is)

pub row_laid : (t : Token) (r : Row) → IsRowOf t r → IsRun (r ∷ []) (rows_view (r ∷ []))
row_laid t r is = record { some = omega arith; all = all_of r [] is.one; says = refl }

-- ---- a list or an object that begins, a key, and an end

pub begun : (fs : List Frame) (rs : List Row) (starts : List ℕ) {Own : List Row → Type 0} (row : ℕ → Row) (n : ℕ) → Own [] → IsLaid fs rs starts
    → IsOpen (IsLaid fs) row Own (rs ++ row n ∷ []) (starts ++ length rs ∷ [])
begun fs rs starts row n none laid = search (arith)

pub key_laid : (n : ℕ) {found : Members} (fs : List Frame) {rs : List Row} {starts : List ℕ} (k : Bor (List ℕ)) → InObject (IsLaid fs) found rs starts
    → IsLaid (in_object n found k.now ∷ fs) (rs ++ rows.Key k ∷ []) starts
key_laid n fs {rs = rs} k laid = record { first = rs; key = k; are = refl; name = refl; laid = laid }

pub run_laid : (fs : List Frame) (rs : List Row) {run : List Row} {starts : List ℕ} {d : Data} → IsLaid fs rs starts → IsRun run d
    → HasValue fs (rs ++ run) starts d
run_laid fs rs {run} laid is = record { below = rs; run = run; are = refl; value = is; laid = laid }

-- any other token is no value where no more levels are allowed
pub no_row : (k : TokenRead) → ((s : Bor (List ℕ)) → k ≡ reads.String s → ⊥) → ((s : Bor (List ℕ)) → k ≡ reads.Number s → ⊥)
    → ((b : Bool) → k ≡ reads.Bool b → ⊥) → (k ≡ reads.Null → ⊥) → (ts : List Token)
    → converted of_json (value 0 (token_of k ∷ ts)) ≡ None
no_row (reads.String k) s n b u ts = absurd (s k refl)
no_row (reads.Number k) s n b u ts = absurd (n k refl)
no_row (reads.Bool k) s n b u ts = absurd (b k refl)
no_row reads.Null s n b u ts = absurd (u refl)
no_row k s n b u ts = ap (converted of_json) (value_is 0 (token_of k ∷ ts))

-- ---- the open ones began at existing rows

pub below_more : (ss : List ℕ) (m n : ℕ) → m ≤ n → AreBelow ss m → AreBelow ss n
below_more [] m n le are = tt
below_more (s ∷ ss) m n le are = (omega arith, below_more ss m n le are.1)

below_push : (ss : List ℕ) (s m : ℕ) → AreBelow ss m → s < m → AreBelow (ss ++ s ∷ []) m
below_push [] s m are lt = (lt, tt)
below_push (r ∷ ss) s m are lt = (are.0, below_push ss s m are.1 lt)

one_below : {Below : List Row → List ℕ → Type 0} {row : ℕ → Row} {Own : List Row → Type 0} {rs : List Row} {starts : List ℕ}
    (l : IsOpen Below row Own rs starts) → AreBelow l.places (length l.below) → AreBelow starts (length rs)
one_below {row = row} {rs = rs} l lower =
    let long = ap length l.are ∙ length-append l.below (row l.count ∷ l.own) in
    rw l.begins (below_push l.places (length l.below) (length rs) (below_more l.places (length l.below) (length rs) (omega arith) lower) (omega arith))

pub starts_below : (fs : List Frame) (rs : List Row) (starts : List ℕ) → IsLaid fs rs starts → AreBelow starts (length rs)
starts_below [] rs starts laid = rw laid.1 tt
starts_below (in_list n done ∷ fs) rs starts laid = one_below laid (starts_below fs laid.below laid.places laid.laid)
starts_below (in_object n found k ∷ fs) rs starts laid =
    let l = laid.laid in
    below_more starts (length laid.first) (length rs) (omega (arith, ap length laid.are, length-append laid.first (rows.Key laid.key ∷ [])))
    (one_below l (starts_below fs l.below l.places l.laid))
