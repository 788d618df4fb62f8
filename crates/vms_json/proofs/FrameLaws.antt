-- What the whole text says, one token later, and before its first token.
use Rattle.vms_json.proofs.Facade.{◌≡◌, ℕ, zero, suc, ◌-◌, ◌<◌, ◌≤◌, List, [], ◌∷◌, length, Option, Some, None, option_map}
use Rattle.vms_json.proofs.Facade.{option_and_then, refl, ap, ◌++◌, arith, false, Token, Parse, parse_map, after_end_array, read_key, items, members}
use Rattle.vms_json.proofs.Facade.{if_last, value, items_end, members_end, members_no_key, value_is, value-begin_array, value-begin_object, Data, array, object}
use Rattle.vms_json.proofs.Facade.{no_items, item, Members, no_members, put, Items, of_json, of_items, of_members, converted, max_depth, read, Frame, in_list}
use Rattle.vms_json.proofs.Facade.{in_object, before, room, inside, after, value_due, items_due, members_due, tokens, Laid, IsUnder}
use Rattle.json.specs.Json as json

-- ---- The grammar's loops, one turn at a time, under the conversion to data.

-- with the tokens after it
abbrev followed : {A : Type 0} → List Token → Option A → Option (A × List Token)
followed ts x = option_map (λ a. (a, ts)) x

module _ (p : Parse json.Json) (n : ℕ) where
  item_is : (ts : List Token) → after_end_array ts ≡ None
      → converted of_items (items p (suc n) ts) ≡ option_and_then (λ q. parse_map (item q.0) (converted of_items (items p n q.1)))
      (converted of_json (p ts))
  unfolding items
  item_is ts going = rw going (grind arith)

  member_is : (k : List ℕ) (old : Members) (ts s : List Token) → read_key ts ≡ Some (Some k, s)
      → converted (λ ms. of_members ms old) (members p (suc n) ts)
      ≡ option_and_then (λ q. converted (λ ms. of_members ms (put k q.0 old)) (members p n q.1)) (converted of_json (p s))
  unfolding members
  member_is k old ts s key = rw key (grind arith)

-- ---- the whole text

abbrev whole : Option (json.Json × List Token) → Option Data
whole o = option_and_then of_json (option_and_then (λ p. if_last p.0 p.1) o)

whole_refused : (o : Option (json.Json × List Token)) → converted of_json o ≡ None → whole o ≡ None
whole_refused o e = grind arith

-- ---- What the whole text says, one token later.

pub before_one : (ds : List Data) (d : Data) (rest : Items) → before (ds ++ d ∷ []) rest ≡ before ds (item d rest)
before_one [] d rest = refl
before_one (e ∷ ds) d rest = ap (item e) (before_one ds d rest)

-- ---- a value

pub value_ends : (fs : List Frame) (ts rest : List Token) (d : Data) → converted of_json (value (room fs) ts) ≡ Some (d, rest)
    → value_due fs ts ≡ after fs d rest
value_ends fs ts rest d e = rw e

pub value_refused : (fs : List Frame) (ts : List Token) → converted of_json (value (room fs) ts) ≡ None → value_due fs ts ≡ None
value_refused fs ts e = rw e

-- of a list or an object, made of its contents
contents_begin : {A B : Type 0} (outer : A → json.Json) (made : B → Data) (f : A → Option B) → ((a : A) → of_json (outer a) ≡ option_map made (f a))
    → (fs : List Frame) (o : Option (A × List Token))
    → option_and_then (λ p. after fs p.0 p.1) (converted of_json (parse_map outer o)) ≡ option_and_then (λ p. after fs (made p.0) p.1) (converted f o)
contents_begin outer made f is fs o = grind (arith, is)

pub list_begins : (fs : List Frame) (ts : List Token) → length fs < max_depth → value_due fs (Token.begin_array ∷ ts) ≡ items_due (length ts) [] fs ts
list_begins fs ts deep =
    rw (value-begin_array (room fs) ts (omega arith)) (contents_begin json.array array of_items (λ js. refl) fs (items (inside fs) (length ts) ts))

pub object_begins : (fs : List Frame) (ts : List Token) → length fs < max_depth
    → value_due fs (Token.begin_object ∷ ts) ≡ members_due (length ts) no_members fs ts
object_begins fs ts deep =
    rw (value-begin_object (room fs) ts (omega arith))
    (contents_begin json.object object (λ ms. of_members ms no_members) (λ ms. refl) fs (members (inside fs) (length ts) ts))

-- ---- the items of a list

pub list_ends : (n : ℕ) (done : List Data) (fs : List Frame) (ts rest : List Token) → length ts ≤ n → after_end_array ts ≡ Some rest
    → items_due n done fs ts ≡ after fs (array (before done no_items)) rest
list_ends n done fs ts rest enough e = rw (items_end (inside fs) n ts rest enough e)

pub no_tokens : (n : ℕ) → converted of_json (value n []) ≡ None
no_tokens n = rw (value_is n [])

-- a value in a list or an object has one level less
a_level : (fs : List Frame) (ts : List Token)
    → converted of_json (value (max_depth - length fs - 1) ts) ≡ converted of_json (value (max_depth - suc (length fs)) ts)
a_level fs ts = ap (λ n. converted of_json (value n ts)) (omega arith)

pub item_due : (n : ℕ) (done : List Data) (fs : List Frame) (ts : List Token) → length ts ≤ n → after_end_array ts ≡ None
    → items_due n done fs ts ≡ value_due (in_list (n - 1) done ∷ fs) ts
unfolding items
item_due n done fs ts enough going = grind (arith, no_tokens, item_is, inside, a_level, converted, value, after, before, item, before_one, items)

-- ---- the members of an object

pub object_ends : (n : ℕ) (found : Members) (fs : List Frame) (ts rest : List Token) → length ts ≤ n → read_key ts ≡ Some (None, rest)
    → members_due n found fs ts ≡ after fs (object found) rest
object_ends n found fs ts rest enough e = rw (members_end (inside fs) n ts rest enough e)

pub no_key : (n : ℕ) (found : Members) (fs : List Frame) (ts : List Token) → read_key ts ≡ None → members_due n found fs ts ≡ None
no_key n found fs ts e = rw (members_no_key (inside fs) n ts e)

pub member_due : (n : ℕ) (found : Members) (k : List ℕ) (fs : List Frame) (ts s : List Token) → 0 < n → read_key ts ≡ Some (Some k, s)
    → members_due n found fs ts ≡ value_due (in_object (n - 1) found k ∷ fs) s
member_due zero found k fs ts s some key = absurd (omega arith)
member_due (suc m) found k fs ts s some key =
    let one : suc m - 1 ≡ m = omega arith in
    rw (one, member_is (inside fs) m k found ts s key, a_level fs s) (grind arith)

-- ---- What a whole text says: before its first token, and if it says nothing.

abbrev pub said_by : List ℕ → Option (Data × List Token)
said_by text = converted of_json (value max_depth (tokens text))

same_after : (o : Option (Data × List Token)) → o ≡ option_and_then (λ p. after [] p.0 p.1) o
same_after o = grind arith

-- before the first token no row is laid
pub whole_due : (text : List ℕ) (laid : Laid) (ts : List Token) → ts ≡ tokens text → laid.rows.items ≡ [] → laid.begun.items ≡ []
    → laid.in_list ≡ false
    → IsUnder (said_by text) laid ts
whole_due text laid ts all no_rows none_open outside = search (arith, same_after)

pub nothing_said : (text : List ℕ) → said_by text ≡ None → read text ≡ None
nothing_said text none = whole_refused (value max_depth (tokens text)) none
