-- What is due while a text is read, one token later, with the rows that are laid.
use Rattle.vms_json.proofs.Facade
use Facade.{◌≡◌, ℕ, suc, ◌-◌, ◌<◌, ◌≤◌, List, [], ◌∷◌, ◌++◌, length, true, false, Option, Some, None, refl, sym, ap, ◌∙◌}
use Facade.{arith, length-append, Bor, Token, after_end_array, read_key, value, token_of, value_is, read_key-shorter, Data, array, object, no_items, no_members}
use Facade.{of_json, converted, max_depth, Row, Laid, rows_view, Frame, in_list, in_object, before, room, after, value_due, due, AreBelow, AreEnough, InList}
use Facade.{IsLaid, HasValue, IsRowOf, is_in_list, IsUnder, HasEnded, zero, ◌+◌, get_or, Bool, append_assoc, get_or_at, same_from_push, set, slice_get}
use Facade.{Members, put, members_due, InObject, IsWhole, is_list, IsOpen, IsRun, set-append_seam}
use Rattle.vms_json.proofs.FrameLaws.{value_ends, value_refused, list_begins, object_begins, list_ends, no_tokens, item_due, object_ends, no_key, member_due}
use Rattle.vms_json.proofs.LaidLaws
use LaidLaws.{no_members_laid, object_laid, value_in_list, no_items_laid, begun, key_laid, run_laid, row_laid, starts_below, below_more, value_in_object}
use Rattle.json.specs.declared.token.Token.{Token as TokenRead}
use Rattle.json.specs.declared.token.Token.TheVariants as reads
use Rattle.vms_json.specs.declared.node.Row.TheVariants as rows

-- ---- within the frames

pub enough_fewer : (fs : List Frame) (m n : ℕ) → n ≤ m → AreEnough fs m → AreEnough fs n
enough_fewer [] m n le are = tt
enough_fewer (in_list k done ∷ fs) m n le are = (omega arith, enough_fewer fs m n le are.1)
enough_fewer (in_object k found key ∷ fs) m n le are = (omega arith, enough_fewer fs m n le are.1)

pub open_count : (fs : List Frame) (rs : List Row) (starts : List ℕ) → IsLaid fs rs starts → length starts ≡ length fs
open_count [] rs starts laid = ap length laid.1
open_count (in_list n done ∷ fs) rs starts laid =
    omega (arith, ap length laid.begins, length-append laid.places (length laid.below ∷ []), open_count fs laid.below laid.places laid.laid)
open_count (in_object n found k ∷ fs) rs starts laid =
    let l = laid.laid in
    omega (arith, ap length l.begins, length-append l.places (length l.below ∷ []), open_count fs l.below l.places l.laid)

-- ---- while a text is read

-- a value begins: in a list, one of its items fewer remains
record Begins (said : Option (Data × List Token)) (laid : Laid) (ts : List Token) : Type 0 where
  frames : List Frame
  says : said ≡ value_due frames ts
  rows : IsLaid frames laid.rows.items laid.begun.items
  inner : laid.in_list ≡ is_in_list frames
  enough : (m : ℕ) → m < length ts → AreEnough frames m

-- a value ended within these frames
record EndsIn (said : Option (Data × List Token)) (laid : Laid) (ts : List Token) (d : Data) (fs : List Frame) : Type 0 where
  says : said ≡ after fs d ts
  rows : HasValue fs laid.rows.items laid.begun.items d
  inner : laid.in_list ≡ is_in_list fs
  enough : AreEnough fs (length ts)

ends_in : {said : Option (Data × List Token)} {laid : Laid} {ts : List Token} (e : HasEnded said laid ts) → EndsIn said laid ts e.value e.frames
ends_in e = record { says = e.says; rows = e.rows; inner = e.inner; enough = e.enough }

none_open : (places : List ℕ) (at : ℕ) → places ++ at ∷ [] ≡ [] → ⊥
none_open places at e = omega (arith, ap length e, length-append places (at ∷ []))

-- a member ended
pub record Member (said : Option (Data × List Token)) (laid : Laid) (ts : List Token) : Type 0 where
  pub around : List Frame
  pub turns : ℕ
  pub found : Members
  pub says : said ≡ members_due turns found around ts
  pub rows : InObject (IsLaid around) found laid.rows.items laid.begun.items
  pub enough : length ts ≤ turns
  pub more : AreEnough around (length ts)

pub no_end : (k : TokenRead) → (k ≡ reads.EndArray → ⊥) → (ts : List Token) → after_end_array (token_of k ∷ ts) ≡ None
no_end k not ts = grind arith

-- the number of levels doesn't matter for a value that opens none
pub at_any_depth : (k : TokenRead) → (k ≡ reads.BeginObject → ⊥) → (k ≡ reads.BeginArray → ⊥) → (ts : List Token) (n : ℕ)
    → value n (token_of k ∷ ts) ≡ value 0 (token_of k ∷ ts)
at_any_depth reads.BeginObject o a ts n = absurd (o refl)
at_any_depth reads.BeginArray o a ts n = absurd (a refl)
at_any_depth k o a ts n = value_is n (token_of k ∷ ts) ∙ sym (value_is 0 (token_of k ∷ ts))

module _ {said : Option (Data × List Token)} {laid : Laid} where
  pub under_below : {ts : List Token} → IsUnder said laid ts → AreBelow laid.begun.items (length laid.rows.items)
  under_below is = starts_below _ _ _ is.rows

  pub ended_below : {ts : List Token} → HasEnded said laid ts → AreBelow laid.begun.items (length laid.rows.items)
  ended_below is =
      let has = is.rows in
      below_more laid.begun.items (length has.below) (length laid.rows.items) (omega (arith, ap length has.are, length-append has.below has.run))
      (starts_below is.frames has.below laid.begun.items has.laid)

  begins : {ts : List Token} → after_end_array ts ≡ None → IsUnder said laid ts → Begins said laid ts
  begins {ts} going is = at is.frames is.says is.rows is.inner is.enough
    where
      at : (fs : List Frame) → said ≡ due fs ts → IsLaid fs laid.rows.items laid.begun.items → laid.in_list ≡ is_in_list fs
          → AreEnough fs (length ts)
          → Begins said laid ts
      at [] says rows inner enough = record { frames = []; says = says; rows = rows; inner = inner; enough = λ m lt. tt }
      at (in_list n done ∷ fs) says rows inner enough = record {
        frames = in_list (n - 1) done ∷ fs;
        says = says ∙ item_due _ _ _ _ enough.0 going;
        rows = rows;
        inner = inner;
        enough = λ m lt. (omega (arith, enough.0), enough_fewer _ _ _ (omega arith) enough.1);
      }
      at (in_object n found k ∷ fs) says rows inner enough = record {
        frames = in_object n found k ∷ fs;
        says = says;
        rows = rows;
        inner = inner;
        enough = λ m lt. (omega (arith, enough.0), enough_fewer _ _ _ (omega arith) enough.1);
      }

  pub none_left : IsUnder said laid [] → said ≡ None
  none_left is = let b = begins refl is in b.says ∙ value_refused b.frames [] (no_tokens (room b.frames))

  -- ---- a value of one token

  pub token_laid : {now : Laid} {t : Token} {ts : List Token} {r : Row} → after_end_array (t ∷ ts) ≡ None → IsUnder said laid (t ∷ ts) → IsRowOf t r
      → now.rows.items ≡ laid.rows.items ++ r ∷ [] → now.begun.items ≡ laid.begun.items → now.in_list ≡ laid.in_list → HasEnded said now ts
  token_laid {t = t} {ts = ts} {r = r} going is row rows_are open_are flag_is =
      let b = begins going is in
      record {
        frames = b.frames;
        value = rows_view (r ∷ []);
        says = b.says ∙ value_ends _ _ _ _ (row.says (room b.frames) ts);
        rows = rw (rows_are, open_are) (run_laid _ _ b.rows (row_laid t r row));
        inner = flag_is ∙ b.inner;
        enough = b.enough (length ts) (omega arith);
      }

  module _ {t : Token} {ts : List Token} (going : after_end_array (t ∷ ts) ≡ None) (is : IsUnder said laid (t ∷ ts)) where
    pub token_refused : ((n : ℕ) → converted of_json (value n (t ∷ ts)) ≡ None) → said ≡ None
    token_refused none = let b = begins going is in b.says ∙ value_refused b.frames (t ∷ ts) (none (room b.frames))

    -- a list or an object that would be too deep
    pub too_deep : max_depth ≤ length laid.begun.items → converted of_json (value 0 (t ∷ ts)) ≡ None → said ≡ None
    too_deep deep none =
        let b = begins going is in
        let no_room : room b.frames ≡ 0 = omega (arith, deep, open_count b.frames laid.rows.items laid.begun.items b.rows) in
        b.says ∙ value_refused b.frames (t ∷ ts) (rw (no_room, none))

  -- ---- a list

  pub list_opened : {now : Laid} {ts : List Token} (n : ℕ) → IsUnder said laid (Token.begin_array ∷ ts) → length laid.begun.items < max_depth
      → now.rows.items ≡ laid.rows.items ++ rows.List n ∷ [] → now.begun.items ≡ laid.begun.items ++ length laid.rows.items ∷ []
      → now.in_list ≡ true
      → IsUnder said now ts
  list_opened {ts = ts} n is deep rows_are open_are flag_is =
      let b = begins refl is in
      record {
        frames = in_list (length ts) [] ∷ b.frames;
        says = b.says ∙ list_begins b.frames ts (omega (arith, open_count b.frames laid.rows.items laid.begun.items b.rows));
        rows = rw (rows_are, open_are) (begun _ _ _ rows.List _ no_items_laid b.rows);
        inner = flag_is;
        enough = (omega arith, b.enough (length ts) (omega arith));
      }

  pub list_over : {now : Laid} {ts : List Token} → IsUnder said laid (Token.end_array ∷ ts) → laid.in_list ≡ true
      → ((fs : List Frame) (done : List Data) → InList (IsLaid fs) done laid.rows.items laid.begun.items → laid.in_list ≡ true
      → HasValue fs now.rows.items now.begun.items (array (before done no_items)) × (now.in_list ≡ is_in_list fs)) → HasEnded said now ts
  list_over {now} {ts} is inside closed = at is.frames is.says is.rows is.inner is.enough
    where
      at : (fs : List Frame) → said ≡ due fs (Token.end_array ∷ ts) → IsLaid fs laid.rows.items laid.begun.items → laid.in_list ≡ is_in_list fs
          → AreEnough fs (suc (length ts)) → HasEnded said now ts
      at (in_list n done ∷ fs) says rows inner enough =
          let both = closed fs done rows inside in
          record {
            frames = fs;
            value = array (before done no_items);
            says = says ∙ list_ends _ _ _ _ _ enough.0 refl;
            rows = both.0;
            inner = both.1;
            enough = enough_fewer _ _ _ (omega arith) enough.1;
          }
      at _ says rows inner enough = absurd (cc)

  pub no_list_over : {ts : List Token} → IsUnder said laid (Token.end_array ∷ ts) → laid.in_list ≡ false → said ≡ None
  no_list_over {ts} is outside = is.says ∙ at is.frames (sym outside ∙ is.inner)
    where
      at : (fs : List Frame) → false ≡ is_in_list fs → due fs (Token.end_array ∷ ts) ≡ None
      at (in_list n done ∷ fs) out = absurd (cc)
      at fs out = value_refused fs (Token.end_array ∷ ts) (ap (converted of_json) (value_is (room fs) (Token.end_array ∷ ts)))

  -- after an item the next is due
  pub item_ended : {ts : List Token} → HasEnded said laid ts → laid.in_list ≡ true → IsUnder said laid ts
  item_ended {ts} is inside = at is.frames (ends_in is)
    where
      at : (fs : List Frame) → EndsIn said laid ts is.value fs → IsUnder said laid ts
      at (in_list n done ∷ fs) e = record {
        frames = in_list n (done ++ is.value ∷ []) ∷ fs;
        says = e.says;
        rows = value_in_list n done fs e.rows;
        inner = inside;
        enough = e.enough;
      }
      at _ e = absurd (cc)

  -- ---- an object

  pub object_no_key : {ts : List Token} → IsUnder said laid (Token.begin_object ∷ ts) → length laid.begun.items < max_depth → read_key ts ≡ None
      → said ≡ None
  object_no_key {ts} is deep none =
      let b = begins refl is in
      b.says ∙ object_begins b.frames ts (omega (arith, open_count b.frames laid.rows.items laid.begun.items b.rows))
      ∙ no_key (length ts) no_members b.frames ts none

  pub object_empty : {now : Laid} {ts rest : List Token} → IsUnder said laid (Token.begin_object ∷ ts) → length laid.begun.items < max_depth
      → read_key ts ≡ Some (None, rest) → now.rows.items ≡ laid.rows.items ++ rows.Object 1 ∷ [] → now.begun.items ≡ laid.begun.items
      → now.in_list ≡ laid.in_list → HasEnded said now rest
  object_empty {ts = ts} {rest = rest} is deep over rows_are open_are flag_is =
      let b = begins refl is in
      record {
        frames = b.frames;
        value = object no_members;
        says =
            b.says ∙ object_begins b.frames ts (omega (arith, open_count b.frames laid.rows.items laid.begun.items b.rows))
            ∙ object_ends (length ts) no_members b.frames ts rest (omega arith) over;
        rows = rw (rows_are, open_are) (run_laid b.frames laid.rows.items b.rows (object_laid [] no_members no_members_laid));
        inner = flag_is ∙ b.inner;
        enough = b.enough (length rest) (omega (arith, read_key-shorter ts None rest over));
      }

  pub object_opened : {now : Laid} {ts rest : List Token} (k : Bor (List ℕ)) (n : ℕ) → IsUnder said laid (Token.begin_object ∷ ts)
      → length laid.begun.items < max_depth → read_key ts ≡ Some (Some k.now, rest)
      → now.rows.items ≡ (laid.rows.items ++ rows.Object n ∷ []) ++ rows.Key k ∷ []
      → now.begun.items ≡ laid.begun.items ++ length laid.rows.items ∷ [] → now.in_list ≡ false → IsUnder said now rest
  object_opened {ts = ts} {rest = rest} k n is deep named rows_are open_are flag_is =
      let b = begins refl is in
      let fewer = read_key-shorter ts (Some k.now) rest named in
      record {
        frames = in_object (length ts - 1) no_members k.now ∷ b.frames;
        says =
            b.says ∙ object_begins b.frames ts (omega (arith, open_count b.frames laid.rows.items laid.begun.items b.rows))
            ∙ member_due (length ts) no_members k.now b.frames ts rest (omega arith) named;
        rows =
            rw (rows_are, open_are)
            (key_laid (length ts - 1) b.frames k (begun b.frames laid.rows.items laid.begun.items rows.Object n no_members_laid b.rows));
        inner = flag_is;
        enough = (omega arith, b.enough (length rest) (omega arith));
      }

  -- ---- What is due after a value that isn't in a list.

  -- nothing is open: the value is the whole
  pub whole_ended : {ts : List Token} → HasEnded said laid ts → laid.begun.items ≡ [] → IsWhole said laid ts
  whole_ended {ts} is none = at is.frames (ends_in is)
    where
      at : (fs : List Frame) → EndsIn said laid ts is.value fs → IsWhole said laid ts
      at [] e = let has = e.rows in record { value = is.value; says = e.says; run = rw (has.are, has.laid.0) has.value }
      at (in_list n done ∷ fs) e = let l = e.rows.laid in absurd (none_open l.places (length l.below) (sym l.begins ∙ none))
      at (in_object n found k ∷ fs) e = let l = e.rows.laid.laid in absurd (none_open l.places (length l.below) (sym l.begins ∙ none))

  pub member_ended : {ts : List Token} → HasEnded said laid ts → laid.in_list ≡ false → 0 < length laid.begun.items → Member said laid ts
  member_ended {ts} is outside some = at is.frames (ends_in is)
    where
      at : (fs : List Frame) → EndsIn said laid ts is.value fs → Member said laid ts
      at [] e = absurd (omega (arith, ap length e.rows.laid.1))
      at (in_list n done ∷ fs) e = absurd (cc)
      at (in_object n found k ∷ fs) e = record {
        around = fs;
        turns = n;
        found = put k is.value found;
        says = e.says;
        rows = value_in_object n found k fs e.rows;
        enough = e.enough.0;
        more = e.enough.1;
      }

  pub member_no_key : {ts : List Token} → Member said laid ts → read_key ts ≡ None → said ≡ None
  member_no_key {ts} m none = m.says ∙ no_key _ _ _ _ none

  -- the next key: its value is due
  pub member_goes_on : {now : Laid} {ts rest : List Token} (k : Bor (List ℕ)) → Member said laid ts → read_key ts ≡ Some (Some k.now, rest)
      → now.rows.items ≡ laid.rows.items ++ rows.Key k ∷ [] → now.begun.items ≡ laid.begun.items → now.in_list ≡ false → IsUnder said now rest
  member_goes_on {ts = ts} {rest = rest} k m named rows_are open_are flag_is =
      let fewer = read_key-shorter ts (Some k.now) rest named in
      record {
        frames = in_object (m.turns - 1) m.found k.now ∷ m.around;
        says = m.says ∙ member_due m.turns m.found k.now m.around ts rest (omega arith) named;
        rows = rw (rows_are, open_are) (key_laid (m.turns - 1) m.around k m.rows);
        inner = flag_is;
        enough = (omega arith, enough_fewer m.around (length ts) (length rest) (omega arith) m.more);
      }

  -- the object ends, and is itself a value
  pub member_was_last : {now : Laid} {ts rest : List Token} → Member said laid ts → read_key ts ≡ Some (None, rest) → laid.in_list ≡ false
      → ((fs : List Frame) (found : Members) → InObject (IsLaid fs) found laid.rows.items laid.begun.items → laid.in_list ≡ false
      → HasValue fs now.rows.items now.begun.items (object found) × (now.in_list ≡ is_in_list fs)) → HasEnded said now rest
  member_was_last {ts = ts} {rest = rest} m over outside closed =
      let both = closed m.around m.found m.rows outside in
      record {
        frames = m.around;
        value = object m.found;
        says = m.says ∙ object_ends _ _ _ _ _ m.enough over;
        rows = both.0;
        inner = both.1;
        enough = enough_fewer _ _ _ (omega (arith, read_key-shorter ts None rest over)) m.more;
      }

-- ---- The end of a list or an object: the count is put into its row, and the innermost is the one
-- around it.

at_end : (ss : List ℕ) (s : ℕ) → slice_get (ss ++ s ∷ []) (length ss) ≡ Some s
at_end [] s = refl
at_end (r ∷ ss) s = at_end ss s

pub at_last : (ss : List ℕ) (s : ℕ) → slice_get (ss ++ s ∷ []) (length (ss ++ s ∷ []) - 1) ≡ Some s
at_last ss s = ap (slice_get (ss ++ s ∷ [])) (omega (arith, length-append ss (s ∷ []))) ∙ at_end ss s

pub one_place : (r s : ℕ) → Some r ≡ Some s → r ≡ s
one_place r s e = cc

pub below_at : (ss : List ℕ) (m i s : ℕ) → AreBelow ss m → Some s ≡ slice_get ss i → s < m
below_at [] m i s are e = absurd (cc)
below_at (r ∷ ss) m zero s are e = rw (one_place s r e) are.0
below_at (r ∷ ss) m (suc i) s are e = below_at ss m i s are.1 e

pub below_front : (ss : List ℕ) (s m : ℕ) → AreBelow (ss ++ s ∷ []) m → AreBelow ss m × (s < m)
below_front [] s m are = (tt, are.0)
below_front (r ∷ ss) s m are = let more = below_front ss s m are.1 in ((are.0, more.0), more.1)

-- ---- the row of one that ends

put_back : (f : ℕ → Row) (below own old new : List Row) (r : Row) (at count : ℕ) → old ≡ below ++ r ∷ own → length below ≡ at
    → count ≡ length old - at → new ≡ set old at (f count)
    → new ≡ below ++ f (length own + 1) ∷ own
put_back f below own old new r at count are here counted is =
    let many : count ≡ length own + 1 = omega (arith, ap length are, length-append below (r ∷ own)) in
    rw (is, are, ← here, set-append_seam below r own (f count), many)

row_at : (b o more : List Row) (r d : Row) → get_or ((b ++ r ∷ o) ++ more) (length b) d ≡ r
row_at b o more r d = rw (append_assoc b (r ∷ o) more) (get_or_at b r (o ++ more) d (length b) refl)

-- whether the innermost is a list can be read from the row where it began
pub record IsTold (rs : List Row) (places : List ℕ) (inner : Bool) : Type 0 where
  pub none : places ≡ [] → inner ≡ false
  pub some : (ps : List ℕ) (at : ℕ) (d : Row) → places ≡ ps ++ at ∷ [] → inner ≡ is_list (get_or rs at d)

around_it : (fs : List Frame) (below more : List Row) (places : List ℕ) (inner : Bool) → IsLaid fs below places → IsTold (below ++ more) places inner
    → inner ≡ is_in_list fs
around_it [] below more places inner laid told = told.none laid.1
around_it (in_list n done ∷ fs) below more places inner laid told =
    told.some laid.places (length laid.below) (rows.List laid.count) laid.begins
    ∙ ap is_list (ap (λ l. get_or (l ++ more) (length laid.below) (rows.List laid.count)) laid.are ∙ row_at laid.below laid.own more (rows.List laid.count) (rows.List laid.count))
around_it (in_object n found k ∷ fs) below more places inner laid told =
    let l = laid.laid in
    told.some l.places (length l.below) (rows.Object l.count) l.begins ∙ ap is_list
    (ap (λ b. get_or (b ++ more) (length l.below) (rows.Object l.count)) (laid.are ∙ ap (λ b. b ++ rows.Key laid.key ∷ []) l.are)
    ∙ ap (λ b. get_or b (length l.below) (rows.Object l.count)) (append_assoc (l.below ++ rows.Object l.count ∷ l.own) (rows.Key laid.key ∷ []) more)
    ∙ row_at l.below l.own (rows.Key laid.key ∷ more) (rows.Object l.count) (rows.Object l.count))

pub ended : {fs : List Frame} {row : ℕ → Row} {Own : List Row → Type 0} {d : Data} {old new : List Row} {starts left : List ℕ} {count : ℕ}
    {inner : Bool} (at : ℕ)
    → ((own : List Row) → Own own → IsRun (row (length own + 1) ∷ own) d) → IsOpen (IsLaid fs) row Own old starts → starts ≡ left ++ at ∷ []
    → count ≡ length old - at → new ≡ set old at (row count) → IsTold new left inner → HasValue fs new left d × (inner ≡ is_in_list fs)
ended {fs} {row} {left = left} {count = count} {inner = inner} at run l popped counted is told =
    let same = same_from_push l.places left (length l.below) at (sym l.begins ∙ popped) in
    let are = put_back row l.below l.own _ _ (row l.count) at count l.are same.1 counted is in (
      rw (are, ← same.0) (run_laid fs l.below l.laid (run l.own l.inside)),
      around_it fs l.below (row (length l.own + 1) ∷ l.own) left inner (rw same.0 at l.laid) (rw are at told),
    )
