-- What a walk over a file finds, and tests that are read back.
use Rattle.vms_descfile.proofs.Facade
use Facade.{compared_file, test_file, FitsTest, ◌≡◌, ℕ, List, [], ◌∷◌, map, Bool, true, false, Option, Some, None, option_map, refl, ap}
use Facade.{◌∙◌, Count, One, Fixed, Counted, Formula, AtLeast, Below, Cell, Not, And, Or, Field, Desc, Sub, Device, Set, first_of, Names, zero, suc}
use Facade.{◌+◌, ◌≤◌, ◌++◌, length, get_or, take, min, not, nat_lt, nat_le, arith, position, position_or_len, slice_get, bytes_eq, and_parts}
use Facade.{or_parts, not-true, leb-true, lt-ltb, length-map, bytes_eq-Decides, slice_get_within, all_names, are_new, is_one_of, is_steady, is_steady_in}
use Facade.{is_earlier_in, has_few, Clean, good, number_in, own_names, ◌-◌, ◌<◌, subst, Result, unary_clauses, Data, formula, Test, Form, Fault, Answer}
use Facade.{next, Refuses, Answers, Scope, test_within, test_as, form_of, max, Ordering, Equal, sym, codes, same_Some, nat_cmp, match_ordering, slice_cmp}
use Facade.{object, item, Members, no_members, member, depth, members_depth, get, get_member, DEEPEST, bad, under, changed, member_of, Pair, key_of, joined}
use Facade.{two_of, both, DepthLaw, string, put, Rel, Own, Parent, names_well, rel_of, parent_cell, with_parent, rel_file}
use Rattle.vms_descfile.proofs.ObjectLaws.{natural_good}
use Rattle.vms_spec.specs.Rules.{depth as test_depth}
use Rattle.vms_json.specs.declared.fault.Fault.TheVariants as faults
use Rattle.vms_descfile.specs.declared.read.cells.Form.TheVariants as forms
use Rattle.vms_spec.specs.declared.Rel.TheVariants as rels

-- ---- what a walk over a file finds: the parts that were written, but with 0 for the number of each field if no names are looked up

abbrev pub asked : Bool → List (List ℕ) → Names
asked false names = None
asked true names = Some (first_of names)

abbrev pub number_shown : Bool → ℕ → ℕ
number_shown false k = 0
number_shown true k = k

abbrev pub test_shown : Bool → Formula → Formula
test_shown asks (AtLeast n) = AtLeast n
test_shown asks (Below n) = Below n
test_shown asks (Cell whose k mask rel value) = Cell whose (number_shown asks k) mask rel value
test_shown asks (Not t) = Not (test_shown asks t)
test_shown asks (And s t) = And (test_shown asks s) (test_shown asks t)
test_shown asks (Or s t) = Or (test_shown asks s) (test_shown asks t)

abbrev pub count_shown : Bool → Count → Count
count_shown asks One = One
count_shown asks (Fixed n) = Fixed n
count_shown asks (Counted by capacity) = Counted (number_shown asks by) capacity

abbrev pub field_shown : Bool → Field → Field
field_shown asks f = record {
  name = f.name;
  former = f.former;
  item = f.item;
  count = count_shown asks f.count;
  since = f.since;
  test = option_map (test_shown asks) f.test;
  default = f.default;
}

abbrev pub desc_shown : Bool → Desc → Desc
desc_shown asks d = record {
  name = d.name;
  version = d.version;
  minimum = d.minimum;
  fields = map (field_shown asks) d.fields;
  validate = map (test_shown asks) d.validate;
}

abbrev pub sub_shown : Bool → Sub → Sub
sub_shown asks s = record { desc = desc_shown asks s.desc; needed = test_shown asks s.needed }

abbrev pub device_shown : Bool → Device → Device
device_shown asks d = record { instance = d.instance; desc = desc_shown asks d.desc; subs = map (sub_shown asks) d.subs }

abbrev pub set_shown : Bool → Set → Set
set_shown asks set = record {
  machines = set.machines;
  structs = map (desc_shown asks) set.structs;
  devices = map (device_shown asks) set.devices;
}

-- ---- if names are looked up, all is as it was written

pub map_same : {A : Type 0} (f : A → A) (xs : List A) → ((x : A) → f x ≡ x) → map f xs ≡ xs
map_same f [] same = refl
map_same f (x ∷ xs) same = cc (same x, map_same f xs same)

test_same : (t : Formula) → test_shown true t ≡ t
test_same (Not t) = ap Not (test_same t)
test_same (And s t) = cc (test_same s, test_same t)
test_same (Or s t) = cc (test_same s, test_same t)
test_same _ = refl

count_same : (c : Count) → count_shown true c ≡ c
count_same c = grind arith

optional_same : (o : Option Formula) → option_map (test_shown true) o ≡ o
optional_same o = grind (arith, test_same)

field_same : (f : Field) → field_shown true f ≡ f
field_same f = rw (count_same f.count, optional_same f.test)

desc_same : (d : Desc) → desc_shown true d ≡ d
desc_same d = rw (map_same (field_shown true) d.fields field_same, map_same (test_shown true) d.validate test_same)

sub_same : (s : Sub) → sub_shown true s ≡ s
sub_same s = rw (desc_same s.desc, test_same s.needed)

device_same : (d : Device) → device_shown true d ≡ d
device_same d = rw (desc_same d.desc, map_same (sub_shown true) d.subs sub_same)

pub set_same : (set : Set) → set_shown true set ≡ set
set_same set = rw (map_same (desc_shown true) set.structs desc_same, map_same (device_shown true) set.devices device_same)

-- ---- the fields that a test or a count may name are found by their names

neither : (ns ms : List (List ℕ)) (n : List ℕ) → is_one_of (ns ++ ms) n ≡ false → is_one_of ms n ≡ false
neither [] ms n none = none
neither (x ∷ ns) ms n none = neither ns ms n (or_parts (bytes_eq x n) (is_one_of (ns ++ ms) n) none).1

here : (p : List ℕ → Bool) (n : List ℕ) (names : List (List ℕ)) → p n ≡ true → position_or_len p (n ∷ names) ≡ 0
here p n names passes = rw passes

later : (p : List ℕ → Bool) (n : List ℕ) (names : List (List ℕ)) → p n ≡ false → position_or_len p (n ∷ names) ≡ 1 + position_or_len p names
later p n names fails = rw fails

one_more : {i k : ℕ} → i ≡ k → 1 + i ≡ suc k
one_more e = omega arith

-- no field before it has the name
first_place : (fields : List Field) (k : ℕ) (f : Field) → slice_get fields k ≡ Some f → is_one_of (all_names (take k fields)) f.name ≡ false
    → position_or_len (λ n. bytes_eq n f.name) (own_names fields) ≡ k
first_place [] k f there none = cc
first_place (g ∷ fields) zero f there none =
    let same : g ≡ f = cc in rw (ap (λ (h : Field). bytes_eq h.name f.name) same ∙ (bytes_eq-Decides f.name f.name).1 refl)
first_place (g ∷ fields) (suc k) f there none =
    let parts = or_parts (bytes_eq g.name f.name) (is_one_of (g.former ++ all_names (take k fields)) f.name) none in
    let rest = first_place fields k f there (neither g.former (all_names (take k fields)) f.name parts.1) in
    rw parts.0 (omega arith)

name_got : (fields : List Field) (k : ℕ) (f : Field) → slice_get fields k ≡ Some f → get_or (own_names fields) k [] ≡ f.name
name_got [] k f there = cc
name_got (g ∷ fields) zero f there = let same : g ≡ f = cc in ap (λ (h : Field). h.name) same
name_got (g ∷ fields) (suc k) f there = name_got fields k f there

number_found : (asks : Bool) (fields : List Field) (k : ℕ) (f : Field) → length fields ≤ 256 → slice_get fields k ≡ Some f
    → is_one_of (all_names (take k fields)) f.name ≡ false
    → number_in (asked asks (own_names fields)) (get_or (own_names fields) k []) ≡ good (number_shown asks k)
number_found false fields k f few there none = refl
number_found true fields k f few there none =
    let names = own_names fields in
    let place = first_place _ _ _ there none in
    let least : min k 4294967295 ≡ k = omega (arith, slice_get_within fields k f there) in
    let is_position : position (λ n. bytes_eq n f.name) names ≡ Some k =
    cc (lt-ltb k (length names) (omega (arith, slice_get_within fields k f there, length-map fields (λ (g : Field). g.name)))) in
    rw (name_got fields k f there, is_position, least)

-- ---- of a description without a fault

-- the number of such a field is found by its name
pub record Found (asks : Bool) (d : Desc) : Type 0 where
  pub number : (k : ℕ) → is_steady_in d k ≡ true
      → number_in (asked asks (own_names d.fields)) (get_or (own_names d.fields) k []) ≡ good (number_shown asks k)

pub all_found : (asks : Bool) (n : ℕ) (d : Desc) (rules : List Bool) → Clean n d rules → has_few d ≡ true → Found asks d
all_found asks n d rules c few = record { number = λ k steady. by_field _ _ refl steady }
  where
    by_field : (k : ℕ) (o : Option Field) → slice_get d.fields k ≡ o → is_steady d.minimum o ≡ true
        → number_in (asked asks (own_names d.fields)) (get_or (own_names d.fields) k []) ≡ good (number_shown asks k)
    by_field k None there steady = cc
    by_field k (Some f) there steady =
        let earlier = all_names (take k d.fields) in
        let new = and_parts (not (is_one_of earlier f.name)) (are_new (f.name ∷ earlier) f.former) (c.fields k f there).1.0 in
        let short = leb-true (length d.fields) 256 (and_parts (nat_le (length d.fields) 256) (nat_le (length d.validate) 16) few).0 in
        number_found _ _ _ _ short there (not-true (is_one_of earlier f.name) new.0)

pub earlier_found : (asks : Bool) (d : Desc) (i k : ℕ) → Found asks d → is_earlier_in d i k ≡ true
    → number_in (asked asks (own_names d.fields)) (get_or (own_names d.fields) k []) ≡ good (number_shown asks k)
earlier_found asks d i k found earlier = found.number k (and_parts (nat_lt k i) (is_steady_in d k) earlier).1

-- ---- faults inside tests, and a test by its form

-- a test that may have parts is read by its form
pub by_form : (n : ℕ) (scope : Scope) (d : Data) (form : Form) (r : Result Test Fault) → 0 < n → form ≡ form_of d
    → Answers formula (test_as form (test_within (n - 1) scope) scope d) r → Answers formula (test_within n scope d) r
by_form zero scope d form r more is said = absurd (omega arith)
by_form (suc n) scope d form r more is said =
    rw is at (simp unary_clauses at said)

pub refused_next : {A B : Type 0} (x : Answer A) (f : A → Answer B) (fault : Fault) → Refuses x fault → Refuses (next x f) fault
refused_next x f fault said = grind arith

-- ---- a test says the same within each bound that is at least its value's number of levels

-- ---- the parts of a value have fewer levels

member_nests : (k : List ℕ) (ms : Members) (e : Data) → get_member k ms ≡ Some e → depth e ≤ members_depth ms
member_nests k no_members e is = absurd (cc)
member_nests k (member l f ms) e is = go (slice_cmp nat_cmp k l) (member_nests k ms e) is
  where
    go : (o : Ordering) → (get_member k ms ≡ Some e → depth e ≤ members_depth ms)
        → match_ordering o (get_member k ms) (Some f) (get_member k ms) ≡ Some e → depth e ≤ max (depth f) (members_depth ms)
    go Equal inside is = subst (λ (x : Data). depth x ≤ max (depth f) (members_depth ms)) (same_Some f e is) (omega arith)
    go _ inside is = omega (arith, inside is)

get_nests : (k : List ℕ) (d e : Data) → get k d ≡ Some e → suc (depth e) ≤ depth d
get_nests k (object ms) e is = omega (arith, member_nests k ms e is)
get_nests k _ e is = absurd (cc)

abbrev or_this : Pair → Answer Pair → Pair
or_this p (good q) = q
or_this p (bad path) = p

pair_nests : (d : Data) (p : Pair) → two_of d ≡ good p → (depth p.first ≤ depth d) × (depth p.second ≤ depth d)
pair_nests d p is = search (arith)

-- ---- what a value says depends on what its parts say

of_same : (inner other : Data → Answer Formula) (key : List ℕ) (o : Option Data) → ((e : Data) → o ≡ Some e → inner e ≡ other e)
    → member_of inner key o ≡ member_of other key o
of_same inner other key o same = grind arith

two_same : (inner other : Data → Answer Formula) (key : List ℕ) (join : Formula → Formula → Formula) (x : Answer Pair)
    → ((p : Pair) → x ≡ good p → (inner p.first ≡ other p.first) × (inner p.second ≡ other p.second))
    → next (under key x) (λ p. under key (both join (inner p.first) (inner p.second))) ≡ next (under key x)
    (λ p. under key (both join (other p.first) (other p.second)))
two_same inner other key join x same = grind arith

pair_same : (inner other : Data → Answer Formula) (key : List ℕ) (join : Formula → Formula → Formula) (o : Option Data)
    → ((e : Data) → o ≡ Some e → (f : Data) → depth f ≤ depth e → inner f ≡ other f)
    → next (member_of two_of key o) (λ p. under key (both join (inner p.first) (inner p.second))) ≡ next (member_of two_of key o)
    (λ p. under key (both join (other p.first) (other p.second)))
pair_same inner other key join None same = refl
pair_same inner other key join (Some e) same =
    two_same inner other _ join _ (λ p is. let nest = pair_nests e p is in (same e refl p.first nest.0, same e refl p.second nest.1))

as_same : (form : Form) (inner other : Data → Answer Formula) (scope : Scope) (d : Data)
    → ((e : Data) → suc (depth e) ≤ depth d → inner e ≡ other e)
    → test_as form inner scope d ≡ test_as form other scope d
as_same forms.Not inner other scope d same =
    ap (changed _) (of_same inner other (codes "not") (get (codes "not") d) (λ e is. same e (get_nests (codes "not") d e is)))
as_same (forms.Two join) inner other scope d same =
    pair_same inner other _ (joined join) _ (λ e is f nests. same f (omega (arith, get_nests (key_of join) d e is)))
as_same (forms.Leaf leaf) inner other scope d same = refl

-- a value without parts is no test
flat_test : (n : ℕ) (scope : Scope) (d : Data) → depth d ≤ 0 → test_within (suc n) scope d ≡ test_within 0 scope d
flat_test n scope d flat = grind arith

within_same : (n m : ℕ) (scope : Scope) (d : Data) → depth d ≤ n → depth d ≤ m → test_within n scope d ≡ test_within m scope d
within_same zero zero scope d one other = refl
within_same zero (suc m) scope d one other = sym (flat_test m scope d one)
within_same (suc n) zero scope d one other = flat_test n scope d other
within_same (suc n) (suc m) scope d one other =
    as_same (form_of d) (test_within n scope) (test_within m scope) scope d (λ e nests. within_same n m scope e (omega arith) (omega arith))

pub depth_holds : DepthLaw
depth_holds scope d few n enough = within_same n DEEPEST scope d enough few

-- ---- a test can be read back from its file

-- the names in a test are found
pub record Scoped (asks : Bool) (own parent : List (List ℕ)) (may may_parent : ℕ → Bool) (scope : Scope) : Type 0 where
  pub found : (k : ℕ) → may k ≡ true → number_in scope.own (get_or own k []) ≡ good (number_shown asks k)
  pub found_above : (k : ℕ) → may_parent k ≡ true
      → with_parent (λ names. number_in names (get_or parent k [])) scope.parent ≡ good (number_shown asks k)

rel_good : (rel : Rel) → rel_of (rel_file rel) ≡ good rel
rel_good rel = grind arith

with_good : (o : Option Names) (name : List ℕ) (m mask : ℕ) (rel : Rel) (value : ℕ) → with_parent (λ names. number_in names name) o ≡ good m
    → mask ≤ 18446744073709551615 → value ≤ 18446744073709551615
    → with_parent (λ names. parent_cell names (object (put (codes "parent") (string name) (compared_file mask rel value)))) o ≡ good
    (Cell Parent m mask rel value)
with_good None name m mask rel value found fits_mask fits_value = cc
with_good (Some names) name m mask rel value found fits_mask fits_value =
    rw (rel_good rel, natural_good 18446744073709551615 mask fits_mask, found, natural_good 18446744073709551615 value fits_value)

module _ (asks : Bool) (own parent : List (List ℕ)) (may may_parent : ℕ → Bool) (scope : Scope)
    (scoped : Scoped asks own parent may may_parent scope) where
  pub test_back : (n : ℕ) (t : Formula) → test_depth t ≤ n → FitsTest t → names_well may may_parent t ≡ true
      → test_within n scope (test_file own parent t) ≡ good (test_shown asks t)
  test_back zero (AtLeast m) deep fits well = absurd (omega arith)
  test_back zero _ deep fits well = absurd (omega arith)
  test_back (suc n) (AtLeast m) deep fits well = rw (natural_good 4294967295 m fits)
  test_back (suc n) (Below m) deep fits well = rw (natural_good 4294967295 m fits)
  test_back (suc n) (Cell Own k mask rel value) deep fits well =
      rw (scoped.found k well, rel_good rel, natural_good 18446744073709551615 mask fits.0, natural_good 18446744073709551615 value fits.1)
  test_back (suc n) (Cell Parent k mask rel value) deep fits well = with_good _ _ _ _ _ _ (scoped.found_above k well) fits.0 fits.1
  test_back (suc n) (Not t) deep fits well = rw (test_back n t (omega arith) fits well)
  test_back (suc n) (And s t) deep fits well =
      let parts = and_parts (names_well may may_parent s) (names_well may may_parent t) well in
      rw (test_back n s (omega arith) fits.0 parts.0, test_back n t (omega arith) fits.1 parts.1)
  test_back (suc n) (Or s t) deep fits well =
      let parts = and_parts (names_well may may_parent s) (names_well may may_parent t) well in
      rw (test_back n s (omega arith) fits.0 parts.0, test_back n t (omega arith) fits.1 parts.1)
