-- The walk that looks up names, and what a description says if it names no field.
use Rattle.vms_descfile.proofs.Facade
use Facade.{◌≡◌, ℕ, ◌+◌, Bool, true, false, ◌&&◌, List, [], Option, Some, None, is_some, option_and_then, refl, ◌∙◌, arith, codes}
use Facade.{or_parts, Data, Items, no_items, item, get, as_array, Answer, good, bad, under, next, changed, each_from, each_of, list_of, has, judged, member_of}
use Facade.{member_or, at, at_or, maybe_at, u16_of, u32_of, text_of, Names, names_if, name_in, Front, sort_of, count_of, front_of, field_after, field_of, Head}
use Facade.{head_of, rest_of, struct_in, sub_of, whole_in, asks_a_name, some_ask, asks_in, asks_names, zero, suc, pos, Formula, Set, DEEPEST, Form, Leaf, Fault}
use Facade.{Refuses, integer_of, u64_of, Scope, rel_of, own_cell, parent_cell, with_parent, leaf_as, both, test_as, test_within, test_of, struct_of, whole_of}
use Facade.{device_of, set_of, parts_of}
use Rattle.std.specs.Option.{option_map}
use Rattle.vms_descfile.specs.declared.read.cells.Leaf.TheVariants as leaves

-- ---- a member that doesn't exist

missing : {A : Type 0} (o : Option A) → is_some o ≡ false → o ≡ None
missing o e = grind arith

module _ (names : Names) where
  field_same : (d : Data) → asks_a_name d ≡ false → field_of names d ≡ field_of None d
  field_same d none =
      let parts = or_parts (has (codes "test") d) (has (codes "counted") d) none in
      simp (missing (get (codes "test") d) parts.0, missing (get (codes "counted") d) parts.1)

  fields_same : (i : ℕ) (ds : Items) → some_ask ds ≡ false → each_from (field_of names) i ds ≡ each_from (field_of None) i ds
  fields_same i no_items none = refl
  fields_same i (item d ds) none =
      let parts = or_parts (asks_a_name d) (some_ask ds) none in
      simp (field_same d parts.0, fields_same (i + 1) ds parts.1)

  members_same : (o : Option Data) → asks_in (option_and_then as_array o) ≡ false
      → member_of (list_of (field_of names)) (codes "fields") o ≡ member_of (list_of (field_of None)) (codes "fields") o
  members_same o none = grind (arith, fields_same)

  -- ---- descriptions

  head_same : (d : Data) → asks_in (option_and_then as_array (get (codes "fields") d)) ≡ false → head_of names d ≡ head_of None d
  head_same d none = rw (members_same (get (codes "fields") d) none)

  struct_same : (d : Data) → asks_names d ≡ false → struct_in None d ≡ struct_in names d
  struct_same d none = grind (arith, or_parts, head_same)

  whole_same : (asks : Bool) (d : Data) → asks_names d ≡ false → whole_in asks None d ≡ whole_in asks names d
  whole_same asks d none = grind (arith, or_parts, head_same)

-- ---- a walk that looks up no names

-- a walk that does has the names of the fields
pub names_looked_up : (asks asked : Bool) (d : Data) (o : Names) → asked ≡ (asks && asks_names d) → asked ≡ true → o ≡ names_if true d
    → o ≡ names_if asks d
names_looked_up asks asked d o is true_is same = grind arith

pub struct_unasked : (asks : Bool) (d : Data) → (asks && asks_names d) ≡ false → struct_in None d ≡ struct_in (names_if asks d) d
struct_unasked false d none = refl
struct_unasked true d none = struct_same (names_if true d) d none

pub whole_unasked : (asks : Bool) (d : Data) → (asks && asks_names d) ≡ false → whole_in asks None d ≡ whole_in asks (names_if asks d) d
whole_unasked false d none = refl
whole_unasked true d none = whole_same (names_if true d) true d none

-- ---- if the walk that looks up names finds no fault, the other finds none: answers in order

abbrev IsGood : {A : Type 0} → Answer A → Type 0
IsGood (good a) = Unit {0}
IsGood (bad path) = ⊥

-- if the first is good, so is the second
record Then {A B : Type 0} (x : Answer A) (y : Answer B) : Type 0 where
  holds : IsGood x → IsGood y

always : {A B : Type 0} (x : Answer A) (b : B) → Then x (good b)
always x b = record { holds = λ h. tt }

itself : {A : Type 0} (x : Answer A) → Then x x
itself x = record { holds = λ h. h }

never : {A B : Type 0} (path : List ℕ) (y : Answer B) → let x : Answer A = bad path in Then x y
never path y = record { holds = λ h. absurd h }

next_then : {A B C D : Type 0} (x : Answer A) (y : Answer B) (f : A → Answer C) (g : B → Answer D) → Then x y → ((a : A) (b : B) → Then (f a) (g b))
    → Then (next x f) (next y g)
next_then x y f g t c = grind arith

next_same : {A C D : Type 0} (x : Answer A) (f : A → Answer C) (g : A → Answer D) → ((a : A) → Then (f a) (g a)) → Then (next x f) (next x g)
next_same x f g c = grind arith

changed_then : {A B C D : Type 0} (f : A → C) (g : B → D) (x : Answer A) (y : Answer B) → Then x y → Then (changed f x) (changed g y)
changed_then f g x y t = grind arith

under_then : {A B : Type 0} (key : List ℕ) (x : Answer A) (y : Answer B) → Then x y → Then (under key x) (under key y)
under_then key x y t = grind arith

judged_then : {A B : Type 0} (b : Bool) (x : Answer A) (y : Answer B) → Then x y → Then (judged b x) (judged b y)
judged_then b x y t = grind arith

-- ---- members and items

-- the same for the answers of each value
abbrev Thens : {A B : Type 0} → (Data → Answer A) → (Data → Answer B) → Type 0
Thens says others = (d : Data) → Then (says d) (others d)

of_then : {A B : Type 0} (says : Data → Answer A) (others : Data → Answer B) (key : List ℕ) (o : Option Data) → Thens says others
    → Then (member_of says key o) (member_of others key o)
of_then says others key o t = grind (arith, under_then)

at_then : {A B : Type 0} (says : Data → Answer A) (others : Data → Answer B) (key : List ℕ) → Thens says others → Thens (at says key) (at others key)
at_then says others key t = λ d. of_then says others _ _ t

else_then : {A B : Type 0} (x : A) (y : B) (says : Data → Answer A) (others : Data → Answer B) (key : List ℕ) (o : Option Data) → Thens says others
    → Then (member_or x says key o) (member_or y others key o)
else_then x y says others key o t = grind (arith, under_then)

or_then : {A B : Type 0} (x : A) (y : B) (says : Data → Answer A) (others : Data → Answer B) (key : List ℕ) → Thens says others
    → Thens (at_or x says key) (at_or y others key)
or_then x y says others key t = λ d. else_then _ _ says others _ _ t

maybe_then : {A B : Type 0} (says : Data → Answer A) (others : Data → Answer B) (key : List ℕ) → Thens says others
    → Thens (maybe_at says key) (maybe_at others key)
maybe_then {A} {B} says others key t =
    or_then {A = Option A} {B = Option B} None None (λ d. changed Some (says d)) (λ d. changed Some (others d)) key (λ d. changed_then _ _ _ _ (t d))

each_then : {A B : Type 0} (says : Data → Answer A) (others : Data → Answer B) (i : ℕ) (ds : Items) → Thens says others
    → Then (each_from says i ds) (each_from others i ds)
each_then says others i no_items t = always _ _
each_then says others i (item d ds) t = grind (arith, next_then, under_then, changed_then, each_then says others (i + 1) ds t)

all_then : {A B : Type 0} (says : Data → Answer A) (others : Data → Answer B) (o : Option Items) → Thens says others
    → Then (each_of says o) (each_of others o)
all_then says others None t = never [] _
all_then says others (Some ds) t = each_then says others 0 _ t

list_then : {A B : Type 0} (says : Data → Answer A) (others : Data → Answer B) → Thens says others → Thens (list_of says) (list_of others)
list_then says others t = λ d. all_then says others _ t

-- ---- names and tests

name_then : (names : Names) → Thens (name_in names) (name_in None)
name_then names = λ d. next_same _ _ _ (λ name. always _ _)

-- no names are looked up
abbrev blind : Scope → Scope
blind scope = record { own = None; parent = option_map (λ names. None) scope.parent }

own_then : (scope : Scope) → Thens (own_cell scope) (own_cell (blind scope))
own_then scope = λ d.
    next_then _ _ _ _ (at_then _ _ (codes "field") (name_then scope.own) d)
    (λ k l. next_same (at rel_of (codes "is") d) _ _ (λ rel. next_same (at u64_of (codes "mask") d) _ _ (λ mask. next_same (at u64_of (codes "value") d) _ _ (λ value. always _ _))))

parent_then : (names : Names) → Thens (parent_cell names) (parent_cell None)
parent_then names = λ d.
    next_same (at rel_of (codes "is") d) _ _ (λ rel. next_same (at u64_of (codes "mask") d) _ _ (λ mask.
    next_then _ _ _ _ (at_then _ _ (codes "parent") (name_then names) d) (λ k l. next_same (at u64_of (codes "value") d) _ _ (λ value. always _ _))))

device_names_then : (o : Option Names) (d : Data)
    → Then (with_parent (λ names. parent_cell names d) o) (with_parent (λ names. parent_cell names d) (option_map (λ names. None) o))
device_names_then None d = never [] _
device_names_then (Some names) d = parent_then names d

leaf_then : (leaf : Leaf) (scope : Scope) → Thens (leaf_as leaf scope) (leaf_as leaf (blind scope))
leaf_then leaves.Own scope = own_then scope
leaf_then leaves.Parent scope = device_names_then scope.parent
leaf_then _ scope = λ d. itself _

both_then : (join : Formula → Formula → Formula) (x y z w : Answer Formula) → Then x z → Then y w → Then (both join x y) (both join z w)
both_then join x y z w t u =
    next_then _ _ _ _ (under_then (codes "0") x z t) (λ s r. changed_then (join s) (join r) _ _ (under_then (codes "1") y w u))

as_then : (form : Form) (inner others : Data → Answer Formula) (scope : Scope) → Thens inner others
    → Thens (test_as form inner scope) (test_as form others (blind scope))
as_then form inner others scope t = grind (arith, changed_then, at_then, next_same, under_then, both_then, leaf_then)

within_then : (depth : ℕ) (scope : Scope) (d : Data) → Then (test_within depth scope d) (test_within depth (blind scope) d)
within_then zero scope d = never [] _
within_then (suc depth) scope d = as_then _ (test_within depth scope) (test_within depth (blind scope)) scope (within_then depth scope) d

test_then : (scope : Scope) → Thens (test_of scope) (test_of (blind scope))
test_then scope = within_then DEEPEST scope

-- ---- fields

count_then : (names : Names) → Thens (count_of names) (count_of None)
count_then names = λ d.
    next_same (maybe_at u32_of (codes "capacity") d) _ _
    (λ capacity. next_same (maybe_at u32_of (codes "count") d) _ _ (λ count. next_then _ _ _ _ (maybe_then _ _ (codes "counted") (name_then names) d) (λ a b. always _ _)))

front_then : (names : Names) → Thens (front_of names) (front_of None)
front_then names = λ d.
    next_then _ _ _ _ (count_then names d) (λ a b. next_same (at_or (pos 0) integer_of (codes "default") d) _ _ (λ default.
    next_same (maybe_at integer_of (codes "equal") d) _ _ (λ equal. next_same (at_or [] (list_of text_of) (codes "former") d) _ _ (λ former. always _ _))))

after_then : (names : Names) (front other : Front) → Thens (field_after names front) (field_after None other)
after_then names front other = λ d.
    next_same (at sort_of (codes "kind") d) _ _ (λ sort. next_same (at text_of (codes "name") d) _ _ (λ name.
    next_same (at_or 0 u32_of (codes "since") d) _ _ (λ since. next_same (maybe_at u16_of (codes "size") d) _ _ (λ size.
    next_same (maybe_at u32_of (codes "struct") d) _ _ (λ number.
    next_then _ _ _ _ (maybe_then _ _ (codes "test") (test_then (record { own = names; parent = None })) d) (λ a b. always _ _))))))

field_then : (names : Names) → Thens (field_of names) (field_of None)
field_then names = λ d. judged_then _ _ _ (next_then _ _ _ _ (front_then names d) (λ a b. after_then names a b d))

-- ---- descriptions

head_then : (names : Names) → Thens (head_of names) (head_of None)
head_then names = λ d.
    next_then _ _ _ _ (at_then _ _ (codes "fields") (list_then _ _ (field_then names)) d)
    (λ a b. next_same (maybe_at u32_of (codes "minimum") d) _ _ (λ minimum. next_same (at text_of (codes "name") d) _ _ (λ name. always _ _)))

rest_then : (names : Names) (head other : Head) → Thens (rest_of names head) (rest_of None other)
rest_then names head other = λ d.
    next_then _ _ _ _ (or_then _ _ _ _ (codes "validate") (list_then _ _ (test_then (record { own = names; parent = None }))) d)
    (λ a b. next_same (at u32_of (codes "version") d) _ _ (λ version. always _ _))

struct_then : Thens (struct_of true) (struct_of false)
struct_then = λ d.
    let names = names_if true d in
    judged_then _ _ _ (next_then _ _ _ _ (head_then names d) (λ a b. rest_then names a b d))

sub_then : (parent : Names) → Thens (sub_of true parent) (sub_of false None)
sub_then parent = λ d.
    let names = names_if true d in
    judged_then _ _ _ (next_then _ _ _ _ (head_then names d) (λ a b.
    next_then _ _ _ _ (at_then _ _ (codes "needed") (test_then (record { own = names; parent = Some parent })) d)
    (λ needed other. changed_then _ _ _ _ (rest_then names a b d))))

whole_then : Thens (whole_of true) (whole_of false)
whole_then = λ d.
    let names = names_if true d in
    judged_then _ _ _ (next_then _ _ _ _ (head_then names d) (λ a b.
    next_then _ _ _ _ (or_then _ _ _ _ (codes "subsections") (list_then _ _ (sub_then names)) d)
    (λ subs others. changed_then _ _ _ _ (rest_then names a b d))))

device_then : Thens (device_of true) (device_of false)
device_then = λ d.
    judged_then _ _ _ (next_then _ _ _ _ (at_then _ _ (codes "desc") whole_then d) (λ a b. changed_then _ _ _ _ (itself _)))

set_then : Thens (set_of true) (set_of false)
set_then = λ d.
    judged_then _ _ _ (next_then _ _ _ _ (at_then _ _ (codes "devices") (list_then _ _ device_then) d) (λ a b.
    next_same (at (list_of text_of) (codes "machines") d) _ _
    (λ machines. next_then _ _ _ _ (at_then _ _ (codes "structs") (list_then _ _ struct_then) d) (λ s r. always _ _))))

-- ---- what a value says, by the walk that looks up names

passes : {A B : Type 0} (x : Answer A) (y : Answer B) → IsGood x → next x (λ a. y) ≡ y
passes x y h = grind arith

pub asked_is : (d : Data) (set : Set) → set_of true d ≡ good set → parts_of d ≡ good set
unfolding parts_of
asked_is d set e = passes (set_of false d) (set_of true d) ((set_then d).holds (rw e tt)) ∙ e

pub later_is : (d : Data) (unasked : Set) (fault : Fault) → set_of false d ≡ good unasked → Refuses (set_of true d) fault → Refuses (parts_of d) fault
unfolding parts_of
later_is d unasked fault e h = rw e h

pub first_is : (d : Data) (fault : Fault) → Refuses (set_of false d) fault → Refuses (parts_of d) fault
unfolding parts_of
first_is d fault h = grind arith
