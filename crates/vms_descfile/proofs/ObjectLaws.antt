-- Values of a file: lists, objects whose members may be missing, good answers, and plain fields.
use Rattle.vms_descfile.proofs.Facade
use Facade.{◌≡◌, ℕ, ◌+◌, ◌<◌, List, [], ◌∷◌, ◌++◌, length, get_or, map, refl, ap, sym, ◌∙◌, drop, append_assoc, zero, suc}
use Facade.{arith, map-append, Data, Members, put, items_of, Value, own_names, list_file, list_as, drop_is, Bool, true, false, ◌&&◌, if◌then◌else◌}
use Facade.{Option, Some, None, is_some, option_map, bytes_eq, false≢true, and_parts, and_from, bytes_eq-Decides, no_members, member, object, get, get_member}
use Facade.{get_member-put, get_member-put_other, is_one_of, has, has_no_others, has_all, fits, given_as, unless, natural_file, integer_file, ◌≤◌, ℤ}
use Facade.{pos, negsuc, int_le, int_lt, slice_get, le-leb, number, Answer, good, under, next, each_from, list_of, at, at_or, maybe_at, natural, integer_of}
use Facade.{judged, IfSome, option_and_then, codes, as_str, Names, Kind, One, TellsKind, kind_word, Number, Front, IsPlain, field_after, field_fits}
use Facade.{plain_field, plain_members, sort_named, sort_of}
use Rattle.serde_json.specs.View.{view}
use Rattle.vms_parts.specs.{Views.field_of, declared.types.Field.Field}
use Rattle.vms_kinds.specs.declared.Kind.TheVariants as kinds

-- ---- lists of values

pub listed_on : {T : Type 0} (f : T → Data) (xs : List T) (i : ℕ) (x : T) (done more : List Value) (v : Value) → i < length xs → x ≡ get_or xs i x
    → view v ≡ f x
    → more ≡ done ++ v ∷ [] → map f xs ≡ map view done ++ map f (drop i xs) → map f xs ≡ map view more ++ map f (drop (i + 1) xs)
listed_on f xs i x done more v lt is written pushed so =
    let rest = map f (drop (i + 1) xs) in
    rw (so, drop_is xs i x lt is, pushed, map-append view done (v ∷ []), written, append_assoc (map view done) (f x ∷ []) rest)

-- the name of a field by its number
pub name_at : (fields : List Field) (k : ℕ) (f : Field) → k < length fields → f ≡ get_or fields k f
    → get_or (own_names (map field_of fields)) k [] ≡ f.name
name_at [] k f lt is = absurd (omega arith)
name_at (g ∷ fields) zero f lt is = rw is
name_at (g ∷ fields) (suc k) f lt is = name_at fields k f (omega arith) is

-- ---- lists of parts, written item by item

map_seen : {A B : Type 0} (g : B → Data) (h : A → B) (xs : List A) → map (λ x. g (h x)) xs ≡ map g (map h xs)
map_seen g h [] = refl
map_seen g h (x ∷ xs) = rw (map_seen g h xs)

pub list_seen : {A B : Type 0} (g : B → Data) (h : A → B) (xs : List A) → list_file (λ x. g (h x)) xs ≡ list_file g (map h xs)
list_seen g h xs = rw (map_seen g h xs)

pub list_as_seen : {A B : Type 0} (key : List ℕ) (g : B → Data) (h : A → B) (xs : List A) (ms : Members)
    → list_as key (λ x. g (h x)) xs ms ≡ list_as key g (map h xs) ms
list_as_seen key g h [] ms = refl
list_as_seen key g h (x ∷ xs) ms = rw (map_seen g h xs)

-- ---- objects whose members may be missing, and the values under their keys

-- the members of a table, of which the last is put first
abbrev pub Table : Type 0
Table = List (List ℕ × Option Data)

abbrev pub put_if : List ℕ → Option Data → Members → Members
put_if k None ms = ms
put_if k (Some d) ms = put k d ms

abbrev pub members_in : Table → Members
members_in [] = no_members
members_in (e ∷ table) = put_if e.0 e.1 (members_in table)

abbrev pub object_of : Table → Data
object_of table = object (members_in table)

-- ---- the value under a key

abbrev pub or : Option Data → Option Data → Option Data
or None other = other
or (Some d) other = Some d

abbrev pub found : List ℕ → Table → Option Data
found k [] = None
found k (e ∷ table) = if bytes_eq k e.0 then or e.1 (found k table) else found k table

found_by : (k j : List ℕ) (o : Option Data) (ms : Members) (rest : Option Data) (same : Bool) → bytes_eq k j ≡ same → get_member k ms ≡ rest
    → get_member k (put_if j o ms) ≡ (if same then or o rest else rest)
found_by k j None ms rest true is there = there
found_by k j None ms rest false is there = there
found_by k j (Some d) ms rest true is there = rw ((bytes_eq-Decides k j).0 is) (get_member-put j d ms)
found_by k j (Some d) ms rest false is there =
    get_member-put_other k j d ms (λ (same : k ≡ j). false≢true (sym is ∙ (bytes_eq-Decides k j).1 same)) ∙ there

found_is : (k : List ℕ) (table : Table) → get_member k (members_in table) ≡ found k table
found_is k [] = refl
found_is k (e ∷ table) = found_by k e.0 e.1 (members_in table) (found k table) (bytes_eq k e.0) refl (found_is k table)

pub or_none : (o : Option Data) → or o None ≡ o
or_none o = grind arith

pub got : (k : List ℕ) (table : Table) (o : Option Data) → found k table ≡ o → get k (object_of table) ≡ o
got k table o is = found_is k table ∙ is

-- a key of some finds what it finds behind an entry with another key
pub found_behind : (keys : List (List ℕ)) (k j : List ℕ) (o : Option Data) (table : Table) → is_one_of keys k ≡ true → is_one_of keys j ≡ false
    → found k ((j, o) ∷ table) ≡ found k table
found_behind keys k j o table known other = grind (arith, bytes_eq-Decides)

pub has_is : (k : List ℕ) (table : Table) (o : Option Data) → found k table ≡ o → has k (object_of table) ≡ is_some o
has_is k table o is = ap is_some (got k table o is)

-- ---- the keys of an object

put_known : (keys : List (List ℕ)) (k : List ℕ) (d : Data) (ms : Members) → is_one_of keys k ≡ true → has_no_others keys ms ≡ true
    → has_no_others keys (put k d ms) ≡ true
put_known keys k d no_members known rest = and_from _ true known refl
put_known keys k d (member l e ms) known rest =
    let more = put_known keys k d ms known (and_parts (is_one_of keys l) (has_no_others keys ms) rest).1 in
    grind arith

put_if_known : (keys : List (List ℕ)) (k : List ℕ) (o : Option Data) (ms : Members) → is_one_of keys k ≡ true → has_no_others keys ms ≡ true
    → has_no_others keys (put_if k o ms) ≡ true
put_if_known keys k None ms known rest = rest
put_if_known keys k (Some d) ms known rest = put_known keys k d ms known rest

abbrev pub are_known : List (List ℕ) → Table → Bool
are_known keys [] = true
are_known keys (e ∷ table) = is_one_of keys e.0 && are_known keys table

no_others : (keys : List (List ℕ)) (table : Table) → are_known keys table ≡ true → has_no_others keys (members_in table) ≡ true
no_others keys [] known = refl
no_others keys (e ∷ table) known =
    let parts = and_parts (is_one_of keys e.0) (are_known keys table) known in
    put_if_known keys e.0 e.1 (members_in table) parts.0 (no_others keys table parts.1)

abbrev pub are_found : List (List ℕ) → Table → Bool
are_found [] table = true
are_found (k ∷ keys) table = is_some (found k table) && are_found keys table

all_there : (keys : List (List ℕ)) (table : Table) → are_found keys table ≡ true → has_all keys (object_of table) ≡ true
all_there [] table there = refl
all_there (k ∷ keys) table there =
    let parts = and_parts (is_some (found k table)) (are_found keys table) there in
    and_from (has k (object_of table)) (has_all keys (object_of table)) (has_is k table (found k table) refl ∙ parts.0) (all_there keys table parts.1)

pub table_fits : (needed allowed : List (List ℕ)) (table : Table) → are_known (needed ++ allowed) table ≡ true → are_found needed table ≡ true
    → fits needed allowed (object_of table) ≡ true
table_fits needed allowed table known there =
    and_from (has_no_others (needed ++ allowed) (members_in table)) (has_all needed (object_of table))
    (no_others (needed ++ allowed) table known) (all_there needed table there)

-- ---- members that are left out at their defaults

abbrev pub kept : Bool → Data → Option Data
kept true d = None
kept false d = Some d

abbrev pub listed : {A : Type 0} → (A → Data) → List A → Option Data
listed f [] = None
listed f (x ∷ xs) = Some (list_file f (x ∷ xs))

pub given_if : {A : Type 0} (k : List ℕ) (f : A → Data) (o : Option A) (ms : Members) → given_as k f o ms ≡ put_if k (option_map f o) ms
given_if k f o ms = grind arith

pub unless_if : (b : Bool) (k : List ℕ) (d : Data) (ms : Members) → unless b k d ms ≡ put_if k (kept b d) ms
unless_if b k d ms = grind arith

pub list_if : {A : Type 0} (k : List ℕ) (f : A → Data) (xs : List A) (ms : Members) → list_as k f xs ms ≡ put_if k (listed f xs) ms
list_if k f xs ms = grind arith

-- ---- good answers: of members, of lists, and of numbers and texts in their written form

pub next_good : {A B : Type 0} (x : Answer A) (a : A) (f : A → Answer B) (r : Answer B) → x ≡ good a → f a ≡ r → next x f ≡ r
next_good x a f r e h = cc

pub judged_good : {A : Type 0} (b : Bool) (x r : Answer A) → b ≡ true → x ≡ r → judged b x ≡ r
judged_good b x r e h = cc

-- ---- members

pub at_good : {A : Type 0} (says : Data → Answer A) (key : List ℕ) (d e : Data) (a : A) → get key d ≡ Some e → says e ≡ good a
    → at says key d ≡ good a
at_good says key d e a there said = cc

pub maybe_good : {A B : Type 0} (says : Data → Answer B) (file : A → Data) (shown : A → B) (key : List ℕ) (d : Data) (o : Option A)
    → get key d ≡ option_map file o → ((a : A) → o ≡ Some a → says (file a) ≡ good (shown a))
    → maybe_at says key d ≡ good (option_map shown o)
maybe_good says file shown key d o there said = grind arith

pub default_good : {A : Type 0} (says : Data → Answer A) (key : List ℕ) (d e : Data) (default a : A) (b : Bool)
    → get key d ≡ kept b e → (b ≡ true → default ≡ a) → (b ≡ false → says e ≡ good a) → at_or default says key d ≡ good a
default_good says key d e default a b there is said = grind arith

-- ---- lists

pub each_good : {A B : Type 0} (says : Data → Answer B) (file : A → Data) (shown : A → B) (i : ℕ) (xs : List A)
    → ((k : ℕ) (x : A) → slice_get xs k ≡ Some x → says (file x) ≡ good (shown x))
    → each_from says i (items_of (map file xs)) ≡ good (map shown xs)
each_good says file shown i [] said = refl
each_good says file shown i (x ∷ xs) said =
    rw (said 0 x refl, each_good says file shown (i + 1) xs (λ k y e. said (suc k) y e))

pub list_good : {A B : Type 0} (says : Data → Answer B) (file : A → Data) (shown : A → B) (xs : List A)
    → ((k : ℕ) (x : A) → slice_get xs k ≡ Some x → says (file x) ≡ good (shown x)) → list_of says (list_file file xs) ≡ good (map shown xs)
list_good says file shown xs said = each_good says file shown 0 _ said

pub list_or_good : {A B : Type 0} (says : Data → Answer B) (file : A → Data) (shown : A → B) (key : List ℕ) (d : Data) (xs : List A)
    → get key d ≡ listed file xs → ((k : ℕ) (x : A) → slice_get xs k ≡ Some x → says (file x) ≡ good (shown x))
    → at_or [] (list_of says) key d ≡ good (map shown xs)
list_or_good says file shown key d [] there said = rw there
list_or_good says file shown key d (x ∷ xs) there said = cc (list_good says file shown (x ∷ xs) said)

-- ---- numbers

pub natural_good : (most n : ℕ) → n ≤ most → natural most (natural_file n) ≡ good n
natural_good most n le = rw (le-leb n most le)

pub integer_good : (z : ℤ) → (int_le (negsuc 9223372036854775807) z && int_lt z (pos 18446744073709551616)) ≡ true
    → integer_of (integer_file z) ≡ good z
integer_good z fits = grind arith

-- ---- fields with a kind of number, a name and at most former names, and the kinds that words name: the field

-- the members before the kind, if there are only former names
abbrev fronted : List (List ℕ) → Front
fronted names = record { count = One; default = pos 0; equal = None; former = names }

module _ (kind : Kind) (k n : Data) (name : List ℕ) (named : option_and_then sort_named (as_str k) ≡ Some (Number kind))
    (called : Some name ≡ as_str n) where
  sort_told : sort_of k ≡ good (Number kind)
  sort_told = grind arith

  abbrev whole : Option Data → Data
  whole former = object (plain_members former (Some k) (Some n))

  fits_plain : (former : Option Data) → field_fits (whole former) ≡ true
  fits_plain former = grind arith

  after_plain : (names : Names) (former : Option Data) (fs : List (List ℕ))
      → field_after names (fronted fs) (whole former) ≡ good (plain_field kind name fs)
  after_plain names None fs = rw (sort_told, ← called)
  after_plain names (Some f) fs = rw (sort_told, ← called)

  then_after : (names : Names) (d : Data) (answer : Answer (List (List ℕ)))
      → ((fs : List (List ℕ)) → field_after names (fronted fs) d ≡ good (plain_field kind name fs))
      → next (next (under (codes "former") answer) (λ fs. good (fronted fs))) (λ front. field_after names front d)
      ≡ next (under (codes "former") answer) (λ fs. good (plain_field kind name fs))
  then_after names d answer after = grind arith

  pub field_plain : (former : Option Data) → IsPlain former kind name (whole former)
  field_plain None names = rw (fits_plain None) (after_plain names None [])
  field_plain (Some f) names =
      rw (fits_plain (Some f)) (then_after names (whole (Some f)) _ (after_plain names (Some f)))

-- ---- words

pub number_named : (kind : Kind) → sort_named (kind_word kind) ≡ Some (Number kind)
number_named kind = grind arith

-- the kind that a word names
pub kind_told : (named : Option Kind) (word : List ℕ) (said : Option (List ℕ)) → TellsKind word named → Some word ≡ said
    → IfSome named (λ kind. option_and_then sort_named said ≡ Some (Number kind))
kind_told None word said tells at = tt
kind_told (Some kind) word said tells at = cc ((tells kind).0 refl, number_named kind)

-- ---- lists of parts whose numbers fit

pub at_is : {A : Type 0} (xs : List A) (i : ℕ) (x y : A) → x ≡ get_or xs i x → slice_get xs i ≡ Some y → x ≡ y
at_is [] i x y is there = cc
at_is (z ∷ xs) zero x y is there = let same : z ≡ y = cc in is ∙ same
at_is (z ∷ xs) (suc i) x y is there = at_is xs i x y is there

-- a property of each item of a list holds of the plain data
pub mapped : {A B : Type 0} (g : A → B) (P : B → Type 0) (xs : List A) → ((i : ℕ) (x : A) → slice_get xs i ≡ Some x → P (g x))
    → (i : ℕ) (y : B) → slice_get (map g xs) i ≡ Some y → P y
mapped g P [] all i y there = cc
mapped g P (x ∷ xs) all zero y there = let same : g x ≡ y = cc in rw same at (all 0 x refl)
mapped g P (x ∷ xs) all (suc i) y there = mapped g P xs (λ j z e. all (suc j) z e) i y there

-- the same for an equal list
pub mapped_of : {A B : Type 0} (g : A → B) (P : B → Type 0) (ys xs : List A) → ys ≡ xs → ((i : ℕ) (x : A) → slice_get ys i ≡ Some x → P (g x))
    → (i : ℕ) (y : B) → slice_get (map g xs) i ≡ Some y → P y
mapped_of g P ys xs is all = mapped g P _ (rw is at all)
