-- A field can be read back from its file.
use Rattle.vms_descfile.proofs.Facade
use Facade.{item_word, capacity_in, length_in, counter_in, equal_in, size_in, Answer, Front, test_file, front_file, field_file, ◌≡◌, ℕ, ◌≤◌, List}
use Facade.{[], ◌∷◌, get_or, map, Bool, true, false, not, ◌&&◌, ◌==◌, natural, if◌then◌else◌, Option, Some, None, option_map, is_some, ℤ}
use Facade.{pos, negsuc, int_le, int_lt, IfSome, refl, sym, ap, ◌∙◌, codes, arith, eqb-true, ints, Data, string, get, as_str, Kind, Item, Count, One}
use Facade.{Formula, Field, in_range, defaults_well, same_number, ranges, Sort, good, fits, maybe_at, u16_of, u32_of, integer_of, text_of, Names, number_in}
use Facade.{name_in, test_of, sort_named, counts_fit, values_fit, sort_fits, field_needs, field_allows, field_fits, count_as, count_of, item_as, front_of}
use Facade.{field_after, field_in, field_of, FitsField, natural_file, integer_file, is_zero}
use Rattle.vms_descfile.proofs.ObjectLaws.{list_if, found, number_named, judged_good, maybe_good, default_good, list_or_good, natural_good}
use Rattle.vms_descfile.proofs.ObjectLaws.{integer_good, Table, members_in, object_of, or_none, got, table_fits, kept, listed, given_if, unless_if}
use Rattle.vms_descfile.proofs.ShownLaws.{number_shown, test_shown, count_shown, field_shown, map_same}
use Rattle.vms_descfile.specs.Written.{struct_in}
use Rattle.std.specs.Option.{option_and_then}
use Rattle.vms_kinds.specs.declared.Kind.TheVariants as kinds
use Rattle.vms_kinds.specs.declared.Item.TheVariants as items
use Rattle.vms_descfile.specs.declared.read.sort.Sort.TheVariants as sorts

-- ---- the members of a field's file

abbrev front_table : List (List ℕ) → Field → Table
front_table own f =
    (codes "former", listed string f.former)
    ∷ (codes "equal", option_map integer_file (equal_in f.item))
    ∷ (codes "default", kept (is_zero f.default) (integer_file f.default))
    ∷ (codes "counted", option_map (λ k. string (get_or own k [])) (counter_in f.count))
    ∷ (codes "count", option_map natural_file (length_in f.count))
    ∷ (codes "capacity", option_map natural_file (capacity_in f.count))
    ∷ []

abbrev pub field_table : List (List ℕ) → Field → Table
field_table own f =
    (codes "test", option_map (test_file own []) f.test)
    ∷ (codes "struct", option_map natural_file (struct_in f.item))
    ∷ (codes "size", option_map natural_file (size_in f.item))
    ∷ (codes "since", kept (f.since == 0) (natural_file f.since))
    ∷ (codes "name", Some (string f.name))
    ∷ (codes "kind", Some (string (item_word f.item)))
    ∷ front_table own f

front_tabled : (own : List (List ℕ)) (f : Field) → front_file own f ≡ members_in (front_table own f)
front_tabled own f = grind (arith, list_if, given_if, unless_if)

pub field_tabled : (own : List (List ℕ)) (f : Field) → field_file own f ≡ object_of (field_table own f)
field_tabled own f = grind (arith, given_if, unless_if, front_tabled)

-- ---- its keys

-- counted, capacity and count
abbrev counts_by : Option Data → Option Data → Option Data → Bool
counts_by counted capacity count = if is_some counted then is_some capacity && not (is_some count) else not (is_some capacity)

count_keys : (own : List (List ℕ)) (c : Count)
    → counts_by (option_map (λ k. string (get_or own k [])) (counter_in c)) (option_map natural_file (capacity_in c)) (option_map natural_file (length_in c))
    ≡ true
count_keys own c = grind arith

abbrev item_sort : Item → Sort
item_sort (items.Num kind) = sorts.Number kind
item_sort (items.Equal kind value) = sorts.Number kind
item_sort (items.Unused n) = sorts.Unused
item_sort (items.Struct j) = sorts.Struct

item_named : (item : Item) → sort_named (item_word item) ≡ Some (item_sort item)
item_named item = grind (arith, number_named)

-- size, struct, equal and default
abbrev sort_by : Sort → Option Data → Option Data → Option Data → Option Data → Bool
sort_by (sorts.Number kind) size struct equal default = not (is_some size) && not (is_some struct)
sort_by sorts.Unused size struct equal default = is_some size && not (is_some struct) && not (is_some equal) && not (is_some default)
sort_by sorts.Struct size struct equal default = is_some struct && not (is_some size) && not (is_some equal) && not (is_some default)

sort_by_keys : (sort : Sort) (d : Data)
    → sort_fits (Some sort) d ≡ sort_by sort (get (codes "size") d) (get (codes "struct") d) (get (codes "equal") d) (get (codes "default") d)
sort_by_keys sort d = grind arith

zero_is : (z : ℤ) → same_number z (pos 0) ≡ true → is_zero z ≡ true
zero_is z same = grind arith

no_default : (z : ℤ) → same_number z (pos 0) ≡ true → kept (is_zero z) (integer_file z) ≡ None
no_default z same = rw (zero_is z same)

-- equal and default
abbrev values_by : Option Data → Option Data → Bool
values_by equal default = not (is_some equal && is_some default)

-- the keys of an item and of its default fit together
record AreKeys (item : Item) (z : ℤ) : Type 0 where
  pub sort : sort_by (item_sort item) (option_map natural_file (size_in item)) (option_map natural_file (struct_in item))
      (option_map integer_file (equal_in item)) (kept (is_zero z) (integer_file z)) ≡ true
  pub values : values_by (option_map integer_file (equal_in item)) (kept (is_zero z) (integer_file z)) ≡ true

item_keys : (item : Item) (z : ℤ) → defaults_well item z ≡ true → AreKeys item z
item_keys item z well = search (arith, no_default)

-- ---- numbers of 64 bits

in_64 : (kind : Kind) (z : ℤ) → in_range kind z ≡ true → (int_le (negsuc 9223372036854775807) z && int_lt z (pos 18446744073709551616)) ≡ true
in_64 kinds.U8 z well = let r = ranges kinds.U8 z well in grind (arith, ints)
in_64 kind z well = let r = ranges kind z well in grind (arith, ints)

zero_is_0 : (z : ℤ) → is_zero z ≡ true → pos 0 ≡ z
zero_is_0 z zero = grind arith

not_zero : (item : Item) (z : ℤ) → defaults_well item z ≡ true → is_zero z ≡ false → integer_of (integer_file z) ≡ good z
not_zero item z well other = grind (arith, integer_good, in_64, zero_is)

constant_good : (item : Item) (z : ℤ) → defaults_well item z ≡ true → (y : ℤ) → equal_in item ≡ Some y → integer_of (integer_file y) ≡ good y
constant_good item z well y is = grind (arith, integer_good, in_64)

-- ---- the parts of a field

up_to : (most : ℕ) (o : Option ℕ) → IfSome o (λ n. n ≤ most) → (n : ℕ) → o ≡ Some n → natural most (natural_file n) ≡ good n
up_to most o fits n is = natural_good most n (rw is at fits)

count_made : (asks : Bool) (c : Count)
    → count_as (option_map (λ n. n) (capacity_in c)) (option_map (λ n. n) (length_in c)) (option_map (number_shown asks) (counter_in c))
    ≡ count_shown asks c
count_made asks One = refl
count_made asks _ = refl

item_made : (item : Item)
    → item_as (item_sort item) (option_map (λ z. z) (equal_in item)) (option_map (λ n. n) (size_in item)) (option_map (λ n. n) (struct_in item)) ≡ item
item_made (items.Num kind) = refl
item_made _ = refl

abbrev made_of : Bool → Field → Item → List (List ℕ) → Field
made_of asks f item former = record {
  name = f.name;
  former = former;
  item = item;
  count = count_shown asks f.count;
  since = f.since;
  test = option_map (test_shown asks) f.test;
  default = f.default;
}

field_made : (asks : Bool) (f : Field)
    → made_of asks f (item_as (item_sort f.item) (option_map (λ z. z) (equal_in f.item)) (option_map (λ n. n) (size_in f.item)) (option_map (λ n. n) (struct_in f.item)))
    (map (λ t. t) f.former) ≡ field_shown asks f
field_made asks f = cc (item_made f.item, map_same (λ t. t) f.former (λ t. refl))

-- ---- the field

module _ (asks : Bool) (own : List (List ℕ)) (names : Names) (may : ℕ → Bool) where
  -- the fields that a field may name are found
  pub record Named (f : Field) : Type 0 where
    pub counter : (k : ℕ) → counter_in f.count ≡ Some k → number_in names (get_or own k []) ≡ good (number_shown asks k)
    pub test : (t : Formula) → f.test ≡ Some t → test_of (record { own = names; parent = None }) (test_file own [] t) ≡ good (test_shown asks t)

  module _ (f : Field) where
    abbrev table : Table
    table = field_table own f

    abbrev d : Data
    d = object_of table

    -- a member that may be missing
    optional : {A B : Type 0} (says : Data → Answer B) (file : A → Data) (shown : A → B) (key : List ℕ) (o : Option A)
        → found key table ≡ option_map file o
        → ((a : A) → o ≡ Some a → says (file a) ≡ good (shown a)) → maybe_at says key d ≡ good (option_map shown o)
    optional says file shown key o is = maybe_good says file shown key d o (got key table _ is)

    count_back : FitsField f → Named f → count_of names d ≡ good (count_shown asks f.count)
    count_back fits named =
        rw (
          optional u32_of natural_file (λ n. n) (codes "capacity") (capacity_in f.count) (or_none _) (up_to 4294967295 (capacity_in f.count) fits.count.capacity),
          optional u32_of natural_file (λ n. n) (codes "count") (length_in f.count) (or_none _) (up_to 4294967295 (length_in f.count) fits.count.length),
          optional (name_in names) (λ k. string (get_or own k [])) (number_shown asks) (codes "counted") (counter_in f.count) (or_none _) named.counter,
          count_made asks f.count,
        )

    abbrev front_shown : Front
    front_shown = record {
      count = count_shown asks f.count;
      default = f.default;
      equal = option_map (λ z. z) (equal_in f.item);
      former = map (λ t. t) f.former;
    }

    front_back : FitsField f → defaults_well f.item f.default ≡ true → Named f → front_of names d ≡ good front_shown
    front_back fits well named =
        rw (
          count_back fits named,
          default_good integer_of (codes "default") d (integer_file f.default) (pos 0) f.default (is_zero f.default)
              (got (codes "default") table _ (or_none _)) (zero_is_0 f.default) (not_zero f.item f.default well),
          optional integer_of integer_file (λ z. z) (codes "equal") (equal_in f.item) (or_none _) (constant_good f.item f.default well),
          list_or_good text_of string (λ t. t) (codes "former") d f.former (got (codes "former") table _ (or_none _)) (λ k t e. refl),
        )

    after_back : FitsField f → Named f → field_after names front_shown d ≡ good (field_shown asks f)
    after_back fits named =
        rw (
          got (codes "kind") table _ refl,
          item_named f.item,
          got (codes "name") table _ refl,
          default_good u32_of (codes "since") d (natural_file f.since) 0 f.since (f.since == 0) (got (codes "since") table _ (or_none _))
              (λ e. sym (eqb-true f.since 0 e)) (λ e. natural_good 4294967295 f.since fits.since),
          optional u16_of natural_file (λ n. n) (codes "size") (size_in f.item) (or_none _) (up_to 65535 (size_in f.item) fits.item.bytes),
          optional u32_of natural_file (λ n. n) (codes "struct") (struct_in f.item) (or_none _) (up_to 4294967295 (struct_in f.item) fits.item.number),
          optional (test_of (record { own = names; parent = None })) (test_file own []) (test_shown asks) (codes "test") f.test (or_none _) named.test,
        )
        (ap good (field_made asks f))

  keys_fit : (f : Field) → defaults_well f.item f.default ≡ true → field_fits (object_of (field_table own f)) ≡ true
  keys_fit f well =
      let table = field_table own f in
      let d = object_of table in
      let counts : counts_fit d ≡ true =
      rw (got (codes "counted") table _ (or_none _), got (codes "capacity") table _ (or_none _), got (codes "count") table _ (or_none _))
      (count_keys own f.count) in
      let sorts : sort_fits (option_and_then sort_named (option_and_then as_str (get (codes "kind") d))) d ≡ true =
      rw (
        got (codes "kind") table _ refl,
        item_named f.item,
        sort_by_keys (item_sort f.item) d,
        got (codes "size") table _ (or_none _),
        got (codes "struct") table _ (or_none _),
        got (codes "equal") table _ (or_none _),
        got (codes "default") table _ (or_none _),
      )
      (item_keys f.item f.default well).sort in
      let values : values_fit d ≡ true =
      rw (got (codes "equal") table _ (or_none _), got (codes "default") table _ (or_none _)) (item_keys f.item f.default well).values in
      rw (table_fits field_needs field_allows table refl refl, counts, values, sorts)

  pub field_back : (f : Field) → FitsField f → defaults_well f.item f.default ≡ true → Named f
      → field_of names (field_file own f) ≡ good (field_shown asks f)
  field_back f fits well named =
      let d = object_of (field_table own f) in
      ap (field_of names) (field_tabled own f)
      ∙ judged_good (field_fits d) (field_in names d) (good (field_shown asks f)) (keys_fit f well)
      (rw (front_back f fits well named) (after_back f fits named))
