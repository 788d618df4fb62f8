-- Descriptions, subsections, devices and sets can be read back from their files.
use Rattle.vms_descfile.proofs.Facade
use Facade.{◌≡◌, ℕ, ◌≤◌, List, ◌∷◌, get_or, length, map, Bool, true, false, ◌&&◌, ◌==◌, nat_le, Option, Some, None, refl, ◌∙◌}
use Facade.{codes, arith, [], slice_get, and_parts, leb-true, false≢true, Data, string, ◌++◌, is_one_of, get, as_str, items_of, Formula, Field, Desc}
use Facade.{Count, nodes, is_small_test, is_small_optional, is_small_item, is_steady_in, is_earlier_in, names_well, nobody, test_names_well, count_names_well}
use Facade.{defaults_well, counts_well, counted, has_few, Clean, good, names_of, text_or_none, maybe_at, u32_of, text_of, Scope, names_if, number_in, DEEPEST}
use Facade.{test_of, field_of, desc_needs, desc_allows, Head, head_of, minimum_or, rest_of, struct_of, FitsTest, FitsOptional, FitsDesc, list_file}
use Facade.{natural_file, own_names, counter_in, test_file, field_file, desc_members, struct_file, set_file, Sub, Device, Set, WellFormed, struct_depths}
use Facade.{struct_rules, sub_rules, device_rules, struct_clean, device_parts, sub_clean, sub_of, Whole, whole_of, device_of, set_of, parts_of, FitsSub}
use Facade.{FitsWhole, FitsDevice, FitsSet, sub_file, whole_file, device_file}
use Rattle.vms_descfile.proofs.FieldBack.{field_table, field_tabled, field_back}
use Rattle.vms_descfile.proofs.ObjectLaws.{list_good, list_or_good, natural_good, Table, members_in, object_of, found, found_behind, or_none, got, table_fits}
use Rattle.vms_descfile.proofs.ObjectLaws.{kept, listed, unless_if, list_if}
use Rattle.vms_descfile.proofs.ShownLaws.{test_back, Found, all_found, earlier_found, asked, number_shown, test_shown, field_shown, desc_shown, sub_shown}
use Rattle.vms_descfile.proofs.ShownLaws.{device_shown, set_shown, set_same, map_same}
use Rattle.std.specs.Option.{option_and_then}
use Rattle.vms_spec.specs.Rules.{depth}

-- ---- descriptions, devices and sets can be read back from their files

abbrev own_scope : Bool → List (List ℕ) → Scope
own_scope asks names = record { own = asked asks names; parent = None }

-- ---- tests that name only fields of their own description

shallow : (t : Formula) → is_small_test t ≡ true → depth t ≤ DEEPEST
shallow t small = omega (arith, leb-true (depth t) 16 (and_parts (nat_le (nodes t) 64) (nat_le (depth t) 16) small).1)

own_test_back : (asks : Bool) (names : List (List ℕ)) (may : ℕ → Bool)
    → ((k : ℕ) → may k ≡ true → number_in (asked asks names) (get_or names k []) ≡ good (number_shown asks k))
    → (t : Formula) → is_small_test t ≡ true → FitsTest t → names_well may nobody t ≡ true
    → test_of (own_scope asks names) (test_file names [] t) ≡ good (test_shown asks t)
own_test_back asks names may found t small fits well =
    test_back asks names [] may nobody (own_scope asks names) (record { found = found; found_above = λ k e. absurd (false≢true e) }) DEEPEST t (shallow t small) fits well

-- ---- the fields of a description

counter_back : (asks : Bool) (d : Desc) (i : ℕ) (c : Count) → Found asks d → count_names_well d i c ≡ true → (k : ℕ) → counter_in c ≡ Some k
    → number_in (asked asks (own_names d.fields)) (get_or (own_names d.fields) k []) ≡ good (number_shown asks k)
counter_back asks d i c found well k is = grind (arith, earlier_found)

field_test_back : (asks : Bool) (d : Desc) (i : ℕ) (o : Option Formula) → Found asks d → test_names_well d i o ≡ true → is_small_optional o ≡ true
    → FitsOptional o
    → (t : Formula) → o ≡ Some t → test_of (own_scope asks (own_names d.fields)) (test_file (own_names d.fields) [] t) ≡ good (test_shown asks t)
field_test_back asks d i o found well small fits t is =
    own_test_back _ _ (is_earlier_in d i) (λ k e. earlier_found _ _ _ _ found e) _ (rw is at small) (rw is at fits) (rw is at well)

module _ (asks : Bool) (n : ℕ) (d : Desc) (rules : List Bool) (c : Clean n d rules) (found : Found asks d) (fits : FitsDesc d) where
  fields_back : (i : ℕ) (f : Field) → slice_get d.fields i ≡ Some f
      → field_of (asked asks (own_names d.fields)) (field_file (own_names d.fields) f) ≡ good (field_shown asks f)
  fields_back i f there =
      let clean = c.fields i f there in
      let names = and_parts (test_names_well d i f.test) (count_names_well d i f.count) clean.1.1.1.0 in
      let default = and_parts (defaults_well f.item f.default) (counts_well (counted i d.fields) f.default) clean.1.1.1.1.1.0 in
      let small = and_parts (nat_le (length f.former) 8 && is_small_optional f.test) (is_small_item f.item) clean.1.1.1.1.1.1.0 in
      let fit = fits.fields i f there in
      field_back asks (own_names d.fields) (asked asks (own_names d.fields)) (is_earlier_in d i) f fit default.0 (record {
        counter = counter_back asks d i f.count found names.1;
        test = field_test_back asks d i f.test found names.0 (and_parts (nat_le (length f.former) 8) (is_small_optional f.test) small.0).1 fit.test;
      })

  validate_back : (i : ℕ) (t : Formula) → slice_get d.validate i ≡ Some t
      → test_of (own_scope asks (own_names d.fields)) (test_file (own_names d.fields) [] t) ≡ good (test_shown asks t)
  validate_back i t there =
      let clean = c.validations i t there in
      own_test_back asks (own_names d.fields) (is_steady_in d) found.number t clean.1.1.1.1.1.1.0 (fits.validate i t there) clean.1.1.1.0

-- ---- names

field_named : (own : List (List ℕ)) (f : Field) → text_or_none (option_and_then as_str (get (codes "name") (field_file own f))) ≡ f.name
field_named own f = cc (field_tabled own f, got (codes "name") (field_table own f) (Some (string f.name)) refl)

names_listed : (own : List (List ℕ)) (fs : List Field) → names_of (items_of (map (field_file own) fs)) ≡ own_names fs
names_listed own [] = refl
names_listed own (f ∷ fs) = cc (field_named own f, names_listed own fs)

-- ---- the members of every description

abbrev pub desc_table : Desc → Table
desc_table d =
    (codes "version", Some (natural_file d.version))
    ∷ (codes "validate", listed (test_file (own_names d.fields) []) d.validate)
    ∷ (codes "name", Some (string d.name))
    ∷ (codes "minimum", kept (d.minimum == d.version) (natural_file d.minimum))
    ∷ (codes "fields", Some (list_file (field_file (own_names d.fields)) d.fields))
    ∷ []

pub desc_tabled : (d : Desc) → desc_members d ≡ members_in (desc_table d)
desc_tabled d = grind (arith, list_if, unless_if)

-- the object has what the table has, under each key of a description
abbrev pub HasDesc : Desc → Data → Type 0
HasDesc d o = (k : List ℕ) → is_one_of (desc_needs ++ desc_allows) k ≡ true → get k o ≡ found k (desc_table d)

-- one more entry, with another key
pub has_behind : (d : Desc) (j : List ℕ) (e : Option Data) → is_one_of (desc_needs ++ desc_allows) j ≡ false
    → HasDesc d (object_of ((j, e) ∷ desc_table d))
has_behind d j e other k known = got k ((j, e) ∷ desc_table d) _ (found_behind (desc_needs ++ desc_allows) k j e (desc_table d) known other)

pub names_asked : (asks : Bool) (d : Desc) (o : Data) → HasDesc d o → names_if asks o ≡ asked asks (own_names d.fields)
names_asked asks d o has = grind (arith, names_listed)

abbrev minimum_kept : Bool → ℕ → Option ℕ
minimum_kept true n = None
minimum_kept false n = Some n

minimum_back : (b : Bool) (o : Data) (n : ℕ) → get (codes "minimum") o ≡ kept b (natural_file n) → n ≤ 4294967295
    → maybe_at u32_of (codes "minimum") o ≡ good (minimum_kept b n)
minimum_back true o n there le = rw there
minimum_back false o n there le = rw (there, natural_good 4294967295 n le)

minimum_made : (version n : ℕ) (b : Bool) → (n == version) ≡ b → minimum_or version (minimum_kept b n) ≡ n
minimum_made version n b e = grind arith

abbrev pub head_shown : Bool → Desc → Head
head_shown asks d = record { fields = map (field_shown asks) d.fields; minimum = minimum_kept (d.minimum == d.version) d.minimum; name = d.name }

module _ (asks : Bool) (n : ℕ) (d : Desc) (rules : List Bool) (c : Clean n d rules) (found : Found asks d) (fits : FitsDesc d) (o : Data)
    (has : HasDesc d o) where
  pub head_back : head_of (asked asks (own_names d.fields)) o ≡ good (head_shown asks d)
  head_back =
      rw (
        has (codes "fields") refl,
        list_good _ (field_file (own_names d.fields)) (field_shown asks) d.fields (fields_back asks n d rules c found fits),
        minimum_back (d.minimum == d.version) o d.minimum (has (codes "minimum") refl ∙ or_none _) fits.minimum,
        has (codes "name") refl,
      )

  pub rest_back : rest_of (asked asks (own_names d.fields)) (head_shown asks d) o ≡ good (desc_shown asks d)
  rest_back =
      rw (
        list_or_good _ (test_file (own_names d.fields) []) (test_shown asks) (codes "validate") o d.validate (has (codes "validate") refl ∙ or_none _)
            (validate_back asks n d rules c found fits),
        has (codes "version") refl,
        natural_good 4294967295 d.version fits.version,
        minimum_made d.version d.minimum (d.minimum == d.version) refl,
      )

-- ---- structures

pub struct_back : (asks : Bool) (n : ℕ) (d : Desc) (rules : List Bool) → Clean n d rules → has_few d ≡ true → FitsDesc d
    → struct_of asks (struct_file d) ≡ good (desc_shown asks d)
struct_back asks n d rules c few fits =
    let o = object_of (desc_table d) in
    let found = all_found asks n d rules c few in
    let has : HasDesc d o = λ k known. got k (desc_table d) _ refl in
    rw (
      desc_tabled d,
      table_fits desc_needs desc_allows (desc_table d) refl refl,
      names_asked asks d o has,
      head_back asks n d rules c found fits o has,
      rest_back asks n d rules c found fits o has,
    )

-- ---- subsections, devices and sets can be read back from their files: subsections

abbrev sub_table : List (List ℕ) → Sub → Table
sub_table parent s = (codes "needed", Some (test_file (own_names s.desc.fields) parent s.needed)) ∷ desc_table s.desc

abbrev sub_scope : Bool → List (List ℕ) → List (List ℕ) → Scope
sub_scope asks own parent = record { own = asked asks own; parent = Some (asked asks parent) }

needed_back : (asks : Bool) (d e : Desc) (t : Formula) → Found asks d → Found asks e → is_small_test t ≡ true → FitsTest t
    → names_well (is_steady_in d) (is_steady_in e) t ≡ true
    → test_of (sub_scope asks (own_names d.fields) (own_names e.fields)) (test_file (own_names d.fields) (own_names e.fields) t) ≡ good (test_shown asks t)
needed_back asks d e t found found_above small fits well = search (arith, test_back, shallow)

-- subsection j of a device
sub_back : (asks : Bool) (n j : ℕ) (d : Device) (s : Sub) → Found asks d.desc → Clean n s.desc (sub_rules d j s) → FitsSub s
    → sub_of asks (asked asks (own_names d.desc.fields)) (sub_file (own_names d.desc.fields) s) ≡ good (sub_shown asks s)
sub_back asks n j d s found_above c fits =
    let own = own_names s.desc.fields in
    let parent = own_names d.desc.fields in
    let o = object_of (sub_table parent s) in
    let rules = sub_rules d j s in
    let few = and_parts (has_few s.desc) (is_small_test s.needed) c.own.1.1.1.1.1.1.0 in
    let found = all_found asks n s.desc rules c few.0 in
    let has : HasDesc s.desc o = has_behind s.desc (codes "needed") (Some (test_file own parent s.needed)) refl in
    rw (
      desc_tabled s.desc,
      table_fits (codes "needed" ∷ desc_needs) desc_allows (sub_table parent s) refl refl,
      names_asked asks s.desc o has,
      head_back asks n s.desc rules c found fits.desc o has,
      got (codes "needed") (sub_table parent s) _ refl,
      needed_back asks s.desc d.desc s.needed found found_above few.1 fits.needed c.own.1.1.1.0,
      rest_back asks n s.desc rules c found fits.desc o has,
    )

-- ---- devices

abbrev whole_table : Device → Table
whole_table d = (codes "subsections", listed (sub_file (own_names d.desc.fields)) d.subs) ∷ desc_table d.desc

abbrev whole_shown : Bool → Device → Whole
whole_shown asks d = record { desc = desc_shown asks d.desc; subs = map (sub_shown asks) d.subs }

module _ (asks : Bool) (n : ℕ) (d : Device) (rules : List Bool) (c : Clean n d.desc rules) (few : has_few d.desc ≡ true)
    (subs_clean : (j : ℕ) (s : Sub) → slice_get d.subs j ≡ Some s → Clean n s.desc (sub_rules d j s)) where
  whole_back : FitsWhole d → whole_of asks (whole_file d) ≡ good (whole_shown asks d)
  whole_back fits =
      let own = own_names d.desc.fields in
      let o = object_of (whole_table d) in
      let found = all_found asks n d.desc rules c few in
      let subs = sub_file own in
      let has : HasDesc d.desc o = has_behind d.desc (codes "subsections") (listed subs d.subs) refl in
      rw (
        list_if (codes "subsections") subs d.subs (desc_members d.desc),
        desc_tabled d.desc,
        table_fits desc_needs (codes "subsections" ∷ desc_allows) (whole_table d) refl refl,
        names_asked asks d.desc o has,
        head_back asks n d.desc rules c found fits.desc o has,
        list_or_good (sub_of asks (asked asks own)) subs (sub_shown asks) (codes "subsections") o d.subs
            (got (codes "subsections") (whole_table d) _ (or_none _))
            (λ j s there. sub_back asks n j d s found (subs_clean j s there) (fits.subs j s there)),
        rest_back asks n d.desc rules c found fits.desc o has,
      )

  device_back : FitsDevice d → device_of asks (device_file d) ≡ good (device_shown asks d)
  device_back fits = rw (whole_back fits.whole, natural_good 4294967295 d.instance fits.instance)

-- ---- sets

module _ (set : Set) (well : WellFormed set) (fits : FitsSet set) where
  structs_back : (asks : Bool) (i : ℕ) (d : Desc) → slice_get set.structs i ≡ Some d → struct_of asks (struct_file d) ≡ good (desc_shown asks d)
  structs_back asks i d there =
      let c = struct_clean set well i d there in
      let few = and_parts (has_few d) (nat_le (get_or (struct_depths set.structs) i 0) 4) c.own.1.1.1.1.1.1.0 in
      struct_back asks i d (struct_rules set.structs i d) c few.0 (fits.structs i d there)

  devices_back : (asks : Bool) (i : ℕ) (d : Device) → slice_get set.devices i ≡ Some d → device_of asks (device_file d) ≡ good (device_shown asks d)
  devices_back asks i d there =
      let c = (device_parts set well i d there).0 in
      let few = and_parts (has_few d.desc) (nat_le (length d.subs) 32) c.own.1.1.1.1.1.1.0 in
      device_back asks (length set.structs) d (device_rules set i d) c few.0 (λ j s e. sub_clean set well i j d s there e) (fits.devices i d there)

  walk_back : (asks : Bool) → set_of asks (set_file set) ≡ good (set_shown asks set)
  walk_back asks =
      rw (
        list_good (device_of asks) device_file (device_shown asks) set.devices (devices_back asks),
        list_good text_of string (λ t. t) set.machines (λ k t e. refl),
        list_good (struct_of asks) struct_file (desc_shown asks) set.structs (structs_back asks),
        map_same (λ t. t) set.machines (λ t. refl),
      )

  pub set_back : parts_of (set_file set) ≡ good set
  unfolding parts_of
  set_back = rw (walk_back false, walk_back true, set_same set)
