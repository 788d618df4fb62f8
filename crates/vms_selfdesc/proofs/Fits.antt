-- The length and the number of the entries of fields, and what well-formed sets say of names, sizes
-- and depths.
use Rattle.vms_selfdesc.proofs.Facade
use Facade.{AllByRecursion, all_both, all_more, cases_lt, inl, inr, ◌≡◌, ℕ, zero, suc, ◌+◌, ◌*◌, ◌<◌, ◌≤◌, List, ◌∷◌, ◌++◌}
use Facade.{length, length-append, get_or, ℤ, Bool, true, append-nil, and-true, false, ◌&&◌, refl, arith, codes, [], get_or-eq_default, mul-le-mul_right}
use Facade.{quoted, compact_text, number_text, of_integer, Item, Kind, Num, Equal, Unused, Struct, width, MOST_ITEMS, MOST_UNUSED, Count, One, Field, Desc}
use Facade.{is_there, no_desc, no_parent, first, item_size, field_cells, capacity_of, elements_of, numbers_of, item_count, items_in, item_depth, deepest}
use Facade.{elements_fit, first_at, first_long, width_small, kind_word, Shape, no_shape, shape, cells_in, field_elements, elements_from, desc_elements, Entry}
use Facade.{cell_entry, listed_if, entries_of, item_entries, element_path, element_entries, array_entries, entry_tree, IsPlain, ◌^◌, pos, negsuc, nat_le}
use Facade.{and_parts, leb-true, length-decimal-le, lowest, highest, Part, Set, no_field, int_le, in_range, defaults_well, is_small_item, field_rules}
use Facade.{struct_depths, has_few, deepest_small, is_well_formed, HasPart, desc_at, AllTrue, reach, field_sound, struct_clean}
use Rattle.vms_selfdesc.proofs.OfElements.{of_append, of_dotted, plain_is, of_field, of_desc}
use Rattle.vms_selfdesc.proofs.Plain.{IsShort, plain_append, element_plain, element_long, dot_plain, key_long, sent_long, absent_long, word_short, name_short}
use Rattle.vms_kinds.specs.declared.Kind.TheVariants as kinds

-- ---- the length and the number of the entries of fields, for a path that begins with a number of bytes. They depend on the
-- depth of structures and the number of items.

-- the texts of these entries are no longer than this
abbrev pub AreLong : ℕ → List Entry → Type 0
AreLong most = AllByRecursion (λ e. length (compact_text (entry_tree e)) ≤ most)

pub longer : (a b : ℕ) (es : List Entry) → a ≤ b → AreLong a es → AreLong b es
longer a b es le p = all_more es p (λ e short. omega arith)

none_long : (most : ℕ) (es : List Entry) → length es ≤ 0 → AreLong most es
none_long most [] le = tt
none_long most (e ∷ es) le = absurd (omega arith)

-- ---- what the rules of fields give

-- the default of a number is spelled with at most 20 bytes; unused bytes are few
abbrev pub IsSmall : Item → ℤ → Type 0
IsSmall (Num kind) z = length (number_text (of_integer z)) ≤ 20
IsSmall (Unused n) z = n ≤ MOST_UNUSED
IsSmall item z = Unit {0}

pub record IsSoundField (f : Field) : Type 0 where
  pub name : IsShort 32 f.name
  pub small : IsSmall f.item f.default

abbrev pub AreSound : List Field → Type 0
AreSound = AllByRecursion IsSoundField

-- at most so many entries, and if C, each with a text of at most so many bytes
pub record Listed (C : Type 0) (items most : ℕ) (es : List Entry) : Type 0 where
  pub few : length es ≤ items
  pub long : C → AreLong most es

both : {C D E : Type 0} {a b v w : ℕ} {xs ys : List Entry} (most : ℕ) → Listed C a v xs → Listed D b w ys → v ≤ most → w ≤ most → (E → C × D)
    → Listed E (a + b) most (xs ++ ys)
both {xs = xs} {ys = ys} most f g le le' part = record {
  few = omega (arith, length-append xs ys);
  long = λ e. all_both _ _ _ (longer _ _ _ le (f.long (part e).0)) (longer _ _ _ le' (g.long (part e).1));
}

-- ---- a structure

-- its entries are no more than its items, and each is so long by the path and the depth
pub record Fits (s : Shape) (items depth : ℕ) : Type 0 where
  pub listed : (sent : Bool) (path : List ℕ) (n : List ℤ) (at : ℕ)
      → Listed (IsPlain path × (items ≤ MOST_ITEMS)) items (length path + 40 * depth + 67) (entries_of sent path (s.elements n at))

abbrev pub FitTables : List Shape → List ℕ → List ℕ → Type 0
FitTables ss sizes depths = (j : ℕ) → Fits (get_or ss j no_shape) (get_or sizes j 0) (get_or depths j 0)

-- what is listed if it is sent
sent_listed : {C : Type 0} {most : ℕ} (sent : Bool) (e : Entry) → (C → length (compact_text (entry_tree e)) ≤ most) → Listed C 1 most (listed_if sent e)
sent_listed true e le = record { few = omega arith; long = λ c. (le c, tt) }
sent_listed false e le = record { few = omega arith; long = λ c. tt }

cell_long : (sent : Bool) (path : List ℕ) (kind : Kind) (z : ℤ) → IsPlain path → IsSmall (Num kind) z
    → length (compact_text (entry_tree (cell_entry sent path kind z))) ≤ length path + 68
cell_long true path kind z p small = omega (arith, sent_long path (width kind) (kind_word kind) p (width_small kind) (word_short kind))
cell_long false path kind z p small = omega (arith, absent_long path (kind_word kind) z p (word_short kind) small)

module _ (ss : List Shape) (sizes depths : List ℕ) (fit : FitTables ss sizes depths) where
  item_listed : (item : Item) (z : ℤ) (sent : Bool) (n : List ℤ) (path : List ℕ) (at : ℕ)
      → Listed (IsPlain path × IsSmall item z × (item_count sizes item ≤ MOST_ITEMS)) (item_count sizes item) (length path + (40 * item_depth depths item + 68))
      (item_entries ss item z sent n path at)
  item_listed (Num kind) z sent n path at =
      rw (append-nil path, and-true sent) (record { few = omega arith; long = λ c. let le = cell_long sent path kind z c.0 c.1 in (omega arith, tt) })
  item_listed (Equal kind y) z sent n path at =
      let word : length (quoted (codes "equal")) ≤ 8 = omega (arith, key_long (codes "equal") refl) in
      rw (plain_is sent path (width kind) (codes "equal"))
      (sent_listed sent _ (λ c. omega (arith, sent_long path (width kind) (codes "equal") c.0 (width_small kind) word)))
  item_listed (Unused k) z sent n path at =
      let word : length (quoted (codes "unused")) ≤ 8 = omega (arith, key_long (codes "unused") refl) in
      rw (plain_is sent path k (codes "unused")) (sent_listed sent _ (λ c. omega (arith, sent_long path k (codes "unused") c.0 c.1 word)))
  item_listed (Struct j) z sent n path at =
      let listed = (fit j).listed sent (path ++ 46 ∷ []) n at in
      rw (of_dotted sent path ((get_or ss j no_shape).elements n at)) (record {
        few = listed.few;
        long = λ c. longer _ _ _ (omega (arith, length-append path (46 ∷ []))) (listed.long (dot_plain path c.0, c.2));
      })

-- ---- elements one after the other, at most m of them; if each has an entry, m is small

few_each : (c i m most : ℕ) (es : List Entry) → i < m → m * c ≤ MOST_ITEMS → length es ≤ c → (i < MOST_ITEMS → c ≤ MOST_ITEMS → AreLong most es)
    → AreLong most es
few_each zero i m most es lt items few long = none_long most es few
few_each (suc c) i m most es lt items few long =
    let whole : m * suc c ≡ m + m * c = grind arith in
    let one : 1 * suc c ≤ m * suc c = mul-le-mul_right {m = 1} {n = m} (suc c) (omega arith) in
    long (omega arith) (omega arith)

module _ (one : List ℕ → ℕ → List Entry) (w c : ℕ) (S : Type 0)
    (each : (path : List ℕ) (at : ℕ) → Listed (IsPlain path × S × (c ≤ MOST_ITEMS)) c (length path + w) (one path at)) where
  elements_listed : (path : List ℕ) (at step i n m : ℕ) → i + n ≤ m
      → Listed (IsPlain path × S × (m * c ≤ MOST_ITEMS)) (n * c) (length path + 7 + w) (element_entries one path at step i n)
  elements_listed path at step i zero m le = record { few = omega arith; long = λ h. tt }
  elements_listed path at step i (suc n) m le =
      let element = element_path path i in
      let e = each element at in
      let here : Listed (IsPlain path × S × (m * c ≤ MOST_ITEMS)) c (length path + 7 + w) (one element at) = record {
        few = e.few;
        long = λ h. few_each _ i _ _ _ (omega arith) h.2 e.few
            (λ lt few. longer _ _ _ (omega (arith, element_long path i lt)) (e.long (element_plain _ _ (omega arith) h.0, h.1, few)));
      } in
      let more : suc n * c ≡ c + n * c = grind arith in
      rw more (both _ here (elements_listed path (at + step) step (suc i) n m (omega arith)) (omega arith) (omega arith) (λ h. (h, h)))

  array_listed : (count : Count) (n : ℕ) (path : List ℕ) (at step : ℕ) → n ≤ capacity_of count
      → Listed (IsPlain path × S × (capacity_of count * c ≤ MOST_ITEMS)) (capacity_of count * c) (length path + 7 + w) (array_entries one count n path at step)
  array_listed One n path at step le =
      let e = each path at in
      record { few = omega (arith, e.few); long = λ h. longer _ _ _ (omega arith) (e.long (h.0, h.1, omega (arith, h.2))) }
  array_listed count n path at step le =
      let es = elements_listed path at step 0 n (capacity_of count) (omega arith) in
      record { few = omega (arith, mul-le-mul_right {m = n} {n = capacity_of count} c le); long = es.long }

-- ---- fields

module _ (ss : List Shape) (sizes depths : List ℕ) (fit : FitTables ss sizes depths) where
  module _ (fields : List Field) (v : ℕ) (own : ℕ → ℕ) (sent : Bool) (path : List ℕ) (n : List ℤ) where
    field_listed : (i at : ℕ) (f : Field)
        → Listed (IsPlain path × IsSoundField f × (capacity_of f.count * item_count sizes f.item ≤ MOST_ITEMS)) (capacity_of f.count * item_count sizes f.item)
        (length path + 40 * item_depth depths f.item + 107) (entries_of sent path (field_elements ss fields v own n i at f))
    field_listed i at f =
        let there = sent && is_there f.test f.since v own no_parent in
        let es =
        array_listed (item_entries ss f.item f.default there n) (40 * item_depth depths f.item + 68) (item_count sizes f.item) (IsSmall f.item f.default)
        (λ path at. item_listed _ _ _ fit _ _ _ _ _ _) f.count (elements_of f.count own) (path ++ f.name) at
        (item_size (cells_in ss) f.item) (elements_fit f.count own) in
        rw (of_field ss fields v own sent path n i at f) (record {
          few = es.few;
          long = λ h. longer _ _ _ (omega (arith, length-append path f.name))
              (es.long (plain_append _ _ h.0 h.1.name.plain, h.1.small, h.2));
        })

    fields_listed : (i at : ℕ) (fs : List Field)
        → Listed (IsPlain path × AreSound fs × (items_in sizes fs ≤ MOST_ITEMS)) (items_in sizes fs) (length path + 40 * deepest depths fs + 107)
        (entries_of sent path (elements_from ss fields v own n i at fs))
    fields_listed i at [] = record { few = omega arith; long = λ h. tt }
    fields_listed i at (f ∷ fs) =
        rw of_append (both _ (field_listed i at f) (fields_listed (suc i) (at + length (field_cells (cells_in ss) fields i f)) fs) (omega arith) (omega arith)
        (λ h. ((h.0, h.1.0, omega arith), (h.0, h.1.1, omega arith))))

  -- ---- a description

  entries_listed : (d : Desc) (v : ℕ) (sent : Bool) (path : List ℕ) (n : List ℤ) (at : ℕ)
      → Listed (IsPlain path × AreSound d.fields × (items_in sizes d.fields ≤ MOST_ITEMS)) (items_in sizes d.fields)
      (length path + 40 * deepest depths d.fields + 107) (entries_of sent path (desc_elements ss d v n at))
  entries_listed d v sent path n at =
      rw (of_desc ss d v sent path n at) (fields_listed d.fields v (numbers_of (cells_in ss) d n at) sent path n 0 at d.fields)

  pub entries_few : (d : Desc) (v : ℕ) (sent : Bool) (path : List ℕ) (n : List ℤ) (at : ℕ)
      → length (entries_of sent path (desc_elements ss d v n at)) ≤ items_in sizes d.fields
  entries_few d v sent path n at = (entries_listed d v sent path n at).few

  pub entries_long : (d : Desc) (v : ℕ) (sent : Bool) (path : List ℕ) (n : List ℤ) (at : ℕ) → IsPlain path → AreSound d.fields
      → items_in sizes d.fields ≤ MOST_ITEMS
      → AreLong (length path + 40 * deepest depths d.fields + 107) (entries_of sent path (desc_elements ss d v n at))
  entries_long d v sent path n at p sound items = (entries_listed d v sent path n at).long (p, sound, items)

  -- a structure made of these
  desc_fits : (d : Desc) → AreSound d.fields → Fits (shape ss d) (items_in sizes d.fields) (1 + deepest depths d.fields)
  desc_fits d sound = record {
    listed = λ sent path n at.
        let es = entries_listed d d.version sent path n at in
        record { few = es.few; long = λ h. longer _ _ _ (omega arith) (es.long (h.0, sound, h.1)) };
  }

-- ---- the tables of a set's structures

abbrev items_of_desc : List ℕ → Desc → ℕ
items_of_desc sizes d = items_in sizes d.fields

abbrev depth_of_desc : List ℕ → Desc → ℕ
depth_of_desc depths d = 1 + deepest depths d.fields

module _ (ds : List Desc) (most : ℕ) (sound : (j : ℕ) → j < most → AreSound (get_or ds j no_desc).fields) where
  abbrev made : ℕ → Type 0
  made j =
      Fits (shape (first shape ds j) (get_or ds j no_desc)) (items_of_desc (first items_of_desc ds j) (get_or ds j no_desc))
      (depth_of_desc (first depth_of_desc ds j) (get_or ds j no_desc))

  -- what is in the first k, where each of them fits
  at_number : (k : ℕ) → ((j : ℕ) → j < k → made j) → FitTables (first shape ds k) (first items_of_desc ds k) (first depth_of_desc ds k)
  at_number k each j = elim (cases_lt j k) [
    | inl lt ↦ rw (first_at shape ds no_shape k j lt, first_at items_of_desc ds 0 k j lt, first_at depth_of_desc ds 0 k j lt) (each j lt)
    | inr le ↦ rw (
      get_or-eq_default (first shape ds k) no_shape {n = j} (omega (arith, first_long shape ds k)),
      get_or-eq_default (first items_of_desc ds k) 0 {n = j} (omega (arith, first_long items_of_desc ds k)),
      get_or-eq_default (first depth_of_desc ds k) 0 {n = j} (omega (arith, first_long depth_of_desc ds k)),
    ) (record { listed = λ sent path n at. record { few = omega arith; long = λ h. tt } })
  ]

  each_made : (k j : ℕ) → k ≤ most → j < k → made j
  each_made zero j le lt = absurd (omega arith)
  each_made (suc k) j le lt =
      desc_fits (first shape ds j) (first items_of_desc ds j) (first depth_of_desc ds j)
      (at_number j (λ i l. each_made k i (omega arith) (omega arith))) (get_or ds j no_desc) (sound j (omega arith))

  pub tables_fit : (k : ℕ) → k ≤ most → FitTables (first shape ds k) (first items_of_desc ds k) (first depth_of_desc ds k)
  tables_fit k le = at_number k (λ j lt. each_made _ _ le lt)

-- ---- what well-formed sets say of names, sizes and depths: a number of 64 bits has at most 20 bytes

pub natural_fits : (kind : Kind) (n : ℕ) → int_le (pos n) (highest kind) ≡ true → n < 2 ^ 64
natural_fits kind n e = grind arith

pub negative_fits : (kind : Kind) (n : ℕ) → int_le (lowest kind) (negsuc n) ≡ true → n < 2 ^ 63
negative_fits kind n e = grind arith

default_short : (kind : Kind) (z : ℤ) → in_range kind z ≡ true → length (number_text (of_integer z)) ≤ 20
default_short kind (pos n) e =
    let small = natural_fits kind n (and_parts (int_le (lowest kind) (pos n)) (int_le (pos n) (highest kind)) e).1 in
    length-decimal-le 20 n (omega arith) (omega arith) small
default_short kind (negsuc n) e =
    let small = negative_fits kind n (and_parts (int_le (lowest kind) (negsuc n)) (int_le (negsuc n) (highest kind)) e).0 in
    omega (arith, length-decimal-le 19 (suc n) (omega arith) (omega arith) (omega arith))

-- ---- fields

small_item : (item : Item) (z : ℤ) → defaults_well item z ≡ true → is_small_item item ≡ true → IsSmall item z
small_item item z e f = grind (arith, default_short)

sound_field : (k : ℕ) (d : Desc) (i : ℕ) (f : Field) → AllTrue (field_rules k d i f) → IsSoundField f
sound_field k d i f rules = search (arith, name_short, small_item)

are_sound : (fs : List Field) → ((i : ℕ) → i < length fs → IsSoundField (get_or fs i no_field)) → AreSound fs
are_sound [] h = tt
are_sound (f ∷ fs) h = (h 0 (omega arith), are_sound fs (λ i lt. h (suc i) (omega arith)))

module _ (set : Set) (well : is_well_formed set ≡ true) where
  pub part_sound : (part : Part) → HasPart set part → AreSound (desc_at set part).fields
  part_sound part h = are_sound (desc_at set part).fields (λ i lt. sound_field (reach set part) (desc_at set part) i _ (field_sound set well part h i lt))

  -- structures nest at most four deep
  struct_flat : (j : ℕ) → get_or (struct_depths set.structs) j 0 ≤ 4
  struct_flat j = elim (cases_lt j (length set.structs)) [
    | inl lt ↦ leb-true (get_or (struct_depths set.structs) j 0) 4 (and_parts (has_few (get_or set.structs j no_desc))
        (nat_le (get_or (struct_depths set.structs) j 0) 4) (struct_clean set well j lt).own.1.1.1.1.1.1.0).1
    | inr le ↦
        let long = first_long (λ depths d. 1 + deepest depths d.fields) set.structs (length set.structs) in
        omega (arith, get_or-eq_default (struct_depths set.structs) 0 {n = j} (omega arith))
  ]

  pub fields_flat : (fs : List Field) → deepest (struct_depths set.structs) fs ≤ 4
  fields_flat fs = deepest_small _ 4 _ struct_flat
