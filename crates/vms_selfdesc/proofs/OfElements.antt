-- A structure has the same cells and elements in each table that reaches it, and by two lists of
-- numbers that agree.
use Rattle.vms_selfdesc.proofs.Facade
use Facade.{decimal, ◌≡◌, ℕ, suc, ◌+◌, ◌<◌, List, [], ◌∷◌, ◌++◌, length, get_or, map, ℤ, pos, refl, ap, ◌∙◌, arith, ◌*◌}
use Facade.{◌≤◌, Bool, true, zero, append_assoc, false, ◌&&◌, codes, ltb-true, and_parts, append-nil, and-true, and-false, and_assoc, outs, array_of}
use Facade.{fun_ext, Item, Struct, Field, Desc, Set, no_desc, item_size, field_cells, desc_cells, struct_cells, capacity_of, counted, numbers_of, elements_of}
use Facade.{no_parent, ItemBelow, FieldsBelow, item_cells_same, field_cells_same, desc_cells_same, own_same, row_same, first_same, all_below, first_at, Element}
use Facade.{Shape, no_shape, shape, shapes, cells_in, dotted, item_elements, array_elements, field_elements, elements_from, desc_elements, What, index_text}
use Facade.{behind, shapes_cells, MOST_ITEMS, Count, One, Fixed, Counted, Part, uses_below, defaults_well, counts_well, field_at, own_numbers, is_well_formed}
use Facade.{desc_at, reach, field_clean, struct_clean, field_sound, Entry, entries_of, sent_entry, listed_if, entry_of, is_field_sent, array_entries}
use Facade.{element_entries, item_entries, item_list, field_list, part_list, element_path, HasPlace, HasElements, item_rank, part_rank, reach_whole, uses_more}
use Facade.{rank_below, room_for_less, one_fits, elements_fit, is_there, sub_tree, AllByRecursion, Option, part_entries, Sub, is_some}
use Rattle.vms_selfdesc.specs.Alike.{IsFieldAlike, is_plain}
use Rattle.vms_spec.specs.declared.Part.TheVariants as parts

-- ---- a structure has the same cells and elements in each table that reaches it

module _ (j : ℕ) (ss Ss : List Shape) (agree : (i : ℕ) → i < j → get_or ss i no_shape ≡ get_or Ss i no_shape) where
  cells_agree : (i : ℕ) → i < j → get_or (cells_in ss) i [] ≡ get_or (cells_in Ss) i []
  cells_agree i lt = row_same (λ (s : Shape). s.cells) no_shape ss Ss i (agree i lt)

  item_elements_same : (item : Item) (caps : List ℕ) (z : ℤ) (n : List ℤ) (at : ℕ) → ItemBelow j item
      → item_elements ss item caps z n at ≡ item_elements Ss item caps z n at
  item_elements_same (Struct i) caps z n at e = rw (agree i e)
  item_elements_same _ caps z n at e = refl

  module _ (fields : List Field) (v : ℕ) (own : ℕ → ℕ) (n : List ℤ) where
    elements_same : (i at : ℕ) (fs : List Field) → FieldsBelow j fs → elements_from ss fields v own n i at fs ≡ elements_from Ss fields v own n i at fs
    elements_same i at [] b = refl
    elements_same i at (f ∷ fs) b =
        rw (
          fun_ext (λ (a : ℕ). item_elements_same f.item (counted i fields) f.default n a b.0),
          item_cells_same j (cells_in ss) (cells_in Ss) cells_agree f.item [] (pos 0) b.0,
          field_cells_same j (cells_in ss) (cells_in Ss) cells_agree fields i f b.0,
          elements_same (suc i) (at + length (field_cells (cells_in Ss) fields i f)) fs b.1,
        )

  desc_elements_same : (d : Desc) (v : ℕ) (n : List ℤ) (at : ℕ) → FieldsBelow j d.fields → desc_elements ss d v n at ≡ desc_elements Ss d v n at
  desc_elements_same d v n at b =
      rw (
        own_same j (cells_in ss) (cells_in Ss) cells_agree d n at b,
        desc_cells_same j (cells_in ss) (cells_in Ss) cells_agree d b,
        elements_same d.fields v (numbers_of (cells_in Ss) d n at) n 0 at d.fields b,
      )

-- the cells of a set's structures, by their shapes
pub cells_are : (set : Set) → cells_in (shapes set) ≡ struct_cells set
cells_are set = shapes_cells set.structs (length set.structs)

-- ---- a structure of a set

module _ (set : Set) (j : ℕ) (lt : j < length set.structs) (below : FieldsBelow j (get_or set.structs j no_desc).fields) where
  pub struct_cells_are : get_or (struct_cells set) j [] ≡ desc_cells (struct_cells set) (get_or set.structs j no_desc)
  struct_cells_are =
      let ds = set.structs in
      first_at desc_cells ds [] (length ds) j lt
      ∙ desc_cells_same j _ _ (λ i l. first_same desc_cells ds [] j (length ds) i (omega arith) l) (get_or ds j no_desc) below

  pub struct_elements_are : (n : List ℤ) (at : ℕ)
      → (get_or (shapes set) j no_shape).elements n at ≡ desc_elements (shapes set) (get_or set.structs j no_desc) (get_or set.structs j no_desc).version n at
  struct_elements_are n at =
      let ds = set.structs in
      let d = get_or ds j no_desc in
      rw (first_at shape ds no_shape (length ds) j lt)
      (desc_elements_same j _ _ (λ i l. first_same shape ds no_shape j (length ds) i (omega arith) l) d d.version n at below)

-- ---- What is listed of elements: of those of an item, of a field and of a description.

pub of_append : (sent : Bool) (path : List ℕ) (xs ys : List Element) → entries_of sent path (xs ++ ys) ≡ entries_of sent path xs ++ entries_of sent path ys
of_append sent path [] ys = refl
of_append sent path (x ∷ xs) ys = rw (of_append sent path xs ys, append_assoc)

pub of_dotted : (sent : Bool) (path : List ℕ) (xs : List Element) → entries_of sent path (map dotted xs) ≡ entries_of sent (path ++ 46 ∷ []) xs
of_dotted sent path [] = refl
of_dotted sent path (x ∷ xs) = rw (append_assoc path (46 ∷ []) x.name, of_dotted sent path xs)

-- after a step that is counted
of_step : (sent there p : Bool) (path text : List ℕ) (step : ℕ × ℕ) (xs : List Element) → p ≡ there
    → entries_of sent path (map (behind step text true p) xs) ≡ entries_of (sent && there) (path ++ text) xs
of_step sent there p path text step [] e = refl
of_step sent there p path text step (x ∷ xs) e =
    rw (of_step sent there p path text step xs e, e, and_assoc sent there x.present, append_assoc path text x.name)

-- after one beyond the count
none_of : (what : What) (path : List ℕ) → entry_of what false false path ≡ []
none_of what path = grind arith

of_past : (sent p : Bool) (path text : List ℕ) (step : ℕ × ℕ) (xs : List Element) → p ≡ false → entries_of sent path (map (behind step text false p) xs) ≡ []
of_past sent p path text step [] e = refl
of_past sent p path text step (x ∷ xs) e = rw (of_past sent p path text step xs e, e, and-false sent, none_of)

-- ---- items

-- what has no cell
pub plain_is : (sent : Bool) (path : List ℕ) (size : ℕ) (type : List ℕ)
    → listed_if (sent && true) (sent_entry (path ++ []) size type) ++ [] ≡ listed_if sent (sent_entry path size type)
plain_is sent path size type = simp (append-nil, and-true)

-- capacities are of no account
any_capacities : (shapes : List Shape) (item : Item) (caps : List ℕ) (z : ℤ) (sent : Bool) (n : List ℤ) (path : List ℕ) (at : ℕ)
    → entries_of sent path (item_elements shapes item caps z n at) ≡ item_entries shapes item z sent n path at
any_capacities shapes item caps z sent n path at = grind arith

-- ---- fields

-- what is listed of elements, if each is as `one` says
outs_are : (out : ℕ → ℕ → List Entry) (one : List ℕ → ℕ → List Entry) (path : List ℕ) → ((e at : ℕ) → out e at ≡ one (element_path path e) at)
    → (at step e m : ℕ) → outs out step e m at ≡ element_entries one path at step e m
outs_are out one path same at step e zero = refl
outs_are out one path same at step e (suc m) = rw (same e at, outs_are out one path same (at + step) step (suc e) m)

module _ (f : Field) (number : ℕ) (there : Bool) (part : ℕ → List Element) (step : ℕ) (sent : Bool) (path : List ℕ) (one : List ℕ → ℕ → List Entry)
    (is : (p : List ℕ) (at : ℕ) → entries_of (sent && there) p (part at) ≡ one p at) where
  here : (e at : ℕ) → entries_of sent path (map (behind (number, e) (f.name ++ index_text f.count e) true (there && true)) (part at))
      ≡ one (path ++ (f.name ++ index_text f.count e)) at
  here e at = of_step sent there (there && true) path _ (number, e) (part at) (and-true there) ∙ is _ at

  many : (n m at : ℕ) → m ≤ n → ((e : ℕ) → index_text f.count e ≡ codes "[" ++ (decimal e ++ codes "]"))
      → entries_of sent path (array_elements f (record { number = number; count = m; there = there }) part step 0 n at)
      ≡ element_entries one (path ++ f.name) at step 0 m
  many n m at le mark =
      array_of (entries_of sent path) (of_append sent path) refl f (record { number = number; count = m; there = there }) part
      (λ e at. one (path ++ (f.name ++ index_text f.count e)) at) step here
      (λ e at. of_past sent (there && false) path _ (number, e) (part at) (and-false there)) 0 n m at (omega arith) le
      ∙ outs_are _ one (path ++ f.name) (λ e at. rw (mark e, append_assoc path f.name (codes "[" ++ (decimal e ++ codes "]")))) at step 0 m

  of_count : (own : ℕ → ℕ) (count : Count) (at : ℕ) → f.count ≡ count
      → entries_of sent path (array_elements f (record { number = number; count = elements_of count own; there = there }) part step 0 (capacity_of count) at)
      ≡ array_entries one count (elements_of count own) (path ++ f.name) at step
  of_count own One at e = rw (of_append, append-nil, here 0 at, e, append-nil f.name)
  of_count own (Fixed m) at e = many _ _ _ (omega arith) (λ i. rw e)
  of_count own (Counted by m) at e = many _ _ _ (elements_fit (Counted by m) own) (λ i. rw e)

pub of_field : (shapes : List Shape) (fields : List Field) (v : ℕ) (own : ℕ → ℕ) (sent : Bool) (path : List ℕ) (n : List ℤ) (i at : ℕ) (f : Field)
    → entries_of sent path (field_elements shapes fields v own n i at f)
    ≡ array_entries (item_entries shapes f.item f.default (sent && is_there f.test f.since v own no_parent) n) f.count (elements_of f.count own)
    (path ++ f.name) at (item_size (cells_in shapes) f.item)
of_field shapes fields v own sent path n i at f =
    let there = is_there f.test f.since v own no_parent in
    of_count f i there (item_elements shapes f.item (counted i fields) f.default n) (item_size (cells_in shapes) f.item) sent path
    (item_entries shapes f.item f.default (sent && there) n)
    (λ p a. any_capacities shapes f.item (counted i fields) f.default (sent && there) n p a) own f.count at refl

-- ---- descriptions

-- the end of a description isn't listed
pub of_desc : (shapes : List Shape) (d : Desc) (v : ℕ) (sent : Bool) (path : List ℕ) (n : List ℤ) (at : ℕ)
    → entries_of sent path (desc_elements shapes d v n at) ≡ entries_of sent path
    (elements_from shapes d.fields v (numbers_of (cells_in shapes) d n at) n 0 at d.fields)
of_desc shapes d v sent path n at = rw (of_append, append-nil)

-- ---- What the calls over the fields of a part need.

-- of field k of a part, whose elements begin at a cell
pub record FieldNeeds (set : Set) (part : Part) (k : ℕ) (f : Field) (cell : ℕ) (n : List ℤ) : Type 0 where
  pub some : 1 ≤ capacity_of (field_at set part k).count
  pub elements : (count : ℕ) → count ≤ capacity_of (field_at set part k).count → HasElements set f cell count n
  pub lower : item_rank f.item + 2 < part_rank set part + 3

pub field_needs : (set : Set) → is_well_formed set ≡ true → (part : Part) (base : ℕ) (n : List ℤ) → HasPlace set part base n → (k cell : ℕ) (f : Field)
    → k < length (desc_at set part).fields → f ≡ field_at set part k
    → cell + capacity_of (field_at set part k).count * item_size (struct_cells set) (field_at set part k).item ≤ length n → FieldNeeds set part k f cell n
field_needs set well part base n h k cell f lt is room =
    let g = field_at set part k in
    let clean = field_clean _ well _ h.has _ lt in
    let sound = field_sound _ well _ h.has _ lt in
    rw is (record {
      some = clean.some;
      elements = λ count fewer. record {
        reaches = uses_more _ _ _ (reach_whole set part h.has) clean.uses;
        default = (and_parts (defaults_well g.item g.default) (counts_well (counted k (desc_at set part).fields) g.default) sound.1.1.1.1.1.0).0;
        few = h.few;
        small = one_fits _ _ _ _ _ clean.some room h.few;
        room = room_for_less _ _ _ _ _ fewer room;
      };
      lower = rank_below (reach set part) g.item clean.uses;
    })

pub array_many : (one : List ℕ → ℕ → List Entry) (c : Count) (n : ℕ) (path : List ℕ) (at step : ℕ) → (c ≡ One → ⊥)
    → array_entries one c n path at step ≡ element_entries one path at step 0 n
array_many one c n path at step other = grind arith

-- a run of its elements is the field's entries
pub field_run : (set : Set) (part : Part) (base k : ℕ) (sent : Bool) (n : List ℤ) (path : List ℕ) (cell : ℕ) (f : Field) (there : Bool) (whole : List ℕ)
    (count : ℕ)
    → f ≡ field_at set part k → there ≡ is_field_sent set part base k sent n → whole ≡ path ++ f.name
    → count ≡ elements_of (field_at set part k).count (own_numbers set part n base)
    → array_entries (item_list set f there n) f.count count whole cell (item_size (struct_cells set) f.item) ≡ field_list set part base k sent n path cell
field_run set part base k sent n path cell f there whole count is is_there is_whole is_count =
    let d = desc_at set part in
    rw (
      is_there,
      is_whole,
      is_count,
      is,
      of_field (shapes set) d.fields d.version (own_numbers set part n base) sent path n k cell (field_at set part k),
      cells_are set,
    )

-- ---- structures

module _ (set : Set) (well : is_well_formed set ≡ true) (item : Item) (j : ℕ) (is : item ≡ Struct j)
    (reaches : uses_below (length set.structs) item ≡ true) where
  pub struct_there : j < length set.structs
  struct_there = ltb-true j (length set.structs) (rw is at reaches)

  below : FieldsBelow j (get_or set.structs j no_desc).fields
  below = all_below j (get_or set.structs j no_desc).fields (λ i l. ((struct_clean set well j struct_there).fields i l).uses)

  pub struct_place : (n : List ℤ) (cell : ℕ) → length n ≤ MOST_ITEMS → cell + 1 * item_size (struct_cells set) item ≤ length n
      → HasPlace set (parts.Struct j) cell n
  struct_place n cell few room =
      record {
        has = struct_there;
        few = few;
        room = omega (arith, ap length (struct_cells_are set j struct_there below), ap (item_size (struct_cells set)) is);
      }

  pub struct_lower : part_rank set (parts.Struct j) + 4 < item_rank item
  struct_lower = omega (arith, ap item_rank is)

  pub struct_list : (z : ℤ) (sent : Bool) (path whole : List ℕ) (n : List ℤ) (cell : ℕ) → whole ≡ path ++ 46 ∷ []
      → part_list set (parts.Struct j) sent n whole cell ≡ item_entries (shapes set) item z sent n path cell
  struct_list z sent path whole n cell e = rw (e, is, of_dotted, struct_elements_are set j struct_there below n cell)

-- ---- parts with the same elements by two lists of numbers

-- field by field
abbrev pub AreFieldsAlike : ℕ → (ℕ → ℕ) → (ℕ → ℕ) → List Field → Type 0
AreFieldsAlike v own other = AllByRecursion (IsFieldAlike v own other)

module _ (n m : List ℤ) where
  plain_same : (ss : List Shape) (item : Item) (caps : List ℕ) (z : ℤ) → is_plain item ≡ true → item_elements ss item caps z n ≡ item_elements ss item caps z m
  plain_same ss item caps z e = grind arith

  field_same : (ss : List Shape) (fields : List Field) (v : ℕ) (own other : ℕ → ℕ) (i at : ℕ) (f : Field) → IsFieldAlike v own other f
      → field_elements ss fields v own n i at f ≡ field_elements ss fields v other m i at f
  field_same ss fields v own other i at f h = rw (h.stand.count, h.stand.there, plain_same ss f.item (counted i fields) f.default h.plain)

  fields_same : (ss : List Shape) (fields : List Field) (v : ℕ) (own other : ℕ → ℕ) (i at : ℕ) (fs : List Field) → AreFieldsAlike v own other fs
      → elements_from ss fields v own n i at fs ≡ elements_from ss fields v other m i at fs
  fields_same ss fields v own other i at [] h = refl
  fields_same ss fields v own other i at (f ∷ fs) h =
      let next = at + length (field_cells (cells_in ss) fields i f) in
      rw (field_same ss fields v own other i at f h.0, fields_same ss fields v own other (suc i) next fs h.1)

  -- a part's entries, if its fields are alike
  pub part_same : (set : Set) (d : Desc) (at : ℕ) (sent : Bool)
      → AreFieldsAlike d.version (numbers_of (struct_cells set) d n at) (numbers_of (struct_cells set) d m at) d.fields
      → part_entries set d sent n at ≡ part_entries set d sent m at
  part_same set d at sent h =
      let ss = shapes set in
      let own = numbers_of (cells_in ss) d in
      let same = fields_same ss d.fields d.version (own n at) (own m at) 0 at d.fields (rw (cells_are set) h) in
      rw (of_desc ss d d.version sent [] n at, of_desc ss d d.version sent [] m at, same)

-- a subsection's tree, if it came in both or in neither
pub sub_same : (set : Set) (s : Sub) (at : ℕ) (n m : List ℤ) (came other : Option ℕ) → is_some came ≡ is_some other
    → ((sent : Bool) → part_entries set s.desc sent n at ≡ part_entries set s.desc sent m at) → sub_tree set n at s came ≡ sub_tree set m at s other
sub_same set s at n m came other e h =
    rw (e, h (is_some other))
