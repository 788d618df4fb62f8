-- The tables and heads that are made row by row, and the numbers that are computed by their sizes:
-- those of the definition.
use Rattle.vms_desc.proofs.Facade
use Facade.{◌≡◌, ℕ, zero, suc, ◌+◌, ◌*◌, ◌<◌, List, ◌∷◌, ◌++◌, append_assoc, length, length-append, get_or, take, map, ◌∙◌}
use Facade.{arith, Some, inl, inr, [], slice_get, get_or-map, cases_lt, get_or_append_left, length-map, map-append, map_more, get_or_default, FitsHeads}
use Facade.{capacity_of, no_field, no_desc, Field, Sub, Device, AtLeast, get_or_push, Cells, Parts, in_u32, size_of, fields_size, set_of, field_of, device_of}
use Facade.{get_map_at, Table, HeadsFit, sub_at, IsTable, no_table, AreTables, device_fields, AreDeviceTables, ◌≤◌, min, refl, sym, ap, true, ◌&&◌}
use Facade.{Option, None, ℤ, flat_map, and_parts, take_min, map-map, Item, Struct, Count, Part, MOST_ITEMS, Own, Parent, first, times, counted, item_cells}
use Facade.{item_size, field_cells, cells_from, desc_cells, struct_cells, device_cells, numbers_of, place_of, is_num, is_one, names_well, Formula, Below, Cell}
use Facade.{Not, And, Or, Desc, Set, truth, field_size, sizes_to, form_of, capped_fields, Scope, item_forms, fields_forms, subs_forms, device_forms, forms_to}
use Facade.{sizes_of, place_in, number_of, number_of_parent, desc_at, is_number, is_number_in, is_number_of_parent, is_placed, parent_of, HasParentCells}
use Facade.{may_ask, may_ask_parent, IsInside, IsInsideParent, IsScope, IsParent, AreStarts, slice_get-map, slice_get_within, slice_get-get_or}
use Rattle.vms_parts.specs.{declared.types.Device.Device as CodeDevice, declared.types.Field.Field as CodeField}
use Rattle.std.proofs.Common.{◌%◌, ◌^◌}
use Rattle.vms_kinds.specs.{Codes.residue, Codes.width, declared.Kind.Kind}
use Rattle.vms_spec.specs.Layout.{Cell as OneCell}
use Rattle.vms_spec.specs.declared.Part.TheVariants as parts

-- ---- numbers of heads, device by device

-- an element of a mapped list is made of the one at the same number
pub at_mapped : {X Y : Type 0} (f : X → Y) (xs : List X) (i : ℕ) (x : X) (y : Y) → x ≡ get_or xs i x → slice_get (map f xs) i ≡ Some y → y ≡ f x
at_mapped f xs i x y is e = let lt = slice_get_within (map f xs) i y e in cc (slice_get-map f xs i, slice_get-get_or xs i x (omega (arith, length-map xs f)))

-- the property of the code's devices, for the set
pub heads_of : (parts : Parts) (devices : List CodeDevice) → devices ≡ parts.devices → HeadsFit (map device_of devices) → FitsHeads (set_of parts)
heads_of parts devices is h = search arith

-- ---- one more row

-- a property of each pair of elements holds with one pair more
pairs_more : {X Y : Type 0} (P : X → Y → Type 0) (xs : List X) (ys : List Y) (x dx : X) (y dy : Y) → length ys ≡ length xs
    → ((k : ℕ) → k < length xs → P (get_or xs k dx) (get_or ys k dy)) → P x y → (k : ℕ) → k < suc (length xs)
    → P (get_or (xs ++ x ∷ []) k dx) (get_or (ys ++ y ∷ []) k dy)
pairs_more P [] [] x dx y dy long h p zero lt = p
pairs_more P (a ∷ xs) (b ∷ ys) x dx y dy long h p zero lt = h 0 (omega arith)
pairs_more P (a ∷ xs) (b ∷ ys) x dx y dy long h p (suc k) lt = pairs_more P xs ys x dx y dy (omega arith) (λ j l. h (suc j) (omega arith)) p k (omega arith)
pairs_more P xs ys x dx y dy long h p k lt = absurd (omega arith)

-- ---- the first cells of fields

pub size_taken : (sizes : List ℕ) (fs : List Field) (i : ℕ) → i < length fs
    → fields_size Cells sizes (take (suc i) fs) ≡ fields_size Cells sizes (take i fs) + capacity_of (get_or fs i no_field).count * size_of Cells sizes
    (get_or fs i no_field).item
size_taken sizes [] i lt = absurd (omega arith)
size_taken sizes (f ∷ fs) zero lt = omega arith
size_taken sizes (f ∷ fs) (suc i) lt = omega (arith, size_taken sizes fs i (omega arith))

pub record StartsTo (sizes : List ℕ) (fields : List Field) (i sum : ℕ) (starts : List ℕ) : Type 0 where
  pub long : length starts ≡ suc i
  pub total : sum ≡ in_u32 (fields_size Cells sizes (take i fields))
  pub start : (k : ℕ) → k < length starts → get_or starts k 0 ≡ in_u32 (fields_size Cells sizes (take k fields))

pub starts_more : (sizes : List ℕ) (fields : List CodeField) (i sum more : ℕ) (starts : List ℕ) (f : CodeField) → i < length fields → f ≡ get_or fields i f
    → more ≡ in_u32 (sum + in_u32 (capacity_of f.count * size_of Cells sizes f.item)) → StartsTo sizes (map field_of fields) i sum starts
    → StartsTo sizes (map field_of fields) (i + 1) more (starts ++ more ∷ [])
starts_more sizes fields i sum more starts f lt is e h = record { long = omega (arith, long); total = next (i + 1) (omega arith); start = start }
  where
    long : length (starts ++ more ∷ []) ≡ suc (length starts)
    long = length-append starts (more ∷ []) ∙ omega arith

    next : (k : ℕ) → k ≡ suc i → more ≡ in_u32 (fields_size Cells sizes (take k (map field_of fields)))
    next k same =
        let size = size_taken sizes (map field_of fields) i (omega (arith, length-map fields field_of)) in
        rw same (omega (arith, e, h.total, rw (get_map_at field_of fields i f no_field lt is) at size))

    start : (k : ℕ) → k < length (starts ++ more ∷ []) → get_or (starts ++ more ∷ []) k 0 ≡ in_u32 (fields_size Cells sizes (take k (map field_of fields)))
    start k l = elim (cases_lt k (length starts)) [
      | inl inside ↦ get_or_append_left starts (more ∷ []) 0 k inside ∙ h.start k inside
      | inr past ↦ get_or_push starts more 0 k (omega (arith, long)) ∙ next k (omega (arith, long, h.long))
    ]

-- ---- lists of tables

-- the next description of a list of the code
pub tables_next : {X Y : Type 0} (view : X → Y) (fields : Y → List Field) (sizes : List ℕ) (front : List (List Field)) (items : List X) (i : ℕ) (x : X)
    → (tables : List Table) (t : Table) → i < length items → x ≡ get_or items i x → AreTables sizes (front ++ map fields (map view (take i items))) tables → IsTable sizes (fields (view x)) t
    → AreTables sizes (front ++ map fields (map view (take (i + 1) items))) (tables ++ t ∷ [])
tables_next view fields sizes front items i x tables t lt is h y =
    let here = map fields (map view (take i items)) in
    let rows : front ++ map fields (map view (take (i + 1) items)) ≡ (front ++ here) ++ fields (view x) ∷ [] =
    cc (append_assoc front here (fields (view x) ∷ []), map-append fields (map view (take i items)) (view x ∷ []), map_more view items i x lt) in
    rw rows (record {
      long = omega (arith, length-append (front ++ here) (fields (view x) ∷ []), length-append tables (t ∷ []), h.long);
      table = λ k lt. pairs_more (IsTable sizes) (front ++ here) tables (fields (view x)) [] t no_table h.long h.table y k
          (omega (arith, length-append (front ++ here) (fields (view x) ∷ [])));
    })

-- ---- devices

abbrev none : Device
none = record { instance = 0; desc = no_desc; subs = [] }

pub devices_next : (sizes : List ℕ) (devices : List CodeDevice) (i : ℕ) (x : CodeDevice) (tables : List (List Table)) (t : List Table) → i < length devices
    → x ≡ get_or devices i x → AreDeviceTables sizes (map device_of (take i devices)) tables → AreTables sizes (device_fields (device_of x)) t
    → AreDeviceTables sizes (map device_of (take (i + 1) devices)) (tables ++ t ∷ [])
devices_next sizes devices i x tables t lt is h y =
    let before = map device_of (take i devices) in
    let next : map device_of (take (i + 1) devices) ≡ before ++ device_of x ∷ [] = cc (map_more device_of devices i x lt) in
    let long = length-append before (device_of x ∷ []) in
    rw next (record {
      long = omega (arith, length-append tables (t ∷ []), h.long);
      each = λ k l. pairs_more (λ d ts. AreTables sizes (device_fields d) ts) before tables (device_of x) none t [] h.long h.each y k (omega arith);
    })

-- ---- the table of a part

pub sub_table : (sizes : List ℕ) (d : Device) (tables : List Table) (j : ℕ) (t : Table) → AreTables sizes (device_fields d) tables → j < length d.subs
    → t ≡ get_or tables (j + 1) t → IsTable sizes (sub_at d j).desc.fields t
sub_table sizes d tables j t h lt is =
    let none : Sub = record { desc = no_desc; needed = AtLeast 0 } in
    let rows = length-map d.subs (λ (s : Sub). s.desc.fields) in
    let there : suc j < length (device_fields d) = omega arith in
    let one : j + 1 ≡ suc j = omega arith in
    let table : t ≡ get_or tables (suc j) no_table = cc (get_or_default tables (suc j) t no_table (omega (arith, h.long))) in
    rw (table, ← get_or-map (λ (s : Sub). s.desc.fields) d.subs j none) (h.table (suc j) there)

-- ---- numbers by sizes, and the numbers of cells: those of the definition: the cells of the fields' numbers

one_size : (sizes : List ℕ) (item : Item) (c : Count) → is_num item && is_one c ≡ true → capacity_of c * size_of Cells sizes item ≡ 1
one_size sizes item c h = grind arith

number_below : (sizes : List ℕ) (fs : List Field) (k : ℕ) → is_number (slice_get fs k) ≡ true → fields_size Cells sizes (take k fs) < fields_size Cells sizes fs
number_below sizes [] k h = cc
number_below sizes (f ∷ fs) zero h = omega (arith, one_size sizes f.item f.count h)
number_below sizes (f ∷ fs) (suc k) h = omega (arith, number_below sizes fs k h)

-- a single number of the definition is one of the code's fields, and a number
pub number_there : (fields : List CodeField) (k : ℕ) → is_number (slice_get (map field_of fields) k) ≡ true
    → (k < length fields) × ((d : CodeField) → is_num (get_or fields k d).item ≡ true)
number_there [] k h = cc
number_there (f ∷ fields) zero h = (omega arith, λ d. (and_parts (is_num f.item) _ h).0)
number_there (f ∷ fields) (suc k) h = let r = number_there fields k h in (omega arith, r.1)

-- ---- the sizes of structures are the numbers of their cells

item_sizes : (cs : List (List OneCell)) (item : Item) → item_size cs item ≡ size_of Cells (map length cs) item
item_sizes cs (Struct j) = sym (get_or-map length cs j [])
item_sizes cs item = refl

pub cells_size : (cs : List (List OneCell)) (fields : List Field) (i : ℕ) (fs : List Field)
    → length (cells_from cs fields i fs) ≡ fields_size Cells (map length cs) fs
cells_size cs fields i [] = refl
cells_size cs fields i (f ∷ fs) = rw length-append (omega (arith, rw (item_sizes cs f.item) at (field_size cs fields i f), cells_size cs fields (suc i) fs))

pub struct_sizes : (ds : List Desc) (k : ℕ) → sizes_to Cells ds k ≡ map length (first desc_cells ds k)
unfolding first
struct_sizes ds zero = refl
struct_sizes ds (suc k) = let d = get_or ds k no_desc in rw (struct_sizes ds k, map-append, cells_size (first desc_cells ds k) d.fields 0 d.fields)

-- ---- the forms of cells are those of their structures

-- each of the repeated elements is mapped
pub times_map : {X Y : Type 0} (f : X → Y) (part : List X) (n : ℕ) → map f (times n (λ _. part) 0 0) ≡ times n (λ _. map f part) 0 0
times_map f part zero = refl
times_map f part (suc n) = rw (map-append, times_map f part n)

forms_item : (cs : List (List OneCell)) (item : Item) (capacities : List ℕ) (z : ℤ)
    → map form_of (item_cells cs item capacities z) ≡ item_forms (map (map form_of) cs) item z
forms_item cs (Struct j) capacities z = sym (get_or-map (map form_of) cs j [])
forms_item cs item capacities z = refl

forms_fields : (cs : List (List OneCell)) (fields : List Field) (i : ℕ) (fs : List Field)
    → map form_of (cells_from cs fields i fs) ≡ fields_forms (map (map form_of) cs) fs
forms_fields cs fields i [] = refl
forms_fields cs fields i (f ∷ fs) =
    let caps = counted i fields in
    rw (map-append, times_map form_of (item_cells cs f.item caps f.default) (capacity_of f.count), forms_item cs f.item caps f.default)
    (rw (forms_fields cs fields (suc i) fs))

struct_forms_all : (ds : List Desc) (k : ℕ) → forms_to ds k ≡ map (map form_of) (first desc_cells ds k)
unfolding first
struct_forms_all ds zero = refl
struct_forms_all ds (suc k) = let d = get_or ds k no_desc in rw (struct_forms_all ds k, map-append, forms_fields (first desc_cells ds k) d.fields 0 d.fields)

forms_subs : (cs : List (List OneCell)) (subs : List Sub) → map form_of (flat_map (λ s. desc_cells cs s.desc) subs) ≡ subs_forms (map (map form_of) cs) subs
forms_subs cs [] = refl
forms_subs cs (s ∷ subs) = rw (map-append, forms_fields cs s.desc.fields 0 s.desc.fields, forms_subs cs subs)

pub device_forms_are : (set : Set) (d : Device) → device_forms (forms_to set.structs (length set.structs)) d ≡ map form_of (device_cells set d)
device_forms_are set d =
    let cs = struct_cells set in
    rw (struct_forms_all set.structs (length set.structs), map-append, forms_fields cs d.desc.fields 0 d.desc.fields, forms_subs cs d.subs)

-- ---- numbers by sizes

module _ (v : ℕ) (own now parent then : ℕ → ℕ) (h : (k : ℕ) → own k ≡ now k) (i : (k : ℕ) → parent k ≡ then k) where
  pub truth_same : (t : Formula) → truth t v own parent ≡ truth t v now then
  truth_same (AtLeast n) = refl
  truth_same (Below n) = refl
  truth_same (Cell Own k mask rel value) = rw (h k)
  truth_same (Cell Parent k mask rel value) = rw (i k)
  truth_same (Not t) = rw (truth_same t)
  truth_same (And s t) = rw (truth_same s, truth_same t)
  truth_same (Or s t) = rw (truth_same s, truth_same t)

pub place_is : (cs : List (List OneCell)) (fields : List Field) (i base : ℕ) (fs : List Field) (k : ℕ)
    → place_of cs fields i base fs k ≡ base + fields_size Cells (map length cs) (take k fs)
place_is cs fields i base (f ∷ fs) (suc k) =
    omega (arith, rw (item_sizes cs f.item) at (field_size cs fields i f), place_is cs fields (suc i) (base + length (field_cells cs fields i f)) fs k)
place_is cs fields i base [] (suc k) = omega arith
place_is cs fields i base [] zero = omega arith
place_is cs fields i base (f ∷ fs) zero = omega arith

-- the field after field k begins where field k ends
pub place_after : (cs : List (List OneCell)) (fields : List Field) (i base : ℕ) (fs : List Field) (k : ℕ) → k < length fs
    → place_of cs fields i base fs (k + 1)
    ≡ place_of cs fields i base fs k + capacity_of (get_or fs k no_field).count * item_size cs (get_or fs k no_field).item
place_after cs fields i base fs k lt = grind (arith, size_taken, item_sizes, place_is)

pub take_less : (sizes : List ℕ) (fs : List Field) (k : ℕ) → fields_size Cells sizes (take k fs) ≤ fields_size Cells sizes fs
take_less sizes (f ∷ fs) (suc k) = omega (arith, take_less sizes fs k)
take_less sizes [] (suc k) = omega arith
take_less sizes fs zero = omega arith

-- a field begins within the cells of all fields, or at their end
pub place_within : (cs : List (List OneCell)) (fields : List Field) (i base : ℕ) (fs : List Field) (k : ℕ)
    → place_of cs fields i base fs k ≤ base + length (cells_from cs fields i fs)
place_within cs fields i base fs k = omega (arith, place_is cs fields i base fs k, take_less (map length cs) fs k, cells_size cs fields i fs)

-- sizes that are cut at 2 ^ 32 - 1 are exact if there are few cells
pub exact : (cs : List (List OneCell)) (fs : List Field) → fields_size Cells (map length cs) fs ≤ MOST_ITEMS
    → fields_size Cells (map (λ cells. in_u32 (length cells)) cs) fs ≡ fields_size Cells (map length cs) fs
exact cs fs few = omega (arith, rw (map-map in_u32 length cs) at (capped_fields Cells (map length cs) fs))

module _ (set : Set) (d : Desc) (few : length (desc_cells (struct_cells set) d) ≤ MOST_ITEMS) where
  all_cells : length (desc_cells (struct_cells set) d) ≡ fields_size Cells (map length (struct_cells set)) d.fields
  all_cells = cells_size (struct_cells set) d.fields 0 d.fields

  inside_is : fields_size Cells (sizes_of set) d.fields ≡ length (desc_cells (struct_cells set) d)
  inside_is = exact (struct_cells set) d.fields (omega (arith, all_cells)) ∙ sym all_cells

  module _ (starts : List ℕ) (h : AreStarts (sizes_of set) d.fields starts) where
    start_is : (k : ℕ) → get_or starts (min k (length d.fields)) 0 ≡ fields_size Cells (sizes_of set) (take k d.fields)
    start_is k = grind (arith, take_min, take_less, inside_is)

    place_in_is : (base k : ℕ) → place_in starts d.fields base k ≡ place_of (struct_cells set) d.fields 0 base d.fields k
    place_in_is base k =
        let less = take_less (map length (struct_cells set)) d.fields k in
        let x = exact (struct_cells set) (take k d.fields) (omega (arith, all_cells)) in
        omega (arith, start_is k, place_is (struct_cells set) d.fields 0 base d.fields k)

    -- the first cell of a field
    pub start_at : (base k : ℕ) → k < length d.fields → base + get_or starts k 0 ≡ place_of (struct_cells set) d.fields 0 base d.fields k
    start_at base k lt = grind (arith, place_in_is)

    -- the cells of the fields that may be named are among n cells
    cells_inside : (base n : ℕ) → base + length (desc_cells (struct_cells set) d) ≤ n → (k : ℕ) → is_number_in d.fields k ≡ true
        → place_in starts d.fields base k < n
    cells_inside base n room k number = omega (arith, start_is k, number_below (sizes_of set) d.fields k number, inside_is)

pub capped_cells : (set : Set) (d : Desc) → in_u32 (fields_size Cells (sizes_of set) d.fields) ≡ in_u32 (length (desc_cells (struct_cells set) d))
capped_cells set d =
    let cs = struct_cells set in
    rw (cells_size cs d.fields 0 d.fields) (rw (map-map in_u32 length cs) at (capped_fields Cells (map length cs) d.fields))

-- ---- the fields of a part and of its device that a test names

parent_asked : (set : Set) (part : Part) (parent : Option Scope) → IsParent set part parent → may_ask_parent parent ≡ is_number_of_parent set part
parent_asked set part parent p = grind arith

pub placed : (set : Set) (part : Part) (base : ℕ) (own : Scope) (parent : Option Scope) (t : Formula) → IsScope set (desc_at set part) base own
    → IsParent set part parent → is_placed set part t ≡ true → names_well (may_ask own) (may_ask_parent parent) t ≡ true
placed set part base own parent t s p h = rw (s.fields, parent_asked set part parent p) h

-- what is read through a scope: its cells are there, and its numbers are the definition's
pub record IsSeen (set : Set) (d : Desc) (base : ℕ) (own : Scope) (numbers : List ℤ) : Type 0 where
  pub inside : IsInside numbers own
  pub number : (k : ℕ) → number_of numbers own k ≡ numbers_of (struct_cells set) d numbers base k

pub seen : {set : Set} {d : Desc} {base : ℕ} {own : Scope} {numbers : List ℤ} → IsScope set d base own → length numbers ≤ MOST_ITEMS
    → base + length (desc_cells (struct_cells set) d) ≤ length numbers → IsSeen set d base own numbers
seen {set} {d} {base} {own} {numbers} s few room =
    let small : length (desc_cells (struct_cells set) d) ≤ MOST_ITEMS = omega arith in
    record {
      inside = record {
        starts = omega (arith, ap length s.fields, s.starts.long);
        cells = λ k asked. rw (s.fields, s.first) (cells_inside set d small own.starts.now s.starts base (length numbers) room k (rw s.fields at asked));
      };
      number = λ k. rw (s.fields, s.first, place_in_is set d small own.starts.now s.starts base k);
    }

-- the cells of the parent are there, and its numbers are those of the part's parent
pub parent_is : (set : Set) (part : Part) (parent : Option Scope) (numbers : List ℤ) → IsParent set part parent → length numbers ≤ MOST_ITEMS
    → HasParentCells set part (length numbers)
    → IsInsideParent numbers parent × ((k : ℕ) → number_of_parent numbers parent k ≡ parent_of set part numbers k)
parent_is set (parts.Sub i j) None numbers p few h = absurd p
parent_is set (parts.Sub i j) (Some s) numbers p few h = let r = seen p few (omega arith) in (r.inside, r.number)
parent_is set part None numbers p few h = (tt, λ k. refl)
parent_is set part (Some s) numbers p few h = absurd p

-- ---- the low bytes of a number

-- the low bytes of the low eight are the number modulo 2 ^ (8 w)
pub residue_cut : (kind : Kind) (z : ℤ) → residue 8 z % 2 ^ (8 * width kind) ≡ residue (width kind) z
residue_cut kind z = grind arith
