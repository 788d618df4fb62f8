-- Names from cells: a part's fields one after the other, one element, and the subsections of a device.
use Rattle.vms_values.proofs.Facade
use Facade.{lt_of_mul-lt-mul_right, ◌≡◌, ℕ, zero, suc, ◌+◌, ◌*◌, ◌<◌, List, [], ◌∷◌, ◌++◌, length, get_or, map, drop, ℤ, pos}
use Facade.{refl, sym, ap, ◌∙◌, subst, arith, append_assoc, append-nil, true, ◌-◌, ◌≤◌, ◌/◌, ◌%◌, length-append, codes, None, flat_map}
use Facade.{length-map, get_or_append_left, get_or-map, drop_more, ltb-true, get_or-append_right, div-add-mod', mod-lt, Item, Num, Struct, Set, Field, Device}
use Facade.{Sub, AtLeast, Desc, own_cells, default_image, Cell, no_desc, item_size, field_cells, desc_cells, struct_cells, capacity_of, counted, first}
use Facade.{numbers_of, no_parent, device_cells, field_size, field_at, device_at, is_well_formed, sub_at, HasPart, desc_at, size_in, cells_table, struct_size}
use Facade.{reach, field_clean, Part, uses_below, own_cell_count, item_rank, part_rank, reach_whole, uses_more, rank_below, fields_at, Shape, no_shape, shape}
use Facade.{shapes, item_elements, stand_of, field_elements, elements_from, desc_elements, names_of, absent, elements_in, subs_elements, cell_name, first_at}
use Facade.{shapes_cells, AreWalked, are_walked, is_dotted, names_append, names_long, names_map, item_walks, field_walks, fields_walk, desc_walks}
use Facade.{desc_names_are, walks, array_name, names_absent, usable, element_text, part_names, item_names, field_name, IsInPart, sub_inside, own_inside_device}
use Facade.{few_cells, map-append, slice_get-get_or, get_or-drop, Kind, U8, item_cells, cells_from, times, size_same, cells_of_sub, first_cell, kinds_at, table}
use Facade.{cells_in as table_cells, all_below, struct_cells_at, struct_clean, AreKinds, ElementKinds, part_cells, drop_on}
use Rattle.vms_elements.specs.Elements.{cells_in}
use Rattle.vms_spec.specs.declared.Part.TheVariants as parts

pub positive : (n size c : ℕ) → c < n * size → 0 < size
positive n size c lt = grind arith

fewer : (q n size r left : ℕ) → q * size + r ≡ left → left < n * size → q < n
fewer q n size r left e lt = lt_of_mul-lt-mul_right size (omega arith)

module _ (set : Set) where
  -- the table of a part is one of the first tables
  usable_is : (part : Part) → HasPart set part → usable set part ≡ first shape set.structs (reach set part)
  usable_is part h = grind arith

  walked_in : (part : Part) → HasPart set part → AreWalked (usable set part)
  walked_in part h = rw (usable_is part h) (are_walked set.structs (reach set part))

  -- a name for each cell
  long_in : (ss : List Shape) → AreWalked ss → (item : Item) → length (names_of (item_elements ss item [] (pos 0) [] 0)) ≡ item_size (cells_in ss) item
  long_in ss walked item = names_long (item_elements ss item [] (pos 0) [] 0) ∙ ap length (item_walks ss walked item [] (pos 0) [] [] 0 0).cells_are

  -- an item that a part may use has the names that it has among all
  item_in : (k : ℕ) → k ≤ length set.structs → (item : Item) → uses_below k item ≡ true → (caps : List ℕ) (z : ℤ) (n : List ℤ) (a : ℕ)
      → names_of (item_elements (first shape set.structs k) item caps z n a) ≡ item_names set item
  item_in k le (Struct j) e caps z n a =
      let lt : j < k = ltb-true j k e in
      let lt' : j < length set.structs = omega arith in
      (item_walks (first shape set.structs k) (are_walked set.structs k) (Struct j) caps z n [] a 0).names
      ∙ rw (first_at shape set.structs no_shape k j lt, first_at shape set.structs no_shape (length set.structs) j lt')
  item_in k le _ e caps z n a = refl

  item_long : (item : Item) → length (item_names set item) ≡ size_in set item
  item_long item =
      long_in (shapes set) (are_walked set.structs (length set.structs)) item
      ∙ rw (shapes_cells set.structs (length set.structs), cells_table set)

  -- the names in one element of a structure
  pub struct_name : (j : ℕ) → j < length set.structs → (c : ℕ) → c < size_in set (Struct j) → get_or (item_names set (Struct j)) c [] ≡ codes "." ++ get_or (part_names set (parts.Struct j)) c []
  struct_name j lt c small =
      let d = get_or set.structs j no_desc in
      let ss = first shape set.structs j in
      let names = names_of (desc_elements ss d d.version [] 0) in
      let is : item_names set (Struct j) ≡ map (λ l. codes "." ++ l) names =
      rw (first_at shape set.structs no_shape (length set.structs) j lt) (names_map is_dotted (desc_elements ss d d.version [] 0)) in
      let long : length names ≡ size_in set (Struct j) = sym (length-map names (λ l. codes "." ++ l)) ∙ ap length (sym is) ∙ item_long (Struct j) in
      ap (λ l. get_or l c []) is ∙ get_or-map (λ l. codes "." ++ l) names c [] [] (omega arith)
      ∙ ap (λ l. codes "." ++ get_or l c []) (desc_walks ss (are_walked set.structs j) d d.version 0 [] [] 0 0).names

  -- the names of the fields from k on
  abbrev pub names_from : Part → ℕ → List (List ℕ)
  names_from part k = names_of (elements_from (usable set part) (desc_at set part).fields 0 no_parent [] k 0 (drop k (desc_at set part).fields))

  pub all_names : (part : Part) → HasPart set part → part_names set part ≡ names_from part 0
  all_names part h =
      let d = desc_at set part in
      let own = numbers_of (cells_in (usable set part)) d [] 0 in
      desc_names_are _ (walked_in part h) d 0 [] 0 ∙ (fields_walk (usable set part) (walked_in part h) d.fields 0 0 own no_parent [] [] 0 0 0 d.fields).names

  item_step : (part : Part) → HasPart set part → (item : Item) → uses_below (reach set part) item ≡ true
      → item_size (cells_in (usable set part)) item ≡ size_in set item
  item_step part h item uses =
      sym (long_in (usable set part) (walked_in part h) item) ∙ ap (λ t. length (names_of (item_elements t item [] (pos 0) [] 0))) (usable_is part h)
      ∙ ap length (item_in _ (reach_whole set part h) _ uses [] _ [] 0) ∙ item_long item

  field_long : (part : Part) → HasPart set part → (k : ℕ) (f : Field) → uses_below (reach set part) f.item ≡ true
      → length (names_of (field_elements (usable set part) (desc_at set part).fields 0 no_parent [] k 0 f)) ≡ capacity_of f.count * size_in set f.item
  field_long part h k f uses =
      let all = (desc_at set part).fields in
      let ss = usable set part in
      names_long (field_elements ss all 0 no_parent [] k 0 f)
      ∙ rw ((field_walks ss (walked_in part h) all 0 0 no_parent no_parent [] [] k 0 0 f).cells_are, field_size (cells_in ss) all k f, item_step part h f.item uses)

  in_field : (part : Part) → HasPart set part → (k : ℕ) (f : Field) → uses_below (reach set part) f.item ≡ true → (left : ℕ) → left < capacity_of f.count * size_in set f.item
      → get_or (names_of (field_elements (usable set part) (desc_at set part).fields 0 no_parent [] k 0 f)) left [] ≡ field_name set f left
  in_field part h k f uses left small =
      let all = (desc_at set part).fields in
      let ss = usable set part in
      let size = size_in set f.item in
      let q = left / size in
      let r = left % size in
      let names : (a : ℕ) → names_of (item_elements ss f.item (counted k all) f.default [] a) ≡ item_names set f.item =
      λ a. rw (usable_is part h) (item_in (reach set part) (reach_whole set part h) f.item uses (counted k all) f.default [] a) in
      let step_is : item_size (cells_in ss) f.item ≡ size = item_step part h f.item uses in
      let divided : q * size + r ≡ left = div-add-mod' left size in
      let rest : r < size = mod-lt left (positive (capacity_of f.count) size left small) in
      let index : q < capacity_of f.count = fewer q (capacity_of f.count) size r left divided small in
      array_name f (stand_of k f 0 no_parent) (item_elements ss f.item (counted k all) f.default []) (item_names set f.item) (item_size (cells_in ss) f.item) names (item_long f.item ∙ sym step_is) q 0 (capacity_of f.count) 0 r left q index (omega arith)
      (sym (rw step_is (divided))) (omega arith)

  pub record NextNames (part : Part) (k left : ℕ) (f : Field) : Type 0 where
    pub uses : uses_below (length set.structs) f.item ≡ true
    pub lower : item_rank f.item + 1 < part_rank set part + 2
    pub some : 1 ≤ capacity_of f.count
    pub long : length (names_from part k) ≡ capacity_of f.count * size_in set f.item + length (names_from part (k + 1))
    pub here : left < capacity_of f.count * size_in set f.item → get_or (names_from part k) left [] ≡ field_name set f left
    pub later : capacity_of f.count * size_in set f.item ≤ left → get_or (names_from part k) left [] ≡ get_or (names_from part (k + 1)) (left - capacity_of f.count * size_in set f.item) []

  pub next_names : is_well_formed set ≡ true → (part : Part) → HasPart set part → (k left : ℕ) (f : Field) → k < length (desc_at set part).fields → f ≡ field_at set part k → NextNames part k left f
  next_names well part h k left f lt is =
      let all = (desc_at set part).fields in
      let ss = usable set part in
      let clean = field_clean set well part h k lt in
      let uses : uses_below (reach set part) f.item ≡ true = rw is clean.uses in
      let size = size_in set f.item in
      let step = item_size (cells_in ss) f.item in
      let mine = names_of (field_elements ss all 0 no_parent [] k 0 f) in
      let many = field_long part h k f uses in
      let split : names_from part k ≡ mine ++ names_from part (k + 1) =
      ap (λ l. names_of (elements_from ss all 0 no_parent [] k 0 l)) (fields_at all k lt ∙ ap (λ x. x ∷ drop (k + 1) all) (sym is))
      ∙ names_append (field_elements ss all 0 no_parent [] k 0 f) (elements_from ss all 0 no_parent [] (suc k) (0 + length (field_cells (cells_in ss) all k f)) (drop (k + 1) all))
      ∙ ap (λ l. mine ++ l) (fields_walk ss (walked_in part h) all 0 0 no_parent no_parent [] [] (suc k) (0 + length (field_cells (cells_in ss) all k f)) 0 (drop (k + 1) all)).names
      ∙ ap (λ i. mine ++ names_of (elements_from ss all 0 no_parent [] i 0 (drop (k + 1) all))) (omega arith) in
      record {
        uses = uses_more (reach set part) (length set.structs) f.item (reach_whole set part h) uses;
        lower = omega (arith, rank_below (reach set part) f.item uses);
        some = rw is clean.some;
        long = rw (split, length-append mine (names_from part (k + 1)), many);
        here = λ small. rw split (get_or_append_left mine (names_from part (k + 1)) [] left (omega arith)
            ∙ in_field part h k f uses left small);
        later = λ past. rw (split, get_or-append_right mine (names_from part (k + 1)) left [] (omega arith), many);
      }

  pub part_long : is_well_formed set ≡ true → (part : Part) → HasPart set part → length (part_names set part) ≡ own_cell_count set (desc_at set part)
  part_long well part h =
      let ss = usable set part in
      let d = desc_at set part in
      names_long (desc_elements ss d 0 [] 0) ∙ ap length (desc_walks ss (walked_in part h) d 0 0 [] [] 0 0).cells_are
      ∙ rw (usable_is part h, shapes_cells set.structs (reach set part)) (by_part part h)
    where
      by_part : (part : Part) → HasPart set part → length (desc_cells (first desc_cells set.structs (reach set part)) (desc_at set part)) ≡ own_cell_count set (desc_at set part)
      by_part parts.Set h = absurd h
      by_part (parts.Struct j) lt =
          ap length (sym (first_at desc_cells _ [] _ _ lt))
          ∙ ap (λ cs. length (get_or cs j [])) (sym (cells_table set)) ∙ struct_size set well j lt
      by_part _ h = refl

  -- a field's path and what comes after it
  pub element_is : (f : Field) (path : List ℕ) (step cell : ℕ) → step ≡ size_in set f.item
      → (path ++ element_text f (cell / step)) ++ get_or (item_names set f.item) (cell % step) [] ≡ path ++ field_name set f cell
  element_is f path step cell s =
      rw s (append_assoc path (element_text f (cell / size_in set f.item)) (get_or (item_names set f.item) (cell % size_in set f.item) []))

  -- only a structure has cells with a path of their own
  pub nothing_after : (item : Item) (cell : ℕ) → ((j : ℕ) → item ≡ Struct j → ⊥) → get_or (item_names set item) cell [] ≡ []
  nothing_after item cell other = grind arith

-- ---- Names from cells: a device's own fields, and its subsections one after the other.

-- the names of one description, whatever the state
abbrev pub desc_names_of : Set → Desc → List (List ℕ)
desc_names_of set d = names_of (elements_in set d 0 [] 0)

abbrev subs_names : Set → List Sub → List (List ℕ)
subs_names set subs = flat_map (λ s. desc_names_of set s.desc) subs

-- those of a device's subsections from j on
abbrev pub names_of_subs : Set → ℕ → ℕ → List (List ℕ)
names_of_subs set i j = subs_names set (drop j (device_at set i).subs)

same_desc : (set : Set) (d : Desc) (v : ℕ) (n : List ℤ) (a : ℕ) → names_of (elements_in set d v n a) ≡ desc_names_of set d
same_desc set d v n a = (walks set d v 0 n [] a 0).names

none_came : (set : Set) (subs : List Sub) (n : List ℤ) (a : ℕ) → names_of (subs_elements set subs (map (λ s. None) subs) n a) ≡ subs_names set subs
none_came set [] n a = refl
none_came set (s ∷ subs) n a =
    let next = a + length (desc_cells (struct_cells set) s.desc) in
    rw (
      names_append (map absent (elements_in set s.desc s.desc.version n a)) (subs_elements set subs (map (λ s. None) subs) n next),
      names_absent (elements_in set s.desc s.desc.version n a),
      same_desc set s.desc s.desc.version n a,
      none_came set subs n next,
    )

-- the names of a device are its own and its subsections'
pub device_names : (set : Set) (d : Device) (c : ℕ) → cell_name set d c ≡ get_or (desc_names_of set d.desc ++ subs_names set d.subs) c []
device_names set d c =
    let image = default_image set d in
    let own = elements_in set d.desc image.version image.numbers 0 in
    let subs = subs_elements set d.subs image.came image.numbers (own_cells set d) in
    rw (names_append own subs, same_desc set d.desc image.version image.numbers 0, none_came set d.subs image.numbers (own_cells set d))

module _ (set : Set) (well : is_well_formed set ≡ true) (i : ℕ) (lt : i < length set.devices) where
  own_long : length (desc_names_of set (device_at set i).desc) ≡ own_cell_count set (device_at set i).desc
  own_long = part_long _ well (parts.Device i) lt

  sub_long : (j : ℕ) → j < length (device_at set i).subs → length (desc_names_of set (sub_at (device_at set i) j).desc) ≡ own_cell_count set (sub_at (device_at set i) j).desc
  sub_long j lt' = part_long set well (parts.Sub i j) (lt, lt')

  -- in the device's own fields
  pub in_own : (c : ℕ) → c < own_cell_count set (device_at set i).desc → IsInPart set i c (record { part = parts.Device i; cell = c })
  in_own c small = record {
    part = lt;
    small = omega (arith, own_inside_device set i, few_cells set well i);
    inside = small;
    same = sym (device_names set (device_at set i) c ∙ get_or_append_left (desc_names_of set (device_at set i).desc) (names_of_subs set i 0) [] c (omega (arith, own_long)));
  }

  pub past_own : (c : ℕ) → own_cell_count set (device_at set i).desc ≤ c
      → cell_name set (device_at set i) c ≡ get_or (names_of_subs set i 0) (c - own_cell_count set (device_at set i).desc) []
  past_own c past =
      device_names set (device_at set i) c
      ∙ rw (get_or-append_right (desc_names_of set (device_at set i).desc) (names_of_subs set i 0) c [] (omega (arith, own_long)), own_long)

  -- the subsections from j on
  split : (j : ℕ) → j < length (device_at set i).subs → names_of_subs set i j ≡ desc_names_of set (sub_at (device_at set i) j).desc ++ names_of_subs set i (j + 1)
  split j lt' = ap (subs_names set) (drop_more (device_at set i).subs j (record { desc = no_desc; needed = AtLeast 0 }) lt')

  pub in_sub : (c j left : ℕ) → j < length (device_at set i).subs → left < own_cell_count set (sub_at (device_at set i) j).desc
      → cell_name set (device_at set i) c ≡ get_or (names_of_subs set i j) left [] → IsInPart set i c (record { part = parts.Sub i j; cell = left })
  in_sub c j left lt' small same = record {
    part = (lt, lt');
    small = omega (arith, sub_inside set i j lt', few_cells set well i);
    inside = small;
    same = rw (same, split j lt')
        (sym (get_or_append_left (desc_names_of set (sub_at (device_at set i) j).desc) (names_of_subs set i (j + 1)) [] left (omega (arith, sub_long j lt'))));
  }

  pub past_sub : (j left : ℕ) → j < length (device_at set i).subs → own_cell_count set (sub_at (device_at set i) j).desc ≤ left
      → get_or (names_of_subs set i j) left [] ≡ get_or (names_of_subs set i (j + 1)) (left - own_cell_count set (sub_at (device_at set i) j).desc) []
  past_sub j left lt' past =
      let own = desc_names_of set (sub_at (device_at set i) j).desc in
      rw (split j lt', get_or-append_right own (names_of_subs set i (j + 1)) left [] (omega (arith, sub_long j lt')), sub_long j lt')

  pub subs_longer : (j : ℕ) → j < length (device_at set i).subs → length (names_of_subs set i j) ≡ own_cell_count set (sub_at (device_at set i) j).desc + length (names_of_subs set i (j + 1))
  subs_longer j lt' =
      rw (split j lt', length-append (desc_names_of set (sub_at (device_at set i) j).desc) (names_of_subs set i (j + 1)), sub_long j lt')

  -- a name for each cell
  subs_all : (subs : List Sub) → ((j : ℕ) → j < length subs → length (desc_names_of set (get_or subs j (record { desc = no_desc; needed = AtLeast 0 })).desc) ≡ length (desc_cells (struct_cells set) (get_or subs j (record { desc = no_desc; needed = AtLeast 0 })).desc))
      → length (subs_names set subs) ≡ length (flat_map (λ s. desc_cells (struct_cells set) s.desc) subs)
  subs_all [] h = refl
  subs_all (s ∷ subs) h =
      let rest = subs_all subs (λ j l. h (suc j) (omega arith)) in
      let here = h 0 (omega arith) in
      omega (arith, length-append (desc_names_of set s.desc) (subs_names set subs), length-append (desc_cells (struct_cells set) s.desc) (flat_map (λ s. desc_cells (struct_cells set) s.desc) subs))

  pub all_long : length (names_of_subs set i 0) + own_cell_count set (device_at set i).desc ≡ length (device_cells set (device_at set i))
  all_long =
      let d = device_at set i in
      omega (arith, subs_all d.subs sub_long, length-append (desc_cells (struct_cells set) d.desc) (flat_map (λ s. desc_cells (struct_cells set) s.desc) d.subs))

abbrev kinds_in : List Cell → List Kind
kinds_in cells = map (λ (c : Cell). c.kind) cells

module _ (kinds : List Kind) (at : ℕ) (xs ys : List Cell) (s : AreKinds kinds at (xs ++ ys)) where
  apart : drop at kinds ≡ kinds_in xs ++ (kinds_in ys ++ s.more)
  apart = rw (s.is, map-append (λ (c : Cell). c.kind) xs ys, append_assoc (kinds_in xs) (kinds_in ys) s.more)

  pub front_kinds : AreKinds kinds at xs
  front_kinds = record { more = kinds_in ys ++ s.more; is = apart }

  pub rest_kinds : AreKinds kinds (at + length xs) ys
  rest_kinds = record {
    more = s.more;
    is = rw (sym (length-map xs (λ (c : Cell). c.kind))) (drop_on _ _ _ _ apart);
  }

-- cells of the same kinds
same_kinds : (kinds : List Kind) (at : ℕ) (xs ys : List Cell) → kinds_in xs ≡ kinds_in ys → AreKinds kinds at xs → AreKinds kinds at ys
same_kinds kinds at xs ys e s = record { more = s.more; is = rw (s.is, e) }

bare : (cs : List (List Cell)) (item : Item) (caps : List ℕ) (z : ℤ) → kinds_in (item_cells cs item caps z) ≡ kinds_in (item_cells cs item [] (pos 0))
bare cs item caps z = grind arith

elements_kinds : (cs : List (List Cell)) (item : Item) (caps : List ℕ) (z : ℤ) (kinds : List Kind) (n at a step : ℕ)
    → AreKinds kinds at (times n (λ _. item_cells cs item caps z) a step) → ElementKinds cs item kinds at n
elements_kinds cs item caps z kinds zero at a step s i lt = absurd (omega arith)
elements_kinds cs item caps z kinds (suc n) at a step s zero lt = grind (arith, same_kinds, front_kinds)
elements_kinds cs item caps z kinds (suc n) at a step s (suc i) lt =
    let cells = item_cells cs item caps z in
    let later = times _ (λ _. cells) _ step in
    let size = item_size cs item in
    let rest : AreKinds kinds (at + size) later = rw (size_same cs item caps z) at (rest_kinds kinds at cells later s) in
    let next : (at + size) + i * size ≡ at + suc i * size = grind arith in
    rw next at (elements_kinds cs item caps z kinds n (at + size) (a + step) step rest i (omega arith))

-- the elements of the next field, and the fields after it
pub record FieldKinds (cs : List (List Cell)) (fields : List Field) (kinds : List Kind) (k at : ℕ) (f : Field) (more : List Field) : Type 0 where
  pub here : ElementKinds cs f.item kinds at (capacity_of f.count)
  pub later : AreKinds kinds (at + capacity_of f.count * item_size cs f.item) (cells_from cs fields (k + 1) more)

pub field_kinds : (cs : List (List Cell)) (fields : List Field) (kinds : List Kind) (k at : ℕ) (f : Field) (left more : List Field) → left ≡ f ∷ more
    → AreKinds kinds at (cells_from cs fields k left) → FieldKinds cs fields kinds k at f more
field_kinds cs fields kinds k at f left more e s =
    let here = field_cells cs fields k f in
    let later = cells_from cs fields (suc k) more in
    let both : AreKinds kinds at (here ++ later) = rw e at s in
    record {
      here = elements_kinds cs f.item (counted k fields) f.default _ _ _ 0 0 (front_kinds _ _ _ later both);
      later = subst (λ (j : ℕ). AreKinds kinds (at + capacity_of f.count * item_size cs f.item) (cells_from cs fields j more)) (omega arith)
          (rw (field_size cs fields k f) at (rest_kinds kinds at here later both));
    }

-- the number of an element, and its fields
pub number_kind : (cs : List (List Cell)) (kinds : List Kind) (at : ℕ) (kind : Kind) → AreKinds kinds at (item_cells cs (Num kind) [] (pos 0)) → get_or kinds at U8 ≡ kind
number_kind cs kinds at kind s =
    let here : at ≡ at + 0 = omega arith in
    ap (λ (k : ℕ). get_or kinds k U8) here ∙ rw (← get_or-drop at kinds 0 U8, s.is)

pub struct_kinds : (set : Set) → is_well_formed set ≡ true → (j : ℕ) → j < length set.structs → (kinds : List Kind) (at : ℕ)
    → AreKinds kinds at (item_cells (table_cells (table set)) (Struct j) [] (pos 0)) → AreKinds kinds at (part_cells set (parts.Struct j))
struct_kinds set well j lt kinds at s =
    let below = all_below j (get_or set.structs j no_desc).fields (λ i l. ((struct_clean set well j lt).fields i l).uses) in
    rw (struct_cells_at set.structs (length set.structs) j lt below) at s

module _ (set : Set) (i : ℕ) (kinds : List Kind) (are : kinds ≡ kinds_at set i) where
  abbrev d : Device
  d = device_at set i

  abbrev own : List Cell
  own = desc_cells (struct_cells set) d.desc

  abbrev others : List Cell
  others = flat_map (λ s. desc_cells (struct_cells set) s.desc) d.subs

  all_kinds : AreKinds kinds 0 (own ++ others)
  all_kinds = record { more = []; is = are ∙ sym (append-nil (kinds_in (own ++ others))) }

  pub own_kinds : AreKinds kinds 0 (part_cells set (parts.Device i))
  own_kinds = rw (cells_table set) (front_kinds _ 0 _ others all_kinds)

  pub sub_kinds : (j : ℕ) → j < length d.subs → AreKinds kinds (first_cell set (parts.Sub i j)) (part_cells set (parts.Sub i j))
  sub_kinds j lt =
      let rest : AreKinds kinds (own_cells set d) others = subst (λ (k : ℕ). AreKinds kinds k others) (omega arith) (rest_kinds kinds 0 own others all_kinds) in
      rw (cells_table set) (cells_of_sub (AreKinds kinds) (front_kinds kinds) (rest_kinds kinds) set (own_cells set d) d.subs j (sub_at d j) (slice_get-get_or d.subs j _ lt) rest)
