-- Reading the fields of a description, beside its elements.
use Rattle.vms_values_laws.proofs.Facade
use Facade.{◌≡◌, ℕ, List, ◌∷◌, ◌++◌, map, refl, sym, ap, ◌∙◌, Bool, true, false, ◌&&◌, if◌then◌else◌, append_assoc, codes, []}
use Facade.{zero, suc, ◌+◌, ◌*◌, ◌≤◌, length, get_or, drop, ℤ, arith, append-nil, map-append, length-append, and_assoc, and-true, decimal}
use Facade.{Element, dotted, behind, Shape, no_shape, shape, shapes, cells_in, single, Rule, item_elements, Stand, stand_of, array_elements, field_elements}
use Facade.{elements_from, desc_elements, index_text, is_number, printed, printed_append, Item, Num, Struct, Count, One, Fixed, Counted, Field, Desc, Set, Cell}
use Facade.{no_desc, no_field, first, counted, capacity_of, elements_of, item_size, field_cells, cells_from, desc_cells, struct_cells, numbers_of, place_of}
use Facade.{all_hold, Standing, Read, Reader, no_reader, reader, readers, read_item, read_elements, read_array, read_field, read_fields, read_desc}
use Facade.{elements_fit, field_size, IsNumber, IsOne, IsEarlier, IsSoundField, AreSoundFields, IsSound, AreSound, there_same, elements_same, place_next}
use Facade.{drop_next, zero_plus, place_first, first_long, readers_cells, two_more, shapes_cells, Said, Agrees}
use Rattle.vms_values_laws.proofs.SaidLaws.{Knows, AllKnown, At, Comes, at_left, stay, then_comes, one_line, by_read}
use Rattle.vms_spec.specs.ValuesReading.{cells_of}

-- ---- The printed elements under a path.

-- an element after these steps, of this text
abbrev pub under : List (ℕ × ℕ) → List ℕ → Bool → Element → Element
under steps text present x = record x { path = steps ++ x.path; name = text ++ x.name; present = present && x.present }

abbrev pub wrapped : List (ℕ × ℕ) → List ℕ → Bool → List Element → List Element
wrapped steps text present xs = map (under steps text present) (printed xs)

-- what is printed of elements that a function made, which keeps which are printed
module _ (f u v : Element → Element) (same : (x : Element) → u (f x) ≡ v x)
    (kept : (x : Element) → ((f x).counted && is_number (f x).what) ≡ (x.counted && is_number x.what)) where
  printed_map : (xs : List Element) → map u (printed (map f xs)) ≡ map v (printed xs)
  printed_map [] = refl
  printed_map (x ∷ xs) = rw (kept x) (go _ (printed_map xs)) where
    go : (b : Bool) → map u (printed (map f xs)) ≡ map v (printed xs)
        → map u (if b then f x ∷ printed (map f xs) else printed (map f xs)) ≡ map v (if b then x ∷ printed xs else printed xs)
    go true more = rw (same x, more)
    go false more = more

module _ (steps : List (ℕ × ℕ)) (text : List ℕ) (present : Bool) where
  pub wrapped_append : (xs ys : List Element) → wrapped steps text present (xs ++ ys) ≡ wrapped steps text present xs ++ wrapped steps text present ys
  wrapped_append xs ys = rw (printed_append xs ys) (map-append (under steps text present) (printed xs) (printed ys))

  pub wrapped_behind : (step : ℕ × ℕ) (name : List ℕ) (p : Bool) (xs : List Element)
      → wrapped steps text present (map (behind step name true p) xs) ≡ wrapped (steps ++ step ∷ []) (text ++ name) (present && p) xs
  wrapped_behind step name p xs =
      printed_map _ _ _ (λ x. rw (append_assoc steps (step ∷ []) x.path, append_assoc text name x.name, and_assoc present p x.present)) (λ x. refl) xs

  pub wrapped_none : (step : ℕ × ℕ) (name : List ℕ) (p : Bool) (xs : List Element) → wrapped steps text present (map (behind step name false p) xs) ≡ []
  wrapped_none step name p [] = refl
  wrapped_none step name p (x ∷ xs) = wrapped_none step name p xs

  pub wrapped_dotted : (xs : List Element) → wrapped steps text present (map dotted xs) ≡ wrapped steps (text ++ codes ".") present xs
  wrapped_dotted xs = printed_map dotted _ _ (λ x. rw (append_assoc text (codes ".") x.name)) (λ x. refl) xs

-- ---- Reading the fields of a description, beside its elements.

brackets : ℕ → List ℕ
brackets e = codes "[" ++ (decimal e ++ codes "]")

element_path : (path : List ℕ) (e : ℕ) → path ++ (codes "[" ++ (decimal e ++ codes "]")) ≡ path ++ codes "[" ++ decimal e ++ codes "]"
element_path path e = simp append_assoc

module _ (steps : List (ℕ × ℕ)) (path : List ℕ) (present : Bool) (f : Field) (stand : Stand) (part : ℕ → List Element) (step : ℕ) where
  -- elements past the count are not printed
  past_count : (e k at : ℕ) → stand.count ≤ e → wrapped steps path present (array_elements f stand part step e k at) ≡ []
  past_count e zero at le = refl
  past_count e (suc k) at le = grind (arith, wrapped_append, wrapped_none, past_count (suc e) k (at + step) (omega arith))

  -- the first element of an array that has some, and those after it
  first_counted : (e k m at : ℕ) → stand.count ≡ e + suc m → wrapped steps path present (array_elements f stand part step e (suc k) at)
      ≡ wrapped (steps ++ (stand.number, e) ∷ []) (path ++ (f.name ++ index_text f.count e)) (present && stand.there) (part at)
      ++ wrapped steps path present (array_elements f stand part step (suc e) k (at + step))
  first_counted e k m at c = grind (arith, wrapped_append, and-true, wrapped_behind)

dropped : (fields : List Field) (i : ℕ) (f : Field) (fs : List Field) → drop i fields ≡ f ∷ fs → get_or fields i no_field ≡ f
dropped (g ∷ fields) (suc i) f fs e = dropped fields i f fs e
dropped _ zero f fs e = cc
dropped _ (suc i) f fs e = cc

-- a single number, whose cell is then known
abbrev pub single_cell : Item → ℕ → List ℕ
single_cell (Num kind) at = at ∷ []
single_cell item at = []

abbrev pub known_cell : Count → Item → ℕ → List ℕ
known_cell One item at = single_cell item at
known_cell count item at = []

is_known : (count : Count) (item : Item) (at : ℕ) (said : List Said) → IsNumber item → IsOne count → AllKnown (known_cell count item at) said → Knows said at
is_known count item at said n o k = grind arith

-- what is known of the fields before the next one
known_next : (cs : List (List Cell)) (d : Desc) (base i at : ℕ) (f : Field) (fs : List Field) (said more : List Said) → drop i d.fields ≡ f ∷ fs
    → at ≡ place_of cs d.fields 0 base d.fields i → ((m : List ℤ) → Agrees more m → Agrees said m)
    → ((j : ℕ) → IsEarlier d.fields i j → Knows said (place_of cs d.fields 0 base d.fields j)) → AllKnown (known_cell f.count f.item at) more
    → (j : ℕ) → IsEarlier d.fields (suc i) j → Knows more (place_of cs d.fields 0 base d.fields j)
known_next cs d base i at f fs said more is here grows known k j x = grind (arith, dropped, is_known)

module _ (total : List ℤ → List Element) (start : Standing) (low : ℕ) where
  abbrev Here : ℕ → Standing → List Said → (List ℤ → List Element) → Type 0
  Here at p said left = At total start low at p said left

  abbrev Came : ℕ → List ℕ → List Said → (List ℤ → List Element) → Read → Type 0
  Came at known said left r = Comes total start low at known said left r

  -- a structure's lines are those of its elements, at any cell
  pub record ReadsShape (r : Reader) (s : Shape) : Type 0 where
    pub shape_comes : (steps : List (ℕ × ℕ)) (path : List ℕ) (present : Bool) (at end : ℕ) (p : Standing) (said : List Said) (left : List ℤ → List Element)
        → end ≡ at + length r.cells → end ≤ length start.numbers → Here at p said (λ m. wrapped steps path present (s.elements m at) ++ left m)
        → Came end [] said left (r.reads path present at p)

  none_reads : ReadsShape no_reader no_shape
  none_reads = record { shape_comes = λ steps path present at end p said left e room a. stay total start low (omega arith) a }

  module _ (rs : List Reader) (ss : List Shape) (cells : cells_in ss ≡ cells_of rs)
      (reads : (j : ℕ) → ReadsShape (get_or rs j no_reader) (get_or ss j no_shape)) where
    cells_get : (ts : List Reader) (j : ℕ) → (get_or ts j no_reader).cells ≡ get_or (cells_of ts) j []
    cells_get (t ∷ ts) (suc j) = cells_get ts j
    cells_get _ _ = refl

    item_comes : (f : Field) (item : Item) (caps : List ℕ) (steps : List (ℕ × ℕ)) (path : List ℕ) (present : Bool) (at end : ℕ) (p : Standing)
        → (said : List Said) → (left : List ℤ → List Element) → end ≡ at + item_size (cells_of rs) item → end ≤ length start.numbers
        → Here at p said (λ m. wrapped steps path present (item_elements ss item caps f.default m at) ++ left m)
        → Came end (single_cell item at) said left (read_item rs f caps path present at item p)
    item_comes f (Num kind) caps steps path present at end p said left e room a =
        rw e (by_read total start low _ p said left (omega arith)
        (at_left total start low (λ m g. ap (λ x. x ∷ left m) (rw (append-nil steps, append-nil path, and-true present))) a) _
        (one_line steps path present at (record { kind = kind; capacities = caps; default = f.default }) p))
    item_comes f (Struct j) caps steps path present at end p said left e room a =
        (reads j).shape_comes steps (path ++ codes ".") present at end p said left (omega (arith, ap length (cells_get rs j))) room
        (at_left total start low (λ m g. rw (wrapped_dotted steps path _ _)) a)
    item_comes f _ caps steps path present at end p said left e room a = stay total start low (omega arith) a

    module _ (f : Field) (stand : Stand) (caps : List ℕ) (steps : List (ℕ × ℕ)) (path : List ℕ) (present : Bool) where
      abbrev size : ℕ
      size = item_size (cells_of rs) f.item

      -- an element at a cell, and the elements from e on
      abbrev part : List ℤ → ℕ → List Element
      part n at = item_elements ss f.item caps f.default n at

      abbrev parts : ℕ → ℕ → ℕ → List ℤ → List Element
      parts e k at n = wrapped steps path present (array_elements f stand (part n) size e k at)

      -- elements of an array, from element e on
      items_comes : ((e : ℕ) → index_text f.count e ≡ brackets e) → (e k m at end : ℕ) (p : Standing) (said : List Said) (left : List ℤ → List Element)
          → stand.count ≡ e + m → m ≤ k → end ≡ at + k * size → end ≤ length start.numbers → Here at p said (λ n. parts e k at n ++ left n)
          → Came end [] said left (read_elements rs f caps (path ++ f.name) (present && stand.there) at size e m p)
      unfolding brackets
      items_comes many e k zero at end p said left c le is room a =
          stay total start low (omega arith) (at_left total start low (λ n g. rw (past_count steps path _ f stand _ size e k at (omega arith))) a)
      items_comes many e zero (suc m) at end p said left c le is room a = absurd (omega arith)
      items_comes many e (suc k) (suc m) at end p said left c le is room a =
          let b = present && stand.there in
          let element = path ++ f.name ++ codes "[" ++ decimal e ++ codes "]" in
          let name : path ++ (f.name ++ index_text f.count e) ≡ element = rw (many e) (sym (append_assoc path f.name (brackets e)) ∙ element_path _ e) in
          let later : List ℤ → List Element = λ n. parts (suc e) k (at + size) n ++ left n in
          then_comes total start low (read_item rs f caps element b at f.item p) _
          (item_comes f f.item caps _ _ b at _ p said later refl (omega arith)
          (at_left total start low (λ n g. ap (λ l. l ++ left n) (first_counted steps path present f stand (part n) size e k m at c)
          ∙ append_assoc (wrapped (steps ++ (stand.number, e) ∷ []) (path ++ (f.name ++ index_text f.count e)) b (part n at)) _ (left n)
          ∙ ap (λ l. wrapped (steps ++ (stand.number, e) ∷ []) l b (part n at) ++ later n) name) a))
          (λ q done a' grows known. items_comes many (suc e) k m (at + size) end q done left (omega arith) (omega arith) (grind arith) room a')

      -- a single element
      one_comes : ((e : ℕ) → index_text f.count e ≡ []) → (at end : ℕ) (p : Standing) (said : List Said) (left : List ℤ → List Element)
          → stand.count ≡ 1 → end ≡ at + size → end ≤ length start.numbers → Here at p said (λ n. parts 0 1 at n ++ left n)
          → Came end (single_cell f.item at) said left (read_item rs f caps (path ++ f.name) (present && stand.there) at f.item p)
      one_comes one at end p said left c is room a =
          let b = present && stand.there in
          item_comes f f.item caps _ _ b at end p said left is room
          (at_left total start low (λ n g. ap (λ l. l ++ left n)
          (first_counted steps path present f stand (part n) size 0 0 0 at (omega arith)
          ∙ append-nil _ ∙ ap (λ l. wrapped (steps ++ (stand.number, 0) ∷ []) (path ++ l) b (part n at))
          (rw (one 0) (append-nil f.name)))) a)

      -- all elements of such a field
      array_comes : (own : ℕ → ℕ) (count : Count) → f.count ≡ count → stand.count ≡ elements_of count own → (at end : ℕ) (p : Standing) (said : List Said)
          → (left : List ℤ → List Element) → end ≡ at + capacity_of count * size → end ≤ length start.numbers
          → Here at p said (λ n. parts 0 (capacity_of count) at n ++ left n)
          → Came end (known_cell count f.item at) said left (read_array rs f caps (path ++ f.name) (present && stand.there) at count own p)
      unfolding brackets
      array_comes own One is c at end p said left e room a = one_comes (λ e. rw is) at end p said left c (grind arith) room a
      array_comes own (Fixed n) is c at end p said left e room a = items_comes (λ e. rw is) 0 n n at end p said left (omega arith) (omega arith) e room a
      array_comes own (Counted by most) is c at end p said left e room a =
          items_comes (λ e. rw is) 0 most _ at end p said left (c ∙ omega arith) (elements_fit (Counted by most) own) e room a

    module _ (d : Desc) (v : ℕ) (steps : List (ℕ × ℕ)) (path : List ℕ) (present : Bool) (base : ℕ) where
      abbrev own : List ℤ → ℕ → ℕ
      own m = numbers_of (cells_of rs) d m base

      -- the lines of fields
      abbrev lines : List Element → List Element
      lines xs = wrapped steps path present xs

      -- whether a field is there, and how many elements it has, by what was said before it
      field_comes : (i at end : ℕ) (f : Field) (p : Standing) (said : List Said) (left : List ℤ → List Element)
          → IsSoundField d.fields i f → ((j : ℕ) → IsEarlier d.fields i j → Knows said (place_of (cells_of rs) d.fields 0 base d.fields j))
          → end ≡ at + length (field_cells (cells_of rs) d.fields i f) → end ≤ length start.numbers
          → Here at p said (λ m. lines (field_elements ss d.fields v (own m) m i at f) ++ left m)
          → Came end (known_cell f.count f.item at) said left (read_field rs d v path present base i at f p)
      field_comes i at end f p said left sound known is room a =
          let caps = counted i d.fields in
          let old = own p.numbers in
          let stand : Stand = stand_of i f v old in
          let elements : Stand → List (List Cell) → List ℤ → List Element = λ stand cs m.
          array_elements f stand (item_elements ss f.item caps f.default m) (item_size cs f.item) 0 (capacity_of f.count) at in
          let settled : (m : List ℤ) → Agrees said m → (j : ℕ) → IsEarlier d.fields i j → own m j ≡ old j = λ m g j x.
          rw ((known j x).known m p.numbers g a.agrees) in
          let same : (m : List ℤ) → Agrees said m → stand_of i f v (own m) ≡ stand = λ m g.
          rw (elements_same d.fields i old (own m) (settled m g) f.count sound.count, (there_same _ i v _ old _ (settled m g) f.test sound.test)) in
          array_comes f stand caps steps path present old f.count refl refl at end p said left (omega (arith, field_size (cells_of rs) d.fields i f)) room
          (at_left total start low (λ m g. rw (cells, same m g)) a)

      fields_comes : (i at end : ℕ) (fs : List Field) (p : Standing) (said : List Said) (left : List ℤ → List Element)
          → AreSoundFields d.fields i fs → at ≡ place_of (cells_of rs) d.fields 0 base d.fields i → drop i d.fields ≡ fs
          → ((j : ℕ) → IsEarlier d.fields i j → Knows said (place_of (cells_of rs) d.fields 0 base d.fields j))
          → end ≡ at + length (cells_from (cells_of rs) d.fields i fs) → end ≤ length start.numbers
          → Here at p said (λ m. lines (elements_from ss d.fields v (own m) m i at fs) ++ left m)
          → Came end [] said left (read_fields rs d v path present base i at fs p)
      fields_comes i at end [] p said left sound here is known e room a = stay total start low (omega arith) a
      fields_comes i at end (f ∷ fs) p said left sound here is known e room a =
          let cs = cells_of rs in
          let next = at + length (field_cells cs d.fields i f) in
          let first : List ℤ → List Element = λ m. field_elements ss d.fields v (own m) m i at f in
          let rest : List ℤ → ℕ → List Element = λ m k. elements_from ss d.fields v (own m) m (suc i) (at + k) fs in
          let e' : end ≡ next + length (cells_from cs d.fields (suc i) fs) =
          omega (arith, length-append (field_cells cs d.fields i f) (cells_from cs d.fields (suc i) fs)) in
          let there : next ≡ place_of cs d.fields 0 base d.fields (suc i) =
          omega (arith, place_next cs d.fields 0 base d.fields i f fs is, ap (λ k. length (field_cells cs d.fields k f)) (zero_plus i)) in
          then_comes total start low (read_field rs d v path present base i at f p) _
          (field_comes i at next f p said (λ m. lines (elements_from ss d.fields v (own m) m (suc i) next fs) ++ left m) sound.0 known refl (omega arith)
          (at_left total start low (λ m g. ap (λ l. l ++ left m) (wrapped_append steps path present (first m) _)
          ∙ ap (λ cs. (lines (first m) ++ lines (rest m (length (field_cells cs d.fields i f)))) ++ left m) cells
          ∙ append_assoc (lines (first m)) _ (left m)) a))
          (λ q done a' grows k.
          fields_comes (suc i) next end fs q done left sound.1 there (drop_next _ i f fs is)
          (λ j x. known_next cs d base i at f fs said done is here grows known k j x) e' room a')

      -- a description's lines are those of its elements
      pub desc_comes : (end : ℕ) (p : Standing) (said : List Said) (left : List ℤ → List Element) → IsSound d → end ≡ base + length (desc_cells (cells_of rs) d)
          → end ≤ length start.numbers → Here base p said (λ m. lines (desc_elements ss d v m base) ++ left m)
          → Came end [] said left (read_desc rs d v path present base p)
      desc_comes end p said left sound e room a =
          let cs = cells_of rs in
          let fields : List ℤ → List Element = λ m. elements_from ss d.fields v (own m) m 0 base d.fields in
          let last : List (List Cell) → List ℤ → List Element =
          λ cs m. single (base + length (desc_cells cs d)) (Rule (all_hold d.validate v (numbers_of cs d m base))) ∷ [] in
          fields_comes 0 base end d.fields p said left sound.fields (sym (place_first cs d.fields 0 base d.fields)) refl (λ j x. absurd (omega arith)) e room
          (at_left total start low
          (λ m g. rw (cells, wrapped_append steps path present (fields m) (last cs m) ∙ append-nil (lines (fields m)))) a)

  same_cells : (ds : List Desc) (k : ℕ) → cells_in (first shape ds k) ≡ cells_of (first reader ds k)
  same_cells ds k = cc (shapes_cells ds k, readers_cells ds k)

  all_read : (ds : List Desc) → AreSound ds → (k : ℕ) → k ≤ length ds → (j : ℕ)
      → ReadsShape (get_or (first reader ds k) j no_reader) (get_or (first shape ds k) j no_shape)
  unfolding first
  all_read ds sound zero le j = none_reads
  all_read ds sound (suc k) le j =
      let rs = first reader ds k in
      let ss = first shape ds k in
      let d = get_or ds k no_desc in
      let before = all_read ds sound k (omega arith) in
      two_more ReadsShape no_reader no_shape none_reads rs ss (first_long reader ds k ∙ sym (first_long shape ds k)) before (reader rs d) (shape ss d)
      (record {
        shape_comes = λ steps path present at end p said left e room a.
            desc_comes rs ss (same_cells ds k) before d _ steps path _ at end p said left (sound k (omega arith)) e room a;
      })
      j

  -- the description of a part of a set, which starts at a cell
  pub part_comes : (set : Set) (d : Desc) (at : ℕ) (p : Standing) (said : List Said) (left : List ℤ → List Element) → AreSound set.structs → IsSound d
      → at + length (desc_cells (struct_cells set) d) ≤ length start.numbers
      → At total start low at p said (λ m. wrapped [] [] true (desc_elements (shapes set) d d.version m at) ++ left m)
      → Comes total start low (at + length (desc_cells (struct_cells set) d)) [] said left (read_desc (readers set) d d.version [] true at p)
  part_comes set d at p said left structs sound room a =
      let k = length set.structs in
      let same : length (desc_cells (struct_cells set) d) ≡ length (desc_cells (cells_of (readers set)) d) = rw (sym (readers_cells set.structs k)) in
      desc_comes (readers set) _ (same_cells set.structs k)
      (all_read set.structs structs k (omega arith)) d d.version [] [] true at _ p said left sound (omega arith) room a
