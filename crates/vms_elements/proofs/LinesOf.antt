-- What the elements of a description are: slots of its bytes, and lines of its text.
use Rattle.vms_elements.proofs.Facade
use Facade.{◌≡◌, ℕ, zero, suc, ◌+◌, ◌-◌, ◌≤◌, List, [], ◌++◌, map, arith, Bool, true, false, ◌&&◌, Field, Element, Stand, behind}
use Facade.{array_elements, index_text, ◌∷◌, length, get_or, ℤ, refl, sym, ap, ◌∙◌, two_more, if◌then◌else◌, Item, Struct, Desc, Set, Slot}
use Facade.{Meaning, no_meaning, no_desc, first, times, counted, capacity_of, elements_of, item_size, item_slots, slots_from, desc_slots, meaning, meanings}
use Facade.{pick_append, first_cells, elements_fit, first_long, Shape, no_shape, shape, cells_in, dotted, item_elements, stand_of, elements_from, desc_elements}
use Facade.{slots_of, elements_in, machine_lines, values_lines, is_number, append-nil, append_assoc, Option, codes, map-append, decimal, Num, Count, One, Sub}
use Facade.{Device, Image, own_cells, desc_cells, struct_cells, Printer, no_printer, printer, printers, item_lines, element_lines, array_lines, field_lines}
use Facade.{desc_lines, values_text, version_text, field_elements, text_of, printed, number_line, number_lines, subs_lines, device_lines, devices_lines, Entry}
use Facade.{OfNumber, number_entries, subs_entries, device_entries, devices_entries, entry_line, EntryLaw}
use Rattle.vms_elements.proofs.Members.{shapes_cells, both}
use Rattle.vms_spec.specs.Values as texts

-- ---- what is read of an array whose first elements count and whose later ones give nothing

-- the parts of the elements from e on, m of them
abbrev pub outs : {B : Type 0} → (ℕ → ℕ → List B) → ℕ → ℕ → ℕ → ℕ → List B
outs out step e zero at = []
outs out step e (suc m) at = out e at ++ outs out step (suc e) m (at + step)

module _ {B : Type 0} (h : List Element → List B) (both : (xs ys : List Element) → h (xs ++ ys) ≡ h xs ++ h ys) (none : h [] ≡ [])
    (f : Field) (stand : Stand) (part : ℕ → List Element) (out : ℕ → ℕ → List B) (step : ℕ) where
  abbrev pub element : ℕ → ℕ → Bool → List Element
  element e at below = map (behind (stand.number, e) (f.name ++ index_text f.count e) below (stand.there && below)) (part at)

  pub array_of : ((e at : ℕ) → h (element e at true) ≡ out e at) → ((e at : ℕ) → h (element e at false) ≡ [])
      → (e n m at : ℕ) → m ≡ stand.count - e → m ≤ n → h (array_elements f stand part step e n at) ≡ outs out step e m at
  array_of here past e zero zero at c le = none
  array_of here past e zero (suc m) at c le = absurd (omega arith)
  array_of here past e (suc n) zero at c le = grind (arith, both, array_of here past (suc e) n zero (at + step) (omega arith) (omega arith))
  array_of here past e (suc n) (suc m) at c le = grind (arith, both, array_of here past (suc e) n m (at + step) (omega arith) (omega arith))

-- ---- the elements that are in the bytes are the slots

pub slots_append : (xs ys : List Element) → slots_of (xs ++ ys) ≡ slots_of xs ++ slots_of ys
slots_append [] ys = refl
slots_append (x ∷ xs) ys = pick_append _ _ _ _ _ (slots_append xs ys)

slots_behind : (step : ℕ × ℕ) (text : List ℕ) (c p : Bool) (xs : List Element) → slots_of (map (behind step text c p) xs) ≡ (if p then slots_of xs else [])
slots_behind step text c true (x ∷ xs) = rw (slots_behind step text c true xs)
slots_behind step text c false (x ∷ xs) = slots_behind step text c false xs
slots_behind step text c _ _ = refl

-- an element of a field that is there or not, before the count and past it, and those before it
slots_here : (there : Bool) (step : ℕ × ℕ) (text : List ℕ) (xs : List Element) → slots_of (map (behind step text true (there && true)) xs) ≡ (if there then slots_of xs else [])
slots_here there step text xs = grind (arith, slots_behind)

slots_past : (there : Bool) (step : ℕ × ℕ) (text : List ℕ) (xs : List Element) → slots_of (map (behind step text false (there && false)) xs) ≡ []
slots_past there step text xs = grind (arith, slots_behind)

slots_all : (there : Bool) (slots : ℕ → List Slot) (step e m at : ℕ) → outs (λ e a. if there then slots a else []) step e m at ≡ (if there then times m slots at step else [])
slots_all true slots step e (suc m) at = rw (slots_all true slots step (suc e) m (at + step))
slots_all false slots step e (suc m) at = slots_all false slots step (suc e) m (at + step)
slots_all _ slots step e _ at = refl

slots_dotted : (xs : List Element) → slots_of (map dotted xs) ≡ slots_of xs
slots_dotted [] = refl
slots_dotted (x ∷ xs) = rw (slots_dotted xs)

-- each structure's elements have the slots of what it means
abbrev pub AreMeant : List Shape → List Meaning → Type 0
AreMeant ss ms = (j : ℕ) (n : List ℤ) (at : ℕ) → slots_of ((get_or ss j no_shape).elements n at) ≡ (get_or ms j no_meaning).slots n at

module _ (ss : List Shape) (ms : List Meaning) (cells : cells_in ss ≡ map (λ m. m.cells) ms) (meant : AreMeant ss ms) where
  item_meant : (item : Item) (caps : List ℕ) (z : ℤ) (n : List ℤ) (at : ℕ) → slots_of (item_elements ss item caps z n at) ≡ item_slots ms item caps n at
  item_meant item caps z n at = grind (arith, slots_dotted)

  fields_meant : (fields : List Field) (v : ℕ) (own : ℕ → ℕ) (n : List ℤ) (i at : ℕ) (fs : List Field) → slots_of (elements_from ss fields v own n i at fs) ≡ slots_from ms fields v own n i at fs
  fields_meant fields v own n i at [] = refl
  fields_meant fields v own n i at (f ∷ fs) =
      let s = stand_of i f v own in
      let part = item_elements ss f.item (counted i fields) f.default n in
      let slots = item_slots ms f.item (counted i fields) n in
      let step = item_size (cells_in ss) f.item in
      let array = array_of slots_of slots_append refl f s part (λ e a. if s.there then slots a else []) step (λ e a. slots_here s.there _ _ (part a) ∙ ap (λ l. if s.there then l else []) (item_meant f.item (counted i fields) f.default n a))
      (λ e a. slots_past s.there _ _ (part a)) 0 (capacity_of f.count) (elements_of f.count own) at (omega arith) (elements_fit f.count own) in
      rw (slots_append, array, slots_all s.there slots step 0 (elements_of f.count own) at, fields_meant fields v own n (suc i) _ fs, cells) refl

  desc_meant : (d : Desc) (v : ℕ) (n : List ℤ) (at : ℕ) → slots_of (desc_elements ss d v n at) ≡ desc_slots ms d v n at
  desc_meant d v n at = rw (slots_append, fields_meant _ v _ n 0 at _, cells) refl

meaning_cells : (ds : List Desc) (k : ℕ) → cells_in (first shape ds k) ≡ map (λ m. m.cells) (meanings ds k)
meaning_cells ds k = grind (arith, shapes_cells, first_cells)

are_meant : (ds : List Desc) (k : ℕ) → AreMeant (first shape ds k) (meanings ds k)
unfolding first
are_meant ds zero j n at = refl
are_meant ds (suc k) j n at =
    let ss = first shape ds k in
    let ms = meanings ds k in
    let d = get_or ds k no_desc in
    two_more (λ (s : Shape) (m : Meaning). (n : List ℤ) (at : ℕ) → slots_of (s.elements n at) ≡ m.slots n at) no_shape no_meaning (λ n at. refl) ss ms
    (first_long shape ds k ∙ sym (first_long meaning ds k)) (are_meant ds k) (shape ss d) (meaning ms d) (desc_meant ss ms (meaning_cells ds k) (are_meant ds k) d d.version) j n at

pub elements_slots : (set : Set) (d : Desc) (v : ℕ) (n : List ℤ) (at : ℕ) → slots_of (elements_in set d v n at) ≡ desc_slots (meanings set.structs (length set.structs)) d v n at
elements_slots set = desc_meant _ _ (meaning_cells _ _) (are_meant _ _)

-- ---- the lines of the counted numbers are the text of a description

pub text_append : (xs ys : List (List ℕ)) → text_of (xs ++ ys) ≡ text_of xs ++ text_of ys
text_append [] ys = refl
text_append (x ∷ xs) ys = rw (text_append xs ys) (sym (append_assoc x (10 ∷ text_of xs) (text_of ys)))

pub printed_append : (xs ys : List Element) → printed (xs ++ ys) ≡ printed xs ++ printed ys
printed_append [] ys = refl
printed_append (x ∷ xs) ys = pick_append _ x _ _ _ (printed_append xs ys)

-- the text of the counted numbers, under a path
abbrev under : List ℕ → List ℤ → List Element → List ℕ
under path n xs = text_of (map (λ x. path ++ number_line n x) (printed xs))

under_append : (path : List ℕ) (n : List ℤ) (xs ys : List Element) → under path n (xs ++ ys) ≡ under path n xs ++ under path n ys
under_append path n xs ys = simp (printed_append, map-append, text_append)

-- elements whose names have this text in front
under_map : (path text : List ℕ) (n : List ℤ) (f : Element → Element) → ((x : Element) → (f x).name ≡ text ++ x.name) → ((x : Element) → (f x).cell ≡ x.cell)
    → ((x : Element) → ((f x).counted && is_number (f x).what) ≡ (x.counted && is_number x.what)) → (xs : List Element) → under path n (map f xs) ≡ under (path ++ text) n xs
under_map path text n f name cell same [] = refl
under_map path text n f name cell same (x ∷ xs) = grind (arith, by, under_map path text n f name cell same xs)
  where
    by : (b c : Bool) → b ≡ c → under path n (map f xs) ≡ under (path ++ text) n xs
        → text_of (map (λ x. path ++ number_line n x) (if b then f x ∷ printed (map f xs) else printed (map f xs))) ≡ text_of (map (λ x. (path ++ text) ++ number_line n x) (if c then x ∷ printed xs else printed xs))
    by true true q e = rw (name x, cell x, append_assoc text x.name, append_assoc path text, e) refl
    by false false q e = e
    by _ _ q e = cc

under_none : (path text : List ℕ) (step : ℕ × ℕ) (p : Bool) (n : List ℤ) (xs : List Element) → under path n (map (behind step text false p) xs) ≡ []
under_none path text step p n [] = refl
under_none path text step p n (x ∷ xs) = under_none path text step p n xs

-- ---- structures: what they mean as elements and as lines

abbrev ArePrinted : List Shape → List Printer → Type 0
ArePrinted ss ps = (j : ℕ) (path : List ℕ) (n : List ℤ) (at : ℕ) → under path n ((get_or ss j no_shape).elements n at) ≡ (get_or ps j no_printer).lines path n at

module _ (ss : List Shape) (ps : List Printer) (cells : cells_in ss ≡ map (λ p. p.cells) ps) (are : ArePrinted ss ps) where
  item_printed : (path : List ℕ) (item : Item) (caps : List ℕ) (z : ℤ) (n : List ℤ) (at : ℕ) → under path n (item_elements ss item caps z n at) ≡ item_lines ps item path n at
  item_printed path (Num kind) caps z n at = simp append_assoc
  item_printed path (Struct j) caps z n at = grind (arith, under_map)
  item_printed path _ caps z n at = refl

  -- of an array those before the count, under a path each
  array_printed : (path : List ℕ) (n : List ℤ) (f : Field) (stand : Stand) (caps : List ℕ) (step : ℕ) (to : ℕ → List ℕ) → ((e : ℕ) → path ++ (f.name ++ index_text f.count e) ≡ to e)
      → (k at : ℕ) → stand.count ≤ k → under path n (array_elements f stand (item_elements ss f.item caps f.default n) step 0 k at) ≡ outs (λ e a. item_lines ps f.item (to e) n a) step 0 stand.count at
  array_printed path n f stand caps step to names k at le =
      array_of (under path n) (under_append path n) refl f stand (item_elements ss f.item caps f.default n) (λ e a. item_lines ps f.item (to e) n a) step
      (λ e a. under_map path (f.name ++ index_text f.count e) n (behind (stand.number, e) (f.name ++ index_text f.count e) true (stand.there && true)) (λ x. refl) (λ x. refl) (λ x. refl) (item_elements ss f.item caps f.default n a)
      ∙ rw (names e) (item_printed (to e) f.item caps f.default n a))
      (λ e a. under_none path _ _ _ n (item_elements ss f.item caps f.default n a)) 0 k stand.count at (omega arith) le

  lines_all : (item : Item) (path : List ℕ) (n : List ℤ) (step e m at : ℕ) → outs (λ e a. item_lines ps item (path ++ codes "[" ++ decimal e ++ codes "]") n a) step e m at ≡ element_lines ps item path n at step e m
  lines_all item path n step e zero at = refl
  lines_all item path n step e (suc m) at = rw (lines_all item path n step (suc e) m (at + step)) refl

  field_printed : (path : List ℕ) (fields : List Field) (v : ℕ) (own : ℕ → ℕ) (n : List ℤ) (i at : ℕ) (f : Field) → under path n (field_elements ss fields v own n i at f) ≡ array_lines ps f.item f.count own (path ++ f.name) n at
  field_printed path fields v own n i at f = by f.count refl
    where
      go : (c : Count) → f.count ≡ c → (to : ℕ → List ℕ) → ((e : ℕ) → path ++ (f.name ++ index_text c e) ≡ to e)
          → under path n (field_elements ss fields v own n i at f) ≡ outs (λ e a. item_lines ps f.item (to e) n a) (item_size (map (λ p. p.cells) ps) f.item) 0 (elements_of c own) at
      go c is to names = grind (arith, array_printed, counted, elements_fit)

      many : (c : Count) → f.count ≡ c → ((e : ℕ) → index_text c e ≡ codes "[" ++ (decimal e ++ codes "]")) → under path n (field_elements ss fields v own n i at f) ≡ element_lines ps f.item (path ++ f.name) n at (item_size (map (λ p. p.cells) ps) f.item) 0 (elements_of c own)
      many c is text = go c is (λ e. (path ++ f.name) ++ codes "[" ++ decimal e ++ codes "]") (λ e. rw (text e) (simp append_assoc)) ∙ lines_all f.item _ n _ 0 _ at

      by : (c : Count) → f.count ≡ c → under path n (field_elements ss fields v own n i at f) ≡ array_lines ps f.item c own (path ++ f.name) n at
      by One is = go One is (λ e. path ++ f.name) (λ e. rw append-nil refl) ∙ append-nil _
      by _ is = many _ is (λ e. refl)

  fields_printed : (path : List ℕ) (fields : List Field) (v : ℕ) (own : ℕ → ℕ) (n : List ℤ) (i at : ℕ) (fs : List Field)
      → under path n (elements_from ss fields v own n i at fs) ≡ field_lines ps fields own path n i at fs
  fields_printed path fields v own n i at [] = refl
  fields_printed path fields v own n i at (f ∷ fs) = rw (under_append, field_printed path fields v own n i at f, fields_printed path fields v own n (suc i) _ fs, cells) refl

  desc_printed : (path : List ℕ) (d : Desc) (v : ℕ) (n : List ℤ) (at : ℕ) → under path n (desc_elements ss d v n at) ≡ desc_lines ps d path n at
  desc_printed path d v n at = rw (under_append, append-nil, fields_printed path _ v _ n 0 at _, cells) refl

printer_cells : (ds : List Desc) (k : ℕ) → cells_in (first shape ds k) ≡ map (λ p. p.cells) (first printer ds k)
printer_cells ds k = grind (arith, shapes_cells, first_cells)

are_printed : (ds : List Desc) (k : ℕ) → ArePrinted (first shape ds k) (first printer ds k)
unfolding first
are_printed ds zero j path n at = refl
are_printed ds (suc k) j path n at =
    let ss = first shape ds k in
    let ps = first printer ds k in
    let d = get_or ds k no_desc in
    two_more (λ (s : Shape) (p : Printer). (path : List ℕ) (n : List ℤ) (at : ℕ) → under path n (s.elements n at) ≡ p.lines path n at) no_shape no_printer (λ path n at. refl) ss ps
    (first_long shape ds k ∙ sym (first_long printer ds k)) (are_printed ds k) (shape ss d) (printer ps d) (λ path. desc_printed ss ps (printer_cells ds k) (are_printed ds k) path d d.version) j path n at

-- ---- the whole text

pub numbers_text : (set : Set) (d : Desc) (n : List ℤ) (at : ℕ) → text_of (number_lines set d n at) ≡ desc_lines (printers set) d [] n at
numbers_text set d n at = desc_printed _ _ (printer_cells _ _) (are_printed _ _) [] d _ n at

four : (a b c d e g : List ℕ) → (a ++ (b ++ (c ++ d))) ++ (e ++ g) ≡ (a ++ (b ++ (c ++ (d ++ e)))) ++ g
four a b c d e g = simp append_assoc refl

pub six : (a b c d e g h : List ℕ) → (a ++ (b ++ (c ++ (d ++ (e ++ g))))) ++ h ≡ a ++ (b ++ (c ++ (d ++ (e ++ (g ++ h)))))
six a b c d e g h = simp append_assoc refl

subs_text : (set : Set) (n : List ℤ) (at : ℕ) (subs : List Sub) (came : List (Option ℕ)) → text_of (subs_lines set n at subs came) ≡ texts.sub_lines set n at subs came
subs_text set n at (s ∷ subs) (o ∷ came) =
    rw (text_append _ _ ∙ both _ _ _ _ (numbers_text set s.desc n at) (subs_text set n (at + length (desc_cells (struct_cells set) s.desc)) subs came)) (four (codes "sub ") s.desc.name (codes " ") (version_text o) (10 ∷ desc_lines (printers set) s.desc [] n at) _)
subs_text set n at _ _ = refl

device_text : (set : Set) (d : Device) (image : Image) → text_of (device_lines set d image) ≡ texts.device_lines set d image
device_text set d image =
    rw (text_append _ _ ∙ both _ _ _ _ (numbers_text set d.desc image.numbers 0) (subs_text set image.numbers (own_cells set d) d.subs image.came)) (six (codes "section ") d.desc.name (codes " ") (decimal d.instance) (codes " v") (decimal image.version) _)

devices_text : (set : Set) (devices : List Device) (images : List Image) → text_of (devices_lines set devices images) ≡ texts.devices_lines set devices images
devices_text set (d ∷ devices) (image ∷ images) = text_append (device_lines set d image) _ ∙ both _ _ _ _ (device_text set d image) (devices_text set devices images)
devices_text set _ _ = refl

machine_text : (machine : Option (List ℕ)) → text_of (machine_lines machine) ≡ texts.machine_line machine
machine_text machine = grind arith

pub text_is : (set : Set) (machine : Option (List ℕ)) (images : List Image) → text_of (values_lines set machine images) ≡ values_text set machine images
text_is set machine images = grind (arith, text_append, both, machine_text, devices_text)

-- ---- the lines of the entries are the lines of the values text

numbers_same : (numbers : List ℤ) (xs : List Element) → map entry_line (map (λ x. OfNumber x numbers) xs) ≡ map (number_line numbers) xs
numbers_same numbers [] = refl
numbers_same numbers (x ∷ xs) = rw (numbers_same numbers xs)

-- the numbers of a description, and then what follows them
then_rest : (set : Set) (d : Desc) (numbers : List ℤ) (at : ℕ) (es : List Entry) (ls : List (List ℕ)) → map entry_line es ≡ ls → map entry_line (number_entries set d numbers at ++ es) ≡ number_lines set d numbers at ++ ls
then_rest set d numbers at es ls e = rw (map-append entry_line (number_entries set d numbers at) es, e, numbers_same numbers (printed (elements_in set d d.version numbers at))) refl

subs_same : (set : Set) (d : Device) (image : Image) (j at : ℕ) (subs : List Sub) (came : List (Option ℕ)) → map entry_line (subs_entries set d image j at subs came) ≡ subs_lines set image.numbers at subs came
subs_same set d image j at (s ∷ subs) (o ∷ came) = rw (then_rest set s.desc _ at _ _ (subs_same set d image (suc j) (at + length (desc_cells (struct_cells set) s.desc)) subs came))
subs_same set d image j at _ _ = refl

device_same : (set : Set) (d : Device) (image : Image) → map entry_line (device_entries set d image) ≡ device_lines set d image
device_same set d image = rw (then_rest set d.desc _ 0 _ _ (subs_same set d image 0 _ d.subs _))

devices_same : (set : Set) (devices : List Device) (images : List Image) → map entry_line (devices_entries set devices images) ≡ devices_lines set devices images
devices_same set (d ∷ devices) (image ∷ images) = map-append entry_line (device_entries set d image) _ ∙ both _ _ _ _ (device_same set d image) (devices_same set devices images)
devices_same set _ _ = refl

pub entry_law : EntryLaw
entry_law set machine images = grind (arith, devices_same)
