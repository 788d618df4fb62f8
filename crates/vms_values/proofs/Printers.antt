-- The lines of structures, arrays, parts, subsections and devices.
use Rattle.vms_values.proofs.Facade
use Facade.{◌≡◌, ℕ, zero, suc, ◌+◌, ◌<◌, List, [], ◌∷◌, ◌++◌, length, get_or, map, ℤ, pos, refl, ap, ◌∙◌, arith, true, codes}
use Facade.{◌-◌, ◌*◌, ◌≤◌, drop, sym, Option, None, append_assoc, decimal, drop_all, drop_more, Item, Struct, Count, One, Field, Desc, Set}
use Facade.{Device, Sub, Cell, no_desc, first, item_size, desc_cells, field_cells, numbers_of, elements_of, struct_cells, capacity_of, Printer, no_printer}
use Facade.{printer, printers, item_lines, element_lines, array_lines, field_lines, desc_lines, line_end, version_text, sub_lines, device_lines, ItemBelow}
use Facade.{FieldsBelow, all_below, item_cells_same, field_cells_same, own_same, row_same, first_cells, first_same, first_at, is_well_formed, struct_clean}
use Facade.{reach, uses_below, field_size, elements_fit, one_fits, room_for_less, place_first, desc_of, field_of, field_at, own_numbers, first_cell, desc_at}
use Facade.{sub_at, found_field, here_fields, sub_next, sub_inside, own_inside_device, few_cells, PartAt, HasSpot, size_in, table, cells_in, item_rank}
use Facade.{part_rank, reach_whole, uses_more, rank_below, next_field, cells_table, start_after, cell_of, fields_at, IsRun, run_lines, IsOf, section_text}
use Facade.{whole_sub, Image, own_cells, sub_place, device_at, take-take, Result, length-drop, take, length-take, Bor, is_ok, joined, Outlet, Wrote}
use Facade.{devices_lines, AreOf, below, below_part, Stays, take-append-le, Part, HasPart, few_structs, field_clean, LONGEST_PATH, PART_ROOM}
use Rattle.vms_spec.specs.Sets.{AtLeast}
use Rattle.vms_parts.specs.{declared.types.Desc.Desc as CodeDesc, declared.types.Field.Field as CodeField}
use Rattle.std.proofs.Common.{take_all}
pub use Rattle.vms_spec.proofs.ListsAndNumbers.{err_is}
use Rattle.vms_spec.specs.declared.Part.TheVariants as parts

abbrev pub cells_of : List Printer → List (List Cell)
cells_of ps = map (λ p. p.cells) ps

-- two tables have the same structures of numbers below j
module _ (j : ℕ) (ps Ps : List Printer) (agree : (i : ℕ) → i < j → get_or ps i no_printer ≡ get_or Ps i no_printer) where
  cells : (i : ℕ) → i < j → get_or (cells_of ps) i [] ≡ get_or (cells_of Ps) i []
  cells i lt = row_same (λ (p : Printer). p.cells) no_printer ps Ps i (agree i lt)

  item_same : (item : Item) (path : List ℕ) (n : List ℤ) (at : ℕ) → ItemBelow j item → item_lines ps item path n at ≡ item_lines Ps item path n at
  item_same (Struct i) path n at e = rw (agree i e, item_lines)
  item_same _ path n at e = refl

  elements_same : (item : Item) (path : List ℕ) (n : List ℤ) (at step i m : ℕ) → ItemBelow j item → element_lines ps item path n at step i m ≡ element_lines Ps item path n at step i m
  elements_same item path n at step i zero e = refl
  elements_same item path n at step i (suc m) e =
      rw (item_same item (path ++ codes "[" ++ decimal i ++ codes "]") n at e, elements_same item path n (at + step) step (suc i) m e)

  array_same : (item : Item) (c : Count) (own : ℕ → ℕ) (path : List ℕ) (n : List ℤ) (at : ℕ) → ItemBelow j item → array_lines ps item c own path n at ≡ array_lines Ps item c own path n at
  array_same item One own path n at e = item_same _ _ _ _ e
  array_same item c own path n at e =
      rw (item_cells_same j (cells_of ps) (cells_of Ps) cells item [] (pos 0) e) (elements_same _ _ _ _ _ 0 _ e)

  fields_same : (fields : List Field) (own : ℕ → ℕ) (path : List ℕ) (n : List ℤ) (i at : ℕ) (fs : List Field) → FieldsBelow j fs → field_lines ps fields own path n i at fs ≡ field_lines Ps fields own path n i at fs
  fields_same fields own path n i at [] b = refl
  fields_same fields own path n i at (f ∷ fs) b =
      rw (
        array_same f.item f.count own (path ++ f.name) n at b.0,
        field_cells_same j (cells_of ps) (cells_of Ps) cells fields i f b.0,
        fields_same fields own path n (suc i) (at + length (field_cells (cells_of Ps) fields i f)) fs b.1,
      )

  desc_same : (d : Desc) (path : List ℕ) (n : List ℤ) (at : ℕ) → FieldsBelow j d.fields → desc_lines ps d path n at ≡ desc_lines Ps d path n at
  desc_same d path n at b =
      rw (own_same j (cells_of ps) (cells_of Ps) cells d n at b) (fields_same d.fields (numbers_of (cells_of Ps) d n at) _ _ 0 at _ b)

-- the lines of one element of a structure are those of its description
pub struct_lines : (set : Set) → is_well_formed set ≡ true → (j : ℕ) → j < length set.structs → (path : List ℕ) (n : List ℤ) (at : ℕ)
    → item_lines (printers set) (Struct j) path n at ≡ desc_lines (printers set) (get_or set.structs j no_desc) (path ++ codes ".") n at
struct_lines set well j lt path n at =
    let ds = set.structs in
    let d = get_or ds j no_desc in
    let below = all_below j d.fields (λ i l. ((struct_clean set well j lt).fields i l).uses) in
    rw (first_at printer ds no_printer (length ds) j lt, item_lines)
    (desc_same j (first printer ds j) (printers set) (λ i l. first_same printer ds no_printer j (length ds) i (omega arith) l) d (path ++ codes ".") n at below)

-- ---- The rest of the elements of an array and of the fields of a part.

-- the next of the elements that are left, by its path and its width
pub elements_left : (ps : List Printer) (item : Item) (path named : List ℕ) (n : List ℤ) (at step width i count : ℕ) → i < count
    → named ≡ path ++ codes "[" ++ decimal i ++ codes "]" → width ≡ step → element_lines ps item path n at step i (count - i)
    ≡ item_lines ps item named n at ++ element_lines ps item path n (at + width) step (i + 1) (count - (i + 1))
elements_left ps item path named n at step width i count lt is same = grind arith

-- the lines of a field, by how many of its elements are counted
pub run_is : (ps : List Printer) (f : Field) (c : Count) (own : ℕ → ℕ) (count : ℕ) (path : List ℕ) (n : List ℤ) (at : ℕ) → count ≡ elements_of c own
    → array_lines ps f.item c own (path ++ f.name) n at ≡ run_lines ps f c count path n at
run_is ps f c own count path n at e = grind arith

module _ (set : Set) where
  pub printed_cells : cells_of (printers set) ≡ struct_cells set
  printed_cells = first_cells (λ (p : Printer). p.cells) printer (λ ps d. refl) _ _

  pub printed_size : (item : Item) → item_size (cells_of (printers set)) item ≡ size_in set item
  printed_size item = rw (printed_cells ∙ sym (cells_table set))

  pub array_run : (f : Field) (count : ℕ) (path : List ℕ) (n : List ℤ) (at : ℕ) → (f.count ≡ One → ⊥)
      → element_lines (printers set) f.item (path ++ f.name) n at (size_in set f.item) 0 count ≡ run_lines (printers set) f f.count count path n at
  array_run f count path n at other = grind (arith, printed_size)

  -- the lines of a part's fields from field k on
  abbrev pub fields_left : PartAt → List ℕ → List ℤ → ℕ → List ℕ
  fields_left spot path n k =
      let d = desc_at set spot.part in
      field_lines (printers set) d.fields (numbers_of (cells_of (printers set)) d n spot.base) path n k (cell_of set spot k) (drop k d.fields)

  pub fields_whole : (spot : PartAt) (path : List ℕ) (n : List ℤ)
      → desc_lines (printers set) (desc_at set spot.part) path n spot.base ≡ fields_left spot path n 0
  fields_whole spot path n =
      let d = desc_at set spot.part in rw (place_first (cells_in (table set)) d.fields 0 spot.base d.fields)

  -- the next field: its elements are among the numbers, and its lines come next
  pub record NextRun (spot : PartAt) (path : List ℕ) (n : List ℤ) (k cell count : ℕ) (f : Field) : Type 0 where
    pub run : IsRun set f cell count n
    pub lower : item_rank f.item + 1 < part_rank set spot.part + 2
    pub lines : fields_left spot path n k ≡ run_lines (printers set) f f.count count path n cell ++ fields_left spot path n (k + 1)

  pub next_run : is_well_formed set ≡ true → (spot : PartAt) (path : List ℕ) (n : List ℤ) → HasSpot set spot n → (k cell count : ℕ) (f : Field) → k < length (desc_at set spot.part).fields
      → f ≡ field_at set spot.part k → count ≡ elements_of f.count (own_numbers set spot.part n spot.base)
      → cell ≡ cell_of set spot k → NextRun spot path n k cell count f
  next_run well spot path n h k cell count f lt is there begins =
      let all = (desc_at set spot.part).fields in
      let ps = printers set in
      let own = numbers_of (cells_of ps) (desc_at set spot.part) n spot.base in
      let next = next_field _ well _ _ h _ _ lt begins in
      let fewer : count ≤ capacity_of f.count = omega (arith, elements_fit f.count (own_numbers set spot.part n spot.base)) in
      let uses : uses_below (reach set spot.part) f.item ≡ true = rw is next.uses in
      let some : 1 ≤ capacity_of f.count = rw is next.some in
      let fits : cell + capacity_of f.count * size_in set f.item ≤ length n = rw is next.room in
      let counts : count ≡ elements_of f.count own = rw printed_cells there in
      let width : length (field_cells (cells_of ps) all k f) ≡ capacity_of f.count * size_in set f.item =
      rw (field_size (cells_of ps) all k f, printed_size f.item) in
      let one : suc k ≡ k + 1 = omega arith in
      let after : cell + capacity_of f.count * size_in set f.item ≡ cell_of set spot (k + 1) = rw is (start_after set spot _ _ begins lt) in
      record {
        run = record {
          reaches = uses_more _ _ _ (reach_whole set spot.part h.part) uses;
          small = one_fits _ _ _ _ _ some fits h.few;
          room = room_for_less _ _ _ _ _ fewer fits;
          single = λ e. rw e at there;
          few = h.few;
        };
        lower = omega (arith, rank_below (reach set spot.part) f.item uses);
        lines = rw (← begins, fields_at all k lt, ← is, run_is ps f f.count own count path n cell counts, width, one, after);
      }

  -- the same of the field that the code found by its number
  pub record FoundRun (spot : PartAt) (path : List ℕ) (n : List ℤ) (k cell count : ℕ) (f : CodeField) : Type 0 where
    pub found : field_of f ≡ field_at set spot.part k
    pub next : NextRun spot path n k cell count (field_of f)

  pub found_run : is_well_formed set ≡ true → (spot : PartAt) (path : List ℕ) (n : List ℤ) → HasSpot set spot n
      → (k cell count : ℕ) (d : CodeDesc) (fields : List CodeField) (f : CodeField) → k < length (desc_at set spot.part).fields
      → desc_of d ≡ desc_at set spot.part → fields ≡ d.fields → f ≡ get_or fields k f → count ≡ elements_of (field_at set spot.part k).count (own_numbers set spot.part n spot.base)
      → cell ≡ cell_of set spot k → FoundRun spot path n k cell count f
  found_run well spot path n h k cell count d fields f lt desc are is there begins =
      let found = found_field _ _ _ _ (here_fields set spot.part _ _ desc are) lt is in
      let count_is = there ∙ ap (λ x. elements_of x.count (own_numbers set spot.part n spot.base)) (sym found) in
      record { found = found; next = next_run well _ _ _ h _ _ _ _ lt found count_is begins }

  pub no_fields : (spot : PartAt) (path : List ℕ) (n : List ℤ) (k : ℕ) → k ≡ length (desc_at set spot.part).fields → fields_left spot path n k ≡ []
  no_fields spot path n k e = grind (arith, drop_all)

-- ---- The lines of subsections, one after the other, and of a whole device.

abbrev no_sub : Sub
no_sub = record { desc = no_desc; needed = AtLeast 0 }

-- the rest of the subsections, at one of them
pub subs_left : (set : Set) (i : ℕ) (n : List ℤ) (came : List (Option ℕ)) (j : ℕ) → j < length (device_at set i).subs → j < length came
    → sub_lines set n (first_cell set (parts.Sub i j)) (drop j (device_at set i).subs) (drop j came)
    ≡ whole_sub set i j n (get_or came j None) ++ sub_lines set n (first_cell set (parts.Sub i (j + 1))) (drop (j + 1) (device_at set i).subs) (drop (j + 1) came)
subs_left set i n came j lt lt' =
    let d = device_at set i in
    let at = first_cell set (parts.Sub i j) in
    let s = sub_at d j in
    let o = get_or came j None in
    let own = desc_lines (printers set) s.desc [] n at in
    let left = sub_lines set n (at + length (desc_cells (struct_cells set) s.desc)) (drop (j + 1) d.subs) (drop (j + 1) came) in
    let joined : codes "sub " ++ (s.desc.name ++ (codes " " ++ (version_text o ++ (line_end ++ own)))) ++ left
    ≡ (codes "sub " ++ (s.desc.name ++ (codes " " ++ (version_text o ++ line_end)))) ++ own ++ left = simp append_assoc refl in
    rw (drop_more d.subs j no_sub lt, drop_more came j None lt', sub_next set (own_cells set d) d.subs j no_sub lt) joined

pub no_subs : (set : Set) (n : List ℤ) (at j : ℕ) (subs : List Sub) (came : List (Option ℕ)) → j ≡ length subs → sub_lines set n at (drop j subs) came ≡ []
no_subs set n at j subs came e = rw (drop_all j subs (omega arith))

-- a device is its line, the lines of its own cells, and its subsections
pub device_is : (set : Set) (d : Device) (image : Image)
    → (section_text d image.version ++ desc_lines (printers set) d.desc [] image.numbers 0) ++ sub_lines set image.numbers (own_cells set d) d.subs image.came ≡ device_lines set d image
device_is set d image = simp append_assoc

-- the cells of a device and of its subsections are among the numbers of its image
module _ (set : Set) (well : is_well_formed set ≡ true) (i : ℕ) (image : Image) (of : IsOf set (device_at set i) image) where
  pub own_spot : (v : ℕ) → i < length set.devices → HasSpot set (record { part = parts.Device i; version = v; base = 0 }) image.numbers
  own_spot v lt = record { part = lt; few = omega (arith, few_cells set well i); room = omega (arith, own_inside_device set i) }

  pub sub_spot : (v j at : ℕ) → i < length set.devices → j < length (device_at set i).subs → at ≡ first_cell set (parts.Sub i j)
      → HasSpot set (record { part = parts.Sub i j; version = v; base = at }) image.numbers
  sub_spot v j at lt lt' e = record { part = (lt, lt'); few = omega (arith, few_cells set well i); room = omega (arith, sub_inside set i j lt') }

-- all of the subsections are left at first
pub first_sub : (set : Set) (i : ℕ) (n : List ℤ) (came : List (Option ℕ))
    → sub_lines set n (own_cells set (device_at set i)) (device_at set i).subs came ≡ sub_lines set n (first_cell set (parts.Sub i 0)) (drop 0 (device_at set i).subs) (drop 0 came)
first_sub set i n came = rw (← place_of_first (own_cells set (device_at set i)) (device_at set i).subs)
  where
    place_of_first : (at : ℕ) (subs : List Sub) → at ≡ sub_place set at subs 0
    place_of_first at [] = refl
    place_of_first at (s ∷ subs) = refl

pub joined_at : (pieces : List (Bor (List ℕ))) (i : ℕ) (d : Bor (List ℕ)) → i < length pieces
    → joined (drop i pieces) ≡ (get_or pieces i d).now ++ joined (drop (i + 1) pieces)
joined_at pieces i d lt = rw (drop_more pieces i d lt)

-- ---- The parts of a printed text.

-- a call whose fault was passed on as another
pub wrote_mapped : {T E F : Type 0} (a b : Outlet) (text : List ℕ) (r : Result T E) (mapped : Result T F) → is_ok mapped ≡ is_ok r → Wrote a b text r → Wrote a b text mapped
wrote_mapped a b text r mapped e w = grind arith

pub device_left : (set : Set) (k : ℕ) → k < length set.devices → drop k set.devices ≡ device_at set k ∷ drop (k + 1) set.devices
device_left set k lt = drop_more set.devices k (record { instance = 0; desc = no_desc; subs = [] }) lt

pub images_at : (images : List Image) (i : ℕ) (image : Image) → i < length images → image ≡ get_or images i image → drop i images ≡ image ∷ drop (i + 1) images
images_at images i image lt is = rw (drop_more images i image lt, ← is)

pub of_long : (set : Set) (devices : List Device) (images : List Image) → AreOf set devices images → length images ≡ length devices
of_long set [] [] a = refl
of_long set (d ∷ devices) (image ∷ images) a = rw (of_long set devices images a.1)
of_long set _ _ a = absurd a

pub of_room : (set : Set) (k : ℕ) (all : List Device) (images : List Image) → AreOf set (drop k all) (drop k images) → k < length all → k < length images
of_room set k all images a lt = omega (arith, of_long set (drop k all) (drop k images) a, length-drop k all, length-drop k images)

-- the image of the next device, and its lines
module _ (set : Set) (k : ℕ) (all : List Device) (images : List Image) (d : Device) (image : Image) (e : drop k all ≡ d ∷ drop (k + 1) all) (f : drop k images ≡ image ∷ drop (k + 1) images) where
  pub of_next : AreOf set (drop k all) (drop k images) → IsOf set d image × AreOf set (drop (k + 1) all) (drop (k + 1) images)
  of_next a = rw f at (rw e at a)

  pub devices_next : devices_lines set (drop k all) (drop k images) ≡ device_lines set d image ++ devices_lines set (drop (k + 1) all) (drop (k + 1) images)
  devices_next = rw (e, f)

-- ---- A line that grows after the front that it keeps.

pub stays : (line : List ℕ) → Stays line line
stays line = take_all (length line) line (omega arith)

-- a piece is appended
pub stays_more : (line piece : List ℕ) → Stays line (line ++ piece)
stays_more line piece = take-append-le (length line) line piece (omega arith) ∙ stays line

pub stays_then : (a b c : List ℕ) → Stays a b → Stays b c → Stays a c
stays_then a b c p q = sym (take-take (length a) (length b) c (omega (arith, sym (ap length p), length-take (length a) b))) ∙ ap (take (length a)) q ∙ p

-- what is kept of a line is its front
pub cut_is : (front line new : List ℕ) (n : ℕ) → new ≡ take n line → n ≡ length front → Stays front line → new ≡ front
cut_is front line new n e long s = rw (e, long, s)

pub stays_is : (line piece new : List ℕ) → new ≡ line ++ piece → Stays line new
stays_is line piece new e = rw e (stays_more line piece)

pub stays_element : (line digits new : List ℕ) → new ≡ line ++ codes "[" ++ digits ++ codes "]" → Stays line new
stays_element line digits new e =
    let begun = line ++ codes "[" in
    rw e (stays_then line begun _ (stays_more line (codes "[")) (stays_then begun (begun ++ digits) _ (stays_more begun digits) (stays_more (begun ++ digits) (codes "]"))))

-- what may still come after the items of a part's fields
pub below_uses : (r : ℕ) (item : Item) → uses_below r item ≡ true → below item ≤ PART_ROOM * r
below_uses r item e = grind arith

pub below_reach : (set : Set) (part : Part) → HasPart set part → below_part set part ≡ PART_ROOM * (reach set part + 1)
below_reach set part h = grind arith

-- a field of a part
pub field_short : (set : Set) → is_well_formed set ≡ true → (part : Part) → HasPart set part → (k : ℕ) → k < length (desc_at set part).fields
    → (f : Field) → f ≡ field_at set part k → (length f.name ≤ 32) × (below f.item + PART_ROOM ≤ below_part set part)
field_short set well part h k lt f is =
    let clean = field_clean _ well _ h _ lt in
    let uses : uses_below (reach set part) f.item ≡ true = rw is clean.uses in
    (omega (arith, ap (λ (x : Field). length x.name) is), omega (arith, below_reach set part h, below_uses (reach set part) f.item uses))

-- all of a part
pub part_short : (set : Set) → is_well_formed set ≡ true → (part : Part) → HasPart set part → below_part set part ≤ LONGEST_PATH
part_short set well part h = omega (arith, below_reach set part h, reach_whole set part h, few_structs set well)
