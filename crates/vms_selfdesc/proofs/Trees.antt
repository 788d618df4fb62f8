-- Entries of elements and fields, written one after the other.
use Rattle.vms_selfdesc.proofs.{Plain.member_more, Plain.further, Plain.same, Plain.unchanged, ReadBack.array_sound, ReadBack.whole_sound}
use Rattle.vms_selfdesc.proofs.Facade
use Facade.{add-one, map-id, ◌≡◌, ℕ, suc, ◌+◌, ◌*◌, ◌-◌, ◌<◌, ◌≤◌, List, ◌∷◌, ◌++◌, length, string_bytes, refl}
use Facade.{append_assoc, get_or, map, drop, ℤ, ap, ◌∙◌, arith, Bool, true, [], false, codes, None, drop_more, drop_all, append-nil, map-append, Data}
use Facade.{string, boolean, array, object, Members, no_members, member, put, compact_text, items_text, members_text, Part, Set, Sub, AtLeast, no_field}
use Facade.{field_cells, item_size, struct_cells, capacity_of, no_desc, field_size, shapes, cells_in, elements_from, field_at, own_numbers, first_cell, desc_at}
use Facade.{sub_at, Entry, entries_of, texts, after, AreSound, Adds, IsSound, Extends, Begins, Lays, member_text, element_path, element_entries, field_list}
use Facade.{part_list, natural, sub_tree, sub_trees, device_tree, device_trees, Draft, Path, escape_byte, items_of, Image, own_cells, device_at, sub_next}
use Facade.{sub_first, Text, HasPlace, field_start, place_after, place_is, place_within}
use Rattle.vms_selfdesc.proofs.OfElements.{of_append, of_desc, cells_are}
use Rattle.vms_spec.specs.declared.Part.TheVariants as parts

-- what is listed of the fields from k on of a part that begins at a place
abbrev pub fields_list : Set → Part → ℕ → ℕ → Bool → List ℤ → List ℕ → List Entry
fields_list set part base k sent n path =
    let d = desc_at set part in
    entries_of sent path (elements_from (shapes set) d.fields d.version (own_numbers set part n base) n k (field_start set part base k) (drop k d.fields))

-- of the whole, `done` was written, and this is left; f makes the trees
pub record Leaves {A : Type 0} (f : A → Data) (old now : Draft) (whole left : List A) : Type 0 where
  pub done : List A
  pub split : whole ≡ done ++ left
  pub lists : Adds old now (map f done)

after_true : (ds : List Data) → after true ds ≡ true
after_true ds = grind arith

texts_append : (later : Bool) (ds es : List Data) → texts later (ds ++ es) ≡ texts later ds ++ texts (after later ds) es
texts_append later [] es = refl
texts_append later (d ∷ ds) es = simp (texts_append true ds es, after_true ds, append_assoc)

after_append : (later : Bool) (ds es : List Data) → after later (ds ++ es) ≡ after (after later ds) es
after_append later ds es = grind (arith, after_true)

sound_append : (ds es : List Data) → AreSound ds → AreSound es → AreSound (ds ++ es)
sound_append [] es p q = q
sound_append (d ∷ ds) es p q = (p.0, sound_append ds es p.1 q)

pub adds_further : {a b c : Draft} {ds es : List Data} → Adds a b ds → Adds b c es → Adds a c (ds ++ es)
adds_further {a} {b} {c} {ds} {es} p q = record {
  text = same (further p.text q.text) (rw (texts_append a.later ds es, p.later));
  later = rw (q.later, p.later, after_append a.later ds es);
  sound = sound_append _ _ p.sound q.sound;
  path = cc;
}

-- what was written under a path that was gone into and left again
pub leave_path : {old : Draft} {inside left : Path} {new : Draft} {ds : List Data} → Adds (record { text = old.text; path = inside; later = old.later }) new ds
    → string_bytes left.text ≡ string_bytes old.path.text → Adds old (record { text = new.text; path = left; later = new.later }) ds
leave_path adds back = record { text = adds.text; later = adds.later; sound = adds.sound; path = back }

pub leaves_rest : {A : Type 0} {f : A → Data} {old now new : Draft} {whole left rest : List A} (part : List A) → Leaves f old now whole left
    → left ≡ part ++ rest → Adds now new (map f part) → Leaves f old new whole rest
leaves_rest {A} {f} part h e adds = record {
  done = h.done ++ part;
  split = rw (h.split, e, append_assoc);
  lists = rw (map-append f h.done part) (adds_further h.lists adds);
}

pub leaves_all : {A : Type 0} {f : A → Data} (old : Draft) {whole left : List A} → whole ≡ left → Leaves f old old whole left
leaves_all old e = record { done = []; split = e; lists = record { text = unchanged old.text; later = refl; sound = tt; path = refl } }

-- trees themselves are left
pub leaves_none : {old now : Draft} {whole left : List Data} → left ≡ [] → Leaves (λ d. d) old now whole left → Adds old now whole
leaves_none e h = rw (h.split, e, append-nil, ← map-id h.done) h.lists

-- ---- elements

pub elements_next : (one : List ℕ → ℕ → List Entry) (path : List ℕ) (at step i n : ℕ) → i < n
    → element_entries one path at step i (n - i) ≡ one (element_path path i) at ++ element_entries one path (at + step) step (i + 1) (n - (i + 1))
elements_next one path at step i n lt = let more : n - i ≡ suc (n - (i + 1)) = omega arith in rw (more, add-one)

-- there is room for the next of n elements
pub element_room : (size first i n cell most : ℕ) → i < n → cell ≡ first + i * size → first + n * size ≤ most → cell + 1 * size ≤ most
element_room size first i n cell most lt e room = grind arith

pub next_element : (size first i cell : ℕ) → cell ≡ first + i * size → cell + size ≡ first + (i + 1) * size
next_element size first i cell e = grind arith

-- ---- fields

-- field k of a description, and the fields after it
module _ (set : Set) (part : Part) (base : ℕ) (sent : Bool) (path : List ℕ) (n : List ℤ) where
  pub fields_next : (at k : ℕ) → at ≡ field_start set part base k → k < length (desc_at set part).fields
      → fields_list set part base k sent n path ≡ field_list set part base k sent n path at ++ fields_list set part base (k + 1) sent n path
  fields_next at k begins lt =
      let d = desc_at set part in
      let f = field_at set part k in
      let ss = shapes set in
      let width = field_size (cells_in ss) d.fields k f ∙ ap (λ cs. capacity_of f.count * item_size cs f.item) (cells_are set) in
      let after : at + length (field_cells (cells_in ss) d.fields k f) ≡ field_start set part base (k + 1) =
      omega (arith, width, place_after (struct_cells set) d.fields 0 base d.fields k lt) in
      rw (← begins, drop_more d.fields k no_field lt, of_append, after, add-one)

  pub fields_whole : fields_list set part base 0 sent n path ≡ part_list set part sent n path base
  fields_whole =
      let d = desc_at set part in
      let first : field_start set part base 0 ≡ base = omega (arith, place_is (struct_cells set) d.fields 0 base d.fields 0) in
      rw (first, of_desc (shapes set) d d.version sent path n base, cells_are set)

-- there is room for a field of a part
pub field_room : (set : Set) (part : Part) (base k : ℕ) (n : List ℤ) → HasPlace set part base n → k < length (desc_at set part).fields
    → field_start set part base k + capacity_of (field_at set part k).count * item_size (struct_cells set) (field_at set part k).item ≤ length n
field_room set part base k n place lt =
    let fs = (desc_at set part).fields in
    omega (arith, place_after (struct_cells set) fs 0 base fs k lt, place_within (struct_cells set) fs 0 base fs (k + 1))

-- ---- trees in an array

-- the texts of trees with the bracket after them
items_texts : (later : Bool) (ds : List Data) → items_text later (items_of ds) ≡ texts later ds ++ 93 ∷ []
items_texts later [] = refl
items_texts later (d ∷ ds) = simp (items_texts true ds, append_assoc)

pub lays : {a b c : Draft} {s : Text} {ds : List Data} → Extends a.text s (91 ∷ []) → Adds (record { text = s; path = a.path; later = false }) b ds
    → Extends b.text c.text (93 ∷ []) → string_bytes c.path.text ≡ string_bytes b.path.text → Lays a c (array (items_of ds))
lays {ds = ds} opens adds close path = record {
  text = same (further opens (further adds.text close)) (rw (items_texts false ds));
  sound = array_sound ds adds.sound;
  path = cc;
}

-- an object that begins with fields
pub fields_adds : {a b l e : Draft} {list : Data} {ms : Members} {rest : List ℕ} → Begins a b (codes "{\"fields\":") → Lays b l list
    → Extends l.text e.text rest → members_text true ms ≡ rest → IsSound (object (member (codes "fields") list ms)) → e.later ≡ true
    → string_bytes e.path.text ≡ string_bytes l.path.text → Adds a e (object (member (codes "fields") list ms) ∷ [])
unfolding escape_byte
fields_adds begun lays more is sound later path = record {
  text = same (further (further begun.text lays.text) more) (rw (← is) (simp (append_assoc, append-nil)));
  later = later;
  sound = (sound, tt);
  path = cc;
}

-- the members of a subsection after its fields
pub head_text : (name : List ℕ) (sent : Bool) (version : ℕ)
    → members_text true (member (codes "name") (string name) (member (codes "sent") (boolean sent) (member (codes "version") (natural version) no_members)))
    ≡ (member_text (codes "name") (string name) ++ (member_text (codes "sent") (boolean sent) ++ member_text (codes "version") (natural version))) ++ codes "}"
head_text name sent version = simp append_assoc

-- those of a device
abbrev pub tail_members : ℕ → List ℕ → Data → ℕ → Members
tail_members instance name subs version =
    member (codes "instance_id") (natural instance)
    (member (codes "name") (string name) (member (codes "subsections") subs (member (codes "version") (natural version) no_members)))

pub device_text : (instance : ℕ) (name : List ℕ) (subs : Data) (version : ℕ) → members_text true (tail_members instance name subs version)
    ≡ (member_text (codes "instance_id") (natural instance) ++ member_text (codes "name") (string name))
    ++ (codes ",\"subsections\":" ++ (compact_text subs ++ (member_text (codes "version") (natural version) ++ codes "}")))
unfolding escape_byte
device_text instance name subs version =
    let last = member (codes "subsections") subs (member (codes "version") (natural version) no_members) in
    let rest = codes ",\"subsections\":" ++ (compact_text subs ++ (member_text (codes "version") (natural version) ++ codes "}")) in
    rw (
      append_assoc (member_text (codes "instance_id") (natural instance)) (member_text (codes "name") (string name)) rest,
      member_more (codes "instance_id") (natural instance) (member (codes "name") (string name) last),
      member_more (codes "name") (string name) last,
      member_more (codes "version") (natural version) no_members,
    )

-- the whole
pub whole_lays : {a b c : Draft} {s : Text} {ds : List Data}
    → Extends a.text s (codes "{\"devices\":[") → Adds (record { text = s; path = a.path; later = false }) b ds
    → Extends b.text c.text (codes "]}") → string_bytes c.path.text ≡ string_bytes b.path.text
    → Lays a c (object (put (codes "devices") (array (items_of ds)) no_members))
unfolding escape_byte
whole_lays {ds = ds} opens adds close path = record {
  text = same (further opens (further adds.text close)) (rw (items_texts false ds) (simp append_assoc));
  sound = whole_sound ds (array_sound ds adds.sound);
  path = cc;
}

-- ---- subsections

pub subs_begin : (set : Set) (i : ℕ) (image : Image) → sub_trees set image.numbers (own_cells set (device_at set i)) (device_at set i).subs image.came
    ≡ sub_trees set image.numbers (first_cell set (parts.Sub i 0)) (device_at set i).subs image.came
subs_begin set i image = rw (sub_first set (own_cells set (device_at set i)) (device_at set i).subs)

pub subs_next : (set : Set) (i : ℕ) (image : Image) (j : ℕ) → j < length (device_at set i).subs → j < length image.came
    → sub_trees set image.numbers (first_cell set (parts.Sub i j)) (drop j (device_at set i).subs) (drop j image.came)
    ≡ sub_tree set image.numbers (first_cell set (parts.Sub i j)) (sub_at (device_at set i) j) (get_or image.came j None)
    ∷ sub_trees set image.numbers (first_cell set (parts.Sub i (j + 1))) (drop (j + 1) (device_at set i).subs) (drop (j + 1) image.came)
subs_next set i image j lt lt' =
    let d = device_at set i in
    let none : Sub = record { desc = no_desc; needed = AtLeast 0 } in
    rw (drop_more d.subs j none lt, drop_more image.came j None lt', sub_next set (own_cells set d) d.subs j none lt)

pub subs_end : (set : Set) (i : ℕ) (image : Image) (j : ℕ) → length (device_at set i).subs ≤ j
    → sub_trees set image.numbers (first_cell set (parts.Sub i j)) (drop j (device_at set i).subs) (drop j image.came) ≡ []
subs_end set i image j le = rw (drop_all j (device_at set i).subs le)

-- ---- devices

pub devices_next : (set : Set) (images : List Image) (i : ℕ) (image : Image) → i < length set.devices → i < length images → image ≡ get_or images i image
    → device_trees set (drop i set.devices) (drop i images) ≡ device_tree set (device_at set i) image ∷ device_trees set (drop (i + 1) set.devices)
    (drop (i + 1) images)
devices_next set images i image lt lt' is =
    rw (drop_more set.devices i (record { instance = 0; desc = no_desc; subs = [] }) lt, drop_more images i image lt', ← is)

pub devices_end : (set : Set) (images : List Image) (i : ℕ) → length set.devices ≤ i → device_trees set (drop i set.devices) (drop i images) ≡ []
devices_end set images i le = rw (drop_all i set.devices le)
