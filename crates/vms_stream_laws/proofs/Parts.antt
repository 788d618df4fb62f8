-- The slots of a set without its validations, and what the units so far say of it.
use Rattle.vms_stream_laws.proofs.Facade
use Facade.{arith, ◌≡◌, ℕ, zero, suc, Bool, List, [], ◌∷◌, map, Option, Some, None, refl, list_any, slice_get, option_map, slice_get-map}
use Facade.{at_option, first_answer, position, or_else_none, both_none, test_some, unruled_device, unruled_sub, map-map, ◌+◌, true, false}
use Facade.{if◌then◌else◌, length, get_or, drop, ℤ, sym, ap, ◌∙◌, flat_map, drop-map, length-map, map-append, fun_ext, Item, Struct, Image}
use Facade.{default_image, own_cells, sub_place, Cell, Slot, Rule, Meaning, no_meaning, no_desc, all_hold, counted, desc_cells, desc_slots, device_cells}
use Facade.{field_cells, field_slots, first, item_slots, meaning, meanings, no_parent, numbers_of, slots_from, struct_cells, times, Desc, Device, Field, Set}
use Facade.{Sub, fresh, part_slots, slots_of_sub, subs_of, is_there, Tail, Footed, beyond, skipped, due_field, rules_hold, unruled, unruled_desc, bytes_eq}
use Facade.{come, device, device_named, image, mark_come, opened, part, slots, sub_named, Piece, Head, Number, Constant, Filler, SubHead, End, due, holds}
use Facade.{Front, Known, behind, known, passed, tail, asking, reason_of, HoldsBefore}
use Rattle.vms_spec.specs.Layout as slots

-- ---- lists whose elements are put to others: what is found in them is what was found before

module _ {X Y : Type 0} (f : X → Y) where
  pub position_map : (p : Y → Bool) (k : ℕ) (xs : List X) → position p k (map f xs) ≡ position (λ x. p (f x)) k xs
  position_map p k [] = refl
  position_map p k (x ∷ xs) = rw (position_map p (suc k) xs)

  pub any_map : (p : Y → Bool) (xs : List X) → list_any p (map f xs) ≡ list_any (λ x. p (f x)) xs
  any_map p [] = refl
  any_map p (x ∷ xs) = rw (any_map p xs)

  pub at_map : (xs : List X) (o : Option ℕ) → at_option (map f xs) o ≡ option_map f (at_option xs o)
  at_map xs None = refl
  at_map xs (Some k) = slice_get-map f xs k

  pub test_map : (p : Y → Bool) (o : Option X) → test_some p (option_map f o) ≡ test_some (λ x. p (f x)) o
  test_map p None = refl
  test_map p (Some x) = refl

  -- what is in the other list came from the first
  pub record CameFrom (xs : List X) (k : ℕ) (y : Y) : Type 0 where
    pub first : X
    pub there : slice_get xs k ≡ Some first
    pub is : f first ≡ y

  pub came_from : (xs : List X) (k : ℕ) (y : Y) → slice_get (map f xs) k ≡ Some y → CameFrom xs k y
  came_from [] k y e = absurd (cc)
  came_from (x ∷ xs) zero y e = record { first = x; there = refl; is = cc }
  came_from (x ∷ xs) (suc k) y e = let r = came_from xs k y e in record { first = r.first; there = r.there; is = r.is }

  -- if nothing is found in the first list, nothing is found in the other
  pub none_after : {Z : Type 0} (a : ℕ → X → Option Z) (b : ℕ → Y → Option Z) → ((i : ℕ) (x : X) → a i x ≡ None → b i (f x) ≡ None) → (i : ℕ) (xs : List X)
      → first_answer a i xs ≡ None → first_answer b i (map f xs) ≡ None
  none_after a b h i [] e = refl
  none_after a b h i (x ∷ xs) e =
      let both = or_else_none (a i x) (first_answer a (suc i) xs) e in
      both_none (b i (f x)) (first_answer b (suc i) (map f xs)) (h i x both.0) (none_after a b h (suc i) xs both.1)

-- ---- the slots of a set without its validations are those of the set, with every rule true: slots whose rules hold

abbrev pub held_slot : Slot → Slot
held_slot (Rule b) = Rule true
held_slot slot = slot

abbrev pub held : List Slot → List Slot
held slots = map held_slot slots

-- what is due, that rules hold and how many slots are passed over, of slots whose rules are made to hold
held_as : (t : Tail) (k : ℕ) (slots : List Slot)
    → (due_field t (Some k) (held slots) ≡ due_field t (Some k) slots) × (rules_hold (held slots) ≡ true) × (skipped (held slots) ≡ skipped slots)
held_as t k (Rule b ∷ slots) = let h = held_as t k slots in (h.0, h.1, ap suc h.2)
held_as t k (slots.Filler zero ∷ slots) = let h = held_as t k slots in (h.0, h.1, ap suc h.2)
held_as t k _ = (refl, refl, refl)

pub due_held : (t : Tail) (o : Option ℕ) (slots : List Slot) → due_field t o (held slots) ≡ due_field t o slots
due_held t None slots = refl
due_held t (Some k) slots = (held_as t k slots).0

pub drop_held : (n : ℕ) (slots : List Slot) → drop n (held slots) ≡ held (drop n slots)
drop_held n slots = drop-map held_slot n slots

pub beyond_held : (n : ℕ) (slots : List Slot) → beyond n (held slots) ≡ beyond n slots
beyond_held n slots = rw (ap skipped (drop_held n slots) ∙ (held_as Footed 0 (drop n slots)).2)

-- ---- structures

abbrev held_meaning : Meaning → Meaning
held_meaning m = record { cells = m.cells; slots = λ numbers at. held (m.slots numbers at) }

abbrev pub cells_in : List Meaning → List (List Cell)
cells_in ms = map (λ (m : Meaning). m.cells) ms

cells_held : (ms : List Meaning) → cells_in (map held_meaning ms) ≡ cells_in ms
cells_held [] = refl
cells_held (m ∷ ms) = rw (cells_held ms)

meaning_at : (ms : List Meaning) (j : ℕ) → get_or (map held_meaning ms) j no_meaning ≡ held_meaning (get_or ms j no_meaning)
meaning_at (m ∷ ms) (suc j) = meaning_at ms j
meaning_at _ _ = refl

times_held : (n : ℕ) (f g : ℕ → List Slot) → ((at : ℕ) → f at ≡ held (g at)) → (at step : ℕ) → times n f at step ≡ held (times n g at step)
times_held zero f g h at step = refl
times_held (suc n) f g h at step = rw (h at, times_held n f g h (at + step) step) (sym (map-append held_slot (g at) (times n g (at + step) step)))

item_held : (ms : List Meaning) (item : Item) (caps : List ℕ) (numbers : List ℤ) (at : ℕ)
    → item_slots (map held_meaning ms) item caps numbers at ≡ held (item_slots ms item caps numbers at)
item_held ms (Struct j) caps numbers at = ap (λ m. m.slots numbers at) (meaning_at ms j)
item_held ms _ caps numbers at = refl

if_held : (there : Bool) (xs ys : List Slot) → xs ≡ held ys → (if there then xs else []) ≡ held (if there then ys else [])
if_held true xs ys e = e
if_held false xs ys e = refl

module _ (ms : List Meaning) (fields : List Field) (v : ℕ) (own : ℕ → ℕ) (numbers : List ℤ) where
  field_held : (i at : ℕ) (f : Field) → field_slots (map held_meaning ms) fields v own numbers i at f ≡ held (field_slots ms fields v own numbers i at f)
  field_held i at f =
      rw (cells_held ms) (if_held (is_there f.test f.since v own no_parent) _ _ (times_held _ _ _ (item_held ms f.item (counted i fields) numbers) at _))

  fields_held : (i at : ℕ) (fs : List Field) → slots_from (map held_meaning ms) fields v own numbers i at fs ≡ held (slots_from ms fields v own numbers i at fs)
  fields_held i at [] = refl
  fields_held i at (f ∷ fs) =
      rw (field_held i at f, cells_held ms, fields_held (suc i) (at + length (field_cells (cells_in ms) fields i f)) fs)
      (sym (map-append held_slot (field_slots ms fields v own numbers i at f) _))

desc_held : (ms : List Meaning) (d : Desc) (v : ℕ) (numbers : List ℤ) (at : ℕ)
    → desc_slots (map held_meaning ms) (unruled_desc d) v numbers at ≡ held (desc_slots ms d v numbers at)
desc_held ms d v numbers at =
    let own = numbers_of (cells_in ms) d numbers at in
    rw (cells_held ms, fields_held ms d.fields v own numbers 0 at d.fields)
    (sym (map-append held_slot (slots_from ms d.fields v own numbers 0 at d.fields) (Rule (all_hold d.validate v own) ∷ [])))

meaning_held : (ms : List Meaning) (d : Desc) → meaning (map held_meaning ms) (unruled_desc d) ≡ held_meaning (meaning ms d)
meaning_held ms d =
    let of : List Cell → (List ℤ → ℕ → List Slot) → Meaning = λ cells slots. record { cells = cells; slots = slots } in
    ap (λ cs. of (desc_cells cs d) (λ numbers at. desc_slots (map held_meaning ms) (unruled_desc d) d.version numbers at)) (cells_held ms)
    ∙ ap (of (desc_cells (cells_in ms) d)) (fun_ext (λ (numbers : List ℤ). fun_ext (λ (at : ℕ). desc_held ms d d.version numbers at)))

desc_at : (ds : List Desc) (k : ℕ) → get_or (map unruled_desc ds) k no_desc ≡ unruled_desc (get_or ds k no_desc)
desc_at (d ∷ ds) (suc k) = desc_at ds k
desc_at _ _ = refl

-- what doesn't depend on validations is the same for each structure
pub first_unruled : {B : Type 0} (f : List B → Desc → B) → ((bs : List B) (d : Desc) → f bs (unruled_desc d) ≡ f bs d) → (ds : List Desc) (k : ℕ)
    → first f (map unruled_desc ds) k ≡ first f ds k
unfolding first
first_unruled f h ds zero = refl
first_unruled {B} f h ds (suc k) = rw (first_unruled f h ds k, desc_at ds k, h (first f ds k) (get_or ds k no_desc))

meanings_held : (ds : List Desc) (k : ℕ) → meanings (map unruled_desc ds) k ≡ map held_meaning (meanings ds k)
unfolding first
meanings_held ds zero = refl
meanings_held ds (suc k) =
    let ms = meanings ds k in
    let d = get_or ds k no_desc in
    rw (meanings_held ds k, desc_at ds k, meaning_held ms d) (sym (map-append held_meaning ms (meaning ms d ∷ [])))

-- ---- devices

module _ (set : Set) where
  structs_held : meanings (map unruled_desc set.structs) (length (map unruled_desc set.structs)) ≡ map held_meaning (meanings set.structs (length set.structs))
  structs_held = rw (length-map set.structs unruled_desc) (meanings_held set.structs (length set.structs))

  cells_same : struct_cells (unruled set) ≡ struct_cells set
  cells_same = rw (length-map set.structs unruled_desc) (first_unruled desc_cells (λ bs d. refl) set.structs (length set.structs))

  own_same : (d : Device) → own_cells (unruled set) (unruled_device d) ≡ own_cells set d
  own_same d = rw cells_same

  device_same : (d : Device) → device_cells (unruled set) (unruled_device d) ≡ device_cells set d
  device_same d = rw (cells_same, subs_same d.subs)
    where
      subs_same : (subs : List Sub)
          → flat_map (λ (s : Sub). desc_cells (struct_cells set) s.desc) (map unruled_sub subs) ≡ flat_map
          (λ (s : Sub). desc_cells (struct_cells set) s.desc) subs
      subs_same [] = refl
      subs_same (s ∷ subs) = rw (subs_same subs)

  default_same : (d : Device) → default_image (unruled set) (unruled_device d) ≡ default_image set d
  default_same d =
      let none : Sub → Option ℕ = λ s. None in
      rw (map-map none unruled_sub d.subs, device_same d) refl

  pub fresh_same : (o : Option Device) (v : ℕ) → fresh (unruled set) (option_map unruled_device o) v ≡ fresh set o v
  fresh_same None v = refl
  fresh_same (Some d) v = ap (λ (i : Image). record i { version = v }) (default_same d)

  place_same : (at : ℕ) (subs : List Sub) (j : ℕ) → sub_place (unruled set) at (map unruled_sub subs) j ≡ sub_place set at subs j
  place_same at (s ∷ subs) (suc j) = grind (arith, cells_same, place_same (at + length (desc_cells (struct_cells set) s.desc)) subs j)
  place_same at _ _ = refl

  sub_held : (d : Device) (i : Image) (j : ℕ) (o : Option Sub) (c : Option (Option ℕ))
      → slots_of_sub (unruled set) (unruled_device d) i j (option_map unruled_sub o) c ≡ held (slots_of_sub set d i j o c)
  sub_held d i j (Some s) (Some (Some v)) =
      rw (own_same d, place_same (own_cells set d) d.subs j, structs_held) (desc_held (meanings set.structs (length set.structs)) s.desc v i.numbers _)
  sub_held d i j _ _ = refl

  -- the slots of a part
  pub part_held : (o : Option Device) (i : Image) (p : Option ℕ) → part_slots (unruled set) (option_map unruled_device o) i p ≡ held (part_slots set o i p)
  part_held None i p = refl
  part_held (Some d) i None = rw structs_held (desc_held (meanings set.structs (length set.structs)) d.desc i.version i.numbers 0)
  part_held (Some d) i (Some j) = rw (slice_get-map unruled_sub d.subs j) (sub_held d i j (slice_get d.subs j) (slice_get i.came j))

  pub subs_held : (o : Option Device) → subs_of (option_map unruled_device o) ≡ map unruled_sub (subs_of o)
  subs_held None = refl
  subs_held (Some d) = refl

-- ---- what the units so far say of a set without its validations is what they say of the set; its validations hold, since it has none

module _ (set : Set) where
  abbrev bare : Set
  bare = unruled set

  named_same : (name : List ℕ) (instance : ℕ) → device_named bare name instance ≡ device_named set name instance
  named_same name instance = position_map unruled_device _ 0 set.devices

  at_same : (o : Option ℕ) → at_option bare.devices o ≡ option_map unruled_device (at_option set.devices o)
  at_same o = at_map unruled_device set.devices o

  come_same : (u : List Piece) → come bare u ≡ come set u
  come_same [] = map-map (λ (d : Device). false) unruled_device set.devices
  come_same (Head id name instance v ∷ u) = rw (come_same u) (ap (mark_come (come set u)) (named_same name instance))
  come_same (x ∷ u) = come_same u

  opened_same : (u : List Piece) → opened bare u ≡ opened set u
  opened_same [] = refl
  opened_same (Head id name instance v ∷ u) = named_same name instance
  opened_same (x ∷ u) = assumption (opened_same u)

  device_held : (u : List Piece) → device bare u ≡ option_map unruled_device (device set u)
  device_held u = ap (at_option bare.devices) (opened_same u) ∙ at_same (opened set u)

  sub_same : (u : List Piece) (name : List ℕ) → sub_named bare u name ≡ sub_named set u name
  sub_same u name =
      rw (ap subs_of (device_held u) ∙ subs_held set (device set u)) (position_map unruled_sub (λ s. bytes_eq s.desc.name name) 0 (subs_of (device set u)))

  behind_same : (o : Option ℕ) (t : Tail) → behind bare o t ≡ behind set o t
  behind_same None t = refl
  behind_same (Some k) t = refl

  tail_same : (u : List Piece) → tail bare u ≡ tail set u
  tail_same [] = refl
  tail_same (Head id name instance v ∷ u) = rw (opened_same u, tail_same u) (behind_same (opened set u) (tail set u))
  tail_same (End ∷ u) = rw (opened_same u, tail_same u) (behind_same (opened set u) (tail set u))
  tail_same (x ∷ u) = assumption (tail_same u)

  part_same : (u : List Piece) → part bare u ≡ part set u
  part_same [] = refl
  part_same (SubHead name v ∷ u) = sub_same u name
  part_same (x ∷ u) = assumption (part_same u)

  image_same : (u : List Piece) → image bare u ≡ image set u
  image_same [] = refl
  image_same (Head id name instance v ∷ u) =
      rw (named_same name instance, at_same (device_named set name instance)) (fresh_same set (at_option set.devices (device_named set name instance)) v)
  image_same (Number c kind z ∷ u) = rw (image_same u)
  image_same (SubHead name v ∷ u) = rw (image_same u, sub_same u name)
  image_same (x ∷ u) = assumption (image_same u)

  slots_held : (u : List Piece) → slots bare u ≡ held (slots set u)
  slots_held u = rw (device_held u, image_same u, part_same u) (part_held set (device set u) (image set u) (part set u))

  passed_same : (u : List Piece) → passed bare u ≡ passed set u
  passed_same (Number c kind z ∷ u) = rw (passed_same u, slots_held u) (beyond_held (passed set u) (slots set u))
  passed_same (Constant kind z ∷ u) = rw (passed_same u, slots_held u) (beyond_held (passed set u) (slots set u))
  passed_same (Filler bytes ∷ u) = rw (passed_same u, slots_held u) (beyond_held (passed set u) (slots set u))
  passed_same u = refl

  left_held : (u : List Piece) → drop (passed bare u) (slots bare u) ≡ held (drop (passed set u) (slots set u))
  left_held u = rw (passed_same u, slots_held u) (drop_held (passed set u) (slots set u))

  field_same : (u : List Piece)
      → due_field (tail bare u) (opened bare u) (drop (passed bare u) (slots bare u)) ≡ due_field (tail set u) (opened set u)
      (drop (passed set u) (slots set u))
  field_same u = rw (left_held u, tail_same u, opened_same u) (due_held (tail set u) (opened set u) _)

  pub due_same : (u : List Piece) → due bare u ≡ due set u
  due_same [] = refl
  due_same (End ∷ u) = refl
  due_same (x ∷ u) = assumption (field_same (x ∷ u))

  -- no validation fails
  pub every_holds : (u : List Piece) → holds bare u ≡ true
  every_holds u = ap rules_hold (left_held u) ∙ ((held_as Footed 0 (drop (passed set u) (slots set u))).1)

  -- ---- the rows

  known_same : (u : List Piece) → known bare u ≡ known set u
  known_same u = rw (come_same u, opened_same u, image_same u) refl

  asking_same : (names : List (List ℕ)) (k : Known) (x : Piece) → asking bare names k x ≡ asking set names k x
  asking_same names k (Head id name instance v) = grind (arith, named_same, at_same, test_map)
  asking_same names k (SubHead name v) = grind (arith, at_same, subs_held, position_map, at_map, test_map)
  asking_same names k x = refl

  pub reason_same : (names : List (List ℕ)) (u : List Piece) (x : Piece) → reason_of bare names u x ≡ reason_of set names u x
  reason_same names u x = cc (due_same u, known_same u, asking_same names (known set u) x)

  -- ---- fronts

  pub to_bare : (names : List (List ℕ)) (u : List Piece) → Front set names u → Front bare names u
  to_bare names [] f = tt
  to_bare names (x ∷ u) f = (to_bare names u f.0, every_holds u, rw (due_same u) f.2, reason_same names u x ∙ f.3)

  pub from_bare : (names : List (List ℕ)) (u : List Piece) → Front bare names u → HoldsBefore set u → Front set names u
  from_bare names [] f h = tt
  from_bare names (x ∷ u) f h = (from_bare names u f.0 h.0, h.1, rw (due_same u) at f.2, sym (reason_same names u x) ∙ f.3)
