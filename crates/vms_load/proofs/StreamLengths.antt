-- What each description set has, and how many bytes the parts and the streams of a set may have.
use Rattle.vms_load.proofs.Facade
use Facade.{◌≡◌, ℕ, ◌+◌, ◌<◌, ◌≤◌, List, [], ◌∷◌, ◌++◌, length, map, Option, Some, None, ℤ, refl, sym, ◌∙◌, arith, true}
use Facade.{nat_le, suc, get_or, Bool, ◌&&◌, zero, ◌*◌, ◌^◌, false, and_parts, leb-true, get_or-map, slice_get-get_or, slice_get, State, at_start}
use Facade.{Set, Sub, Desc, Field, Device, Slot, Number, Rule, Cell, no_cell, no_desc, desc_slots, device_cells, first, capacity_of, own_cells, own_slots}
use Facade.{sub_place, sub_slots, Kind, U8, own_cell_count, first_fault, WellFormed, has_few, item_count, items_in, struct_items, subs_items, devices_items}
use Facade.{AreCells, sub_are, own_are, device_parts, Clean, struct_clean, sub_clean, device_at, is_well_formed, first_cell, HasPart, desc_at, sub_at, kinds_at}
use Facade.{few_cells, own_inside_device, sub_inside, none_is, few_items, few_devices, IsIn, part_of, part_desc, part_base, bytes_of, subs_due, HasSpot, table}
use Facade.{spot_slots, steps_of, WalkStep, IsOfKind, AreOfKinds, PartAt, is_small_item, is_small_optional, Item, MOST_UNUSED, first_long, width_small}
use Facade.{item_bytes, fields_bytes, desc_bytes, struct_bytes, section_bytes, sections_due, subs_bytes, devices_most, FOOT_LENGTH, LONGEST_HEAD}
use Facade.{LONGEST_SUB_HEAD, length-append, mul-le-mul_right, length-replicate, is_there, Meaning, no_meaning, item_slots, item_size, times, field_slots}
use Facade.{slots_from, field_cells, numbers_of, elements_of, counted, all_hold, no_parent, meaning, meanings, desc_cells, struct_cells, elements_fit, cells_in}
use Facade.{steps_append, field_bytes, steps_long, long_append, length-code, Image, zeroed, optional, configuration, trailer, written, written_section}
use Facade.{written_sections, written_subs}
use Rattle.vms_bodies.proofs.Places.{if_there}
use Rattle.vms_spec.proofs.Tables.{two_more}
use Rattle.std.specs.List.{AllByRecursion}

-- ---- what each description set has, and the most bytes of its streams

pub well_of : (set : Set) → is_well_formed set ≡ true → WellFormed set
well_of set h = none_is (first_fault set) h

pub desc_is : (set : Set) (k : ℕ) (sub : Option ℕ) → desc_at set (part_of k sub) ≡ part_desc (device_at set k) sub
desc_is set k sub = grind arith

pub base_is : (set : Set) (k : ℕ) (sub : Option ℕ) → first_cell set (part_of k sub) ≡ part_base set (device_at set k) sub
base_is set k sub = grind arith

-- the fields of a part of a device are among its cells
module _ (set : Set) (well : is_well_formed set ≡ true) (k : ℕ) (lt : k < length set.devices) where
  has_part : (sub : Option ℕ) → IsIn (device_at set k) sub → HasPart set (part_of k sub)
  has_part sub h = grind arith

  inside : (sub : Option ℕ) → IsIn (device_at set k) sub → first_cell set (part_of k sub) + own_cell_count set (desc_at set (part_of k sub)) ≤ length (device_cells set (device_at set k))
  inside sub h = grind (arith, own_inside_device, sub_inside)

  pub part_spot : (sub : Option ℕ) → IsIn (device_at set k) sub → (n : List ℤ) → length n ≡ length (device_cells set (device_at set k)) → (spot : PartAt) → spot.part ≡ part_of k sub → spot.base ≡ first_cell set spot.part
      → HasSpot set spot n
  part_spot sub h n long spot part base = search (arith, desc_at, has_part, few_cells, inside)

-- the numbers of a part are of the kinds of the device's cells
of_kinds : (cells : List Cell) (slots : List Slot) → AreCells cells slots → AreOfKinds (map (λ c. c.kind) cells) slots
of_kinds cells [] are = tt
of_kinds cells (Number c kind caps ∷ slots) are = (get_or-map (λ c. c.kind) cells c no_cell U8 are.0.within ∙ are.0.kind, of_kinds cells slots are.1)
of_kinds cells (_ ∷ slots) are = (tt, of_kinds cells slots are)

desc_kinds : (set : Set) (k : ℕ) (sub : Option ℕ) → IsIn (device_at set k) sub → (v : ℕ) (n : List ℤ)
    → AreOfKinds (kinds_at set k) (desc_slots (table set) (part_desc (device_at set k) sub) v n (part_base set (device_at set k) sub))
desc_kinds set k None h v n = of_kinds (device_cells set (device_at set k)) (own_slots set (device_at set k) v n) (own_are set (device_at set k) v n)
desc_kinds set k (Some j) h v n =
    let d = device_at set k in
    of_kinds (device_cells set d) (sub_slots set (sub_at d j) v n (sub_place set (own_cells set d) d.subs j)) (sub_are set d j (sub_at d j) v n (slice_get-get_or d.subs j _ h))

pub part_kinds : (set : Set) (k : ℕ) (sub : Option ℕ) → IsIn (device_at set k) sub → (spot : PartAt) → spot.part ≡ part_of k sub → spot.base ≡ first_cell set spot.part → (n : List ℤ)
    → AreOfKinds (kinds_at set k) (spot_slots set spot n)
part_kinds set k sub h spot part base n = rw (base, part, desc_is set k sub, base_is set k sub) (desc_kinds set k sub h spot.version n)

one_of_kinds : (kinds : List Kind) (xs rest : List WalkStep) (x : WalkStep) → AllByRecursion (IsOfKind kinds) (xs ++ (x ∷ rest)) → IsOfKind kinds x
one_of_kinds kinds [] rest x h = h.0
one_of_kinds kinds (y ∷ xs) rest x h = one_of_kinds kinds xs rest x h.1

-- the next of these steps is of its cell's kind
pub step_kind : (kinds : List Kind) (slots : List Slot) (xs rest : List WalkStep) (x : WalkStep) → AreOfKinds kinds slots → steps_of slots ≡ xs ++ (x ∷ rest) → IsOfKind kinds x
step_kind kinds slots xs rest x h e = one_of_kinds kinds xs rest x (rw e at h)

-- ---- The items of a well-formed set have few unused bytes.

abbrev AreSmall : List Field → Type 0
AreSmall fs = (i : ℕ) (f : Field) → slice_get fs i ≡ Some f → is_small_item f.item ≡ true

clean_small : (k : ℕ) (d : Desc) (rules : List Bool) → Clean k d rules → AreSmall d.fields
clean_small k d rules c i f e = (and_parts (nat_le (length f.former) 8 && is_small_optional f.test) (is_small_item f.item) (c.fields i f e).1.1.1.1.1.1.0).1

-- ---- no item has more than 4,096 bytes

abbrev IsSmall : ℕ → ℕ → Type 0
IsSmall bytes items = bytes ≤ MOST_UNUSED * items

abbrev Small : List ℕ → List ℕ → Type 0
Small bytes items = (j : ℕ) → IsSmall (get_or bytes j 0) (get_or items j 0)

item_small : (bytes items : List ℕ) → Small bytes items → (item : Item) → is_small_item item ≡ true → item_bytes bytes item ≤ MOST_UNUSED * item_count items item
item_small bytes items s item h = grind (arith, width_small)

times_small : (n b i : ℕ) → b ≤ MOST_UNUSED * i → n * b ≤ MOST_UNUSED * (n * i)
times_small zero b i h = omega arith
times_small (suc n) b i h = grind (arith, times_small n b i h)

fields_small : (bytes items : List ℕ) → Small bytes items → (fs : List Field) → AreSmall fs → fields_bytes bytes fs ≤ MOST_UNUSED * items_in items fs
fields_small bytes items s [] h = omega arith
fields_small bytes items s (f ∷ fs) h =
    let more = fields_small bytes items s fs (λ i g e. h (suc i) g e) in
    omega (arith, times_small (capacity_of f.count) _ _ (item_small bytes items s f.item (h 0 f refl)), more)

abbrev items_to : List Desc → ℕ → List ℕ
items_to ds k = first (λ sizes d. items_in sizes d.fields) ds k

same_long : (ds : List Desc) (k : ℕ) → length (struct_bytes ds k) ≡ length (items_to ds k)
same_long ds k = cc (first_long desc_bytes ds k, first_long (λ sizes d. items_in sizes d.fields) ds k)

structs_small : (ds : List Desc) → ((j : ℕ) → j < length ds → AreSmall (get_or ds j no_desc).fields) → (k : ℕ) → k ≤ length ds → Small (struct_bytes ds k) (items_to ds k)
unfolding first
structs_small ds small zero le j = omega arith
structs_small ds small (suc k) le j =
    let s = structs_small ds small k (omega arith) in
    let d = get_or ds k no_desc in
    two_more IsSmall 0 0 (omega arith) _ _ (same_long ds k) s (desc_bytes (struct_bytes ds k) d) (items_in (items_to ds k) d.fields)
    (fields_small (struct_bytes ds k) (items_to ds k) s d.fields (small k (omega arith))) j

-- ---- the parts of a set

module _ (set : Set) (well : is_well_formed set ≡ true) where
  struct_small : (j : ℕ) → j < length set.structs → AreSmall (get_or set.structs j no_desc).fields
  struct_small j lt =
      clean_small j (get_or set.structs j no_desc) _
      (struct_clean set (well_of set well) j (get_or set.structs j no_desc) (slice_get-get_or set.structs j no_desc lt))

  desc_small : (d : Desc) → AreSmall d.fields → bytes_of set d ≤ MOST_UNUSED * items_in (struct_items set.structs) d.fields
  desc_small d small =
      fields_small _ _ (structs_small set.structs struct_small (length set.structs) (omega arith)) d.fields small

  subs_small : (subs : List Sub) → ((j : ℕ) (s : Sub) → slice_get subs j ≡ Some s → AreSmall s.desc.fields) → subs_bytes set subs ≤ MOST_UNUSED * subs_items (struct_items set.structs) subs
  subs_small [] h = omega arith
  subs_small (s ∷ subs) h = omega (arith, desc_small s.desc (h 0 s refl), subs_small subs (λ j t e. h (suc j) t e))

  devices_small : (devices : List Device) → ((k : ℕ) (d : Device) → slice_get devices k ≡ Some d → AreSmall d.desc.fields × (length d.subs ≤ 32) × ((j : ℕ) (s : Sub) → slice_get d.subs j ≡ Some s → AreSmall s.desc.fields))
      → devices_most set devices ≤ (LONGEST_HEAD + FOOT_LENGTH + LONGEST_SUB_HEAD * 32) * length devices + MOST_UNUSED * devices_items (struct_items set.structs) devices
  devices_small [] h = omega arith
  devices_small (d ∷ devices) h =
      let here = h 0 d refl in
      omega (arith, desc_small d.desc here.0, subs_small d.subs here.2, devices_small devices (λ k e x. h (suc k) e x))

  part_of_device : (k : ℕ) (d : Device) → slice_get set.devices k ≡ Some d → AreSmall d.desc.fields × (length d.subs ≤ 32) × ((j : ℕ) (s : Sub) → slice_get d.subs j ≡ Some s → AreSmall s.desc.fields)
  part_of_device k d e =
      let c = (device_parts set (well_of set well) k d e).0 in (
        clean_small (length set.structs) d.desc _ c,
        leb-true (length d.subs) 32 (and_parts (has_few d.desc) (nat_le (length d.subs) 32) c.own.1.1.1.1.1.1.0).1,
        λ j s f. clean_small (length set.structs) s.desc _ (sub_clean set (well_of set well) k j d s e f),
      )

  -- this many bytes give no offset above 2 ^ 63
  pub most_small : devices_most set set.devices ≤ 2 ^ 27
  most_small = omega (arith, devices_small set.devices part_of_device, few_items set well, few_devices set well)

-- ---- what is due at the start

subs_all : (set : Set) (subs : List Sub) → subs_due set subs (map (λ s. None) subs) ≡ LONGEST_SUB_HEAD * length subs + subs_bytes set subs
subs_all set [] = refl
subs_all set (s ∷ subs) = omega (arith, subs_all set subs)

section_is : (set : Set) (d : Device) → section_bytes set d ≡ LONGEST_HEAD + FOOT_LENGTH + LONGEST_SUB_HEAD * length d.subs + (bytes_of set d.desc + subs_bytes set d.subs)
section_is set d = omega (arith, subs_all set d.subs)

all_due : (set : Set) (devices : List Device) → sections_due set devices (map (λ d. false) devices) ≡ devices_most set devices
all_due set [] = refl
all_due set (d ∷ devices) = omega (arith, section_is set d, all_due set devices)

pub start_due : (set : Set) {state : State} → state ≡ at_start set → sections_due set set.devices state.came ≡ devices_most set set.devices
start_due set e = cc (all_due set set.devices)

-- ---- how many bytes the steps of a part and the streams of a set may have

abbrev long : List Slot → ℕ
long xs = steps_long (steps_of xs)

joined : (xs ys : List Slot) → long (xs ++ ys) ≡ long xs + long ys
joined xs ys = cc (steps_append xs ys, long_append (steps_of xs) (steps_of ys))

-- the slots of a structure have no more bytes than this, and those of each structure than these
abbrev IsBound : Meaning → ℕ → Type 0
IsBound m b = (n : List ℤ) (at : ℕ) → long (m.slots n at) ≤ b

record Bounds (ms : List Meaning) (bytes : List ℕ) : Type 0 where
  each : (j : ℕ) → IsBound (get_or ms j no_meaning) (get_or bytes j 0)

module _ (ms : List Meaning) (bytes : List ℕ) (bounds : Bounds ms bytes) where
  item_bound : (item : Item) (caps : List ℕ) (n : List ℤ) (at : ℕ) → long (item_slots ms item caps n at) ≤ item_bytes bytes item
  item_bound item caps n at = grind arith

  items_bound : (item : Item) (caps : List ℕ) (n : List ℤ) (k at step : ℕ) → long (times k (item_slots ms item caps n) at step) ≤ k * item_bytes bytes item
  items_bound item caps n zero at step = omega arith
  items_bound item caps n (suc k) at step = grind (arith, joined, times, item_bound, items_bound item caps n k (at + step) step)

  field_bound : (fields : List Field) (v : ℕ) (own : ℕ → ℕ) (n : List ℤ) (i at : ℕ) (f : Field) → long (field_slots ms fields v own n i at f) ≤ field_bytes bytes f
  field_bound fields v own n i at f =
      let count = elements_of f.count own in
      let size = item_size (cells_in ms) f.item in
      if_there (λ xs. long xs ≤ field_bytes bytes f) (omega arith) (is_there f.test f.since v own no_parent)
      (times count (item_slots ms f.item (counted i fields) n) at size)
      (omega (
        arith,
        items_bound f.item (counted i fields) n count at size,
        mul-le-mul_right {m = count} {n = capacity_of f.count} (item_bytes bytes f.item) (elements_fit f.count own),
      ))

  fields_bound : (fields : List Field) (v : ℕ) (own : ℕ → ℕ) (n : List ℤ) (i at : ℕ) (fs : List Field) → long (slots_from ms fields v own n i at fs) ≤ fields_bytes bytes fs
  fields_bound fields v own n i at [] = omega arith
  fields_bound fields v own n i at (f ∷ fs) =
      let next = at + length (field_cells (cells_in ms) fields i f) in
      omega (arith, joined (field_slots ms fields v own n i at f) (slots_from ms fields v own n (suc i) next fs), field_bound fields v own n i at f, fields_bound fields v own n (suc i) next fs)

  desc_bound : (d : Desc) (v : ℕ) (n : List ℤ) (at : ℕ) → long (desc_slots ms d v n at) ≤ desc_bytes bytes d
  desc_bound d v n at = grind (arith, numbers_of, joined, all_hold, fields_bound)

structs_bound : (ds : List Desc) (k : ℕ) → Bounds (meanings ds k) (struct_bytes ds k)
unfolding first
structs_bound ds zero = record { each = λ j n at. omega arith }
structs_bound ds (suc k) =
    let h = structs_bound ds k in
    let d = get_or ds k no_desc in
    let ms = meanings ds k in
    let bytes = struct_bytes ds k in
    record {
      each = two_more IsBound no_meaning 0 (λ n at. omega arith) ms bytes (first_long meaning ds k ∙ sym (first_long desc_bytes ds k)) h.each
          (meaning ms d) (desc_bytes bytes d) (desc_bound ms bytes h d d.version);
    }

pub part_bound : (set : Set) (spot : PartAt) (n : List ℤ) → steps_long (steps_of (spot_slots set spot n)) ≤ bytes_of set (desc_at set spot.part)
part_bound set spot n =
    desc_bound (meanings set.structs (length set.structs)) (struct_bytes set.structs (length set.structs)) (structs_bound set.structs (length set.structs)) (desc_at set spot.part) spot.version n spot.base

-- ---- The greatest length of the streams of a set.

both-le : (a b : List ℕ) (m n : ℕ) → length a ≤ m → length b ≤ n → length (a ++ b) ≤ m + n
both-le a b m n p q = omega (arith, length-append a b)

zeroed-le : (numbers : List ℤ) (slots : List Slot) → length (zeroed numbers slots) ≤ long slots
zeroed-le numbers [] = omega arith
zeroed-le numbers (Rule b ∷ slots) = omega (arith, zeroed-le numbers slots)
zeroed-le numbers (_ ∷ slots) = simp length-append (omega (arith, length-code, length-replicate {A = ℕ}, zeroed-le numbers slots))

abbrev pub subs_long : Set → List Sub → ℕ
subs_long set [] = 0
subs_long set (s ∷ subs) = (6 + length s.desc.name + bytes_of set s.desc) + subs_long set subs

abbrev pub device_long : Set → Device → ℕ
device_long set d = (14 + length d.desc.name) + bytes_of set d.desc + subs_long set d.subs + FOOT_LENGTH

abbrev pub devices_long : Set → List Device → ℕ
devices_long set [] = 0
devices_long set (d ∷ devices) = device_long set d + devices_long set devices

module _ (set : Set) where
  own-long : (d : Desc) (v : ℕ) (numbers : List ℤ) (at : ℕ) → length (zeroed numbers (desc_slots (meanings set.structs (length set.structs)) d v numbers at)) ≤ bytes_of set d
  own-long d v numbers at =
      let ms = meanings set.structs (length set.structs) in
      omega (arith, zeroed-le numbers (desc_slots ms d v numbers at), desc_bound ms _ (structs_bound set.structs (length set.structs)) d v numbers at)

  subs-le : (d : Device) (image : Image) (at : ℕ) (subs : List Sub) (came : List (Option ℕ)) → length (written_subs set d image at subs came) ≤ subs_long set subs
  subs-le d image at [] came = omega arith
  subs-le d image at (s ∷ subs) [] = omega arith
  subs-le d image at (s ∷ subs) (None ∷ came) = omega (arith, subs-le d image (at + length (desc_cells (struct_cells set) s.desc)) subs came)
  subs-le d image at (s ∷ subs) (Some v ∷ came) =
      let more = subs-le d image (at + length (desc_cells (struct_cells set) s.desc)) subs came in
      simp length-append (omega (arith, own-long s.desc v image.numbers at, more))

  section-le : (d : Device) (image : Image) (id : ℕ) → length (written_section set d image id) ≤ device_long set d
  section-le d image id =
      let subs = subs-le d image (own_cells set d) d.subs image.came in
      simp length-append (omega (arith, own-long d.desc image.version image.numbers 0, subs))

  sections-le : (id : ℕ) (devices : List Device) (images : List Image) → length (written_sections set id devices images) ≤ devices_long set devices
  sections-le id [] images = omega arith
  sections-le id (d ∷ devices) [] = omega arith
  sections-le id (d ∷ devices) (image ∷ images) = grind (arith, both-le, section-le, sections-le (suc id) devices images)

  pub stream_le : (machine : Option (List ℕ)) (images : List Image) (text : Option (List ℕ))
      → length (written set machine images text) ≤ 8 + length (optional configuration machine) + devices_long set set.devices + 1 + length (optional trailer text)
  stream_le machine images text = simp length-append (omega (arith, sections-le 0 set.devices images))
