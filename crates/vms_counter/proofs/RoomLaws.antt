-- The bytes of structures, fields and sections, and the room that is made for a stream.
use Rattle.vms_counter.proofs.Facade
use Facade.{◌≡◌, ℕ, ◌+◌, ◌*◌, ◌^◌, ◌<◌, true, List, [], ◌∷◌, ◌++◌, length, get_or, map, refl, ◌∙◌, arith, add-one}
use Facade.{length-map, map-append, Item, capacity_of, first, no_desc, Field, Desc, Device, in_u32, is_well_formed, desc_of, device_of, field_of, get_map_at}
use Facade.{capped_product, capped_at, item_bytes, fields_bytes, struct_bytes, subs_bytes, devices_most, most_small, subs_in, devices_in, LONGEST_SUB_HEAD}
use Facade.{◌≤◌, Option, None, IfSome, get_or_from_slice_get, slice_get_within, LONGEST_NAME, Image, Sub, Set, optional, configuration, written}
use Facade.{is_one_of, subs_long, devices_long, stream_le, AllSubs, AllParts, EachSub, EachPart, all_parts, BESIDE_SECTIONS, machine_short, device_at, sub_at}
use Facade.{device_is, well_of, device_short, sub_short, HasRoom}
use Rattle.vms_spec.specs.Sets as sets

-- ---- bytes of structures, fields and sections, where those of structures end at 2 ^ 32 - 1

capped_item : (bytes : List ℕ) (n : ℕ) (item : Item) → in_u32 (n * item_bytes (map in_u32 bytes) item) ≡ in_u32 (n * item_bytes bytes item)
capped_item bytes n item = grind (arith, capped_at, capped_product)

capped_fields : (bytes : List ℕ) (fs : List sets.Field) → in_u32 (fields_bytes (map in_u32 bytes) fs) ≡ in_u32 (fields_bytes bytes fs)
capped_fields bytes [] = refl
capped_fields bytes (f ∷ fs) = omega (arith, capped_item bytes (capacity_of f.count) f.item, capped_fields bytes fs)

capped_subs : (bytes : List ℕ) (subs : List sets.Sub) → in_u32 (subs_in (map in_u32 bytes) subs) ≡ in_u32 (subs_in bytes subs)
capped_subs bytes [] = refl
capped_subs bytes (s ∷ subs) = omega (arith, capped_fields bytes s.desc.fields, capped_subs bytes subs)

capped_devices : (bytes : List ℕ) (devices : List sets.Device) → in_u32 (devices_in (map in_u32 bytes) devices) ≡ in_u32 (devices_in bytes devices)
capped_devices bytes [] = refl
capped_devices bytes (d ∷ devices) = omega (arith, capped_fields bytes d.desc.fields, capped_subs bytes d.subs, capped_devices bytes devices)

-- one structure more
pub structs_more : (structs : List Desc) (bytes given : List ℕ) (i : ℕ) (d : Desc) (fields : List Field) (own : ℕ) → d ≡ get_or structs i d → i < length structs
    → bytes ≡ map in_u32 (struct_bytes (map desc_of structs) i) → own ≡ in_u32 (fields_bytes given (map field_of fields)) → given ≡ bytes → fields ≡ d.fields
    → bytes ++ own ∷ [] ≡ map in_u32 (struct_bytes (map desc_of structs) (i + 1))
unfolding first
structs_more structs bytes given i d fields own is lt e s same of =
    let ds = map desc_of structs in
    let here : get_or ds i no_desc ≡ desc_of d = get_map_at desc_of structs i d no_desc lt is in
    let more : struct_bytes ds (i + 1) ≡ struct_bytes ds i ++ fields_bytes (struct_bytes ds i) (get_or ds i no_desc).fields ∷ [] = rw (add-one i) in
    let one : own ≡ in_u32 (fields_bytes (struct_bytes ds i) (get_or ds i no_desc).fields) =
    s ∙ rw (same, e, of, here) (capped_fields (struct_bytes ds i) (map field_of d.fields)) in
    rw (more, map-append in_u32 (struct_bytes ds i) (fields_bytes (struct_bytes ds i) (get_or ds i no_desc).fields ∷ []), e, one)

-- ---- the sections of a set

subs_are : (set : sets.Set) (subs : List sets.Sub)
    → subs_in (struct_bytes set.structs (length set.structs)) subs ≡ LONGEST_SUB_HEAD * length subs + subs_bytes set subs
subs_are set [] = refl
subs_are set (s ∷ subs) = omega (arith, subs_are set subs)

devices_are : (set : sets.Set) (devices : List sets.Device) → devices_in (struct_bytes set.structs (length set.structs)) devices ≡ devices_most set devices
devices_are set [] = refl
devices_are set (d ∷ devices) = omega (arith, subs_are set d.subs, devices_are set devices)

sections_bytes : (set : sets.Set) (n : ℕ) → n ≡ in_u32 (devices_in (map in_u32 (struct_bytes set.structs (length set.structs))) set.devices)
    → n ≡ in_u32 (devices_most set set.devices)
sections_bytes set n e = e ∙ capped_devices (struct_bytes set.structs (length set.structs)) set.devices ∙ rw (devices_are set set.devices)

-- a set's sections have fewer bytes than there is room to tell
pub sections_are : (set : sets.Set) → is_well_formed set ≡ true → (n : ℕ)
    → n ≡ in_u32 (devices_in (map in_u32 (struct_bytes set.structs (length set.structs))) set.devices)
    → (n ≡ devices_most set set.devices) × (n < 2 ^ 27 + 1)
sections_are set well n h =
    let few = most_small set well in
    let is : n ≡ devices_most set set.devices = omega (arith, sections_bytes set n h) in
    (is, omega arith)

-- the same of what was read of the set
pub read_bytes : (set : sets.Set) (given : List Desc) (told : List Device) (bytes items : List ℕ) (n : ℕ) → n ≡ in_u32 (devices_in bytes (map device_of told))
    → bytes ≡ items
    → items ≡ map in_u32 (struct_bytes (map desc_of given) (length given)) → map desc_of given ≡ set.structs → map device_of told ≡ set.devices
    → n ≡ in_u32 (devices_in (map in_u32 (struct_bytes set.structs (length set.structs))) set.devices)
read_bytes set given told bytes items n has same is of_structs of_devices = has ∙ rw (same, is, ← (length-map given desc_of), of_structs, of_devices)

-- ---- no stream of a well-formed set fills the room that is made for it

-- a name that is short enough for one byte of length
abbrev pub IsShort : sets.Desc → Type 0
IsShort d = length d.name ≤ LONGEST_NAME

module _ (set : Set) where
  subs-short : (subs : List Sub) → AllSubs IsShort subs → subs_long set subs ≤ LONGEST_SUB_HEAD * length subs + subs_bytes set subs
  subs-short [] short = omega arith
  subs-short (s ∷ subs) short = omega (arith, subs-short subs short.1, short.0)

  devices-short : (devices : List sets.Device) → AllParts IsShort devices → devices_long set devices ≤ devices_most set devices
  devices-short [] short = omega arith
  devices-short (d ∷ devices) short = omega (arith, short.0, subs-short d.subs short.1, devices-short devices short.2)

  config-long : (machine : Option (List ℕ)) → IfSome machine (λ m. length m ≤ 64) → length (optional configuration machine) ≤ 69
  config-long machine short = grind arith

  -- no stream of images with a machine or none, and without a description, fills this room
  pub stream-short : (machine : Option (List ℕ)) (images : List Image) → IfSome machine (λ m. length m ≤ 64) → AllParts IsShort set.devices
      → length (written set machine images None) < BESIDE_SECTIONS + devices_most set set.devices
  stream-short machine images named short = omega (arith, stream_le set machine images None, config-long machine named, devices-short set.devices short)

-- ---- The room that no stream of a well-formed set fills.

module _ (set : Set) (well : is_well_formed set ≡ true) where
  short : EachPart IsShort set.devices
  short k d e =
      let r = slice_get_within set.devices k d e in
      let own = device_short set well k r in
      let same : device_at set k ≡ d = device_is set k d e in
      let each : EachSub IsShort (device_at set k).subs = λ j s f.
      let sub = sub_short set well k j r (slice_get_within (device_at set k).subs j s f) in
      let is : sub_at (device_at set k) j ≡ s = get_or_from_slice_get (device_at set k).subs j s _ f in
      rw (← is) (omega arith) in
      (rw (← same) (omega arith), rw same at each)

  named_short : (machine : Option (List ℕ)) → IfSome machine (λ m. is_one_of set.machines m ≡ true) → IfSome machine (λ m. length m ≤ 64)
  named_short machine h = grind (arith, machine_short, well_of)

  pub has_room : HasRoom set (BESIDE_SECTIONS + devices_most set set.devices)
  has_room machine images named ready = stream-short set machine images (named_short machine named) (all_parts IsShort set.devices short)
