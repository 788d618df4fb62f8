-- The description of a well-formed set has the right shape, and what its parts consist of.
use Rattle.vms_analyze.proofs.Facade
use Facade.{nat_tests, ◌≡◌, ℕ, suc, ◌<◌, ◌≤◌, List, [], ◌∷◌, length, get_or, arith, true, ◌&&◌, ◌||◌, list_all, AllByRecursion}
use Facade.{Bool, and_parts, and_from, LONGEST_NAME, ToldSub, ToldDevice, is_path, fits_four, is_good, is_kept, is_width, is_good_sub, is_good_device, ◌+◌}
use Facade.{false, is_some, map, Option, ℤ, refl, ap, ◌∙◌, codes, ◌*◌, nat_le, length-append, zero, is_none, ⊎_elim, length-map, lt-ltb, cases_lt}
use Facade.{get_or-eq_default, slice_get-get_or, list_all-append, no_members, Members, member, number, string, Desc, Sub, Device, Set, AtLeast, desc_cells}
use Facade.{struct_cells, no_desc, no_field, counted, Image, own_cells, What, shapes, elements_in, entry_of, entries_of, part_entries, sub_trees, device_trees}
use Facade.{described_tree, natural, entry_tree, told_entry, told_sub, told_device, told_tree, Told, Sent, Kept, Fixed, Skipped, is_path_byte, told_what, tolds}
use Facade.{told_part, told_subs, told_devices, told, told_sub_of, escape, escape_byte, compact_text, members_text, Kind, width, kind_word, of_integer, Part}
use Facade.{MOST_UNUSED, is_name, in_range, defaults_well, counts_well, is_small_item, is_small_optional, WellFormed, struct_items, struct_depths, items_in}
use Facade.{deepest, subs_items, devices_items, HasPart, desc_at, sub_at, field_sound, few_subs, device_clean, sub_clean, member_long, AreLong, longer}
use Facade.{entries_few, entries_long, fit, part_sound, fields_flat, LONGEST_PATH, FitsHeads, device_at, is_well_formed, few_items, all_both}
use Rattle.vms_analyze.proofs.Letters
use Letters.{AreGoodFields, elements_good, named_path, IsNamed, named_within, name_named, sub_named, IsGoodWhat, HasPath, IsGoodElement, IsGoodField}
use Rattle.vms_elements.specs.Elements.{Element}
use Rattle.vms_kinds.specs.declared.Kind.TheVariants as kinds
use Rattle.vms_spec.specs.declared.Part.TheVariants as parts

-- ---- what a subsection and a device that are described consist of, if they are good

pub record SubParts (s : ToldSub) : Type 0 where
  pub name : is_path LONGEST_NAME s.name ≡ true
  pub version : fits_four s.version ≡ true
  pub elements : list_all is_good s.elements ≡ true
  pub kept : (s.sent || list_all is_kept s.elements) ≡ true

pub sub_parts : (s : ToldSub) → is_good_sub s ≡ true → SubParts s
sub_parts s e = grind arith

pub sub_from : (s : ToldSub) → SubParts s → is_good_sub s ≡ true
sub_from s p = and_from _ _ (and_from _ _ (and_from _ _ p.name p.version) p.elements) p.kept

pub record DeviceParts (d : ToldDevice) : Type 0 where
  pub name : is_path LONGEST_NAME d.name ≡ true
  pub instance : fits_four d.instance ≡ true
  pub version : fits_four d.version ≡ true
  pub elements : list_all is_good d.elements ≡ true
  pub subs : list_all is_good_sub d.subs ≡ true

pub device_parts : (d : ToldDevice) → is_good_device d ≡ true → DeviceParts d
device_parts d e = grind arith

pub device_from : (d : ToldDevice) → DeviceParts d → is_good_device d ≡ true
device_from d p = and_from _ _ (and_from _ _ (and_from _ _ (and_from _ _ p.name p.instance) p.version) p.elements) p.subs

-- what holds of each good one, of a list of good ones
pub each_good : {A : Type 0} (good : A → Bool) (All : List A → Type 0) → All [] → ((x : A) (xs : List A) → good x ≡ true → All xs → All (x ∷ xs))
    → (xs : List A) → list_all good xs ≡ true → All xs
each_good good All none more [] e = none
each_good good All none more (x ∷ xs) e = let p = and_parts (good x) (list_all good xs) e in more x xs p.0 (each_good good All none more xs p.1)

-- what holds of each of a list
pub all_at : {A : Type 0} (P : A → Type 0) (d : A) (xs : List A) → ((i : ℕ) → i < length xs → P (get_or xs i d)) → AllByRecursion P xs
all_at P d [] h = tt
all_at P d (x ∷ xs) h = (h 0 (omega arith), all_at P d xs (λ i lt. h (suc i) (omega arith)))

-- a width is at most the most unused bytes
pub width_few : (n : ℕ) → is_width n ≡ true → n ≤ MOST_UNUSED
width_few n e = grind (arith, nat_tests)

-- ---- The tree of a self-description is that of what it says.

one_entry : (w : What) (counted present : Bool) (path : List ℕ) → map told_entry (told_what w counted present path) ≡ entry_of w counted present path
one_entry w counted present path = grind arith

all_entries : (sent : Bool) (xs : List Element) → map told_entry (tolds sent xs) ≡ entries_of sent [] xs
all_entries sent [] = refl
all_entries sent (x ∷ xs) = grind (arith, one_entry, all_entries sent xs)

-- ---- parts

-- the entries of a part of a set are those of what is described
pub part_same : (set : Set) (d : Desc) (sent : Bool) (n : List ℤ) (at : ℕ) → map told_entry (told_part set d sent n at) ≡ part_entries set d sent n at
part_same set d sent n at = all_entries sent (elements_in set d d.version n at)

subs_same : (set : Set) (n : List ℤ) (at : ℕ) (subs : List Sub) (came : List (Option ℕ))
    → map told_sub (told_subs set n at subs came) ≡ sub_trees set n at subs came
subs_same set n at (s ∷ subs) (c ∷ came) =
    rw (part_same set s.desc (is_some c) n at, subs_same set n (at + length (desc_cells (struct_cells set) s.desc)) subs came)
subs_same set n at _ _ = refl

devices_same : (set : Set) (devices : List Device) (images : List Image) → map told_device (told_devices set devices images) ≡ device_trees set devices images
devices_same set (d ∷ devices) (image ∷ images) =
    rw (
      part_same set d.desc true image.numbers 0,
      subs_same set image.numbers (own_cells set d) d.subs image.came,
      devices_same set devices images,
    )
devices_same set _ _ = refl

pub tree_same : (set : Set) (images : List Image) → told_tree (told set images) ≡ described_tree set images
tree_same set images = rw (devices_same set set.devices images)

-- ---- The description of a well-formed set has the right shape: the elements of one part.

abbrev path_of : Told → List ℕ
path_of (Sent path kind) = path
path_of (Kept path kind z) = path
path_of (Fixed path n) = path
path_of (Skipped path n) = path

-- ---- how long a path is, by its entry

byte_some : (x : ℕ) → 1 ≤ length (escape_byte x)
unfolding escape_byte
byte_some x = grind arith

escape_longer : (s : List ℕ) → length s ≤ length (escape s)
escape_longer [] = omega arith
escape_longer (x ∷ s) = let h = byte_some x in omega (arith, length-append (escape_byte x) (escape s), escape_longer s)

name_longer : (path : List ℕ) (ms : Members) → length path ≤ length (members_text false (member (codes "name") (string path) ms))
name_longer path ms = omega (arith, member_long false (codes "name") (string path) ms, length-append (escape path) (34 ∷ []), escape_longer path)

abbrev sized : ℕ → List ℕ → Members → Members
sized size type ms = member (codes "size") (natural size) (member (codes "type") (string type) ms)

path_short : (t : Told) → length (compact_text (entry_tree (told_entry t))) ≤ 299 → length (path_of t) ≤ LONGEST_PATH
path_short (Sent path kind) le = omega (arith, name_longer path (sized (width kind) (kind_word kind) no_members))
path_short (Kept path kind z) le = omega (arith, name_longer path (sized 0 (kind_word kind) (member (codes "value") (number (of_integer z)) no_members)))
path_short (Fixed path n) le = omega (arith, name_longer path (sized n (codes "equal") no_members))
path_short (Skipped path n) le = omega (arith, name_longer path (sized n (codes "unused") no_members))

-- ---- what is described of an element

abbrev IsOfShape : Told → Type 0
IsOfShape (Sent path kind) = Unit {0}
IsOfShape (Kept path kind z) = in_range kind z ≡ true
IsOfShape (Fixed path n) = is_width n ≡ true
IsOfShape (Skipped path n) = (nat_le 1 n && nat_le n MOST_UNUSED) ≡ true

record IsFine (t : Told) : Type 0 where
  some : 1 ≤ length (path_of t)
  bytes : list_all is_path_byte (path_of t) ≡ true
  shape : IsOfShape t

abbrev AreFine : List Told → Type 0
AreFine = AllByRecursion IsFine

width_fits : (kind : Kind) → is_width (width kind) ≡ true
width_fits kind = grind arith

what_fine : (w : What) (counted present : Bool) (path : List ℕ) → list_all is_path_byte path ≡ true → IsGoodWhat w → HasPath w path
    → AreFine (told_what w counted present path)
what_fine w counted present path bytes good some = search (arith, width_fits)

all_fine : (sent : Bool) (xs : List Element) → AllByRecursion IsGoodElement xs → AreFine (tolds sent xs)
all_fine sent [] h = tt
all_fine sent (x ∷ xs) h = grind (arith, all_both, what_fine, all_fine sent xs h.1)

each_told : (ts : List Told) → AreFine ts → AreLong 299 (map told_entry ts) → list_all is_good ts ≡ true
each_told [] fine long = refl
each_told (t ∷ ts) fine long =
    let path = named_path LONGEST_PATH (path_of t) (record { some = fine.0.some; few = path_short t long.0; bytes = fine.0.bytes }) in
    and_from _ _ (grind arith) (each_told ts fine.1 long.1)

pub all_kept : (xs : List Element) → list_all is_kept (tolds false xs) ≡ true
all_kept [] = refl
all_kept (x ∷ xs) =
    list_all-append is_kept (told_what x.what x.counted false x.name) (tolds false xs) ∙ and_from _ _ (grind arith) (all_kept xs)

-- ---- a part of a well-formed set

module _ (set : Set) (well : WellFormed set) where
  formed : is_well_formed set ≡ true
  formed = ap is_none well

  part_fields : (part : Part) → HasPart set part → AreGoodFields (desc_at set part).fields
  part_fields part has = all_at _ _ _ (λ i lt. one i lt)
    where
      one : (i : ℕ) → i < length (desc_at set part).fields → IsGoodField (get_or (desc_at set part).fields i no_field)
      one i lt =
          let d = desc_at set part in
          let f = get_or d.fields i no_field in
          let rules = field_sound _ formed _ has _ lt in
          record {
            name = (and_parts (is_name 32 f.name) (list_all (is_name 32) f.former) rules.0).0;
            default = (and_parts (defaults_well f.item f.default) (counts_well (counted i d.fields) f.default) rules.1.1.1.1.1.0).0;
            small = (and_parts (nat_le (length f.former) 8 && is_small_optional f.test) (is_small_item f.item) rules.1.1.1.1.1.1.0).1;
          }

  struct_fields : (j : ℕ) → AreGoodFields (get_or set.structs j no_desc).fields
  struct_fields j =
      ⊎_elim (λ (lt : j < length set.structs). part_fields (parts.Struct j) lt)
      (λ (ge : length set.structs ≤ j). rw (get_or-eq_default set.structs no_desc ge) tt) (cases_lt j (length set.structs))

  pub part_few : (part : Part) → HasPart set part → (sent : Bool) (n : List ℤ) (at : ℕ)
      → length (told_part set (desc_at set part) sent n at) ≤ items_in (struct_items set.structs) (desc_at set part).fields
  part_few part has sent n at =
      let d = desc_at set part in
      let few = entries_few (shapes set) (struct_items set.structs) (struct_depths set.structs) (fit set formed) d d.version sent [] n at in
      omega (arith, ap length (part_same set d sent n at), length-map (told_part set d sent n at) told_entry)

  part_long : (part : Part) → HasPart set part → items_in (struct_items set.structs) (desc_at set part).fields ≤ 16384 → (sent : Bool) (n : List ℤ) (at : ℕ)
      → AreLong 299 (part_entries set (desc_at set part) sent n at)
  part_long part has few sent n at =
      let d = desc_at set part in
      let depths = struct_depths set.structs in
      longer (0 + 40 * deepest depths d.fields + 107) 299 (part_entries set d sent n at) (omega (arith, fields_flat set formed d.fields))
      (entries_long _ _ _ (fit set formed) d _ sent [] _ _ tt (part_sound set formed part has) few)

  pub part_good : (part : Part) → HasPart set part → items_in (struct_items set.structs) (desc_at set part).fields ≤ 16384
      → (sent : Bool) (n : List ℤ) (at : ℕ) → list_all is_good (told_part set (desc_at set part) sent n at) ≡ true
  part_good part has few sent n at =
      let d = desc_at set part in
      each_told (told_part set d sent n at)
      (all_fine sent (elements_in set d d.version n at) (elements_good set struct_fields d (part_fields part has) d.version n at))
      (rw (part_same set d sent n at) (part_long part has few sent n at))

-- ---- The description of a well-formed set has the right shape.

abbrev no_device : Device
no_device = record { instance = 0; desc = no_desc; subs = [] }

abbrev no_sub : Sub
no_sub = record { desc = no_desc; needed = AtLeast 0 }

sub_few : (sizes : List ℕ) (subs : List Sub) (j : ℕ) → j < length subs → items_in sizes (get_or subs j no_sub).desc.fields ≤ subs_items sizes subs
sub_few sizes [] j lt = absurd (omega arith)
sub_few sizes (s ∷ subs) zero lt = omega arith
sub_few sizes (s ∷ subs) (suc j) lt = let h = sub_few sizes subs j (omega arith) in omega arith

device_few : (sizes : List ℕ) (devices : List Device) (i : ℕ) → i < length devices
    → items_in sizes (get_or devices i no_device).desc.fields + subs_items sizes (get_or devices i no_device).subs ≤ devices_items sizes devices
device_few sizes [] i lt = absurd (omega arith)
device_few sizes (d ∷ devices) zero lt = omega arith
device_few sizes (d ∷ devices) (suc i) lt = let h = device_few sizes devices i (omega arith) in omega arith

-- what a description of the set says
pub record IsGoodPart (set : Set) (most : ℕ) (d : Desc) : Type 0 where
  pub name : IsNamed most d.name
  pub version : fits_four d.version ≡ true
  pub elements : (sent : Bool) (n : List ℤ) (at : ℕ) → list_all is_good (told_part set d sent n at) ≡ true
  pub few : (sent : Bool) (n : List ℤ) (at : ℕ) → length (told_part set d sent n at) ≤ items_in (struct_items set.structs) d.fields

abbrev pub AreGoodSubs : Set → List Sub → Type 0
AreGoodSubs set = AllByRecursion (λ (s : Sub). IsGoodPart set 165 s.desc)

pub record IsGoodDevice (set : Set) (d : Device) : Type 0 where
  pub own : IsGoodPart set 100 d.desc
  pub instance : fits_four d.instance ≡ true
  pub subs : AreGoodSubs set d.subs
  pub few : length d.subs ≤ 32

abbrev pub AreGoodDevices : Set → List Device → Type 0
AreGoodDevices set = AllByRecursion (IsGoodDevice set)

subs_good : (set : Set) (n : List ℤ) (at : ℕ) (subs : List Sub) (came : List (Option ℕ)) → AreGoodSubs set subs
    → list_all is_good_sub (told_subs set n at subs came) ≡ true
subs_good set n at (s ∷ subs) (c ∷ came) h =
    and_from _ _ (sub_from (told_sub_of set n at s c) (record {
      name = named_path LONGEST_NAME s.desc.name (named_within 165 _ _ (omega arith) h.0.name);
      version = h.0.version;
      elements = h.0.elements (is_some c) n at;
      kept = grind (arith, all_kept);
    })) (subs_good set n (at + length (desc_cells (struct_cells set) s.desc)) subs came h.1)
subs_good set n at _ _ h = refl

devices_good : (set : Set) (devices : List Device) (images : List Image) → AreGoodDevices set devices
    → list_all is_good_device (told_devices set devices images) ≡ true
devices_good set (d ∷ devices) (image ∷ images) h = search (arith, and_from, named_path, named_within, subs_good, devices_good set devices images h.1)
devices_good set _ _ h = refl

module _ (set : Set) (well : WellFormed set) (heads : FitsHeads set) where
  device_good : (i : ℕ) → i < length set.devices → IsGoodDevice set (device_at set i)
  device_good i lt =
      let sizes = struct_items set.structs in
      let d = device_at set i in
      let here = slice_get-get_or set.devices i no_device lt in
      let name = name_named 100 d.desc.name ((device_clean set (formed set well) i lt).own).0 in
      let few = few_items set (formed set well) in
      let items = device_few sizes set.devices i lt in
      record {
        own = record {
          name = name;
          version = lt-ltb _ _ (omega (arith, (heads.instance i d here).1));
          elements = part_good set well (parts.Device i) lt (omega arith);
          few = part_few set well (parts.Device i) lt;
        };
        instance = lt-ltb _ _ (omega (arith, (heads.instance i d here).0));
        subs = all_at _ no_sub d.subs (λ j l.
            let s = sub_at d j in
            let inner = sub_few sizes d.subs j l in
            record {
              name = sub_named d.desc.name s.desc.name name ((sub_clean set (formed set well) i j lt l).own).0;
              version = lt-ltb _ _ (omega (arith, heads.sub_version i j d s here (slice_get-get_or d.subs j no_sub l)));
              elements = part_good set well (parts.Sub i j) (lt, l) (omega arith);
              few = part_few set well (parts.Sub i j) (lt, l);
            });
        few = few_subs set (formed set well) i lt;
      }

  pub all_good : AreGoodDevices set set.devices
  all_good = all_at _ no_device set.devices device_good

  pub told_good : (images : List Image) → list_all is_good_device (told set images) ≡ true
  told_good images = devices_good set set.devices images all_good
