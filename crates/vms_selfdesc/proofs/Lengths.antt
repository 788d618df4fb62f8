-- How long the text of the described tree is, and that ready images are images of their devices.
use Rattle.vms_selfdesc.proofs.{Facade.AllByRecursion, Facade.clock_heads, Facade.by_number, ReadBack.reads_whole}
use Rattle.vms_selfdesc.proofs.Facade.{clock_formed, fit_number, ShortLaw, ShippedLaw, ClockLaw, ◌≡◌, ℕ, suc, ◌+◌, ◌≤◌, length, List}
use Rattle.vms_selfdesc.proofs.Facade.{◌∷◌, map, Bool, false, Option, Some, ℤ, refl, arith, is_some, [], Data, object, array, depth, items_of}
use Rattle.vms_selfdesc.proofs.Facade.{has_float, Sub, Device, Set, desc_cells, struct_cells, Image, own_cells, Entry, entry_tree, sub_members, sub_trees}
use Rattle.vms_selfdesc.proofs.Facade.{device_members, device_trees, described_tree, described_text, get_or, ◌*◌, ◌<◌, length-append, true, codes}
use Rattle.vms_selfdesc.proofs.Facade.{mul-le-mul_left, AtLeast, no_desc, escape_byte, Members, no_members, member, quoted, members_text, boolean, compact_text}
use Rattle.vms_selfdesc.proofs.Facade.{items_text, MOST_ITEMS, Field, Desc, items_in, struct_items, subs_items, devices_items, struct_depths, deepest}
use Rattle.vms_selfdesc.proofs.Facade.{is_well_formed, shapes, part_entries, ap, sym, ◌∙◌, zero, is_none, slice_get-get_or, list_all, ltb-true, first}
use Rattle.vms_selfdesc.proofs.Facade.{AreReady, longest_text, versions_long, device_at, shipped_set, clock_set, few_cells, IsOfDevice, read, FitsHeads}
use Rattle.vms_selfdesc.proofs.Facade.{first_fault, none_is, few_items, few_devices, IsSound, shipped_sets, sub_at, few_subs, device_clean, sub_clean}
use Rattle.vms_selfdesc.proofs.Fits.{part_sound, fields_flat, AreLong, longer, AreSound, FitTables, tables_fit, entries_few, entries_long}
use Rattle.vms_selfdesc.proofs.Plain.{quoted_long, IsShort, member_long, number_short, name_short, sub_name_short}
use Rattle.std.specs.Prelude.{nat_lt}
use Rattle.vms_spec.specs.declared.Part.TheVariants as parts

-- ---- the described tree has no number with a fraction, and nests little

-- without a fraction, and nested at most so deep
pub record IsPlainTree (deepest : ℕ) (d : Data) : Type 0 where
  pub whole : has_float d ≡ false
  pub flat : depth d ≤ deepest

abbrev pub ArePlain : ℕ → List Data → Type 0
ArePlain deepest = AllByRecursion (IsPlainTree deepest)

list_plain : (deepest : ℕ) (ds : List Data) → ArePlain deepest ds → IsPlainTree (suc deepest) (array (items_of ds))
list_plain deepest [] p = record { whole = refl; flat = omega arith }
list_plain deepest (d ∷ ds) p = let rest = list_plain deepest ds p.1 in record { whole = rw (p.0.whole, rest.whole); flat = omega (arith, rest.flat) }

entry_plain : (e : Entry) → IsPlainTree 1 (entry_tree e)
entry_plain e = search (arith)

entries_plain : (es : List Entry) → ArePlain 1 (map entry_tree es)
entries_plain [] = tt
entries_plain (e ∷ es) = (entry_plain e, entries_plain es)

sub_plain : (es : List Entry) (name : List ℕ) (sent : Bool) (version : ℕ) → IsPlainTree 3 (object (sub_members es name sent version))
sub_plain es name sent version = search (arith, list_plain, entries_plain)

subs_plain : (set : Set) (n : List ℤ) (at : ℕ) (subs : List Sub) (came : List (Option ℕ)) → ArePlain 3 (sub_trees set n at subs came)
subs_plain set n at (s ∷ subs) (c ∷ came) =
    (sub_plain _ _ _ _, subs_plain set n (at + length (desc_cells (struct_cells set) s.desc)) subs came)
subs_plain set n at _ _ = tt

device_plain : (es : List Entry) (instance : ℕ) (name : List ℕ) (subs : List Data) (version : ℕ) → ArePlain 3 subs
    → IsPlainTree 5 (object (device_members es instance name subs version))
device_plain es instance name subs version p = search (arith, list_plain, entries_plain)

devices_plain : (set : Set) (devices : List Device) (images : List Image) → ArePlain 5 (device_trees set devices images)
devices_plain set (d ∷ devices) (image ∷ images) = search (arith, device_plain, subs_plain, devices_plain set devices images)
devices_plain set _ _ = tt

pub described_plain : (set : Set) (images : List Image) → IsPlainTree 7 (described_tree set images)
described_plain set images = search (arith, list_plain, devices_plain)

-- ---- how long the text of the described tree is, by the depth of structures and the number of items: at most 300 bytes for each
-- item, subsection and device, and fewer for the items of a part without structures

-- ---- lists

-- the texts with a comma each
abbrev pub weight : List Data → ℕ
weight [] = 0
weight (d ∷ ds) = length (compact_text d) + 1 + weight ds

items_long : (later : Bool) (ds : List Data) → length (items_text later (items_of ds)) ≤ weight ds + 1
items_long later [] = omega arith
items_long true (d ∷ ds) = omega (arith, length-append (compact_text d) (items_text true (items_of ds)), items_long true ds)
items_long false (d ∷ ds) = omega (arith, length-append (compact_text d) (items_text true (items_of ds)), items_long true ds)

array_long : (ds : List Data) → length (compact_text (array (items_of ds))) ≤ weight ds + 2
array_long ds = omega (arith, items_long false ds)

entries_weight : (es : List Entry) (most : ℕ) → AreLong most es → weight (map entry_tree es) ≤ (most + 1) * length es
entries_weight [] most p = omega arith
entries_weight (e ∷ es) most p = grind (arith, entries_weight es most p.1)

flag_short : (b : Bool) → length (compact_text (boolean b)) ≤ 5
flag_short b = grind arith

-- ---- objects

-- members and the brace after them, each with a comma, its key and a colon
abbrev members_room : Members → ℕ
members_room no_members = 1
members_room (member k d ms) = length (quoted k) + length (compact_text d) + 2 + members_room ms

members_long : (later : Bool) (ms : Members) → length (members_text later ms) ≤ members_room ms
members_long later no_members = omega arith
members_long false (member k d ms) = omega (arith, member_long false k d ms, members_long true ms)
members_long true (member k d ms) = omega (arith, member_long true k d ms, members_long true ms)

sub_long : (es : List Entry) (name : List ℕ) (sent : Bool) (version : ℕ) → IsShort 165 name → version < 4294967296
    → length (compact_text (object (sub_members es name sent version))) ≤ weight (map entry_tree es) + 299
unfolding escape_byte
sub_long es name sent version short small =
    omega (
      arith,
      members_long false (sub_members es name sent version),
      array_long (map entry_tree es),
      quoted_long name short.plain,
      short.short,
      flag_short sent,
      number_short version small,
    )

device_long : (es : List Entry) (instance : ℕ) (name : List ℕ) (subs : List Data) (version : ℕ) → IsShort 100 name → instance < 4294967296
    → version < 4294967296
    → length (compact_text (object (device_members es instance name subs version))) ≤ weight (map entry_tree es) + weight subs + 299
unfolding escape_byte
device_long es instance name subs version short few small =
    omega (
      arith,
      members_long false (device_members es instance name subs version),
      array_long (map entry_tree es),
      array_long subs,
      quoted_long name short.plain,
      short.short,
      number_short instance few,
      number_short version small,
    )

whole_long : (ds : List Data) → length (compact_text (object (member (codes "devices") (array (items_of ds)) no_members))) ≤ weight ds + 14
unfolding escape_byte
whole_long ds = omega (arith, member_long false (codes "devices") (array (items_of ds)) no_members, array_long ds)

-- ---- the parts of a well-formed set

-- a description of a set: its fields keep the rules, its name is short, and its version has four bytes
pub record IsShortDesc (most : ℕ) (d : Desc) : Type 0 where
  pub sound : AreSound d.fields
  pub name : IsShort most d.name
  pub version : d.version < 4294967296

abbrev pub no_sub : Sub
no_sub = record { desc = no_desc; needed = AtLeast 0 }

abbrev pub no_device : Device
no_device = record { instance = 0; desc = no_desc; subs = [] }

abbrev pub AreShortSubs : List Sub → Type 0
AreShortSubs subs = (j : ℕ) → j < length subs → IsShortDesc 165 (get_or subs j no_sub).desc

pub record IsShortDevice (d : Device) : Type 0 where
  pub desc : IsShortDesc 100 d.desc
  pub instance : d.instance < 4294967296
  pub subs : AreShortSubs d.subs
  pub few : length d.subs ≤ 32

abbrev pub AreShortDevices : List Device → Type 0
AreShortDevices devices = (i : ℕ) → i < length devices → IsShortDevice (get_or devices i no_device)

-- ---- how long a part may be

-- entries, each with its comma
abbrev pub fields_room : List ℕ → List ℕ → List Field → ℕ
fields_room sizes depths fs = (40 * deepest depths fs + 107 + 1) * items_in sizes fs

abbrev pub subs_room : List ℕ → List ℕ → List Sub → ℕ
subs_room sizes depths [] = 0
subs_room sizes depths (s ∷ subs) = fields_room sizes depths s.desc.fields + 300 + subs_room sizes depths subs

abbrev pub devices_room : List ℕ → List ℕ → List Device → ℕ
devices_room sizes depths [] = 0
devices_room sizes depths (d ∷ devices) = fields_room sizes depths d.desc.fields + 300 + subs_room sizes depths d.subs + devices_room sizes depths devices

abbrev pub set_room : Set → ℕ
set_room set = devices_room (struct_items set.structs) (struct_depths set.structs) set.devices + 14

module _ (set : Set) (well : is_well_formed set ≡ true) where
  pub fit : FitTables (shapes set) (struct_items set.structs) (struct_depths set.structs)
  fit = tables_fit set.structs (length set.structs) (λ j lt. part_sound set well (parts.Struct j) lt) (length set.structs) (omega arith)

  part_weight : (d : Desc) (sent : Bool) (n : List ℤ) (at : ℕ) → AreSound d.fields → items_in (struct_items set.structs) d.fields ≤ MOST_ITEMS
      → weight (map entry_tree (part_entries set d sent n at)) ≤ fields_room (struct_items set.structs) (struct_depths set.structs) d.fields
  part_weight d sent n at sound few =
      let sizes = struct_items set.structs in
      let depths = struct_depths set.structs in
      let es = part_entries set d sent n at in
      let most = 40 * deepest depths d.fields + 107 in
      let long = longer _ most es (omega arith) (entries_long (shapes set) sizes depths fit d d.version sent [] n at tt sound few) in
      let count = entries_few (shapes set) sizes depths fit d d.version sent [] n at in
      omega (arith, entries_weight es most long, mul-le-mul_left {m = length es} {n = items_in sizes d.fields} (most + 1) count)

  subs_weight : (n : List ℤ) (at : ℕ) (subs : List Sub) (came : List (Option ℕ)) → AreShortSubs subs
      → subs_items (struct_items set.structs) subs ≤ MOST_ITEMS
      → weight (sub_trees set n at subs came) ≤ subs_room (struct_items set.structs) (struct_depths set.structs) subs
  subs_weight n at (s ∷ subs) (c ∷ came) p few =
      let short = p 0 (omega arith) in
      omega (
        arith,
        part_weight s.desc (is_some c) n at short.sound (omega arith),
        sub_long (part_entries set s.desc (is_some c) n at) s.desc.name (is_some c) s.desc.version short.name short.version,
        subs_weight n (at + length (desc_cells (struct_cells set) s.desc)) subs came (λ j lt. p (suc j) (omega arith)) (omega arith),
      )
  subs_weight n at _ _ p few = omega arith

  devices_weight : (devices : List Device) (images : List Image) → AreShortDevices devices → devices_items (struct_items set.structs) devices ≤ MOST_ITEMS
      → weight (device_trees set devices images) ≤ devices_room (struct_items set.structs) (struct_depths set.structs) devices
  devices_weight (d ∷ devices) (image ∷ images) p few =
      let short = p 0 (omega arith) in
      let trees = sub_trees set image.numbers (own_cells set d) d.subs image.came in
      omega (
        arith,
        part_weight d.desc true image.numbers 0 short.desc.sound (omega arith),
        subs_weight image.numbers (own_cells set d) d.subs image.came short.subs (omega arith),
        device_long (part_entries set d.desc true image.numbers 0) d.instance d.desc.name trees d.desc.version short.desc.name short.instance short.desc.version,
        devices_weight devices images (λ i lt. p (suc i) (omega arith)) (omega arith),
      )
  devices_weight _ _ p few = omega arith

  pub text_long : (images : List Image) → AreShortDevices set.devices → devices_items (struct_items set.structs) set.devices ≤ MOST_ITEMS
      → length (described_text set images) ≤ set_room set
  text_long images p few = omega (arith, whole_long (device_trees set set.devices images), devices_weight set.devices images p few)

  -- ---- by the numbers of items, subsections and devices

  fields_less : (fs : List Field) → fields_room (struct_items set.structs) (struct_depths set.structs) fs ≤ 300 * items_in (struct_items set.structs) fs
  fields_less fs = grind (arith, fields_flat)

  subs_less : (subs : List Sub)
      → subs_room (struct_items set.structs) (struct_depths set.structs) subs ≤ 300 * subs_items (struct_items set.structs) subs + 300 * length subs
  subs_less [] = omega arith
  subs_less (s ∷ subs) = omega (arith, fields_less s.desc.fields, subs_less subs)

  -- a device has at most 32 subsections
  pub devices_less : (devices : List Device) → AreShortDevices devices → devices_room (struct_items set.structs) (struct_depths set.structs) devices
      ≤ 300 * (devices_items (struct_items set.structs) devices + 33 * length devices)
  devices_less [] h = omega arith
  devices_less (d ∷ devices) h =
      let here = h 0 (omega arith) in
      omega (arith, fields_less d.desc.fields, subs_less d.subs, devices_less devices (λ i lt. h (suc i) (omega arith)))

-- ---- ready images are images of their devices

pub ready_device : (set : Set) → is_well_formed set ≡ true → (images : List Image) → AreReady set images → (i : ℕ) (image : Image)
    → i < length images
    → image ≡ get_or images i image → IsOfDevice set i image
ready_device set well images ready i image lt is =
    let there : i < length set.devices = omega arith in
    let at = slice_get-get_or _ _ image lt ∙ ap (λ x. Some x) (sym is) in
    let r = ready.ready i (device_at set i) image (slice_get-get_or _ _ _ there) at in
    record {
      is_device = there;
      cells = r.normal.cells.long;
      subs = versions_long (device_at set i).subs image.came r.normal.subs;
      few = omega (arith, few_cells set well i);
    }

-- ---- The text of every well-formed set is shorter than what a description section may have, and that of a shipped set is short.

module _ (set : Set) (well : is_well_formed set ≡ true) (heads : FitsHeads set) where
  short_device : (i : ℕ) → i < length set.devices → IsShortDevice (device_at set i)
  short_device i lt =
      let d = device_at set i in
      let here = slice_get-get_or set.devices i no_device lt in
      let name = name_short 100 d.desc.name (device_clean set well i lt).own.0 in
      record {
        desc = record { sound = part_sound set well (parts.Device i) lt; name = name; version = omega (arith, (heads.instance i d here).1) };
        instance = omega (arith, (heads.instance i d here).0);
        subs = λ j l.
            record {
              sound = part_sound set well (parts.Sub i j) (lt, l);
              name = sub_name_short d.desc.name (sub_at d j).desc.name name (sub_clean set well i j lt l).own.0;
              version = omega (arith, heads.sub_version i j d (sub_at d j) here (slice_get-get_or d.subs j no_sub l));
            };
        few = few_subs set well i lt;
      }

  pub set_long : (images : List Image) → length (described_text set images) ≤ set_room set
  set_long images = text_long _ well _ short_device (few_items set well)

  set_short : (images : List Image) → length (described_text set images) < longest_text
  set_short images = omega (arith, set_long images, devices_less set well set.devices short_device, few_items set well, few_devices set well)

pub short_holds : ShortLaw
short_holds = record { short = λ set well heads images. set_short _ (ap is_none well) heads _ }

-- ---- shipped sets

abbrev has_room : Set → Bool
has_room set = nat_lt (set_room set) 60000

rooms : list_all has_room shipped_sets ≡ true
unfolding first
rooms = refl

pub shipped_holds : ShippedLaw
shipped_holds = record {
  shipped = λ s le images.
      let f = fit_number s in
      omega (arith, set_long (shipped_set s) (ap is_none f.well) f.heads images, ltb-true (set_room (shipped_set s)) 60000 (by_number has_room rooms s));
}

-- ---- sets of clock boards

clock_room : (s : ℕ) → set_room (clock_set s) < 60000
unfolding first
clock_room zero = omega arith
clock_room (suc zero) = omega arith
clock_room (suc (suc s)) = omega arith

pub clock_holds : ClockLaw
clock_holds = record { clock = λ s images. omega (arith, set_long (clock_set s) (clock_formed s) (clock_heads s) images, clock_room s) }

-- ---- What is known of a description by its text.

module _ (set : Set) (images : List Image) where
  pub text_reads : IsSound (described_tree set images) → (bytes : List ℕ) → bytes ≡ described_text set images
      → read bytes ≡ Some (described_tree set images)
  text_reads sound bytes is = reads_whole _ _ is sound (omega (arith, described_plain set images))

  pub text_short : is_well_formed set ≡ true → FitsHeads set → length (described_text set images) < longest_text
  text_short well heads = short_holds.short set (none_is (first_fault set) well) heads images
