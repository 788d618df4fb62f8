-- What the writer gives is a stream with footers, and what a well-formed set writes is bytes.
use Rattle.vms_stream.proofs.Facade
use Facade.{◌≡◌, ℕ, suc, List, [], ◌∷◌, Some, refl, zero, ◌+◌, ◌<◌, ◌≤◌, ◌&&◌, nat_le, ◌++◌, length, length-append, take}
use Facade.{set_clean, drop, ℤ, Bool, true, Option, None, IfSome, nat_lt, subst, arith, slice_get, list_all, byte_at, bytes_high_first, replicate, bytes_eq}
use Facade.{and_parts, ltb-true, leb-true, take-append-drop, bytes_eq-Decides, Desc, Sub, Device, Set, code, Kind, IsBytes, is_name, is_name_byte, is_sub_name}
use Facade.{Image, zeroed, own_cells, own_slots, sub_slots, Slot, Rule, desc_cells, struct_cells, be32, optional, configuration, section_head, sub_head, foot}
use Facade.{trailer, is_one_of, written, written_section, written_sections, written_subs, WellFormed, every_one, name_byte_low, device_parts, sub_clean, map}
use Facade.{false, sym, append_assoc, append-nil, set-append_seam, drop-append_seam, sub_place, AreVersionsOf, sub_front, drop_next, zeroed_spells, sub_first}
use Rattle.vms_spec.specs.Layout.{Number, Constant, Filler}
use Rattle.vms_spec.specs.Streams
use Rattle.vms_stream.specs.Streams as units

-- ---- what a well-formed set writes is bytes. What holds of each part of a set: of the description of each device and subsection.

abbrev pub AllSubs : (Desc → Type 0) → List Sub → Type 0
AllSubs P [] = Unit {0}
AllSubs P (s ∷ subs) = P s.desc × AllSubs P subs

abbrev pub AllParts : (Desc → Type 0) → List Device → Type 0
AllParts P [] = Unit {0}
AllParts P (d ∷ devices) = P d.desc × AllSubs P d.subs × AllParts P devices

abbrev pub EachSub : (Desc → Type 0) → List Sub → Type 0
EachSub P subs = (j : ℕ) (s : Sub) → slice_get subs j ≡ Some s → P s.desc

abbrev pub EachPart : (Desc → Type 0) → List Device → Type 0
EachPart P devices = (k : ℕ) (d : Device) → slice_get devices k ≡ Some d → P d.desc × EachSub P d.subs

all_subs : (P : Desc → Type 0) (subs : List Sub) → EachSub P subs → AllSubs P subs
all_subs P [] h = tt
all_subs P (s ∷ subs) h = (h 0 s refl, all_subs P subs (λ j. h (suc j)))

pub all_parts : (P : Desc → Type 0) (devices : List Device) → EachPart P devices → AllParts P devices
all_parts P [] h = tt
all_parts P (d ∷ devices) h = let r = h 0 d refl in (r.0, all_subs P d.subs r.1, all_parts P devices (λ k. h (suc k)))

-- ---- bytes

abbrev pub AreBytes : List ℕ → Type 0
AreBytes [] = Unit {0}
AreBytes (x ∷ xs) = (x < 256) × AreBytes xs

pub bytes_append : (xs ys : List ℕ) → AreBytes xs → AreBytes ys → AreBytes (xs ++ ys)
bytes_append [] ys p q = q
bytes_append (x ∷ xs) ys p q = (p.0, bytes_append xs ys p.1 q)

pub bytes_at : (xs : List ℕ) → AreBytes xs → IsBytes xs
bytes_at [] p i = omega arith
bytes_at (x ∷ xs) p zero = p.0
bytes_at (x ∷ xs) p (suc i) = bytes_at xs p.1 i

abbrev pub below : List ℕ → Bool
below [] = true
below (x ∷ xs) = nat_lt x 256 && below xs

pub spelled : (xs : List ℕ) → below xs ≡ true → AreBytes xs
spelled [] e = tt
spelled (x ∷ xs) e = let p = and_parts (nat_lt x 256) (below xs) e in (ltb-true x 256 p.0, spelled xs p.1)

-- ---- names

-- a name that fits its byte of length
pub record IsNamed (name : List ℕ) : Type 0 where
  pub octets : AreBytes name
  pub short : length name < 256

abbrev AreNamed : List Device → Type 0
AreNamed devices = AllParts (λ d. IsNamed d.name) devices

abbrev AreNamedSubs : List Sub → Type 0
AreNamedSubs subs = AllSubs (λ d. IsNamed d.name) subs

-- ---- numbers

byte-small : (k n : ℕ) → byte_at k n < 256
byte-small zero n = omega arith
byte-small (suc k) n = omega arith

high-bytes : (k n : ℕ) → AreBytes (bytes_high_first k n)
high-bytes zero n = tt
high-bytes (suc k) n = (byte-small k n, high-bytes k n)

pub be32_bytes : (n : ℕ) → AreBytes (be32 n)
be32_bytes n = high-bytes 4 n

pub code_bytes : (kind : Kind) (z : ℤ) → AreBytes (code kind z)
unfolding code
code_bytes kind z = high-bytes _ _

pub zeros_bytes : (n : ℕ) → AreBytes (replicate n 0)
zeros_bytes zero = tt
zeros_bytes (suc n) = (omega arith, zeros_bytes n)

zeroed-bytes : (numbers : List ℤ) (slots : List Slot) → AreBytes (zeroed numbers slots)
zeroed-bytes numbers [] = tt
zeroed-bytes numbers (Number c kind capacities ∷ slots) = bytes_append _ _ (code_bytes kind _) (zeroed-bytes numbers slots)
zeroed-bytes numbers (Constant kind z ∷ slots) = bytes_append _ _ (code_bytes kind z) (zeroed-bytes numbers slots)
zeroed-bytes numbers (Filler n ∷ slots) = bytes_append _ _ (zeros_bytes n) (zeroed-bytes numbers slots)
zeroed-bytes numbers (Rule b ∷ slots) = zeroed-bytes numbers slots

-- ---- sections

pub head_bytes : (id instance version : ℕ) (name : List ℕ) → AreBytes name → length name < 256 → AreBytes (section_head id name instance version)
head_bytes id instance version name p short = grind (arith, bytes_append, be32_bytes)

pub foot_bytes : (id : ℕ) → AreBytes (foot id)
foot_bytes id = (omega arith, be32_bytes id)

module _ (set : Set) where
  subs-bytes : (d : Device) (image : Image) (at : ℕ) (subs : List Sub) (came : List (Option ℕ)) → AreNamedSubs subs
      → AreBytes (written_subs set d image at subs came)
  subs-bytes d image at (s ∷ subs) (None ∷ came) named = subs-bytes d image (at + length (desc_cells (struct_cells set) s.desc)) subs came named.1
  subs-bytes d image at (s ∷ subs) (Some v ∷ came) named =
      let next = at + length (desc_cells (struct_cells set) s.desc) in
      bytes_append (sub_head s.desc.name v ++ zeroed image.numbers (sub_slots set s v image.numbers at)) (written_subs set d image next subs came)
      (bytes_append (sub_head s.desc.name v) (zeroed image.numbers (sub_slots set s v image.numbers at))
      (omega arith, bytes_append (length s.desc.name ∷ s.desc.name) (be32 v) (named.0.short, named.0.octets) (be32_bytes v))
      (zeroed-bytes image.numbers (sub_slots set s v image.numbers at))) (subs-bytes d image next subs came named.1)
  subs-bytes d image at _ _ named = tt

  section-bytes : (d : Device) (image : Image) (id : ℕ) → IsNamed d.desc.name → AreNamedSubs d.subs → AreBytes (written_section set d image id)
  section-bytes d image id named subs =
      let head : List ℕ = section_head id d.desc.name d.instance image.version in
      let body : List ℕ = zeroed image.numbers (own_slots set d image.version image.numbers) in
      let after : List ℕ = written_subs set d image (own_cells set d) d.subs image.came in
      bytes_append (head ++ body ++ after) (foot id)
      (bytes_append (head ++ body) after
      (bytes_append head body (head_bytes id _ _ _ named.octets named.short)
      (zeroed-bytes image.numbers (own_slots set d image.version image.numbers)))
      (subs-bytes d image _ d.subs _ subs)) (foot_bytes id)

  sections-bytes : (id : ℕ) (devices : List Device) (images : List Image) → AreNamed devices → AreBytes (written_sections set id devices images)
  sections-bytes id (d ∷ devices) (image ∷ images) named = grind (arith, bytes_append, section-bytes, sections-bytes (suc id) devices images named.2)
  sections-bytes id _ _ named = tt

  config-bytes : (machine : Option (List ℕ)) → IfSome machine AreBytes → AreBytes (optional configuration machine)
  config-bytes None p = tt
  config-bytes (Some name) p = (omega arith, bytes_append (be32 (length name)) name (be32_bytes (length name)) p)

  text-bytes : (text : Option (List ℕ)) → IfSome text AreBytes → AreBytes (optional trailer text)
  text-bytes None p = tt
  text-bytes (Some text) p = (omega arith, bytes_append (be32 (length text)) text (be32_bytes (length text)) p)

  written-bytes : (machine : Option (List ℕ)) (images : List Image) (text : Option (List ℕ)) → AreNamed set.devices → IfSome machine AreBytes
      → IfSome text AreBytes → AreBytes (written set machine images text)
  written-bytes machine images text named p q = grind (arith, bytes_append, optional, spelled, config-bytes, sections-bytes, text-bytes)

-- ---- well-formed sets

every_bytes : (name : List ℕ) → list_all is_name_byte name ≡ true → AreBytes name
every_bytes [] e = tt
every_bytes (b ∷ name) e =
    let p = and_parts (is_name_byte b) (list_all is_name_byte name) e in let low = name_byte_low b p.0 in (omega arith, every_bytes name p.1)

pub is_named : (most : ℕ) (name : List ℕ) → most < 256 → is_name most name ≡ true → IsNamed name
is_named most name lt e = search (arith, every_bytes)

sub_named : (device name : List ℕ) → is_name 100 device ≡ true → is_sub_name device name ≡ true → IsNamed name
sub_named device name d e =
    let p = and_parts (bytes_eq (take (length device + 1) name) (device ++ 47 ∷ [])) (is_name 64 (drop (length device + 1) name)) e in
    let rest = drop (length device + 1) name in
    let own = is_named 100 device (omega arith) d in
    let q = and_parts (nat_le 1 (length device) && nat_le (length device) 100) (list_all is_name_byte device) d in
    let most : length device ≤ 100 = leb-true (length device) 100 (and_parts (nat_le 1 (length device)) (nat_le (length device) 100) q.0).1 in
    let r = and_parts (nat_le 1 (length rest) && nat_le (length rest) 64) (list_all is_name_byte rest) p.1 in
    let tail : length rest ≤ 64 = leb-true (length rest) 64 (and_parts (nat_le 1 (length rest)) (nat_le (length rest) 64) r.0).1 in
    subst IsNamed (rw ((bytes_eq-Decides (take (length device + 1) name) (device ++ 47 ∷ [])).0 p.0) at (take-append-drop (length device + 1) name)) (record {
      octets = bytes_append _ rest (bytes_append device _ own.octets (omega arith, tt)) (every_bytes rest r.1);
      short = omega (arith, length-append (device ++ 47 ∷ []) rest, length-append device (47 ∷ []));
    })

module _ (set : Set) (well : WellFormed set) where
  pub parts_named : EachPart (λ d. IsNamed d.name) set.devices
  parts_named k d e =
      let own : is_name 100 d.desc.name ≡ true = (device_parts set well k d e).0.own.0 in
      (is_named 100 _ (omega arith) own, λ j s f. sub_named _ _ own (sub_clean set well k j d s e f).own.0)

  pub machine_bytes : (machine : Option (List ℕ)) → IfSome machine (λ m. is_one_of set.machines m ≡ true) → IfSome machine AreBytes
  machine_bytes None h = tt
  machine_bytes (Some name) h = (is_named 64 name (omega arith) (every_one _ _ name (set_clean set well).own.0 h)).octets

  -- with a machine's name and a description, if there are any
  pub written_are_bytes : (machine : Option (List ℕ)) (images : List Image) (text : Option (List ℕ)) → IfSome machine AreBytes → IfSome text AreBytes
      → AreBytes (written set machine images text)
  written_are_bytes machine images text named told = written-bytes set _ images text (all_parts (λ d. IsNamed d.name) _ parts_named) named told

-- ---- what the writer gives is a stream with footers

-- the numbers of those subsections that came, from j on
abbrev those_come : ℕ → List (Option ℕ) → List ℕ
those_come j [] = []
those_come j (None ∷ came) = those_come (suc j) came
those_come j (Some v ∷ came) = j ∷ those_come (suc j) came

-- a number for each element, from k on
abbrev count_from : {X : Type 0} → ℕ → List X → List ℕ
count_from k [] = []
count_from k (x ∷ xs) = k ∷ count_from (suc k) xs

drop_head : {A : Type 0} (xs : List A) (j : ℕ) (x : A) (more : List A) → drop j xs ≡ x ∷ more → slice_get xs j ≡ Some x
drop_head [] (suc j) x more e = cc
drop_head (y ∷ xs) (suc j) x more e = drop_head xs j x more e
drop_head _ _ x more e = cc

place_next : (set : Set) (at : ℕ) (subs : List Sub) (j : ℕ) (x : Sub) (more : List Sub) → drop j subs ≡ x ∷ more
    → sub_place set at subs (suc j) ≡ sub_place set at subs j + length (desc_cells (struct_cells set) x.desc)
place_next set at [] zero x more e = cc
place_next set at [] (suc j) x more e = cc
place_next set at (y ∷ subs) zero x more e = let same : y ≡ x = cc in rw same (sub_first set _ subs)
place_next set at (y ∷ subs) (suc j) x more e = place_next set (at + length (desc_cells (struct_cells set) y.desc)) subs j x more e

-- the subsections that came, from j on
subs_spell : (set : Set) (d : Device) (image : Image) (subs : List Sub) (came : List (Option ℕ)) (at j : ℕ) → AreVersionsOf subs came → drop j d.subs ≡ subs
    → drop j image.came ≡ came → sub_place set (own_cells set d) d.subs j ≡ at
    → Streams.SubsSpell set d image (those_come j came) (Streams.written_subs set d image at subs came)
subs_spell set d image [] [] at j v s c p = refl
subs_spell set d image (x ∷ subs) (None ∷ came) at j v s c p =
    subs_spell set d image subs came _ (suc j) v (drop_next d.subs j x subs s) (drop_next _ j None came c) (rw (← p) (place_next set _ d.subs j x subs s))
subs_spell set d image (x ∷ subs) (Some v ∷ came) at j vs s c p =
    let body = zeroed image.numbers (sub_slots set x v image.numbers at) in (
      Streams.sub_head x.desc.name v ++ body,
      Streams.written_subs set d image (at + length (desc_cells (struct_cells set) x.desc)) subs came,
      sub_front set d image j v x body _ _ (sym (drop_head d.subs j x subs s)) (sym (drop_head _ j _ came c))
          (rw p (zeroed_spells image.numbers (sub_slots set x v image.numbers at))),
      subs_spell set d image subs came _ (suc j) vs.1 (drop_next d.subs j x subs s) (drop_next _ j _ came c)
          (rw (← p) (place_next set _ d.subs j x subs s)),
      refl,
    )
subs_spell set d image _ _ at j v s c p = absurd v

at_seam : {A : Type 0} (before : List A) (o : A) (came : List A) → slice_get (before ++ o ∷ came) (length before) ≡ Some o
at_seam before o came = drop_head (before ++ o ∷ came) (length before) o came (drop-append_seam before (o ∷ came))

all_none : (before : List (Option ℕ)) → Streams.AreAll before → Streams.AreAll (before ++ None ∷ [])
all_none [] h = tt
all_none (None ∷ before) h = all_none before h
all_none (Some v ∷ before) h = absurd h

-- those that came, in their own order, come once each
in_order : (came before : List (Option ℕ)) (j : ℕ) → j ≡ length before → Streams.AreAll before → Streams.ComesOnce (before ++ came) (those_come j came)
in_order [] before j e h = rw (append-nil before) h
in_order (None ∷ came) before j e h =
    rw (← append_assoc before (None ∷ []) came)
    (in_order came (before ++ None ∷ []) (suc j) (omega (arith, length-append before (None ∷ []))) (all_none before h))
in_order (Some v ∷ came) before j e h = (
  (v, rw e (at_seam before _ came)),
  rw (e, set-append_seam before (Some v) came None, ← append_assoc before (None ∷ []) came)
      (in_order came (before ++ None ∷ []) (suc (length before)) (omega (arith, length-append before (None ∷ []))) (all_none before h)),
)

pub written_section_is : (set : Set) (d : Device) (image : Image) (id : ℕ) → id < 4294967296 → Streams.IsReady set d image
    → units.IsSection set d image id true (Streams.written_section set d image id)
written_section_is set d image id fits r = record {
  fits = fits;
  normal = r.normal;
  valid = r.valid;
  body = zeroed image.numbers (own_slots set d image.version image.numbers);
  own = zeroed_spells image.numbers (own_slots set d image.version image.numbers);
  order = those_come 0 image.came;
  each_once = in_order image.came [] 0 refl tt;
  tail = Streams.written_subs set d image (own_cells set d) d.subs image.came;
  subs = subs_spell set d image d.subs _ _ 0 r.normal.subs refl refl (sub_first set _ d.subs);
  whole = refl;
}

all_true : (before : List Bool) → Streams.AllCame before → Streams.AllCame (before ++ true ∷ [])
all_true [] h = tt
all_true (true ∷ before) h = all_true before h
all_true (false ∷ before) h = absurd h

-- the devices in the set's order, each once
in_set_order : (devices : List Device) (before : List Bool) (k : ℕ) → k ≡ length before → Streams.AllCame before
    → Streams.EachOnce (before ++ map (λ (d : Device). false) devices) (count_from k devices)
in_set_order [] before k e h = rw (append-nil before) h
in_set_order (d ∷ devices) before k e h =
    let came = map (λ (d : Device). false) devices in (
      rw e (at_seam before false came),
      rw (e, set-append_seam before false came true, ← append_assoc before (true ∷ []) came)
          (in_set_order devices (before ++ true ∷ []) (suc (length before)) (omega (arith, length-append before (true ∷ []))) (all_true before h)),
    )

module _ (set : Set) (images : List Image)
    (ready : (k : ℕ) (d : Device) (image : Image) → slice_get set.devices k ≡ Some d → slice_get images k ≡ Some image → Streams.IsReady set d image) where
  -- the sections of the devices from k on
  sections_spell : (devices : List Device) (left : List Image) (k : ℕ) → length left ≡ length devices → k + length devices ≤ 4294967296
      → drop k set.devices ≡ devices → drop k images ≡ left
      → units.SectionsSpell set true images (count_from k devices) (Streams.written_sections set k devices left)
  sections_spell [] left k long few ds is = refl
  sections_spell (d ∷ devices) [] k long few ds is = absurd (omega arith)
  sections_spell (d ∷ devices) (image ∷ left) k long few ds is =
      let device = drop_head _ k d _ ds in
      let found = drop_head images k image left is in (
        Streams.written_section set d image k,
        Streams.written_sections set (suc k) devices left,
        rw (device, found) (k, written_section_is set d image k (omega arith) (ready k d image device found)),
        sections_spell devices left (suc k) (omega arith) (omega arith) (drop_next _ k d _ ds) (drop_next images k image left is),
        refl,
      )

-- what the writer gives for ready images, a machine of the names or none, and a text that is not too long or none, is a stream
pub written_is_stream : (set : Set) (names : List (List ℕ)) → length set.devices ≤ 4294967296 → (machine text : Option (List ℕ)) (images : List Image)
    → Streams.IsConfiguration names machine (Streams.optional Streams.configuration machine) → Streams.IsTrailer text (Streams.optional Streams.trailer text)
    → length images ≡ length set.devices
    → ((k : ℕ) (d : Device) (image : Image) → slice_get set.devices k ≡ Some d → slice_get images k ≡ Some image → Streams.IsReady set d image)
    → units.IsStream set names (Streams.written set machine images text) machine images text
written_is_stream set names few machine text images c t long ready = record {
  named = Streams.optional Streams.configuration machine;
  configured = c;
  one_each = long;
  order = count_from 0 set.devices;
  each_once = in_set_order _ [] 0 refl tt;
  sections = Streams.written_sections set 0 set.devices images;
  footed = true;
  bare = λ e. cc;
  spelled = sections_spell set images ready _ images 0 long (omega arith) refl refl;
  tail = Streams.optional Streams.trailer text;
  described = t;
  whole = refl;
}
