-- What is written of ready images with their description lists the values text.
use Rattle.vms_analyze.proofs.{Streams.front, Streams.front_found}
use Rattle.vms_analyze.proofs.Facade
use Facade.{◌≡◌, ℕ, ◌+◌, ◌<◌, ◌≤◌, true, List, [], ◌∷◌, ◌++◌, length, length-append, append_assoc, take, drop, is_none, Option}
use Facade.{Some, refl, sym, ap, ◌∙◌, subst, arith, Bool, if◌then◌else◌, None, is_utf8, flat_map, ◌*◌, false, ◌==◌, length-drop, get_or}
use Facade.{map, ℤ, compact_text, value_in, escape_byte, read, FitsHeads, Set, Image, AreReady, be32, end_mark, trailer, written, WellFormed, few_devices}
use Facade.{front_take, front_drop, IsMachineOf, values_lines, text_law, few_items, IsSound, described_tree, described_text, short_holds, described_plain}
use Facade.{reads_whole, told_tree, Bytes, Lines, device_wants, wants, found, IsLastPlace, Tells, Text, listing_of, Lists, IsRead, told, ReadBackLaw, ShownLaw}
use Facade.{width, MOST_UNUSED, number_at, bytes_at, Sub, Device, Desc, desc_cells, struct_cells, own_cells, struct_items, items_in, subs_items, devices_items}
use Facade.{width_small, Told, is_good, Want, Any, Number, Machine, Head, Foot, Line, element_want, sub_wants, Took, took, only_if, take_machine, taken, Found}
use Facade.{Differs, behind, found_after, told_part, told_subs, told_devices, told_device_of, told_sub_of}
use Rattle.vms_analyze.proofs.Shapes.{each_good, width_few, all_good, told_good, tree_same, IsGoodPart, AreGoodSubs, IsGoodDevice, AreGoodDevices}
use Rattle.vms_analyze.proofs.Texts.{told_text, HasNoMark, last_place, tree_sound, text_printed, no_mark}

-- ---- How many bytes are as required: no more than the description allows.

-- the most bytes that are taken
abbrev most_of : Want → ℕ
most_of (Bytes bytes) = length bytes
most_of (Any n) = n
most_of (Number path kind) = width kind
most_of Machine = 260
most_of (Head name instance version) = 14 + length name
most_of Foot = 5
most_of (Line line) = 0

abbrev pub total : List Want → ℕ
total [] = 0
total (w ∷ ws) = most_of w + total ws

only_long : (b : Bool) (t u : Took) → only_if b t ≡ Some u → u.long ≡ t.long
only_long b t u e = grind arith

only_so : (b : Bool) (t u : Took) → only_if b t ≡ Some u → b ≡ true
only_so b t u e = grind arith

machine_long : (id : ℕ) (rest name : List ℕ) (u : Took) → take_machine id rest name ≡ Some u → u.long ≤ 260
machine_long id rest name u e = grind (arith, only_so, only_long)

taken_long : (w : Want) (id : ℕ) (rest : List ℕ) (u : Took) → taken w id rest ≡ Some u → u.long ≤ most_of w
taken_long (Bytes bytes) id rest u e = omega (arith, only_long _ _ u e)
taken_long (Any n) id rest u e = omega (arith, only_long _ _ u e)
taken_long (Number path kind) id rest u e = omega (arith, only_long _ _ u e)
taken_long Machine id rest u e = go (get_or rest 0 0 == 7) e
  where
    go : (b : Bool) → (if b then take_machine id rest (bytes_at (number_at 4 1 rest) 5 rest) else Some (took 0 id [])) ≡ Some u → u.long ≤ 260
    go true e = machine_long id rest _ u e
    go false e = omega (arith, only_long true (took 0 id []) u e)
taken_long (Head name instance version) id rest u e =
    omega (arith, only_long _ _ u e, length-append (name ++ be32 instance) (be32 version), length-append name (be32 instance))
taken_long Foot id rest u e = omega (arith, only_long _ _ u e)
taken_long (Line line) id rest u e = omega (arith, only_long true (took 0 id (line ∷ [])) u e)

abbrev IsBound : List Want → Type 0
IsBound ws = (id place : ℕ) (rest : List ℕ) (lines : List (List ℕ)) → found ws id place rest ≡ Lines lines → length rest ≤ total ws

-- what is as required throughout is no longer than that
pub found_long : (ws : List Want) (id place : ℕ) (rest : List ℕ) (lines : List (List ℕ)) → found ws id place rest ≡ Lines lines → length rest ≤ total ws
found_long [] id place [] lines e = omega arith
found_long [] id place (b ∷ rest) lines e = cc
found_long (w ∷ ws) id place rest lines e = by_took (λ id place rest lines e. found_long ws id place rest lines e) _ refl e
  where
    by_found : IsBound ws → (t : Took) (f : Found) → found ws t.id (place + t.long) (drop t.long rest) ≡ f → behind t.lines f ≡ Lines lines
        → length (drop t.long rest) ≤ total ws
    by_found more t (Lines others) is e = more t.id (place + t.long) (drop t.long rest) others is
    by_found more t (Differs at) is e = cc

    by_took : IsBound ws → (o : Option Took) → taken w id rest ≡ o → found_after (found ws) place rest o ≡ Lines lines → length rest ≤ most_of w + total ws
    by_took more None is e = cc
    by_took more (Some t) is e =
        omega (arith, by_found more t (found ws t.id (place + t.long) (drop t.long rest)) refl e, taken_long w id rest t is, length-drop t.long rest)

-- ---- of a description

pub total_append : (xs ys : List Want) → total (xs ++ ys) ≡ total xs + total ys
total_append [] ys = omega arith
total_append (x ∷ xs) ys = omega (arith, total_append xs ys)

element_long : (t : Told) → is_good t ≡ true → most_of (element_want t) ≤ MOST_UNUSED
element_long t e = grind (arith, width_small, width_few)

module _ (set : Set) where
  abbrev sizes : List ℕ
  sizes = struct_items set.structs

  part_long : (most : ℕ) (d : Desc) → IsGoodPart set most d → (sent : Bool) (n : List ℤ) (at : ℕ)
      → total (map element_want (told_part set d sent n at)) ≤ MOST_UNUSED * items_in sizes d.fields
  part_long most d h sent n at =
      let long : total (map element_want (told_part set d sent n at)) ≤ MOST_UNUSED * length (told_part set d sent n at) =
      each_good is_good (λ ts. total (map element_want ts) ≤ MOST_UNUSED * length ts) (omega arith) (λ t ts p q. omega (arith, element_long t p)) _
      (h.elements sent n at) in
      omega (arith, h.few sent n at)

  sub_long : (s : Sub) → IsGoodPart set 165 s.desc → (c : Option ℕ) (n : List ℤ) (at : ℕ)
      → total (sub_wants (told_sub_of set n at s c)) ≤ MOST_UNUSED * items_in sizes s.desc.fields + 300
  sub_long s h None n at = let long = part_long 165 s.desc h false n at in omega arith
  sub_long s h (Some v) n at = let long = part_long 165 s.desc h true n at in omega (arith, length-append s.desc.name (be32 s.desc.version))

  subs_long : (n : List ℤ) (at : ℕ) (subs : List Sub) (came : List (Option ℕ)) → AreGoodSubs set subs
      → total (flat_map sub_wants (told_subs set n at subs came)) ≤ MOST_UNUSED * subs_items sizes subs + 300 * length subs
  subs_long n at [] came h = omega arith
  subs_long n at (s ∷ subs) [] h = omega arith
  subs_long n at (s ∷ subs) (c ∷ came) h =
      let next = at + length (desc_cells (struct_cells set) s.desc) in
      let later = subs_long n next subs came h.1 in
      omega (arith, sub_long s h.0 c n at, total_append (sub_wants (told_sub_of set n at s c)) (flat_map sub_wants (told_subs set n next subs came)))

  device_long : (d : Device) (image : Image) → IsGoodDevice set d
      → total (device_wants (told_device_of set d image)) ≤ MOST_UNUSED * (items_in sizes d.desc.fields + subs_items sizes d.subs) + 10000
  device_long d image h =
      let n = image.numbers in
      let own = map element_want (told_part set d.desc true n 0) in
      let subs = flat_map sub_wants (told_subs set n (own_cells set d) d.subs image.came) in
      let later = subs_long n (own_cells set d) _ image.came h.subs in
      omega (arith, part_long 100 d.desc h.own true n 0, total_append (own ++ subs) (Foot ∷ []), total_append own subs)

  pub devices_long : (devices : List Device) (images : List Image) → AreGoodDevices set devices
      → total (flat_map device_wants (told_devices set devices images)) ≤ MOST_UNUSED * devices_items sizes devices + 10000 * length devices
  devices_long [] images h = omega arith
  devices_long (d ∷ devices) [] h = omega arith
  devices_long (d ∷ devices) (image ∷ images) h =
      let later = devices_long devices images h.1 in
      omega (arith, device_long d image h.0, total_append (device_wants (told_device_of set d image)) (flat_map device_wants (told_devices set devices images)))

-- ---- what is written

-- a description begins with `{"de`
begins : (set : Set) (images : List Image) → described_text set images ≡ 0x7b ∷ 0x22 ∷ 0x64 ∷ 0x65 ∷ drop 4 (described_text set images)
unfolding escape_byte
begins set images = refl

module _ (set : Set) (well : WellFormed set) (heads : FitsHeads set) (images : List Image) where
  abbrev text : List ℕ
  text = described_text set images

  short : length text < 16777216
  short = short_holds.short set well heads images

  -- it is read back as what it says
  pub text_read : read text ≡ Some (told_tree (told set images))
  text_read =
      let same = tree_same set images in
      let sound : IsSound (described_tree set images) = subst IsSound same (tree_sound (told set images) (told_good set well heads images)) in
      reads_whole (described_tree set images) text refl sound (omega (arith, (described_plain set images).flat)) ∙ ap Some (sym same)

  -- it is at the last place after a front
  placed : (before : List ℕ) → IsLastPlace (before ++ trailer text) (length before)
  placed before =
      let e = begins set images in
      let none : HasNoMark (0x7b ∷ 0x22 ∷ 0x64 ∷ 0x65 ∷ drop 4 text) = subst HasNoMark e (no_mark text (text_printed (described_tree set images))) in
      let few : length (0x7b ∷ 0x22 ∷ 0x64 ∷ 0x65 ∷ drop 4 text) < 16777216 = omega (arith, ap length e, short) in
      subst (λ l. IsLastPlace (before ++ trailer l) (length before)) (sym e) (last_place before (drop 4 text) none few)

  -- and it is a text
  pub text_is : value_in text ≡ Some (told_tree (told set images))
  text_is =
      let same = tree_same set images in
      let utf8 : is_utf8 text ≡ true = subst (λ d. is_utf8 (compact_text d) ≡ true) same (told_text (told set images) (told_good set well heads images)) in
      ap (λ b. if b then read text else None) utf8 ∙ text_read

  tells : (before : List ℕ) → Tells (before ++ trailer text) (length before) (told set images)
  tells before =
      let mark = 0x06 ∷ be32 (length text) in
      let all : before ++ trailer text ≡ (before ++ mark) ++ text = sym (append_assoc before mark text) in
      let long : length (before ++ mark) ≡ length before + 5 = omega (arith, length-append before mark) in
      record {
        tree = ap value_in (front_drop (length before + 5) (before ++ mark) text (before ++ trailer text) all long) ∙ text_is;
        good = told_good set well heads images;
      }

  -- and all that is written isn't too long
  within : (machine : Option (List ℕ)) → IsMachineOf set machine → AreReady set images → length (front set machine images ++ trailer text) ≤ 100000000
  within machine named ready =
      let before = front set machine images in
      omega (
        arith,
        found_long (wants (told set images)) 0 0 before (values_lines set machine images) (front_found set well machine named images ready),
        few_items set (ap is_none well),
        few_devices set well,
        devices_long set set.devices images (all_good set well heads),
        short,
        total_append (flat_map device_wants (told set images)) (Bytes end_mark ∷ []),
        length-append before
            (trailer text),
      )

  pub shown : (machine : Option (List ℕ)) → IsMachineOf set machine → AreReady set images
      → Lists (written set machine images (Some text)) (Text (Rattle.vms_spec.specs.Values.values_text set machine images))
  shown machine named ready =
      let before = front set machine images in
      let stream = before ++ trailer text in
      let there : take (length before) stream ≡ before = front_take (length before) before (trailer text) stream refl refl in
      let is : found (wants (told set images)) 0 0 (take (length before) stream) ≡ Lines (values_lines set machine images) =
      cc (front_found set well machine named images ready) in
      rw (ap listing_of is ∙ ap Text (text_law set machine images)) at
      (IsRead (length before) (told set images) (within machine named ready) (placed before) (tells before))

pub read_back : ReadBackLaw
read_back set well heads images = cc (text_read set well heads images, tree_same set images)

pub shown_holds : ShownLaw
shown_holds set well heads machine named images ready = shown set well heads images machine named ready
