-- What is written for ready images is found as described: elements, devices and streams.
use Rattle.vms_analyze.proofs.{Facade.all_true, Facade.or_else_none, Facade.every_one, Following.takes_any, Following.takes_number, Following.takes_bytes}
use Rattle.vms_analyze.proofs.Facade.{front_take, text_says, ◌≡◌, ℕ, Bool, true, false, ◌&&◌, List, [], ◌∷◌, ◌++◌, append_assoc}
use Rattle.vms_analyze.proofs.Facade.{append-nil, get_or, map, replicate, None, ℤ, pos, refl, sym, ap, ◌∙◌, codes, if◌then◌else◌, suc, ◌+◌}
use Rattle.vms_analyze.proofs.Facade.{◌<◌, ◌≤◌, ◌^◌, length, Option, Some, arith, ◌==◌, signed_decimal, map-append, length-replicate}
use Rattle.vms_analyze.proofs.Facade.{and_parts, and_from, and-false, and-true, flat_map, code, InRange, length-code, be32_read, Slot, desc_cells, struct_cells}
use Rattle.vms_analyze.proofs.Facade.{meanings, desc_slots, Cell, zeroed, Image, own_cells, sub_slots, same_number_is, What, Constant, Filler, Rule, is_number}
use Rattle.vms_analyze.proofs.Facade.{slot_of, slots_of, elements_in, printed, number_lines, sub_line, subs_lines, device_lines, devices_lines, machine_lines}
use Rattle.vms_analyze.proofs.Facade.{values_lines, OfNumber, has_default, have_defaults, line_reason, if_not, came_well, number_entries, subs_entries}
use Rattle.vms_analyze.proofs.Facade.{device_entries, devices_entries, entries, AreFine, AreAtVersions, IsShaped, AreShaped, IsMachineOf, Each, line_number}
use Rattle.vms_analyze.proofs.Facade.{reason_fits, fine_rest, begins_itself, IsFitting, AreShort, of_numbers, IsCounted, AreCounted, walks, element_want, Bytes}
use Rattle.vms_analyze.proofs.Facade.{sub_wants, device_wants, Want, Machine, wants, took, is_machine, taken, Found, Lines, behind, found, told_what, tolds}
use Rattle.vms_analyze.proofs.Facade.{told_part, told_subs, told_device_of, told_devices, told, Desc, Sub, Device, Set, sub_head, is_needed, written_subs}
use Rattle.vms_analyze.proofs.Facade.{written_section, written_sections, AreReady, is_one_of, be32, magic, stream_head, configuration, end_mark, optional}
use Rattle.vms_analyze.proofs.Facade.{elements_slots, short_are, AreGood, all_parts, WellFormed, first_fault, here, machine_short, few_devices, foot}
use Rattle.vms_analyze.proofs.Following.{takes_head, Takes, if_so, Follows, none_follows, one_follows, both_follow, follows_as, takes_line}
use Rattle.vms_elements.specs.{Elements.Number, Elements.Element, Lines.number_line}
use Rattle.vms_spec.specs.declared.ValuesReason.TheVariants as reasons
use Rattle.vms_spec.specs.declared.Part.TheVariants as parts

-- ---- The elements of a part are found as described: those in the bytes are taken, and the printed numbers are listed.

-- a number in the bytes is counted and in range, and one that has only a line is its default
abbrev pub IsSaidAs : Bool → What → Bool → Bool → ℤ → Type 0
IsSaidAs sent (Number cell) counted present z =
    ((sent && present) ≡ true → (counted ≡ true) × InRange cell.kind z) × (counted ≡ true → (sent && present) ≡ false → z ≡ cell.default)
IsSaidAs sent (Constant kind y) counted present z = Unit {0}
IsSaidAs sent _ counted present z = Unit {0}

abbrev pub IsSaid : Bool → List ℤ → Element → Type 0
IsSaid sent n x = IsSaidAs sent x.what x.counted x.present (get_or n x.cell (pos 0))

-- ---- one element

-- its bytes and its line
abbrev bytes_if : List ℤ → Bool → ℕ → What → List ℕ
bytes_if n true at w = zeroed n (slot_of at w ∷ [])
bytes_if n false at w = []

abbrev lines_if : Bool → List ℕ → List (List ℕ)
lines_if true line = line ∷ []
lines_if false line = []

module _ (n : List ℤ) (id : ℕ) where
  number_follows : (counted p : Bool) (cell : Cell) (at : ℕ) (name : List ℕ) → (p ≡ true → (counted ≡ true) × InRange cell.kind (get_or n at (pos 0)))
      → (counted ≡ true → p ≡ false → get_or n at (pos 0) ≡ cell.default)
      → Follows (map element_want (told_what (Number cell) counted p name)) id (bytes_if n p at (Number cell)) id
      (lines_if counted (name ++ (codes " = " ++ signed_decimal (get_or n at (pos 0)))))
  number_follows true true cell at name f g =
      rw (append-nil (code cell.kind (get_or n at (pos 0)))) (one_follows (takes_number _ _ _ _ (f refl).1))
  number_follows true false cell at name f g =
      follows_as (rw (g refl refl)) refl refl (one_follows (takes_line (name ++ (codes " = " ++ signed_decimal (get_or n at (pos 0)))) id))
  number_follows false true cell at name f g = absurd (cc ((f refl).0))
  number_follows false false cell at name f g = none_follows id

  -- what isn't a number has no line
  others : (w : What) (counted p : Bool) (at : ℕ) (name : List ℕ) → is_number w ≡ false
      → Follows (map element_want (told_what w counted p name)) id (bytes_if n p at w) id []
  others (Number cell) counted p at name e = cc
  others (Constant kind y) counted true at name e = rw (append-nil (code kind y)) (one_follows (takes_any _ _ _ (length-code kind y)))
  others (Filler m) counted true at name e = rw (append-nil {A = ℕ} (replicate m 0)) (one_follows (takes_any _ _ _ (length-replicate m 0)))
  others (Rule holds) counted true at name e = none_follows id
  others _ counted false at name e = none_follows id

  one : (sent : Bool) (w : What) (counted present : Bool) (at : ℕ) (name : List ℕ) → IsSaidAs sent w counted present (get_or n at (pos 0))
      → Follows (map element_want (told_what w counted (sent && present) name)) id (bytes_if n (sent && present) at w) id
      (lines_if (counted && is_number w) (name ++ (codes " = " ++ signed_decimal (get_or n at (pos 0)))))
  one sent (Number cell) counted present at name said = rw (and-true counted) (number_follows _ _ _ _ _ said.0 said.1)
  one sent w counted present at name said = rw (and-false counted) (others _ counted _ _ name refl)

  -- ---- all of them

  abbrev bytes_of : Bool → List Element → List ℕ
  bytes_of sent [] = []
  bytes_of sent (x ∷ xs) = bytes_if n (sent && x.present) x.cell x.what ++ bytes_of sent xs

  zeroed_more : (b : Bool) (at : ℕ) (w : What) (ss : List Slot) → bytes_if n b at w ++ zeroed n ss ≡ zeroed n (if b then slot_of at w ∷ ss else ss)
  zeroed_more true at (Number cell) ss = append_assoc (code cell.kind (get_or n at (pos 0))) [] (zeroed n ss)
  zeroed_more true at (Constant kind y) ss = append_assoc (code kind y) [] (zeroed n ss)
  zeroed_more true at (Filler m) ss = append_assoc (replicate m 0) [] (zeroed n ss)
  zeroed_more _ at _ ss = refl

  sent_bytes : (xs : List Element) → bytes_of true xs ≡ zeroed n (slots_of xs)
  sent_bytes [] = refl
  sent_bytes (x ∷ xs) = rw (sent_bytes xs) (zeroed_more x.present x.cell x.what (slots_of xs))

  no_bytes : (xs : List Element) → bytes_of false xs ≡ []
  no_bytes [] = refl
  no_bytes (x ∷ xs) = no_bytes xs

  all_follow : (sent : Bool) (xs : List Element) → Each (IsSaid sent n) xs
      → Follows (map element_want (tolds sent xs)) id (bytes_of sent xs) id (map (number_line n) (printed xs))
  all_follow sent [] said = none_follows id
  all_follow sent (x ∷ xs) said =
      follows_as (sym (map-append element_want (told_what x.what x.counted (sent && x.present) x.name) (tolds sent xs))) refl (grind arith)
      (both_follow (one _ _ _ _ _ _ said.0) (all_follow sent xs said.1))

-- ---- from the lines of a text

said_as : (n : List ℤ) (short : AreShort n) (x : Element) (w : What) → x.what ≡ w → IsCounted x
    → (x.counted ≡ true → is_number w ≡ true → line_reason (OfNumber x n) (number_line n x) ≡ None)
    → IsSaidAs true w x.counted x.present (get_or n x.cell (pos 0))
said_as n short x (Number cell) e counted fine =
    let fits : x.counted ≡ true → IsFitting cell x.present (get_or n x.cell (pos 0)) =
    λ c. reason_fits _ _ _ (sym (line_number x n _ e (short x.cell)) ∙ fine c refl) in
    (λ p. (counted p, (fits (counted p)).fits.0), λ c p. (fits c).absent p)
said_as n short x _ e counted fine = tt

pub fine_said : (n : List ℤ) → AreShort n → (xs : List Element) → AreCounted xs → AreFine (of_numbers n (printed xs)) → Each (IsSaid true n) xs
fine_said n short [] counted fine = tt
fine_said n short (x ∷ xs) counted fine =
    (said_as _ short x _ refl counted.0 its_line, fine_said n short xs counted.1 (fine_rest n x xs (x.counted && is_number x.what) fine))
  where
    first : (b : Bool) → AreFine (of_numbers n (if b then x ∷ printed xs else printed xs)) → b ≡ true → line_reason (OfNumber x n) (number_line n x) ≡ None
    first true f e = f.0
    first false f e = cc

    its_line : x.counted ≡ true → is_number x.what ≡ true → line_reason (OfNumber x n) (number_line n x) ≡ None
    its_line c w = first (x.counted && is_number x.what) fine (rw c (w))

kept_as : (n : List ℤ) (at : ℕ) (w : What) (counted present : Bool) → has_default n at w ≡ true → IsSaidAs false w counted present (get_or n at (pos 0))
kept_as n at w counted present h = grind (arith, same_number_is)

pub default_said : (n : List ℤ) (xs : List Element) → have_defaults n xs ≡ true → Each (IsSaid false n) xs
default_said n [] h = tt
default_said n (x ∷ xs) h =
    let p = and_parts (has_default n x.cell x.what) (have_defaults n xs) h in
    (kept_as n x.cell _ _ _ p.0, default_said n xs p.1)

-- ---- What is written for ready images is found as described, device after device.

-- what isn't needed is at its defaults
at_defaults : (needed defaults : Bool) → if_not (came_well needed None defaults) reasons.Needed ≡ None → defaults ≡ true
at_defaults needed defaults e = grind arith

module _ (set : Set) (d : Device) (image : Image) (short : AreShort image.numbers) (id : ℕ) where
  abbrev n : List ℤ
  n = image.numbers

  -- a part that is sent
  part_follows : (desc : Desc) (at : ℕ) → AreFine (number_entries set desc n at) → Follows (map element_want (told_part set desc true n at)) id
      (zeroed n (desc_slots (meanings set.structs (length set.structs)) desc desc.version n at)) id (number_lines set desc n at)
  part_follows desc at fine =
      follows_as refl (sent_bytes n id (elements_in set desc desc.version n at) ∙ ap (zeroed n) (elements_slots set desc desc.version n at)) refl
      (all_follow _ _ true _ (fine_said _ short _ (walks set desc desc.version desc.version n n at at).counted fine))

  sub_came : (s : Sub) (at : ℕ) → AreFine (number_entries set s.desc n at)
      → Follows (sub_wants (record { name = s.desc.name; sent = true; version = s.desc.version; elements = told_part set s.desc true n at })) id
      (sub_head s.desc.name s.desc.version ++ zeroed n (sub_slots set s s.desc.version n at)) id
      (sub_line s (Some s.desc.version) ∷ number_lines set s.desc n at)
  sub_came s at fine =
      both_follow (one_follows (takes_bytes (sub_head s.desc.name s.desc.version) id))
      (both_follow (one_follows (takes_line (sub_line s (Some s.desc.version)) id)) (part_follows s.desc at fine))

  sub_kept : (s : Sub) (at : ℕ) → have_defaults n (elements_in set s.desc s.desc.version n at) ≡ true
      → Follows (sub_wants (record { name = s.desc.name; sent = false; version = s.desc.version; elements = told_part set s.desc false n at })) id [] id
      (sub_line s None ∷ number_lines set s.desc n at)
  sub_kept s at have =
      let xs = elements_in set s.desc s.desc.version n at in
      both_follow (one_follows (takes_line (sub_line s None) id)) (follows_as refl (no_bytes n id xs) refl (all_follow _ _ false _ (default_said n xs have)))

  subs_follow : (j at : ℕ) (subs : List Sub) (came : List (Option ℕ)) → AreAtVersions subs came → AreFine (subs_entries set d image j at subs came)
      → AreGood set (subs_entries set d image j at subs came)
      → Follows (flat_map sub_wants (told_subs set n at subs came)) id (written_subs set d image at subs came) id (subs_lines set n at subs came)
  subs_follow j at (s ∷ subs) (None ∷ came) versions fine good =
      let next = at + length (desc_cells (struct_cells set) s.desc) in
      let numbers = number_entries set s.desc n at in
      let others = subs_entries set d image (suc j) next subs came in
      let g = all_parts _ numbers others good.1 in
      let have = at_defaults (is_needed set d image s j) (have_defaults n (elements_in set s.desc s.desc.version n at)) good.0 in
      both_follow (sub_kept s at have) (subs_follow (suc j) next subs came versions.1 (all_parts _ numbers others fine.1).1 g.1)
  subs_follow j at (s ∷ subs) (Some v ∷ came) versions fine good =
      let next = at + length (desc_cells (struct_cells set) s.desc) in
      let numbers = number_entries set s.desc n at in
      let others = subs_entries set d image (suc j) next subs came in
      let f = all_parts _ numbers others fine.1 in
      rw versions.0 (both_follow (sub_came s at f.0) (subs_follow (suc j) next subs came versions.1 f.1 (all_parts _ numbers others good.1).1))
  subs_follow j at _ _ versions fine good = none_follows id

  -- a device, whichever section was open
  pub device_follows : (old : ℕ) → id < 2 ^ 32 → IsShaped set d image → AreFine (device_entries set d image) → AreGood set (device_entries set d image)
      → Follows (device_wants (told_device_of set d image)) old (written_section set d image id) id (device_lines set d image)
  device_follows old small shaped fine good =
      let numbers = number_entries set d.desc n 0 in
      let others = subs_entries set d image 0 (own_cells set d) d.subs image.came in
      let f = all_parts _ numbers others fine.1 in
      rw (shaped.version, ← append-nil (number_lines set d.desc n 0 ++ subs_lines set n (own_cells set d) d.subs image.came)) (both_follow
      (both_follow (both_follow (one_follows (takes_head _ _ _ _ _ small)) (part_follows d.desc 0 f.0))
      (subs_follow 0 _ _ _ shaped.versions f.1 (all_parts _ numbers others good.1).1))
      (one_follows (record { is = λ more. if_so _ (took (length (foot id)) id []) (begins_itself (foot id) more) })))

-- the section that is open after them
abbrev pub last : ℕ → ℕ → List Device → List Image → ℕ
last old id [] images = old
last old id (d ∷ devices) [] = old
last old id (d ∷ devices) (image ∷ images) = last id (suc id) devices images

pub devices_follow : (set : Set) (old id : ℕ) (devices : List Device) (images : List Image) → id + length devices ≤ 2 ^ 32 → AreShaped set devices images
    → AreFine (devices_entries set devices images) → AreGood set (devices_entries set devices images)
    → Follows (flat_map device_wants (told_devices set devices images)) old (written_sections set id devices images) (last old id devices images)
    (devices_lines set devices images)
devices_follow set old id (d ∷ devices) (image ∷ images) few shaped fine good =
    let here = device_entries set d image in
    let others = devices_entries set devices images in
    let f = all_parts _ here others fine in
    let g = all_parts _ here others good in
    both_follow (device_follows _ _ _ (short_are image.numbers shaped.0.short) _ _ (omega arith) shaped.0 f.0 g.0)
    (devices_follow set id (suc id) devices images (omega arith) shaped.1 f.1 g.1)
devices_follow set old id _ _ few shaped fine good = none_follows old

-- ---- What is written for ready images is found as described.

pub takes_machine : (name : List ℕ) (id : ℕ) → is_machine name ≡ true → length name < 2 ^ 32
    → Takes Machine id (configuration name) id ((codes "machine " ++ name) ∷ [])
takes_machine name id good small = search (arith, be32_read, front_take, if_so, and_from, begins_itself)

machine_good : (set : Set) → WellFormed set → (name : List ℕ) → is_one_of set.machines name ≡ true → is_machine name ≡ true
unfolding first_fault
machine_good set well name h = grind (arith, all_true, or_else_none, and_from, machine_short, every_one)

-- without a machine none is taken, since a section or the end mark is there
pub no_machine : (id : ℕ) (rest : List ℕ) → (get_or rest 0 0 == 7) ≡ false → taken Machine id rest ≡ Some (took 0 id [])
no_machine id rest e = rw e

section_first : (set : Set) (id : ℕ) (devices : List Device) (images : List Image)
    → (get_or (written_sections set id devices images ++ end_mark) 0 0 == 7) ≡ false
section_first set id [] images = refl
section_first set id (d ∷ devices) [] = refl
section_first set id (d ∷ devices) (image ∷ images) = refl

-- what comes after the stream head
module _ (set : Set) (well : WellFormed set) (images : List Image) (us : List Want) (sections : List ℕ) (f : Found) where
  machine_found : (machine : Option (List ℕ)) → IsMachineOf set machine → (get_or sections 0 0 == 7) ≡ false → ((place : ℕ) → found us 0 place sections ≡ f)
      → (place : ℕ) → found (Machine ∷ us) 0 place (optional configuration machine ++ sections) ≡ behind (machine_lines machine) f
  machine_found None named other is place = cc (no_machine 0 sections other, is (place + 0))
  machine_found (Some name) named other is place =
      let m = one_follows (takes_machine name 0 (machine_good _ well _ named) (omega (arith, machine_short set well name named))) in
      rw (m.goes us place sections, is (place + length (configuration name)))

-- ---- the whole

-- the fine lines and good parts of the devices
devices_said : (set : Set) (machine : Option (List ℕ)) (images : List Image) → AreFine (entries set machine images) → AreGood set (entries set machine images)
    → AreFine (devices_entries set set.devices images) × AreGood set (devices_entries set set.devices images)
devices_said set machine images f g = grind arith

abbrev pub front : Set → Option (List ℕ) → List Image → List ℕ
front set machine images = stream_head ++ optional configuration machine ++ written_sections set 0 set.devices images ++ end_mark

pub front_found : (set : Set) → WellFormed set → (machine : Option (List ℕ)) → IsMachineOf set machine → (images : List Image) → AreReady set images
    → found (wants (told set images)) 0 0 (front set machine images) ≡ Lines (values_lines set machine images)
front_found set well machine named images ready =
    let says = text_says _ _ _ _ (record { named = named; ready = ready; printed = refl }) in
    let lines = devices_lines set set.devices images in
    let sections = written_sections set 0 set.devices images in
    let said = devices_said set _ _ says.says.fine says.good in
    let all = devices_follow _ 0 0 _ _ (omega (arith, few_devices set well)) says.says.shaped said.0 said.1 in
    let us = flat_map device_wants (told set images) ++ Bytes end_mark ∷ [] in
    let tail : (place : ℕ) → found us 0 place (sections ++ end_mark) ≡ Lines lines =
    λ place. rw (all.goes (Bytes end_mark ∷ []) place end_mark, append-nil lines) in
    let head = both_follow (one_follows (takes_bytes magic 0)) (one_follows (takes_bytes (be32 3) 0)) in
    ap (λ (l : List ℕ). found (wants (told set images)) 0 0 l)
    (append_assoc (stream_head ++ optional configuration machine) sections end_mark ∙ append_assoc stream_head (optional configuration machine)
    (sections ++ end_mark)) ∙ head.goes (Machine ∷ us) 0 (optional configuration machine ++ (sections ++ end_mark))
    ∙ ap (behind []) (machine_found _ well images us _ _ _ named (section_first set 0 _ _) tail _)
