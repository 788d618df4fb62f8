-- All devices, read as entries, and which devices reading requires.
use Rattle.vms_values_laws.proofs.Facade
use Facade.{all_from, ◌≡◌, ℕ, suc, ◌+◌, List, ◌∷◌, ◌++◌, length, map, true, false, Option, Some, None, ℤ, Ok, Err, Result, refl, sym}
use Facade.{ap, ◌∙◌, subst, arith, [], length-append, length-map, bytes_eq-Decides, zero, ◌<◌, get_or, slice_set, Bool, ⊎_elim, AllByRecursion}
use Facade.{or_right, cases_eq, if◌then◌else◌, pos, get_or-set_other, append-nil, list_all, and_parts, length-set, get_or-set_same, get_or-map, Device}
use Facade.{Set, desc_cells, struct_cells, device_cells, Image, default_image, own_cells, first_line, Standing, BadLine, ReadSubs, readers, read_desc}
use Facade.{read_subs, then_subs, next_line, rest_of, is_line, IsSound, AreSound, section_line, Entry, OfSection, device_entries, Said, ForSection, reason_for}
use Facade.{Taken, Follows, Along, Begins, Moved, either_of, no_cell, Cell, ReadDevice, ReadAll, read_devices, device_read, with_device, IsShort}
use Facade.{devices_entries, is_short, IsShaped, AreShaped, AreUnsaid, AllUnsaid, put_all, Demand, IsGood, DefaultsFit, ranged, I64, U64, and_from}
use Rattle.vms_values_laws.proofs.SaidLaws.{moved_none, moved_one, moved_then, unsaid_kept, AreShortSaid, short}
use Rattle.vms_values_laws.proofs.SecondPass.{AreShort, numbers_come, follows_then, along_then, short_within, AreLined}
use Rattle.vms_values_laws.proofs.SubsCome.{line_taken, AreSoundSubs, cells_long, none_at, subs_come, Went, Come, stopped_first, behind_numbers, numbers_first}
use Rattle.vms_spec.specs.declared.ValuesReason.TheVariants as reasons

abbrev pub default_numbers : Set → Device → List ℤ
default_numbers set d = (default_image set d).numbers

abbrev pub state_of : Device → List (Option ℕ) → List ℤ → Image
state_of d came numbers = record { version = d.desc.version; came = came; numbers = numbers }

abbrev pub image_of : Device → ReadSubs → Image
image_of d r = state_of d r.came r.place.numbers

-- the entries of a device at the set's version
abbrev pub device_of : Set → Device → Image → List (Option ℕ) → List Entry
device_of set d image came = device_entries set d (state_of d came image.numbers)

module _ (set : Set) (d : Device) (line : ℕ) (text : List ℕ) where
  abbrev place : Standing
  place = record { numbers = default_numbers set d; line = line; rest = text }

  abbrev pub DeviceWent : List (Option ℕ) → List ℤ → ℕ → List ℕ → (List Entry → List Entry → Type 0) → Type 0
  DeviceWent came numbers line' rest Then = Went (device_of set d) d.subs 0 place came numbers line' rest Then

  -- what comes of the device, from its line on
  abbrev pub DeviceComes : Result ReadSubs BadLine → Type 0
  DeviceComes o = Come (device_of set d) d.subs 0 place o

  pub section_refused : reason_for (ForSection d) (first_line text) ≡ Some reasons.Form → DeviceComes (Err (record { line = line; reason = reasons.Form }))
  section_refused wrong =
      stopped_first _ d.subs 0 place _
      (λ image came more long. record { first = OfSection d (state_of d came image.numbers); others = _; is = refl; demands = refl }) wrong

  abbrev start : Standing
  start = next_line place

  abbrev head : Taken
  head = record { demand = ForSection d; line = section_line d d.desc.version }

  abbrev inside : Image → List (Option ℕ) → List Entry
  inside = behind_numbers set d d.desc 0 0 (own_cells set d) d.subs

  module _ (headed : Moved line text (head ∷ []) (suc line) start.rest) where
    abbrev with_head : {came : List (Option ℕ)} {numbers : List ℤ} {line' : ℕ} {rest : List ℕ} {Then : List Entry → List Entry → Type 0}
        → Went inside d.subs 0 start came numbers line' rest Then → DeviceWent came numbers line' rest Then
    with_head {came = came} w = record {
      said = w.said;
      taken = head ∷ w.taken;
      told = w.told;
      one_each = w.one_each;
      versions = w.versions;
      follows = λ image came more long short. (refl, λ e. w.follows (state_of d came image.numbers) came more long short);
      along = λ image more agrees. (refl, w.along (state_of d came image.numbers) more agrees);
      moved = moved_then headed w.moved;
    }

    device_comes : (o : Result ReadSubs BadLine) → Come inside d.subs 0 start o → DeviceComes o
    device_comes (Ok r) x = record {
      whole = with_head x.whole;
      heard = λ image agrees c. x.heard (state_of d r.came image.numbers) agrees c;
      lines = λ image agrees. x.lines (state_of d r.came image.numbers) agrees;
    }
    device_comes (Err e) x = record { demand = x.demand; came = x.came; numbers = x.numbers; rest = x.rest; before = with_head x.before; wrong = x.wrong }

  cells_are : length (default_numbers set d) ≡ own_cells set d + cells_long set d d.subs
  cells_are = length-map (device_cells set d) (λ c. c.default) ∙ length-append (desc_cells (struct_cells set) d.desc) _

  -- the device's lines, of which the first is its own
  pub inside_comes : AreSound set.structs → IsSound d.desc → AreSoundSubs d.subs → Moved line text (head ∷ []) (suc line) start.rest
      → DeviceComes (then_subs (read_desc (readers set) d.desc d.desc.version [] true 0 start) (read_subs set (own_cells set d) d.subs))
  inside_comes structs sound subs headed =
      device_comes headed _
      (numbers_first set d d.desc 0 0 _ d.subs start (omega arith) _ _ (numbers_come set d.desc 0 start structs sound (omega (arith, cells_are)))
      (λ q n. subs_come set d structs d.subs 0 _ q subs (omega (arith, cells_are, n.told.long))))

pub section_read : (d : Device) (text : List ℕ) (o : Option (List ℕ × List ℕ)) → first_line text ≡ o → is_line (section_line d d.desc.version) o ≡ true
    → (line : ℕ) → Moved line text (record { demand = ForSection d; line = section_line d d.desc.version } ∷ []) (suc line) (rest_of (first_line text))
section_read d text None e h line = cc
section_read d text (Some (first, rest)) e h line =
    let is : first ≡ section_line d d.desc.version = (bytes_eq-Decides first _).0 h in
    moved_one line text (record { demand = ForSection d; line = section_line d d.desc.version }) _
    (line_taken text _ rest (e ∙ ap (λ (l : List ℕ). Some (l, rest)) is)) (ap (λ l. reason_for (ForSection d) (Some (l, []))) (sym is) ∙ rw h)

pub section_not : (d : Device) (o : Option (List ℕ × List ℕ)) → is_line (section_line d d.desc.version) o ≡ false
    → reason_for (ForSection d) o ≡ Some reasons.Form
section_not d o h = grind arith

-- ---- The devices of a set one after the other, read as entries.

short_set : (n : List ℤ) (i : ℕ) (z : ℤ) → IsShort z → AreShort n → AreShort (slice_set n i z)
short_set n i z h short = short_within _ (λ c lt.
    ⊎_elim (λ (same : c ≡ i). rw (same, get_or-set_same n i z (pos 0) (omega (arith, length-set n i z))) h)
    (λ (ne : c ≡ i → ⊥). rw (get_or-set_other n i c z (pos 0) ne) (short c)) (cases_eq c i))

pub short_all : (n : List ℤ) (said : List Said) → AreShortSaid said → AreShort n → AreShort (put_all n said)
short_all n [] h short = short
short_all n (s ∷ said) h short = short_all (slice_set n s.element.cell s.number) said h.1 (short_set n _ _ h.0 short)

-- as a test that computes
is_short_one : (z : ℤ) → IsShort z → is_short z ≡ true
is_short_one z h = grind (arith, or_right, and_from)

pub are_short : (n : List ℤ) → AreShort n → list_all is_short n ≡ true
are_short [] h = refl
are_short (z ∷ n) h = let e = is_short_one z (h 0) in let f = are_short n (λ c. h (suc c)) in rw (e, f)

pub short_are : (n : List ℤ) → list_all is_short n ≡ true → AreShort n
short_are [] e c = omega arith
short_are (z ∷ n) e zero = either_of _ _ (and_parts (is_short z) (list_all is_short n) e).0 (short I64 z) (short U64 z)
short_are (z ∷ n) e (suc c) = short_are n (and_parts (is_short z) (list_all is_short n) e).1 c

-- what reading requires of a device
pub record IsGoodDevice (set : Set) (d : Device) : Type 0 where
  pub sound : IsSound d.desc
  pub subs : AreSoundSubs d.subs
  pub short : AreShort (default_numbers set d)

abbrev pub AreGoodDevices : Set → List Device → Type 0
AreGoodDevices set = AllByRecursion (λ (d : Device). IsGoodDevice set d)

abbrev pub images_of : List ReadDevice → List Image
images_of devices = map (λ (r : ReadDevice). r.image) devices

-- What was taken of devices up to a place. Their entries follow on it, whatever their state is, and those of these images have its lines.
pub record AllWent (set : Set) (devices : List Device) (line : ℕ) (text : List ℕ) (images : List Image) (line' : ℕ) (rest : List ℕ)
    (Then : List Entry → Type 0) : Type 0 where
  pub taken : List Taken
  pub shaped : AreShaped set devices images
  pub follows : (images : List Image) → AreShaped set devices images → Follows taken Then (devices_entries set devices images)
  pub along : Along taken Then (devices_entries set devices images)
  pub moved : Moved line text taken line' rest

pub record AllRead (set : Set) (devices : List Device) (line : ℕ) (text : List ℕ) (all : ReadAll) : Type 0 where
  pub whole : AllWent set devices line text (images_of all.devices) all.line all.rest (λ es. es ≡ [])
  pub open whole use *
  pub unsaid : AllUnsaid set devices (images_of all.devices)
  pub lined : AreLined set line devices all.devices

pub record AllStop (set : Set) (devices : List Device) (line : ℕ) (text : List ℕ) (e : BadLine) : Type 0 where
  pub demand : Demand
  pub images : List Image
  pub rest : List ℕ
  pub before : AllWent set devices line text images e.line rest (Begins demand)
  pub open before use *
  pub wrong : reason_for demand (first_line rest) ≡ Some e.reason

abbrev pub AllCome : Set → List Device → ℕ → List ℕ → Result ReadAll BadLine → Type 0
AllCome set devices line text (Ok all) = AllRead set devices line text all
AllCome set devices line text (Err e) = AllStop set devices line text e

-- entries that have the lines that were taken are of the same number
along_long : (taken : List Taken) (es : List Entry) → Along taken (λ es. es ≡ []) es → length es ≡ length taken
along_long [] es h = rw h
along_long (t ∷ taken) [] h = absurd h
along_long (t ∷ taken) (e ∷ es) h = ap suc (along_long taken es h.1)

abbrev default_images : Set → List Device → List Image
default_images set devices = map (λ d. default_image set d) devices

defaults_shaped : (set : Set) (devices : List Device) → AreGoodDevices set devices → AreShaped set devices (default_images set devices)
defaults_shaped set [] good = tt
defaults_shaped set (d ∷ devices) good = (
  record {
    version = refl;
    subs = length-map d.subs (λ s. None);
    versions = none_at d.subs;
    cells = length-map (device_cells set d) (λ c. c.default);
    short = are_short _ good.0.short;
  },
  defaults_shaped set devices good.1,
)

module _ (set : Set) (d : Device) (devices : List Device) (line : ℕ) (text : List ℕ) (good : AreShort (default_numbers set d)) where
  -- what follows for an image and those after it follows for all states
  each_state : (taken : List Taken) (P : List Entry → Type 0)
      → ((i : Image) (images : List Image) → IsShaped set d i → AreShaped set devices images
      → Follows taken P (device_of set d i i.came ++ devices_entries set devices images))
      → (images : List Image) → AreShaped set (d ∷ devices) images → Follows taken P (devices_entries set (d ∷ devices) images)
  each_state taken P h [] shaped = absurd shaped
  each_state taken P h (i ∷ images) shaped =
      subst (λ x. Follows taken P (device_entries set d x ++ devices_entries set devices images)) (rw (← shaped.0.version)) (h i images shaped.0 shaped.1)

  shaped_as : {came : List (Option ℕ)} {numbers : List ℤ} {line' : ℕ} {rest : List ℕ} {Then : List Entry → List Entry → Type 0}
      → DeviceWent set d line text came numbers line' rest Then → IsShaped set d (state_of d came numbers)
  shaped_as {numbers = numbers} w =
      record {
        version = refl;
        subs = w.one_each;
        versions = w.versions;
        cells = cc (length-map (device_cells set d) (λ c. c.default));
        short = are_short numbers (rw w.told.numbers (short_all (default_numbers set d) w.said w.told.short good));
      }

  stopped_here : (e : BadLine) → AreGoodDevices set devices → DeviceComes set d line text (Err e) → AllStop set (d ∷ devices) line text e
  stopped_here e later s =
      let w = s.before in
      record {
        demand = s.demand;
        images = state_of d s.came s.numbers ∷ default_images set devices;
        rest = s.rest;
        before = record {
          taken = w.taken;
          shaped = (shaped_as w, defaults_shaped set _ later);
          follows = each_state _ (λ es. Begins s.demand es)
              (λ i images shaped others. w.follows i i.came (devices_entries set devices images) shaped.subs (short_are _ shaped.short));
          along = w.along (state_of d s.came s.numbers) (devices_entries set devices (default_images set devices)) w.told.agrees;
          moved = w.moved;
        };
        wrong = s.wrong;
      }

  module _ (r : ReadSubs) (x : DeviceComes set d line text (Ok r)) where
    abbrev image : Image
    image = image_of d r

    -- the other devices behind it
    all_behind : {images : List Image} {line' : ℕ} {rest : List ℕ} {Then : List Entry → Type 0}
        → AllWent set devices r.place.line r.place.rest images line' rest Then → AllWent set (d ∷ devices) line text (image ∷ images) line' rest Then
    all_behind {images = images} {Then = Then} a =
        record {
          taken = x.taken ++ a.taken;
          shaped = (shaped_as x.whole, a.shaped);
          follows = each_state _ Then (λ i images shaped others.
              follows_then _ _ (λ es. es ≡ devices_entries set devices images) Then _ (x.follows i i.came _ shaped.subs (short_are _ shaped.short))
              (λ es is. rw is (a.follows images others)));
          along = along_then _ _ (λ es. es ≡ devices_entries set devices images) Then _ (x.along image _ x.told.agrees) (λ es is. rw is a.along);
          moved = moved_then x.moved a.moved;
        }

    -- a number about which nothing was said is its default
    image_unsaid : AreUnsaid set d image
    image_unsaid c lt bare =
        rw (x.told.numbers, unsaid_kept _ x.said c (sym (x.heard image x.told.agrees c) ∙ bare))
        (get_or-map (λ c. c.default) (device_cells set d) c no_cell (pos 0) (omega (arith, length-map (device_cells set d) (λ c. c.default))))

    after_it : r.place.line ≡ line + length (device_entries set d image)
    after_it = omega (arith, along_long _ _ (x.along image [] x.told.agrees), ap (λ l. length l) (append-nil (device_entries set d image)))

    others_come : (o : Result ReadAll BadLine) → AllCome set devices r.place.line r.place.rest o
        → AllCome set (d ∷ devices) line text (with_device (record { image = image; line = line; sub_lines = r.lines }) o)
    others_come (Ok all) a = record {
      whole = all_behind a.whole;
      unsaid = (image_unsaid, a.unsaid);
      lined = (record { own = refl; subs = x.lines image x.told.agrees }, rw after_it at a.lined);
    }
    others_come (Err e) a = record { demand = a.demand; images = image ∷ a.images; rest = a.rest; before = all_behind a.before; wrong = a.wrong }

  by_device : (r : Result ReadSubs BadLine) (go : ℕ → List ℕ → Result ReadAll BadLine) → AreGoodDevices set devices → DeviceComes set d line text r
      → ((line : ℕ) (text : List ℕ) → AllCome set devices line text (go line text)) → AllCome set (d ∷ devices) line text (device_read d line r go)
  by_device r go later x h = grind (arith, others_come, stopped_here)

  by_section : (b : Bool) → is_line (section_line d d.desc.version) (first_line text) ≡ b → AreSound set.structs → IsSound d.desc → AreSoundSubs d.subs
      → AreGoodDevices set devices → (go : ℕ → List ℕ → Result ReadAll BadLine) → ((line : ℕ) (text : List ℕ) → AllCome set devices line text (go line text))
      → AllCome set (d ∷ devices) line text
      (if b
      then device_read d line
      (then_subs (read_desc (readers set) d.desc d.desc.version [] true 0 (next_line (record { numbers = default_numbers set d; line = line; rest = text })))
      (read_subs set (own_cells set d) d.subs)) go
      else Err (record { line = line; reason = reasons.Form }))
  by_section true e structs sound subs later go h =
      by_device _ go later (inside_comes set d line text structs sound subs (section_read d text _ refl e line)) h
  by_section false e structs sound subs later go h =
      stopped_here (record { line = line; reason = reasons.Form }) later (section_refused set d line text (section_not d (first_line text) e))

pub devices_come : (set : Set) → AreSound set.structs → (devices : List Device) → AreGoodDevices set devices → (line : ℕ) (text : List ℕ)
    → AllCome set devices line text (read_devices set devices line text)
devices_come set structs [] good line text =
    record {
      whole = record { taken = []; shaped = tt; follows = λ images shaped. refl; along = refl; moved = moved_none line text };
      unsaid = tt;
      lined = tt;
    }
devices_come set structs (d ∷ devices) good line text =
    by_section set d _ line text good.0.short _ refl structs good.0.sound good.0.subs good.1
    (λ line text. read_devices set devices line text) (λ line text. devices_come set structs devices good.1 line text)

-- ---- What reading requires of the devices follows from what the laws require of a set.

short_defaults : (cells : List Cell) → DefaultsFit cells → AreShort (map (λ c. c.default) cells)
short_defaults cells fit = short_within _ (λ c lt.
    let l : c < length cells = omega (arith, length-map cells (λ c. c.default)) in
    let cell = get_or cells c no_cell in
    rw (get_or-map (λ c. c.default) cells c no_cell (pos 0) l) (short cell.kind cell.default (ranged cell.kind cell.default (fit c l).0)))

pub good_devices : (set : Set) → IsGood set → AreGoodDevices set set.devices
good_devices set good =
    all_from _ _
    (λ k d e. record {
      sound = good.devices k d e;
      subs = all_from _ d.subs (λ j s f. good.subs k j d s e f);
      short = short_defaults _ (good.defaults k d e);
    })
