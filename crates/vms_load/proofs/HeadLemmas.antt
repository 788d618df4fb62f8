-- What heads open, as the judge has it, and what is read of a stream so far.
use Rattle.vms_load.proofs.Facade
use Facade.{◌≡◌, ℕ, ◌<◌, List, length, get_or, Option, Some, None, Bool, true, false, if◌then◌else◌, Ok, refl, sym, ap, ◌∙◌, arith}
use Facade.{Result, Err, not, nat_lt, slice_get, slice_get-get_or, slice_get_within, Reason, at_option, Device, Sub, Set, find_device, find_sub, index}
use Facade.{found_inside, device_at, sub_at, section_opened, device_opened, opened_unless, reason_against, reason_against_sub, sub_opened, sub_opened_at}
use Facade.{opened_at, unfit, Unfit, Piece, SubHead, device_named, found_is, first_row, is_none, test_some, asking, Known, ask, by_row, State, open_at}
use Facade.{known_at, after, by_state, Verdict, Goes, Faulty, zero, suc, ◌+◌, ◌≤◌, [], ◌∷◌, map, replicate, slice_set, length-map, length-set}
use Facade.{ext_get_or, get_or-map, ⊎_elim, cases_eq, get_or-set_same, get_or-set_other, get_or_from_slice_get, at_set, Image, default_image, Unknown, Before}
use Facade.{at_start, Typed, default_at, IsImageOf, AreImagesOf, AreShaped, begun_at, no_image, section_bytes, sections_due, at_other}
use Rattle.vms_spec.specs.Units.{Head}
use Rattle.vms_bodies.proofs.Heads.{sub_is as sub_found}
use Rattle.vms_stream.specs.State.{image_at}
use Rattle.vms_image.specs.Typed.{state_of as untyped}
use Rattle.vms_spec.specs.declared.Reason.TheVariants as reasons

-- ---- what a search finds

pub device_below : (devices : List Device) (name : List ℕ) (instance k : ℕ) → find_device 0 devices name instance ≡ Some k → k < length devices
device_below devices name instance k e = let r = found_inside _ 0 devices k e in omega arith

pub sub_below : (subs : List Sub) (name : List ℕ) (j : ℕ) → find_sub 0 subs name ≡ Some j → j < length subs
sub_below subs name j e = let r = found_inside _ 0 subs j e in omega arith

-- ---- section heads

module _ (set : Set) (came : List Bool) (name : List ℕ) (instance v : ℕ) where
  pub unknown : find_device 0 set.devices name instance ≡ None → section_opened set came name instance v ≡ unfit None reasons.UnknownSection
  unknown e = rw e

  pub known : (k : ℕ) → find_device 0 set.devices name instance ≡ Some k → section_opened set came name instance v ≡ opened_unless (Some k) k (reason_against (device_at set k) (get_or came k false) v)
  known k e = grind (arith, device_at, slice_get-get_or, device_below)

  pub opens : (place k : ℕ) (reason : Option Reason) → find_device 0 set.devices name instance ≡ Some k → reason ≡ reason_against (device_at set k) (get_or came k false) v
      → opened_at place (opened_unless (Some k) k reason) ≡ opened_at place (section_opened set came name instance v)
  opens place k reason e is = ap (opened_at place) (ap (opened_unless (Some k) k) is ∙ sym (known k e))

-- ---- subsection heads

module _ (k : ℕ) (d : Device) (came : List (Option ℕ)) (name : List ℕ) (v : ℕ) where
  pub unknown_sub : find_sub 0 d.subs name ≡ None → sub_opened k d came name v ≡ unfit (Some k) reasons.UnknownSubsection
  unknown_sub e = rw e

  pub known_sub : (j : ℕ) → length came ≡ length d.subs → find_sub 0 d.subs name ≡ Some j
      → sub_opened k d came name v ≡ opened_unless (Some k) j (reason_against_sub (sub_at d j) (get_or came j None) v)
  known_sub j long e = grind (arith, sub_below, sub_at, slice_get-get_or)

  pub opens_sub : (j : ℕ) (reason : Option Reason) → length came ≡ length d.subs → find_sub 0 d.subs name ≡ Some j → reason ≡ reason_against_sub (sub_at d j) (get_or came j None) v
      → opened_unless (Some k) j reason ≡ sub_opened k d came name v
  opens_sub j reason long e is = cc (known_sub j long e)

-- ---- what was opened is what was found

opens_it : (section : Option ℕ) (i k place : ℕ) (reason : Option Reason) → Ok k ≡ opened_at place (opened_unless section i reason) → k ≡ i
opens_it section i k place reason e = grind arith

pub device_is : (set : Set) (came : List Bool) (name : List ℕ) (instance v place k : ℕ) → Ok k ≡ opened_at place (section_opened set came name instance v) → find_device 0 set.devices name instance ≡ Some k
device_is set came name instance v place k e = grind (arith, unknown, opens_it, known)

pub sub_is : (k : ℕ) (d : Device) (came : List (Option ℕ)) (name : List ℕ) (v place j : ℕ) → length came ≡ length d.subs → Ok j ≡ opened_at place (sub_opened k d came name v) → find_sub 0 d.subs name ≡ Some j
sub_is k d came name v place j long e = grind (arith, unknown_sub, opens_it, known_sub)

-- ---- What the loader opens by a head is what the rows say of the head.

abbrev pub unfit_for : Result ℕ Unfit → Option (Option ℕ × Reason)
unfit_for (Ok k) = None
unfit_for (Err why) = Some (why.section, why.reason)

-- the rows of a head, by the device that it names and whether this came
abbrev head_rows : Option ℕ → Option Device → Option Bool → ℕ → Option (Option ℕ × Reason)
head_rows o d came v =
    if is_none o then Some (None, reasons.UnknownSection)
    else if test_some (λ (b : Bool). b) came then Some (o, reasons.RepeatedSection)
    else if test_some (λ (d : Device). nat_lt d.desc.version v) d then Some (o, reasons.TooNew)
    else if test_some (λ (d : Device). nat_lt v d.desc.minimum) d then Some (o, reasons.TooOld)
    else None

known_head : (k : ℕ) (d : Device) (came : Bool) (v : ℕ) → head_rows (Some k) (Some d) (Some came) v ≡ unfit_for (device_opened v (Some k) (Some d) came)
known_head k d came v = grind arith

head_opened : (set : Set) (names : List (List ℕ)) (k : Known) (id : ℕ) (name : List ℕ) (instance v : ℕ) → length k.came ≡ length set.devices
    → first_row (asking set names k (Head id name instance v)) ≡ unfit_for (section_opened set k.came name instance v)
head_opened set names k id name instance v long = by (device_named set name instance) refl
  where
    by : (o : Option ℕ) → device_named set name instance ≡ o → head_rows o (at_option set.devices o) (at_option k.came o) v ≡ unfit_for (device_opened v o (slice_get set.devices (index o)) (get_or k.came (index o) false))
    by None e = refl
    by (Some j) e =
        let f = found_is set.devices 0 name instance j e in
        let d : slice_get set.devices j ≡ Some f.device = ap (slice_get set.devices) (sym (omega arith)) ∙ f.there in
        let inside : j < length k.came = (let x = slice_get_within set.devices j f.device d in omega arith) in
        rw (d, slice_get-get_or k.came j false inside) (known_head j f.device (get_or k.came j false) v)

-- ---- subsections

abbrev sub_rows : Option ℕ → Option ℕ → Option Sub → Option (Option ℕ) → ℕ → Option (Option ℕ × Reason)
sub_rows section o s came v =
    if test_some (λ (s : Sub). nat_lt s.desc.version v) s then Some (section, reasons.TooNew)
    else if test_some (λ (s : Sub). nat_lt v s.desc.minimum) s then Some (section, reasons.TooOld)
    else if is_none o then Some (section, reasons.UnknownSubsection)
    else if test_some (λ (o : Option ℕ). not (is_none o)) came then Some (section, reasons.RepeatedSubsection)
    else None

known_rows : (k j : ℕ) (s : Sub) (came : Option ℕ) (v : ℕ) → sub_rows (Some k) (Some j) (Some s) (Some came) v ≡ unfit_for (sub_opened_at k v (Some j) (Some s) (Some came))
known_rows k j s came v = grind arith

sub_is_opened : (set : Set) (names : List (List ℕ)) (y : Known) (k : ℕ) (d : Device) (name : List ℕ) (v : ℕ) → y.section ≡ Some k → slice_get set.devices k ≡ Some d → length y.image.came ≡ length d.subs
    → first_row (asking set names y (SubHead name v)) ≡ unfit_for (sub_opened k d y.image.came name v)
sub_is_opened set names y k d name v section here long = cc (by (find_sub 0 d.subs name) refl)
  where
    by : (o : Option ℕ) → find_sub 0 d.subs name ≡ o → sub_rows (Some k) o (at_option d.subs o) (at_option y.image.came o) v ≡ unfit_for (sub_opened_at k v o (slice_get d.subs (index o)) (slice_get y.image.came (index o)))
    by None e = refl
    by (Some j) e =
        let f = sub_found d.subs 0 name j e in
        let s : slice_get d.subs j ≡ Some f.sub = ap (slice_get d.subs) (sym (omega arith)) ∙ f.there in
        let inside : j < length y.image.came = (let x = slice_get_within d.subs j f.sub s in omega arith) in
        rw (s, slice_get-get_or y.image.came j None inside) (known_rows k j f.sub (get_or y.image.came j None) v)

-- ---- the verdict

module _ (set : Set) (names : List (List ℕ)) (s : State) (x : Piece) (n : ℕ) where
  -- on a head that opens a device or a subsection, or none
  abbrev pub verdict : Result ℕ Unfit → Verdict State
  verdict (Ok k) = Goes n (after set s x)
  verdict (Err why) = Faulty why.section why.reason n

  by_unfit : (o : Result ℕ Unfit) → by_row (by_state set names) (unfit_for o) n (after set s x) ≡ verdict o
  by_unfit o = grind arith

pub section_judged : (set : Set) (names : List (List ℕ)) (s : State) (id : ℕ) (name : List ℕ) (instance v n : ℕ) → length s.came ≡ length set.devices
    → ask set names s (Head id name instance v) n ≡ verdict set names s (Head id name instance v) n (section_opened set s.came name instance v)
section_judged set names s id name instance v n long =
    cc (head_opened set names (known_at set s) id name instance v long, by_unfit set names s (Head id name instance v) n (section_opened set s.came name instance v))

pub sub_judged : (set : Set) (names : List (List ℕ)) (s : State) (k : ℕ) (d : Device) (name : List ℕ) (v n : ℕ) → open_at s.spot ≡ Some k → slice_get set.devices k ≡ Some d → length (image_at s).came ≡ length d.subs
    → ask set names s (SubHead name v) n ≡ verdict set names s (SubHead name v) n (sub_opened k d (image_at s).came name v)
sub_judged set names s k d name v n section here long =
    cc (sub_is_opened set names (known_at set s) k d name v section here long, by_unfit set names s (SubHead name v) n (sub_opened k d (image_at s).came name v))

-- ---- what is read of a stream so far, device by device

-- an image of each device, with one replaced
pub shaped_put : (set : Set) (images : List Typed) (k : ℕ) (image : Typed) → AreShaped set images → k < length set.devices → IsImageOf set k image → AreShaped set (slice_set images k image)
shaped_put set images k image s lt here = record {
  all = cc (length-set images k image);
  each = λ j below. ⊎_elim (λ (e : j ≡ k). rw (e, get_or-set_same images k image no_image (omega arith)) here)
      (λ ne. rw (get_or-set_other images k j image no_image ne) (s.each j below)) (cases_eq j k);
}

pub default_shaped : (set : Set) (k v : ℕ) → IsImageOf set k (begun_at set k v)
default_shaped set k v = record { subs = length-map (device_at set k).subs (λ s. None); cells = length-map _ (λ c. c.default); kinds = refl }

-- the image whose section has begun
pub image_begun : (images first : List Typed) (k : ℕ) (image here : Typed) → here ≡ get_or images k here → images ≡ slice_set first k image → k < length first → here ≡ image
image_begun images first k image here is e lt = cc (get_or-set_same first k image here lt)

-- it was at its defaults before
pub begun_here : (set : Set) (new old : List Typed) (k v : ℕ) → new ≡ slice_set old k (record (get_or old k no_image) { version = v })
    → get_or old k no_image ≡ default_at set k → new ≡ slice_set old k (begun_at set k v)
begun_here set new old k v e f = e ∙ ap (λ x. let y : Typed = record x { version = v } in slice_set old k y) f

-- ---- all at their defaults

module _ (set : Set) (images : List Typed) (long : length images ≡ length set.devices) (each : (k : ℕ) → k < length images → get_or images k no_image ≡ default_at set k) where
  pub all_default : map untyped images ≡ map (default_image set) set.devices
  all_default =
      ext_get_or (untyped no_image) (map untyped images) (map (default_image set) set.devices) (length-map images untyped ∙ long ∙ sym (length-map set.devices (default_image set)))
      (λ k lt.
      let here : k < length images = omega (arith, length-map images untyped) in
      get_or-map untyped images k no_image (untyped no_image) here ∙ ap untyped (each k here)
      ∙ sym (get_or-map (default_image set) set.devices k _ (untyped no_image) (omega arith)))

  pub all_shaped : AreShaped set images
  all_shaped = record {
    all = long;
    each = λ k lt.
        rw (each k (omega arith)) (default_shaped set k (device_at set k).desc.version);
  }

-- the first images are at their defaults
abbrev pub AreDefaults : Set → List Typed → ℕ → Type 0
AreDefaults set images done = (k : ℕ) → k < done → get_or images k no_image ≡ default_at set k

pub record Reset (set : Set) (images first : List Typed) (done : ℕ) : Type 0 where
  pub long : length images ≡ length first
  pub before : AreDefaults set images done
  pub after : (k : ℕ) → done ≤ k → get_or images k no_image ≡ get_or first k no_image

-- those of the first devices
pub record Made (set : Set) (images : List Typed) (done : ℕ) : Type 0 where
  pub long : length images ≡ done
  pub each : AreDefaults set images done

-- ---- states

pub are_images : (set : Set) (images : List Typed) → AreShaped set images → AreImagesOf set images
are_images set images s = record {
  one_each = s.all;
  each = λ k image e.
      rw (get_or_from_slice_get images k image no_image e) at (s.each k (omega (arith, slice_get_within images k image e)));
}

-- ---- the start

abbrev pub state_at_magic : List Image → List Bool → State
state_at_magic images came = record { machine = None; images = images; came = came; tail = Unknown; spot = Before }

none_came : (devices : List Device) → replicate (length devices) false ≡ map (λ d. false) devices
none_came [] = refl
none_came (d ∷ devices) = rw (none_came devices)

pub starts : (set : Set) (images : List Image) (came : List Bool) (n : ℕ) → images ≡ map (default_image set) set.devices → n ≡ length set.devices → came ≡ replicate n false
    → state_at_magic images came ≡ at_start set
starts set images came n e f g = cc (none_came set.devices)

-- ---- a device whose section begins hasn't come

unless_came : (k : ℕ) (d : Device) (came : Bool) (v place : ℕ) → Ok k ≡ opened_at place (opened_unless (Some k) k (reason_against d came v)) → came ≡ false
unless_came k d came v place e = grind arith

pub section_new : (set : Set) (came : List Bool) (name : List ℕ) (instance v k place : ℕ) → length came ≡ length set.devices → Ok k ≡ opened_at place (section_opened set came name instance v)
    → (k < length set.devices) × (slice_get came k ≡ Some false)
section_new set came name instance v k place long e = grind (arith, device_is, device_below, unless_came, device_at, known, slice_get-get_or)

pub sections_taken : (set : Set) (devices : List Device) (came : List Bool) (k : ℕ) (none : Device) → length came ≡ length devices → slice_get came k ≡ Some false
    → sections_due set devices (slice_set came k true) + section_bytes set (get_or devices k none) ≡ sections_due set devices came
sections_taken set [] (b ∷ came) k none long e = absurd (omega arith)
sections_taken set (d ∷ devices) (false ∷ came) zero none long e = omega arith
sections_taken set (d ∷ devices) (false ∷ came) (suc k) none long e = omega (arith, sections_taken set devices came k none (omega arith) e)
sections_taken set (d ∷ devices) (true ∷ came) (suc k) none long e = sections_taken set devices came k none (omega arith) e
sections_taken set _ _ _ none long e = cc

-- what hasn't come is unchanged if the image of one that has come is put
pub still_fresh : (set : Set) (old new : List Typed) (came now : List Bool) (k : ℕ) (x image : Typed) → k < length came → now ≡ slice_set came k true
    → new ≡ slice_set old k x → ((j : ℕ) → slice_get came j ≡ Some false → get_or old j no_image ≡ default_at set j)
    → (j : ℕ) → slice_get now j ≡ Some false → get_or (slice_set new k image) j no_image ≡ default_at set j
still_fresh set old new came now k x image lt now_is new_is fresh j e =
    ⊎_elim (λ (same : j ≡ k). let there = at_set came k true lt in cc)
    (λ ne. get_or-set_other new k j image no_image ne ∙ ap (λ l. get_or l j no_image) new_is
    ∙ get_or-set_other old k j x no_image ne ∙ fresh j (sym (at_other came k j true ne) ∙ cc)) (cases_eq j k)
