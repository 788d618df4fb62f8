-- In a section whose slots are all passed: what an accepted reading finds after the fields. The
-- subsections are spelled, in any order and each once; the image stays normal and valid.
use Rattle.vms_stream.proofs.{Bodies.Reads, Bodies.body_read, Facade.part_place, Facade.Fine, Facade.Stays, Facade.stays_refl, Facade.stays_on}
use Rattle.vms_stream.proofs.Facade.{stays_next, fine_next, sub_front, ◌≡◌, ℕ, ◌+◌, ◌<◌, List, ◌++◌, length, drop, slice_set, Option, Some}
use Rattle.vms_stream.proofs.Facade.{None, refl, ap, ◌∙◌, subst, arith, Bool, true, false, if◌then◌else◌, ◌==◌, [], zero, suc, ◌∷◌, Ok}
use Rattle.vms_stream.proofs.Facade.{Err, ℤ, sym, append_assoc, length-append, slice_get, slice_get_within, add-zero, IsBytes, bytes_rest, at_option, Set}
use Rattle.vms_stream.proofs.Facade.{Device, Sub, Image, IsVersionOf, sub_slots, Spells, sub_head, foot, ComesOnce, SubsSpell, subs_of, part_slots, find_sub}
use Rattle.vms_stream.proofs.Facade.{Piece, spell, SubHead, Mark, at_set, set_twice, Tail, Unknown, Footed, Bare, Known, AfterFields, due_field, rules_hold}
use Rattle.vms_stream.proofs.Facade.{is_foot, is_next, first_byte, May, AtSubHead, AtFoot, AtOther, AtNext, first_of, is_between, State, Free, Inside, slots_at}
use Rattle.vms_stream.proofs.Facade.{due_by, known_at, after, device_cells, desc_cells, Taken, Progress, take_desc, takers, cells_of, IsGood, versions_long}
use Rattle.vms_stream.proofs.Facade.{same_refl, body_found, its_spelled, sub_are, Beside, beside_back, beside_done}
use Rattle.vms_stream.proofs.Steps.{Run, Goes, steps, Opening, opening, free_opens, foot_is, foot_mark_never, sub_is_one, none_from}

-- whether sections have footers, if the tail is known already
abbrev pub Agrees : Tail → Bool → Type 0
Agrees Unknown footed = Unit {0}
Agrees Footed footed = footed ≡ true
Agrees Bare footed = footed ≡ false

abbrev pub tail_of : Bool → Tail
tail_of true = Footed
tail_of false = Bare

-- what ends a section
abbrev pub closing : Bool → ℕ → List ℕ
closing footed id = if footed then foot id else []

foot_agrees : (t : Tail) → is_foot t 0x7e ≡ true → Agrees t true
foot_agrees t e = grind arith

next_agrees : (k : ℕ) (t : Tail) (b : ℕ) → is_next t b ≡ true → Agrees t false × (is_between (AfterFields k t) ≡ true)
next_agrees k t b e = search arith

-- a mark that is neither of a subsection head nor of a footer
other_never : (set : Set) (names : List (List ℕ)) (k : ℕ) (t : Tail) (so_far : Known) (b : ℕ) → is_foot t b ≡ true → (b == 0x7e) ≡ false
    → first_of set names (AfterFields k t) so_far (Mark b) ≡ None → ⊥
other_never set names k Footed so_far b f e h = foot_mark_never set names (AfterFields k Footed) so_far b refl h
other_never set names k _ so_far b f e h = cc

-- the section of a device, and the state of which it is a part
pub record Section (set : Set) : Type 0 where
  pub state : State
  pub k : ℕ
  pub id : ℕ
  pub device : Device
  pub there : slice_get set.devices k ≡ Some device
  pub room : k < length state.images

-- there, with this image
abbrev pub stands : {set : Set} → Section set → Image → Option ℕ → ℕ → State
stands c image part n = record c.state { images = slice_set c.state.images c.k image; spot = Inside c.k c.id part n }

-- after it
abbrev pub over : {set : Set} → Section set → Image → Bool → State
over c image footed = record c.state { images = slice_set c.state.images c.k image; tail = tail_of footed; spot = Free false false }

module _ {set : Set} (c : Section set) (image : Image) (part : Option ℕ) (n : ℕ) where
  abbrev pub knows : Known
  knows = record { came = c.state.came; section = Some c.k; id = c.id; image = image }

  pub known_is : known_at set (stands c image part n) ≡ knows
  known_is = rw (at_set _ c.k image c.room)

  slots_are : slots_at set (stands c image part n) (Inside c.k c.id part n) ≡ drop n (part_slots set (Some c.device) image part)
  slots_are = rw (c.there, at_set _ c.k image c.room)

  -- if all slots are passed, what is due comes after the fields
  pub due_is : drop n (part_slots set (Some c.device) image part) ≡ []
      → due_by set (stands c image part n) (Inside c.k c.id part n) ≡ AfterFields c.k c.state.tail
  due_is done = ap (due_field c.state.tail (Some c.k)) (slots_are ∙ done)

  pub held_is : drop n (part_slots set (Some c.device) image part) ≡ [] → rules_hold (slots_at set (stands c image part n) (Inside c.k c.id part n)) ≡ true
  held_is done = ap rules_hold (slots_are ∙ done)

  pub subs_are : subs_of (at_option set.devices (Some c.k)) ≡ c.device.subs
  subs_are = ap subs_of c.there

  -- the state after a subsection head
  pub sub_after : (j : ℕ) (name : List ℕ) (v : ℕ) → find_sub 0 c.device.subs name ≡ Some j
      → after set (stands c image part n) (SubHead name v) ≡ stands c (record image { came = slice_set image.came j (Some v) }) (Some j) 0
  sub_after j name v named = rw (c.there, named, at_set _ c.k image c.room, set_twice _ c.k image _)

-- what comes after the fields: a subsection head, or the end of the section
pub data Behind (r : Run) (c : Section r.set) (image : Image) (place : ℕ) (rest : List ℕ) : Type 0 where
  ASub : (j v : ℕ) (s : Sub) (more : List ℕ) → rest ≡ sub_head s.desc.name v ++ more → slice_get c.device.subs j ≡ Some s → slice_get image.came j ≡ Some None
      → IsVersionOf s.desc v
      → Goes r (stands c (record image { came = slice_set image.came j (Some v) }) (Some j) 0) (place + length (sub_head s.desc.name v)) more
      → Behind r c image place rest
  AnEnd : (footed : Bool) (more : List ℕ) → Agrees c.state.tail footed → rest ≡ closing footed c.id ++ more
      → Opening r false (over c image footed) (place + length (closing footed c.id)) more → Behind r c image place rest

module _ {r : Run} (c : Section r.set) (image : Image) (part : Option ℕ) (n : ℕ) (long : length c.state.came ≡ length r.set.devices)
    (subs_long : length image.came ≡ length c.device.subs) where
  by_unit : {place : ℕ} {rest more : List ℕ} → IsBytes rest → (x : Piece) → May (AfterFields c.k c.state.tail) x
      → first_of r.set r.names (AfterFields c.k c.state.tail) (known_at r.set (stands c image part n)) x ≡ None
      → rest ≡ spell x ++ more → Goes r (after r.set (stands c image part n) x) (place + length (spell x)) more → Behind r c image place rest
  by_unit {more = more} ok _ (AtSubHead _ _ name v f) none e goes =
      let d = AfterFields c.k c.state.tail in
      let h = sub_is_one r.set r.names d (knows c image part n) c.device.subs name v (subs_are c image part n)
      (subst (λ k. first_of r.set r.names d k (SubHead name v) ≡ None) (known_is c image part n) none) in
      let s = h.found in
      ASub h.j v s.item more (rw s.is e) s.there (none_from image.came h.j (omega (arith, slice_get_within c.device.subs h.j s.item s.there)) h.new) h.version
      (rw (s.is, ← sub_after c image part n h.j name v h.named) goes)
  by_unit {more = more} ok _ (AtFoot _ _ its f g) none e goes =
      let e2 = rw (foot_is r.set r.names (AfterFields c.k c.state.tail) (known_at r.set (stands c image part n)) its none) at e in
      AnEnd true more (foot_agrees c.state.tail f) e2 (free_opens false false refl (bytes_rest (foot c.id) more (subst IsBytes e2 ok)) long goes)
  by_unit ok _ (AtOther _ _ b f g) none e goes = absurd (other_never r.set r.names c.k c.state.tail (known_at r.set (stands c image part n)) b f g none)
  by_unit {place} {rest} ok x (AtNext _ _ _ f m) none e goes =
      let a = next_agrees c.k c.state.tail (first_byte x) f in
      AnEnd false rest a.0 refl (rw (add-zero place) (opening false false (AfterFields c.k c.state.tail) (stands c image part n) long a.1 x m none e goes))

  -- how an accepted reading goes on after the fields of a part
  pub behind_found : {place : ℕ} {rest : List ℕ} → drop n (part_slots r.set (Some c.device) image part) ≡ [] → IsBytes rest
      → Goes r (stands c image part n) place rest → Behind r c image place rest
  behind_found {rest = rest} done ok h =
      let is = due_is c image part n done in
      let u = steps ok h (rw is) in
      by_unit ok u.unit (rw is at u.may) (rw is at u.none) u.there u.goes

abbrev pub image_so : ℕ → List (Option ℕ) → List ℤ → Image
image_so v came n = record { version = v; came = came; numbers = n }

-- the subsections that are read after a body, up to the end of the section
pub record SubsRead (r : Run) (c : Section r.set) (v : ℕ) (so_far : List (Option ℕ)) (n : List ℤ) (place : ℕ) (rest : List ℕ) : Type 0 where
  pub all : List (Option ℕ)
  pub numbers : List ℤ
  pub left : List (Option ℕ)
  pub beside : Beside so_far left all
  pub order : List ℕ
  pub once : ComesOnce left order
  pub tail : List ℕ
  pub subs : SubsSpell r.set c.device (image_so v all numbers) order tail
  pub footed : Bool
  pub agrees : Agrees c.state.tail footed
  pub after : List ℕ
  pub spelled : rest ≡ tail ++ (closing footed c.id ++ after)
  pub fine : Fine r.set c.device v all numbers
  pub stays : Stays r.set c.device so_far n numbers
  pub opens : Opening r false (over c (image_so v all numbers) footed) ((place + length tail) + length (closing footed c.id)) after

module _ (r : Run) (good : IsGood r.set) (c : Section r.set) (long : length c.state.came ≡ length r.set.devices) (v : ℕ) where
  abbrev Accepts : List (Option ℕ) → List ℤ → Option ℕ → ℕ → ℕ → List ℕ → Type 0
  Accepts so_far n part i place rest = Goes r (stands c (image_so v so_far n) part i) place rest

  abbrev FindsSubs : ℕ → Type 0
  FindsSubs most =
      (part : Option ℕ) (i : ℕ) (so_far : List (Option ℕ)) (n : List ℤ) (place : ℕ) (rest : List ℕ) → drop i
      (part_slots r.set (Some c.device) (image_so v so_far n) part) ≡ [] → length rest < most
      → IsBytes rest → Fine r.set c.device v so_far n → Accepts so_far n part i place rest → SubsRead r c v so_far n place rest

  -- one subsection, and those after it
  module _ (so_far : List (Option ℕ)) (n : List ℤ) (j w : ℕ) (s : Sub) (place : ℕ) (rest : List ℕ) (there : slice_get c.device.subs j ≡ Some s)
      (new : slice_get so_far j ≡ Some None) where
    abbrev next : List (Option ℕ)
    next = slice_set so_far j (Some w)

    abbrev head : List ℕ
    head = sub_head s.desc.name w

    abbrev base : ℕ
    base = part_place r.set c.device j

    set_at : slice_get next j ≡ Some (Some w)
    set_at = at_set so_far j _ (slice_get_within so_far j None new)

    sub_before : (m : List ℤ) (body more : List ℕ) → rest ≡ head ++ (body ++ more) → Spells m (sub_slots r.set s w m base) body
        → Stays r.set c.device so_far n m → SubsRead r c v next m ((place + length head) + length body) more → SubsRead r c v so_far n place rest
    sub_before m body more spelled spells stays q =
        let b = beside_back so_far q.left q.all j w q.beside new in
        let last : Spells q.numbers (sub_slots r.set s w q.numbers base) body =
        its_spelled r.set s.desc w base good.structs (good.subs c.k j c.device s c.there there) m _ body (q.stays.parts j s w there set_at) spells in
        record {
          all = q.all;
          numbers = q.numbers;
          left = slice_set q.left j (Some w);
          beside = b.3;
          order = j ∷ q.order;
          once = ((w, b.1), rw b.2 q.once);
          tail = (head ++ body) ++ q.tail;
          subs = (head ++ body, q.tail, sub_front r.set c.device (image_so v q.all q.numbers) j w s body _ _ (sym there) (sym b.0) last, q.subs, refl);
          footed = q.footed;
          agrees = q.agrees;
          after = q.after;
          spelled = spelled ∙ rw (
            q.spelled,
            append_assoc (head ++ body) q.tail (closing q.footed c.id ++ q.after),
            append_assoc head body
                (q.tail ++ (closing q.footed c.id ++ q.after)),
          );
          fine = q.fine;
          stays = stays_on r.set c.device so_far j w n m q.numbers new stays q.stays;
          opens = subst (λ (x : ℕ). Opening r false (over c (image_so v q.all q.numbers) q.footed) (x + length (closing q.footed c.id)) q.after)
              (omega (arith, length-append (head ++ body) q.tail, length-append head body)) q.opens;
        }

    module _ (more : List ℕ) (ok : IsBytes rest) (fine : Fine r.set c.device v so_far n) (spelled : rest ≡ head ++ more) (version : IsVersionOf s.desc w)
        (on : FindsSubs (length rest)) where
      abbrev start : Progress
      start = record { numbers = n; place = place + length head; rest = more }

      -- its body
      body_goes : (q : Taken) → take_desc (takers r.set.structs (length r.set.structs)) s.desc w base start ≡ q
          → Reads r.set r.names c.state c.device (image_so v next n) c.k c.id (Some j) c.there c.room 0 start q
          → Accepts next n (Some j) 0 (place + length head) more → SubsRead r c v so_far n place rest
      body_goes (Err e) is reads h = let f = sym reads ∙ h.is in cc
      body_goes (Ok q) is reads h =
          let sound = good.subs c.k j c.device s c.there there in
          let okm : IsBytes more = bytes_rest head more (subst IsBytes spelled ok) in
          let b = body_found (device_cells r.set c.device) r.set.structs good.structs s.desc w base start q sound okm (omega arith)
          (λ m. sub_are r.set c.device j s w m there) is in
          let last : IsBytes q.rest = bytes_rest b.bytes q.rest (subst IsBytes b.front okm) in
          let same = same_refl (base + length (desc_cells (cells_of (takers r.set.structs (length r.set.structs))) s.desc)) q.numbers in
          let kept = b.kept q.numbers same in
          let fine' = fine_next r.set c.device v so_far n q.numbers j w s good.structs (good.devices c.k c.device c.there)
          (λ j s e. good.subs c.k j c.device s c.there e) there new version b.long (b.fits q.numbers same) (b.rules q.numbers same) kept fine in
          let spelled' : rest ≡ head ++ (b.bytes ++ q.rest) = cc in
          let later = on (Some j) reads.0 next q.numbers q.place q.rest reads.1
          (omega (arith, ap length spelled', length-append head (b.bytes ++ q.rest), length-append b.bytes q.rest)) last fine'
          (record { is = sym reads.2 ∙ h.is }) in
          sub_before q.numbers b.bytes q.rest spelled' (b.spells q.numbers same) (stays_next r.set c.device so_far j w s n q.numbers there new kept)
          (rw (← b.place) later)

      sub_goes : Accepts next n (Some j) 0 (place + length head) more → SubsRead r c v so_far n place rest
      sub_goes h =
          body_goes _ refl
          (body_read r.set r.names c.state c.device (image_so v next n) c.k c.id (Some j) c.there c.room good.structs s.desc w base
          (good.subs c.k j c.device s c.there there) (λ m. rw (there, set_at)) start) h

  pub subs_found : (most : ℕ) → FindsSubs most
  subs_found zero part i so_far n place rest done less ok fine h = absurd (omega arith)
  subs_found (suc most) part i so_far n place rest done less ok fine h =
      by (λ part i so_far n place more done' less'. subs_found most part i so_far n place more done' (omega arith))
      (behind_found c _ part i long (versions_long _ so_far fine.versions) done ok h)
    where
      by : FindsSubs (length rest) → Behind r c (image_so v so_far n) place rest → SubsRead r c v so_far n place rest
      by on (ASub j w s more e there new version goes) = sub_goes so_far n j w s place rest there new more ok fine e version on goes
      by on (AnEnd footed more agrees e opens) =
          let done = beside_done so_far in
          record {
            all = so_far;
            numbers = n;
            left = done.0;
            beside = done.1;
            order = [];
            once = done.2;
            tail = [];
            subs = refl;
            footed = footed;
            agrees = agrees;
            after = more;
            spelled = e;
            fine = fine;
            stays = stays_refl r.set c.device so_far n;
            opens = rw (add-zero place) opens;
          }
