-- What an input takes is accepted, so it takes at most one stream: its sections are read, and all
-- of it.
use Rattle.vms_stream.proofs.{Bodies.body_read, StreamFound.came_to}
use Rattle.vms_stream.proofs.Facade
use Facade.{at_start, IsSection, HasSection, SectionsSpell, IsStream, Takes, trailer_at, not, position, ◌≡◌, ℕ, ◌+◌, ◌^◌, ◌<◌, ◌≤◌}
use Facade.{List, ◌∷◌, ◌++◌, length, drop, slice_set, Option, Some, None, refl, sym, ap, ◌∙◌, subst, arith, append_assoc, length-append, Bool}
use Facade.{true, false, ◌==◌, [], map, slice_get, length-set, slice_get_within, add-zero, Device, Set, Image, default_image, own_slots, Spells, IsNormal}
use Facade.{IsValid, section_head, sub_head, ComesOnce, SubsSpell, EachOnce, be32, magic, stream_head, configuration, end_mark, IsTrailer, part_slots, Head}
use Facade.{SubHead, Foot, End, Magic, Version, Configuration, Description, Progress, Reading, Accepted, reading_on, IsGood, at_set, none_of, version_at}
use Facade.{Beside, beside_first, beside_next, beside_end, part_place, so_far, so_at_last, own_taken, part_taken, sub_so, none_missing, came_at, same_lists}
use Facade.{agrees, falses, defaults_of, never_true, Tail, Unknown, Footed, Bare, AfterFields, fits_four, is_foot, is_next, May, AtHead, AtEnd, AtSubHead}
use Facade.{AtFoot, AtNext, AtMagic, AtVersion, AtConfiguration, AtDescription, judge, reading, State, Free, Ended, known_at, after, by_state, Headed, between}
use Rattle.vms_stream.proofs.Inside.{Agrees, closing, Section, stands, over, knows, known_is, due_is, held_is, subs_are, sub_after}
use Rattle.vms_stream.proofs.Steps.{g, unit_on, opened, settled, head_after, head_passes, sub_passes, foot_passes, end_passes}
use Rattle.vms_stream.specs.State.{Over}
use Rattle.vms_bodies.proofs.BodyOnly.{image_at}

-- a section may begin, and the end mark may come
pub record IsFree (set : Set) (names : List (List ℕ)) (s : State) : Type 0 where
  held : (g set names).holds s ≡ true
  head : (id : ℕ) (name : List ℕ) (instance v : ℕ) → fits_four id → fits_four instance → fits_four v → May ((g set names).due s) (Head id name instance v)
  end : May ((g set names).due s) End

pub free_is : (set : Set) (names : List (List ℕ)) (first c : Bool) (s : State) → s.spot ≡ Free first c → IsFree set names s
free_is set names first c s e =
    subst (IsFree set names) (ap (λ p. record s { spot = p }) (sym e))
    (record { held = refl; head = λ id name instance v f g h. AtHead first c id name instance v f g h; end = AtEnd first c })

-- after the fields of a section, if the stream isn't footed
next_is : (t : Tail) → Agrees t false → (is_next t 0x00 ≡ true) × (is_next t 0x04 ≡ true)
next_is Footed a = cc
next_is _ a = (refl, refl)

foot_may : (t : Tail) → Agrees t true → is_foot t 0x7e ≡ true
foot_may Bare a = cc
foot_may _ a = refl

-- from s on these bytes are read, up to where the next section may begin
pub record ReadsTo (set : Set) (names : List (List ℕ)) (s to : State) (place : ℕ) (bytes rest : List ℕ) : Type 0 where
  pub state : State
  pub free : IsFree set names state
  pub is : settled set state ≡ to
  -- after a footer the next section may begin
  pub at : to.tail ≡ Footed → state ≡ to
  pub reads : reading_on (judge (by_state set names)) s place (bytes ++ rest) ≡ reading_on (judge (by_state set names)) state (place + length bytes) rest

-- what reads on from a state reads on from before it
read_from : {set : Set} {names : List (List ℕ)} {s to : State} {place : ℕ} {bytes rest : List ℕ} (earlier : State) (at : ℕ) (all : List ℕ)
    → (r : ReadsTo set names s to place bytes rest)
    → reading_on (judge (by_state set names)) earlier at (all ++ rest) ≡ reading_on (judge (by_state set names)) r.state (at + length all) rest
    → ReadsTo set names earlier to at all rest
read_from earlier at all r reads = record { state = r.state; free = r.free; is = r.is; at = r.at; reads = reads }

module _ (set : Set) (names : List (List ℕ)) (good : IsGood set) (c : Section set) (image : Image) (normal : IsNormal set c.device image)
    (valid : IsValid set c.device image) (id_fits : c.id < 4294967296) (footed : Bool) (fits : Agrees c.state.tail footed) where
  abbrev J : State → ℕ → List ℕ → Option (Reading State)
  J = reading_on (judge (by_state set names))

  abbrev so : List (Option ℕ) → Image
  so = image_at set c.device image

  abbrev To : State → ℕ → List ℕ → List ℕ → Type 0
  To s place bytes rest = ReadsTo set names s (over c image footed) place bytes rest

  -- the end of a section
  close : (footed : Bool) → Agrees c.state.tail footed → (part : Option ℕ) (i place : ℕ) (rest : List ℕ)
      → drop i (part_slots set (Some c.device) image part) ≡ []
      → ReadsTo set names (stands c image part i) (over c image footed) place (closing footed c.id) rest
  close true a part i place rest done =
      let s = stands c image part i in
      record {
        state = over c image true;
        free = free_is set names false false _ refl;
        is = refl;
        at = λ e. refl;
        reads =
            unit_on set names s (Foot c.id) place rest (held_is c image part i done)
            (rw (due_is c image part i done) (AtFoot c.k c.state.tail c.id (foot_may c.state.tail a) id_fits))
            (foot_passes set names ((g set names).due s) (known_at set s) c.id refl);
      }
  close false a part i place rest done =
      let s = stands c image part i in
      record {
        state = s;
        free = record {
          held = held_is c image part i done;
          head = λ id name instance v f g h.
              rw (due_is c image part i done)
              (AtNext c.k c.state.tail (Head id name instance v) (next_is _ a).1 (AtHead false false id name instance v f g h));
          end = rw (due_is c image part i done) (AtNext c.k c.state.tail End (next_is _ a).0 (AtEnd false false));
        };
        is = refl;
        at = λ e. cc;
        reads = ap (λ x. reading_on (judge (by_state set names)) s x rest) (sym (add-zero place));
      }

  -- from a body's end on
  subs_read : (order : List ℕ) (part : Option ℕ) (i : ℕ) (now left : List (Option ℕ)) → drop i (part_slots set (Some c.device) (so now) part) ≡ []
      → Beside now left image.came → ComesOnce left order
      → (place : ℕ) (tail rest : List ℕ) → SubsSpell set c.device image order tail → To (stands c (so now) part i) place (tail ++ closing footed c.id) rest
  subs_read [] part i now left done beside once place tail rest spell =
      let last : so now ≡ image =
      ap so (beside_end now left image.came beside once) ∙ ap (λ m. record { version = image.version; came = image.came; numbers = m })
      (so_at_last set c.device image normal) in
      rw last (rw spell (close footed fits part i place rest (rw (sym last) (done))))
  subs_read (j ∷ order) part i now left done beside once place tail rest spell =
      let w = once.0.0 in
      let b = beside_next now left image.came j w beside once.0.1 in
      let version = version_at c.device.subs image.came j w normal.subs b.1 in
      let front = spell.0 in
      let later = spell.1 in
      let s = sub_so set c.device image j w front version.0 version.1 version.2 b.1 spell.2 in
      let sub = s.sub in
      let name = sub.desc.name in
      let now1 = slice_set now j (Some w) in
      let head = sub_head name w in
      let more = (later ++ closing footed c.id) ++ rest in
      let start = stands c (so now) part i in
      let image1 : Image = record { version = image.version; came = now1; numbers = so_far set c.device image now } in
      let w_fits : w < 2 ^ 32 = (let le : w ≤ sub.desc.version = s.version.1 in omega (arith, good.sub_version c.k j c.device sub c.there s.there)) in
      let named = good.distinct_subs c.k j c.device sub c.there s.there in
      let p : Progress = record { numbers = image1.numbers; place = place + length head; rest = s.body ++ more } in
      let none : (g set names).reason start (SubHead name w) ≡ None =
      cc (
        due_is c (so now) part i done,
        known_is c (so now) part i,
        sub_passes set names (AfterFields c.k c.state.tail) (knows c (so now) part i) c.device.subs name w j sub
            (subs_are c (so now) part i) named s.there b.0 s.version,
      ) in
      let reads = rw (part_taken set c.device image normal good c.k c.there valid now j w sub (place + length head) s.body more s.there b.0 b.1 s.spells)
      at (body_read set names c.state c.device image1 c.k c.id (Some j) c.there c.room good.structs sub.desc w (part_place set c.device j)
      (good.subs c.k j c.device sub c.there s.there) (λ m. rw (s.there, (at_set now j (Some w) (slice_get_within now j None b.0)))) p) in
      let r = subs_read order (Some j) reads.0 now1 (slice_set left j None) reads.1 b.2 once.1 ((place + length head) + length s.body) later rest spell.3 in
      let is : (tail ++ closing footed c.id) ++ rest ≡ head ++ (s.body ++ more) =
      cc (
        append_assoc (head ++ s.body) later (closing footed c.id),
        append_assoc (head ++ s.body) (later ++ closing footed c.id) rest,
        append_assoc head s.body more,
      ) in
      read_from start place (tail ++ closing footed c.id) r
      (ap (J start place) is
      ∙ unit_on set names start (SubHead name w) place (s.body ++ more) (held_is c (so now) part i done)
      (rw (due_is c (so now) part i done) (AtSubHead c.k c.state.tail name w w_fits)) none
      ∙ ap (λ s. J s p.place p.rest) (sub_after c (so now) part i j name w named) ∙ reads.2 ∙ r.reads ∙ ap (λ x. J r.state x rest)
      (omega (
        arith,
        ap length spell.4,
        length-append front later,
        ap length s.is,
        length-append head s.body,
        length-append tail
            (closing footed c.id),
        length-append later (closing footed c.id),
      )))

  -- a section after its head
  section_read : (place : ℕ) (body tail rest : List ℕ) (order : List ℕ) → Spells image.numbers (own_slots set c.device image.version image.numbers) body
      → ComesOnce image.came order → SubsSpell set c.device image order tail
      → To (stands c (record (default_image set c.device) { version = image.version }) None 0) place (body ++ (tail ++ closing footed c.id)) rest
  section_read place body tail rest order spells once spell =
      let fresh : Image = record (default_image set c.device) { version = image.version } in
      let more = (tail ++ closing footed c.id) ++ rest in
      let reads = rw (own_taken set c.device image normal good c.k c.there valid place body more spells)
      at (body_read set names c.state c.device fresh c.k c.id None c.there c.room good.structs c.device.desc image.version 0
      (good.devices c.k c.device c.there) (λ m. refl) (record { numbers = fresh.numbers; place = place; rest = body ++ more })) in
      let r = subs_read order None reads.0 (none_of c.device.subs) image.came reads.1 (beside_first c.device.subs image.came normal.subs) once
      (place + length body) tail rest spell in
      read_from (stands c fresh None 0) place (body ++ (tail ++ closing footed c.id)) r
      (ap (J (stands c fresh None 0) place) (append_assoc body (tail ++ closing footed c.id) rest)
      ∙ reads.2 ∙ r.reads
      ∙ ap (λ x. J r.state x rest) (omega (arith, length-append body (tail ++ closing footed c.id))))

-- between sections, these devices' sections and the end mark are read
pub record ReadsOn (set : Set) (names : List (List ℕ)) (s to : State) (images : List Image) (place : ℕ) (sections after : List ℕ) : Type 0 where
  pub came : List Bool
  pub tail : Tail
  pub reads : reading_on (judge (by_state set names)) s place (sections ++ (0x00 ∷ after))
      ≡ reading_on (judge (by_state set names)) (record to { images = images; came = came; tail = tail; spot = Ended }) ((place + length sections) + 1) after

-- the device and the image of a section
record Here (set : Set) (k : ℕ) (images : List Image) (footed : Bool) (front : List ℕ) : Type 0 where
  device : Device
  image : Image
  there : slice_get set.devices k ≡ Some device
  found : slice_get images k ≡ Some image
  id : ℕ
  is : IsSection set device image id footed front

section_here : (set : Set) (k : ℕ) (images : List Image) (footed : Bool) (front : List ℕ) (o : Option Device) (p : Option Image) → slice_get set.devices k ≡ o
    → slice_get images k ≡ p → HasSection set footed k o p front → Here set k images footed front
section_here set k images footed front (Some d) (Some image) e f h = record { device = d; image = image; there = e; found = f; id = h.0; is = h.1 }
section_here set k images footed front _ _ e f h = absurd h

module _ (set : Set) (names : List (List ℕ)) (good : IsGood set) where
  -- a section of a device, and what follows it
  pub section_on : (k : ℕ) (d : Device) (image : Image) → slice_get set.devices k ≡ Some d → (s to : State) → settled set s ≡ to → IsFree set names s
      → k < length to.images → slice_get to.came k ≡ Some false
      → (footed : Bool) → Agrees to.tail footed → (place id : ℕ) (front rest : List ℕ) → IsSection set d image id footed front
      → ReadsTo set names s (came_to to k image footed) place front rest
  section_on k d image there s to e free room new footed fits place id front rest is =
      let J = reading_on (judge (by_state set names)) in
      let c : Section set = record { state = record to { came = slice_set to.came k true }; k = k; id = id; device = d; there = there; room = room } in
      let head = section_head id d.desc.name d.instance image.version in
      let tops = good.instance k d there in
      let named = good.distinct k d there in
      let close = closing footed id in
      let more = is.body ++ (is.tail ++ close) in
      let r = section_read set names good c image is.normal is.valid is.fits footed fits
      _ _ _ rest _ is.own is.each_once is.subs in
      let whole : front ≡ head ++ more = cc (append_assoc (head ++ is.body) is.tail close, append_assoc head is.body (is.tail ++ close)) in
      read_from s place front r
      (ap (λ l. J s place (l ++ rest)) whole
      ∙ ap (J s place) (append_assoc head more rest) ∙ unit_on set names s (Head id d.desc.name d.instance image.version) place (more ++ rest) free.held
      (free.head id d.desc.name d.instance image.version is.fits tops.0 (omega arith))
      (head_passes set names ((g set names).due s) (known_at set s) id d.desc.name d.instance image.version k d named there
      (subst (λ y. slice_get y.came k ≡ Some false) (sym e) new) is.normal.version)
      ∙ ap (λ y. J y (place + length head) (more ++ rest))
      (head_after set s id _ _ _ k d named there ∙ ap (λ y. opened set y k id d image.version) e) ∙ r.reads
      ∙ ap (λ y. J r.state y rest) (omega (arith, ap length whole, length-append head more)))

  pub sections_read : (footed : Bool) (images : List Image) → length images ≡ length set.devices → (order : List ℕ) (s to : State) → settled set s ≡ to
      → IsFree set names s → Agrees to.tail footed → length to.came ≡ length set.devices → length to.images ≡ length set.devices
      → ((k : ℕ) → slice_get to.came k ≡ Some true → slice_get to.images k ≡ slice_get images k) → EachOnce to.came order
      → (place : ℕ) (sections after : List ℕ) → SectionsSpell set footed images order sections → ReadsOn set names s to images place sections after
  sections_read footed images one_each [] s to e free fits came long agree once place sections after spell =
      let J = reading_on (judge (by_state set names)) in
      let same : to.images ≡ images = same_lists to.images images (long ∙ sym one_each) (λ k lt. agree k (came_at to.came k once (omega arith))) in
      record {
        came = to.came;
        tail = to.tail;
        reads = rw spell (unit_on set names s End place after free.held free.end
            (end_passes set names ((g set names).due s) (known_at set s)
            (subst (λ y. position not 0 y.came ≡ None) (sym e) (none_missing 0 to.came once)))
            ∙ ap (λ y. J (record y { spot = Ended }) (place + 1) after) e ∙ ap (λ xs. J (record to { images = xs; spot = Ended }) (place + 1) after) same
            ∙ ap (λ x. J (record to { images = images; spot = Ended }) x after) (omega (arith, ap length spell)));
      }
  sections_read footed images one_each (k ∷ order) s to e free fits came long agree once place sections after spell =
      let J = reading_on (judge (by_state set names)) in
      let front = spell.0 in
      let later = spell.1 in
      let h = section_here set k images footed front (slice_get set.devices k) (slice_get images k) refl refl spell.2 in
      let room : k < length set.devices = slice_get_within set.devices k h.device h.there in
      let r = section_on k h.device h.image h.there s to e free (omega arith) once.0 footed fits place h.id front (later ++ (0x00 ∷ after)) h.is in
      let q = sections_read footed images one_each order r.state (came_to to k h.image footed) r.is r.free (grind arith)
      (length-set to.came k true ∙ came) (length-set to.images k h.image ∙ long)
      (λ j e. agrees images to.images to.came k j h.image (omega arith) h.found (agree j) e (j == k) refl) once.1 (place + length front) later after spell.3 in
      record {
        came = q.came;
        tail = q.tail;
        reads = rw (spell.4) (ap (J s place) (append_assoc front later (0x00 ∷ after))
            ∙ r.reads ∙ q.reads ∙ ap (λ x. J (record to { images = images; came = q.came; tail = q.tail; spot = Ended }) x after)
            (omega (arith, ap length spell.4, length-append front later)));
      }

-- accepted there, in a state of this machine and these images
pub record EndsIn (machine : Option (List ℕ)) (images : List Image) (place : ℕ) (r : Option (Reading State)) : Type 0 where
  pub end : State
  pub is : r ≡ Some (Accepted place end)
  pub machine_is : end.machine ≡ machine
  pub images_are : end.images ≡ images

before : {machine : Option (List ℕ)} {images : List Image} {place : ℕ} {x y : Option (Reading State)} → x ≡ y → EndsIn machine images place y
    → EndsIn machine images place x
before e r = rw e r

named_fits : (name : List ℕ) (footed : Bool) → (footed ≡ false → Some name ≡ None) → footed ≡ true
named_fits name footed h = grind arith

module _ (set : Set) (names : List (List ℕ)) where
  abbrev read_on : State → ℕ → List ℕ → Option (Reading State)
  read_on = reading_on (judge (by_state set names))

  abbrev last : State → State
  last s = record s { spot = Ended }

  at_end : (s : State) (place : ℕ) → read_on (last s) place [] ≡ Some (Accepted place (last s))
  unfolding trailer_at
  at_end s place = refl

  close_read : (s : State) (text : Option (List ℕ)) (place : ℕ) (tail rest : List ℕ) → IsTrailer text tail → (text ≡ None → rest ≡ [])
      → EndsIn s.machine s.images (place + length tail) (read_on (last s) place (tail ++ rest))
  close_read s None place tail rest is none =
      rw (is, none refl, add-zero place) (record { end = last s; is = at_end s place; machine_is = refl; images_are = refl })
  close_read s (Some text) place tail rest is none =
      rw is.1 (record {
        end = record s { spot = Over };
        is = unit_on set names (last s) (Description text) place rest refl
            (AtDescription text is.0) refl;
        machine_is = refl;
        images_are = refl;
      })

  abbrev from : Option (List ℕ) → Tail → Bool → Bool → State
  from machine t first c = between machine (map (default_image set) set.devices) (map (λ (d : Device). false) set.devices) t first c

  module _ (good : IsGood set) {bytes : List ℕ} {images : List Image} {text : Option (List ℕ)} (rest : List ℕ) (all : text ≡ None → rest ≡ []) where
    -- from the first section on
    rest_read : {machine : Option (List ℕ)} (st : IsStream set names bytes machine images text) (t : Tail) (first c : Bool) → Agrees t st.footed → (place : ℕ)
        → EndsIn machine images (((place + length st.sections) + 1) + length st.tail)
        (read_on (from machine t first c) place (st.sections ++ (0x00 ∷ (st.tail ++ rest))))
    rest_read {machine} st t first c fits place =
        let s = from machine t first c in
        let r = sections_read set names good st.footed images st.one_each st.order s (settled set s) refl (free_is set names first c s refl) fits
        (falses set.devices) (defaults_of set set.devices)
        (λ k e. absurd (never_true set.devices k e)) st.each_once place st.sections (st.tail ++ rest) st.spelled in
        before r.reads (close_read (record s { images = images; came = r.came; tail = r.tail }) text
        ((place + length st.sections) + 1) st.tail rest st.described all)

    -- from the configuration on, if there is one
    named_read : (machine : Option (List ℕ)) (st : IsStream set names bytes machine images text)
        → EndsIn machine images ((((8 + length st.named) + length st.sections) + 1) + length st.tail)
        (read_on (from None Unknown true false) 8 (st.named ++ (st.sections ++ (0x00 ∷ (st.tail ++ rest)))))
    named_read None st = let is : st.named ≡ [] = st.configured in rw is (rest_read st _ true false tt 8)
    named_read (Some name) st =
        let s = from None Unknown true false in
        let c = st.configured in
        rw c.2 (before (unit_on set names s (Configuration name) 8 (st.sections ++ (0x00 ∷ (st.tail ++ rest))) refl (AtConfiguration false name c.1) (rw c.0))
        (rest_read st Footed false true (named_fits name _ st.bare) _))

-- what is taken is accepted
pub read : (set : Set) (names : List (List ℕ)) → IsGood set → (input : List ℕ) (n : ℕ) (machine : Option (List ℕ)) (images : List Image)
    → Takes set names input n machine images → EndsIn machine images n (reading (by_state set names) (at_start set) input)
unfolding reading
read set names good input n machine images t =
    let s = t.stream in
    let s0 = at_start set in
    let front = stream_head ++ s.named in
    let more = s.sections ++ (0x00 ∷ (s.tail ++ t.rest)) in
    let is : input ≡ magic ++ (be32 3 ++ (s.named ++ more)) = t.prefix ∙ rw (
      s.whole,
      append_assoc ((front ++ s.sections) ++ end_mark) s.tail t.rest,
      append_assoc (front ++ s.sections) end_mark (s.tail ++ t.rest),
      append_assoc front s.sections (end_mark ++ (s.tail ++ t.rest)),
      append_assoc stream_head s.named more,
    ) in
    let long : (((8 + length s.named) + length s.sections) + 1) + length s.tail ≡ n = omega (
      arith,
      t.long,
      ap length s.whole,
      length-append ((front ++ s.sections) ++ end_mark) s.tail,
      length-append (front ++ s.sections) end_mark,
      length-append front s.sections,
      length-append stream_head s.named,
    ) in
    rw long at (before
    (ap (read_on set names s0 0) is
    ∙ unit_on set names s0 (Magic magic) 0 (be32 3 ++ (s.named ++ more)) refl (AtMagic magic refl) refl
    ∙ unit_on set names (record s0 { spot = Headed }) (Version 3) 4 (s.named ++ more) refl (AtVersion 3 (omega arith)) refl)
    (named_read set names good t.rest t.all _ s))
