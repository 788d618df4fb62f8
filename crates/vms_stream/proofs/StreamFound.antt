-- What is accepted is a stream at the front of the input: its sections, in any order and each once,
-- and all of it.
use Rattle.vms_stream.proofs.Facade
use Facade.{◌≡◌, ℕ, zero, suc, ◌+◌, ◌<◌, List, ◌∷◌, ◌++◌, length, slice_set, Some, None, Ok, Err, refl, sym, ap, ◌∙◌, subst}
use Facade.{arith, append_assoc, length-append, Bool, true, false, [], inl, inr, map, Option, slice_get, length-set, slice_get_within, add-zero, IsBytes}
use Facade.{bytes_rest, Device, Set, device_cells, desc_cells, Image, default_image, IsVersionOf, section_head, EachOnce, be32, magic, stream_head}
use Facade.{configuration, end_mark, trailer, IsConfiguration, IsTrailer, Taken, Progress, take_desc, takers, cells_of, IsGood, same_refl, at_set, body_found}
use Facade.{own_are, defaults_at, defaults_long, none_versions, all_came, falses, defaults_of, its_spelled, at_other, none_of, none_came, beside_start, Fine}
use Facade.{fine_normal, fine_valid, Tail, Unknown, Footed, Bare, State, Free, Ended, Headed, known_at, after, between, by_state, at_start, IsSection}
use Facade.{BeginsSection, SectionsSpell, Takes, Piece, spell, Accepted, AMagic, AVersion, AfterEnd, May, AtMagic, AtVersion, AtDescription, AtLongText}
use Facade.{AtTrailing, first_of, owes, reading}
use Rattle.vms_stream.proofs.{Bodies.Reads, Bodies.body_read, Inside.Agrees, Inside.tail_of, Inside.closing, Inside.Section, Inside.image_so, Inside.subs_found}
use Rattle.vms_stream.proofs.Steps.{Run, Goes, Opening, Closes, Opens, Names, opened, next, steps, free_opens, magic_is, version_is_3, trailing_never}
use Rattle.vms_stream.specs.State.{Over}

-- the state after device k's section
abbrev pub came_to : State → ℕ → Image → Bool → State
came_to s k image footed = record s { images = slice_set s.images k image; came = slice_set s.came k true; tail = tail_of footed; spot = Free false false }

-- a section is at the front, and the reading goes on after it
pub record HasRead (r : Run) (s : State) (place : ℕ) (rest : List ℕ) : Type 0 where
  pub begins : BeginsSection r.set s.came rest
  pub agrees : Agrees s.tail begins.footed
  pub opens : Opening r false (came_to s begins.number begins.image begins.footed) (place + length begins.bytes) begins.after

-- the sections that are read, from a place between sections on
pub record SectionsRead (r : Run) (s : State) (place : ℕ) (rest : List ℕ) : Type 0 where
  pub order : List ℕ
  pub each_once : EachOnce s.came order
  pub sections : List ℕ
  pub after : List ℕ
  pub spelled : rest ≡ sections ++ (0x00 ∷ after)
  pub footed : Bool
  pub agrees : Agrees s.tail footed
  pub states : List Image
  pub sections_are : SectionsSpell r.set footed states order sections
  pub long : length states ≡ length s.images
  -- the images of devices that came before stay
  pub kept : (k : ℕ) → slice_get s.came k ≡ Some true → slice_get states k ≡ slice_get s.images k
  pub came_last : List Bool
  pub tail_last : Tail
  pub goes : Goes r (record s { images = states; came = came_last; tail = tail_last; spot = Ended }) ((place + length sections) + 1) after

regrouped : (a b c d e : List ℕ) → (((a ++ b) ++ c) ++ d) ++ e ≡ a ++ (b ++ (c ++ (d ++ e)))
regrouped a b c d e = simp append_assoc

any : (t : Tail) → (footed : Bool) × Agrees t footed
any Unknown = (true, tt)
any Footed = (true, refl)
any Bare = (false, refl)

same_footed : (a b : Bool) → Agrees (tail_of a) b → b ≡ a
same_footed a b e = grind arith

module _ (r : Run) (good : IsGood r.set) where
  module _ (s : State) (place : ℕ) (k id v : ℕ) (d : Device) (more : List ℕ) (there : slice_get r.set.devices k ≡ Some d) (room : k < length s.images) where
    abbrev c : Section r.set
    c = record { state = record s { came = slice_set s.came k true }; k = k; id = id; device = d; there = there; room = room }

    abbrev head : List ℕ
    head = section_head id d.desc.name d.instance v

    abbrev start : Progress
    start = record { numbers = (default_image r.set d).numbers; place = place + length head; rest = more }

    module _ {rest : List ℕ} (long : length s.came ≡ length r.set.devices) (ok : IsBytes rest) (id_fits : id < 4294967296) (spelled : rest ≡ head ++ more)
        (new : slice_get s.came k ≡ Some false) (version : IsVersionOf d.desc v) (h : Goes r (opened r.set s k id d v) (place + length head) more) where
      by_taken : (q : Taken) → take_desc (takers r.set.structs (length r.set.structs)) d.desc v 0 start ≡ q
          → Reads r.set r.names c.state d (record (default_image r.set d) { version = v }) k id None there room 0 start q → HasRead r s place rest
      by_taken (Err e) is reads = let f = sym reads ∙ h.is in cc
      by_taken (Ok q) is reads =
          let all = device_cells r.set d in
          let none = none_of d.subs in
          let okm : IsBytes more = bytes_rest head more (subst IsBytes spelled ok) in
          let sound = good.devices k d there in
          let b = body_found all r.set.structs good.structs d.desc v 0 start q sound okm (omega (arith, defaults_long all)) (own_are r.set d v) is in
          let m = same_refl (0 + length (desc_cells (cells_of (takers r.set.structs (length r.set.structs))) d.desc)) q.numbers in
          let so_far : Fine r.set d v none q.numbers = record {
            versions = none_versions d.subs;
            long = cc (defaults_long all);
            own_fits = b.fits q.numbers m;
            own_rules = b.rules q.numbers m;
            fits = λ j s w e f. absurd (none_came d.subs j w f);
            rules = λ j s w e f. absurd (none_came d.subs j w f);
            absent = λ c e f. b.kept q.numbers m c e ∙ defaults_at all c;
          } in
          let q' =
          subs_found r good c (length-set s.came k true ∙ long) v (suc (length q.rest)) None reads.0 none q.numbers q.place q.rest reads.1
          (omega arith) (bytes_rest b.bytes q.rest (subst IsBytes b.front okm)) so_far (record { is = sym reads.2 ∙ h.is }) in
          let close = closing q'.footed id in
          record {
            begins = record {
              number = k;
              device = d;
              there = there;
              new = new;
              id = id;
              image = image_so v q'.all q'.numbers;
              footed = q'.footed;
              bytes = ((head ++ b.bytes) ++ q'.tail) ++ close;
              after = q'.after;
              is = record {
                fits = id_fits;
                normal = fine_normal r.set d v q'.all q'.numbers version (good.defaults k d there) q'.fine;
                valid = fine_valid r.set d v q'.all q'.numbers q'.fine;
                body = b.bytes;
                own = its_spelled r.set d.desc v 0 good.structs sound q.numbers q'.numbers b.bytes q'.stays.own (b.spells q.numbers m);
                order = q'.order;
                each_once = rw (← beside_start d.subs q'.left q'.all q'.beside) q'.once;
                tail = q'.tail;
                subs = q'.subs;
                whole = refl;
              };
              spelled = cc (regrouped head b.bytes q'.tail close q'.after);
            };
            agrees = q'.agrees;
            opens = subst (λ (x : ℕ). Opening r false (came_to s k (image_so v q'.all q'.numbers) q'.footed) x q'.after)
                (omega (arith, b.place, length-append ((head ++ b.bytes) ++ q'.tail) close, length-append (head ++ b.bytes) q'.tail, length-append head b.bytes))
                q'.opens;
          }

      pub section_found : HasRead r s place rest
      section_found =
          by_taken _ refl
          (body_read r.set r.names c.state d (record (default_image r.set d) { version = v }) k id None there room good.structs d.desc v 0
          (good.devices k d there) (λ m. refl) start)

  sections_next : {s : State} {place : ℕ} {rest : List ℕ} → length s.came ≡ length r.set.devices → length s.images ≡ length r.set.devices
      → (h : HasRead r s place rest)
      → SectionsRead r (came_to s h.begins.number h.begins.image h.begins.footed) (place + length h.begins.bytes) h.begins.after → SectionsRead r s place rest
  sections_next {s} {place} {rest} came_long images_long h q =
      let b = h.begins in
      let k = b.number in
      let inside : k < length r.set.devices = slice_get_within r.set.devices k b.device b.there in
      record {
        order = k ∷ q.order;
        each_once = (b.new, q.each_once);
        sections = b.bytes ++ q.sections;
        after = q.after;
        spelled = b.spelled ∙ rw (q.spelled, append_assoc b.bytes q.sections (0x00 ∷ q.after));
        footed = b.footed;
        agrees = h.agrees;
        states = q.states;
        sections_are = (
          b.bytes,
          q.sections,
          rw (b.there, (q.kept k (at_set s.came k true (omega arith)) ∙ at_set _ k _ (omega arith))) (b.id, b.is),
          rw (same_footed _ _ q.agrees) at q.sections_are,
          refl,
        );
        long = cc (length-set s.images k b.image);
        kept = λ j e.
            let ne : j ≡ k → ⊥ = λ same. (let f = sym e ∙ ap (slice_get s.came) same ∙ b.new in cc) in
            q.kept j (at_other s.came k j true ne ∙ e) ∙ at_other _ k j _ ne;
        came_last = q.came_last;
        tail_last = q.tail_last;
        goes = subst (λ (x : ℕ). Goes r (record s { images = q.states; came = q.came_last; tail = q.tail_last; spot = Ended }) (x + 1) q.after)
            (sym (omega (arith, length-append b.bytes q.sections))) q.goes;
      }

  -- the sections, in any order, each once
  pub sections_found : (most : ℕ) (s : State) {place : ℕ} {rest : List ℕ} → length s.came ≡ length r.set.devices → length s.images ≡ length r.set.devices
      → length rest < most → IsBytes rest → Opening r false s place rest → SectionsRead r s place rest
  sections_found zero s came_long images_long less ok o = absurd (omega arith)
  sections_found (suc most) s {place} came_long images_long less ok (Closes more e all goes) =
      let a = any s.tail in
      record {
        order = [];
        each_once = all_came 0 s.came all;
        sections = [];
        after = more;
        spelled = e;
        footed = a.0;
        agrees = a.1;
        states = s.images;
        sections_are = refl;
        long = refl;
        kept = λ k e. refl;
        came_last = s.came;
        tail_last = s.tail;
        goes = rw (add-zero place) goes;
      }
  sections_found (suc most) s came_long images_long less ok (Names name more first e one le goes) = cc
  sections_found (suc most) s {place} {rest} came_long images_long less ok (Opens k id v d more f e there new version goes) =
      let inside : k < length r.set.devices = slice_get_within r.set.devices k d there in
      let h = section_found s place k id v d more there (omega arith) came_long ok f e new version goes in
      let b = h.begins in
      sections_next came_long images_long h
      (sections_found most (came_to s b.number b.image b.footed) (length-set s.came b.number true ∙ came_long)
      (length-set s.images b.number b.image ∙ images_long) (omega (arith, ap length b.spelled, length-append b.bytes b.after, has_bytes b.is))
      (bytes_rest _ _ (subst IsBytes b.spelled ok)) h.opens)
    where
      has_bytes : {d : Device} {image : Image} {footed : Bool} {bytes : List ℕ} {id : ℕ} → IsSection r.set d image id footed bytes → 0 < length bytes
      has_bytes s = omega (arith, simp length-append at (ap length s.whole))

-- what ends a stream: nothing, or a description
record Ending (r : Run) (s : State) (place : ℕ) (rest : List ℕ) : Type 0 where
  text : Option (List ℕ)
  tail : List ℕ
  after : List ℕ
  spelled : rest ≡ tail ++ after
  described : IsTrailer text tail
  all : text ≡ None → after ≡ []
  long : r.taken ≡ place + length tail
  machine_is : r.end.machine ≡ s.machine
  images_are : r.end.images ≡ s.images

none_left : (rest : List ℕ) → owes AfterEnd rest ≡ false → rest ≡ []
none_left [] e = refl
none_left (b ∷ rest) e = cc

module _ {r : Run} (s : State) {place : ℕ} {rest : List ℕ} (ok : IsBytes rest) where
  -- if nothing is due, a reading has ended
  over_is : s.spot ≡ Over → Goes r s place rest → (place ≡ r.taken) × (s ≡ r.end)
  over_is over h = grind (arith, next)

abbrev last : State → State
last s = record s { spot = Ended }

module _ {r : Run} (s : State) {place : ℕ} {rest : List ℕ} (ok : IsBytes rest) where
  by_text : {more : List ℕ} (x : Piece) → May AfterEnd x → first_of r.set r.names AfterEnd (known_at r.set (last s)) x ≡ None → rest ≡ spell x ++ more
      → Goes r (after r.set (last s) x) (place + length (spell x)) more → Ending r s place rest
  by_text _ (AtLongText size lt f) none e goes = cc
  by_text _ (AtTrailing b f) none e goes = absurd (trailing_never r.set r.names AfterEnd (known_at r.set (last s)) b refl none)
  by_text {more} _ (AtDescription text le) none e goes =
      let o = over_is (record s { spot = Over }) (bytes_rest (trailer text) more (subst IsBytes e ok)) refl goes in
      record {
        text = Some text;
        tail = trailer text;
        after = more;
        spelled = e;
        described = (le, refl);
        all = λ f. cc;
        long = sym o.0;
        machine_is = rw (sym o.1);
        images_are = rw (sym o.1);
      }

  ending_found : Goes r (last s) place rest → Ending r s place rest
  ending_found h = elim (next ok h) [
    | inl u ↦ by_text u.unit u.may u.none u.there u.goes
    | inr u ↦ record {
      text = None;
      tail = [];
      after = rest;
      spelled = refl;
      described = refl;
      all = λ f. none_left rest u.over;
      long = cc (add-zero place);
      machine_is = rw (sym u.end_is);
      images_are = rw (sym u.end_is);
    }
  ]

module _ (r : Run) (good : IsGood r.set) (input : List ℕ) where
  abbrev from : Option (List ℕ) → Tail → State
  from machine t = between machine (map (default_image r.set) r.set.devices) (map (λ (d : Device). false) r.set.devices) t false false

  abbrev IsTaken : Type 0
  IsTaken = Takes r.set r.names input r.taken r.end.machine r.end.images

  -- the stream, from its head on
  stream_of : (named rest : List ℕ) (t : Tail) (machine : Option (List ℕ)) → IsBytes rest → IsConfiguration r.names machine named
      → ((footed : Bool) → Agrees t footed → footed ≡ false → machine ≡ None)
      → input ≡ stream_head ++ (named ++ rest) → Opening r false (from machine t) (8 + length named) rest → IsTaken
  stream_of named rest t machine ok c bare e o =
      let q = sections_found r good (suc (length rest)) (from machine t) (falses r.set.devices) (defaults_of r.set r.set.devices) (omega arith) ok o in
      let fine : IsBytes q.after = bytes_rest (0x00 ∷ []) q.after (bytes_rest q.sections (0x00 ∷ q.after) (subst IsBytes q.spelled ok)) in
      let d = ending_found (record (from machine t) { images = q.states; came = q.came_last; tail = q.tail_last }) fine q.goes in
      record {
        bytes = (((stream_head ++ named) ++ q.sections) ++ end_mark) ++ d.tail;
        text = d.text;
        stream = record {
          named = named;
          configured = rw d.machine_is c;
          one_each = cc (defaults_of r.set r.set.devices);
          order = q.order;
          each_once = q.each_once;
          sections = q.sections;
          footed = q.footed;
          bare = λ f. d.machine_is ∙ bare q.footed q.agrees f;
          spelled = subst (λ l. SectionsSpell r.set q.footed l q.order q.sections) (sym d.images_are) q.sections_are;
          tail = d.tail;
          described = d.described;
          whole = refl;
        };
        rest = d.after;
        prefix = e ∙ ap (λ l. stream_head ++ (named ++ l)) (q.spelled ∙ ap (λ l. q.sections ++ (0x00 ∷ l)) d.spelled) ∙ simp append_assoc;
        long = simp length-append (omega (arith, d.long));
        all = d.all;
      }

  -- directly after the stream head
  first_found : (rest : List ℕ) → IsBytes rest → input ≡ stream_head ++ rest → Opening r true (from None Unknown) 8 rest → IsTaken
  first_found rest ok e (Closes more f all goes) = stream_of [] rest Unknown None ok refl (λ footed a f. refl) e (Closes more f all goes)
  first_found rest ok e (Opens k id v d more fits f there new version goes) =
      stream_of [] rest Unknown None ok refl (λ footed a f. refl) e (Opens k id v d more fits f there new version goes)
  first_found rest ok e (Names name more first f one le goes) =
      let okm : IsBytes more = bytes_rest (configuration name) more (subst IsBytes f ok) in
      stream_of (configuration name) more Footed (Some name) okm (one, le, refl) (λ footed a b. let wrong = sym a ∙ b in cc)
      (e ∙ ap (λ l. stream_head ++ l) f) (free_opens false true refl okm (falses r.set.devices) goes)

  by_version : {rest more : List ℕ} → IsBytes rest → input ≡ magic ++ rest → (x : Piece) → May AVersion x
      → first_of r.set r.names AVersion (known_at r.set (record (at_start r.set) { spot = Headed })) x ≡ None
      → rest ≡ spell x ++ more → Goes r (after r.set (record (at_start r.set) { spot = Headed }) x) (4 + length (spell x)) more → IsTaken
  by_version {more = more} ok e _ (AtVersion v f) none g goes =
      let g3 = rw (version_is_3 r.set r.names AVersion (known_at r.set (record (at_start r.set) { spot = Headed })) v none) at g in
      let okm : IsBytes more = bytes_rest (be32 3) more (subst IsBytes g3 ok) in
      first_found more okm (e ∙ ap (λ l. magic ++ l) g3) (free_opens true false refl okm (falses r.set.devices) goes)

  by_magic : {more : List ℕ} → IsBytes input → (x : Piece) → May AMagic x → first_of r.set r.names AMagic (known_at r.set (at_start r.set)) x ≡ None
      → input ≡ spell x ++ more → Goes r (after r.set (at_start r.set) x) (0 + length (spell x)) more → IsTaken
  by_magic {more} ok _ (AtMagic bytes four) none e goes =
      let e1 : input ≡ magic ++ more = rw (magic_is r.set r.names AMagic (known_at r.set (at_start r.set)) bytes none) at e in
      let okm : IsBytes more = bytes_rest magic more (subst IsBytes e1 ok) in
      let u = steps okm (rw four at goes) refl in
      by_version okm e1 u.unit u.may u.none u.there u.goes

-- what is accepted is taken
pub found : (set : Set) (names : List (List ℕ)) → IsGood set → (input : List ℕ) (n : ℕ) (end : State) → IsBytes input
    → reading (by_state set names) (at_start set) input ≡ Some (Accepted n end) → Takes set names input n end.machine end.images
unfolding reading
found set names good input n end ok h =
    let r : Run = record { set = set; names = names; taken = n; end = end } in
    let goes : Goes r (at_start set) 0 input = record { is = h } in
    let u = steps ok goes refl in
    by_magic r good input ok u.unit u.may u.none u.there u.goes
