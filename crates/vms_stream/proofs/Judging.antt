-- The judge refuses exactly the inputs that have a fault, and likewise for those that it accepts.
use Rattle.vms_stream.proofs.Facade
use Facade.{◌≡◌, ℕ, zero, suc, ◌+◌, ◌<◌, ◌≤◌, List, ◌∷◌, ◌++◌, length, drop, length-drop, Option, Some, None, refl, sym, ap}
use Facade.{◌∙◌, subst, arith, length-append, append_assoc, Bool, true, false, if◌then◌else◌, [], IsBytes, bytes_rest, Reason, Set, Verdict, Goes}
use Facade.{Faulty, Over, Reading, Accepted, Refused, reading_from, reading_after, Piece, spell, spelled, opened, Due, May, AtMagic, due, holds, reason_of}
use Facade.{Front, Why, Fails, Wrong, Fault, Owes, cut_in, Advances, reading_on, is_bytes_drop, unit_read, Found, Whole, Cut, unit_at, Grammar, judge}
use Facade.{judge_found, by_row, owes, reading, by_units, Mirrored, Refuses, Ends, Accepts, IsThere, slice_set, slice_get, length-set, length-map}
use Facade.{slice_get_within, at_option, Image, default_image, Magic, Version, Configuration, Head, Number, Constant, Filler, SubHead, Foot, End, put_version}
use Facade.{id_of, device_named, come, part, image, fresh, slots, sub_named, at_set, found_is, Field, AfterFields, due_field, rules_hold, first_of, Spot}
use Facade.{Before, Headed, Free, Inside, Ended, State, at_start, or_none, open_at, onward, inside, slots_at, next_spot, due_by, known_at, after, by_state}
use Facade.{Known, beyond, images, known, machine, passed, put_image, tail}
use Rattle.vms_stream.proofs.Finding.{only, Shows, shows, IsSolid, advances, due_solid, field_solid}
use Rattle.vms_stream.specs.Faults.{Cut as IsCut}
use Rattle.vms_spec.specs.declared.Reason.TheVariants as reasons

-- ---- the judge refuses exactly the inputs that have a fault, for each state that mirrors the units so far

owes_true : (d : Due) (rest : List ℕ) → Owes d rest → owes d rest ≡ true
owes_true d rest o = grind arith

owes_so : (d : Due) (rest : List ℕ) → owes d rest ≡ true → Owes d rest
owes_so d rest o = grind arith

may_owe : (d : Due) (x : Piece) (more : List ℕ) → May d x → Owes d (spell x ++ more)
may_owe _ _ more (AtMagic bytes l) = tt
may_owe _ _ more m = tt

pub cut_is : (d : Due) (rest : List ℕ) (f : Found) → Shows d rest f → ((x : Piece) (more : List ℕ) → May d x → rest ≡ spell x ++ more → ⊥) → f ≡ Cut
cut_is d rest (Whole x n) s never = absurd (never x _ s.may s.there)
cut_is d rest Cut s never = refl

module _ {S : Type 0} (judge : S → List ℕ → Verdict S) (a : Advances judge) where
  -- a reading ends
  pub told_from : (m : ℕ) (state : S) (at : ℕ) (rest : List ℕ) → length rest < m → (x : Reading S) × (reading_from judge m state at rest ≡ Some x)
  told_from zero state at rest h = absurd (omega arith)
  told_from (suc m) state at rest h =
      by (judge state rest) (λ n next e. let b : (0 < n) × (n ≤ length rest) = a.goes state rest n next e in told_from m next (at + n) (drop n rest)
      (omega (arith, length-drop n rest)))
    where
      by : (v : Verdict S) → ((n : ℕ) (next : S) → v ≡ Goes n next → (x : Reading S) × (reading_from judge m next (at + n) (drop n rest) ≡ Some x))
          → (x : Reading S) × (reading_after (reading_from judge m) at rest v ≡ Some x)
      by (Goes n next) h = h n next refl
      by (Faulty section reason long) h = (Refused at section reason long, refl)
      by (Over end) h = (Accepted at end, refl)

module _ {S : Type 0} (set : Set) (names : List (List ℕ)) (g : Grammar S) (solid : (s : S) → IsSolid (g.due s)) (Mirrors : List Piece → S → Type 0)
    (m : Mirrored set names g Mirrors) where
  -- a unit that the verdict goes on by
  record Passes (u : List Piece) (rest : List ℕ) (n : ℕ) (next : S) : Type 0 where
    unit : Piece
    is : IsThere (due set u) rest unit n
    held : holds set u ≡ true
    none : reason_of set names u unit ≡ None
    mirrors : Mirrors (unit ∷ u) next

  abbrev Judged : List Piece → List ℕ → Verdict S → Type 0
  Judged u rest (Goes n next) = Passes u rest n next
  Judged u rest (Faulty section reason size) = Why set names u rest section reason size
  Judged u rest (Over end) = (holds set u ≡ true) × (owes (due set u) rest ≡ false) × Mirrors u end

  module _ (u : List Piece) (s : S) (rest : List ℕ) (r : Mirrors u s) where
    -- ---- what a verdict says

    on_row : (x : Piece) (n : ℕ) → holds set u ≡ true → IsThere (due set u) rest x n → (o : Option (Option ℕ × Reason)) → reason_of set names u x ≡ o
        → Judged u rest (by_row g o n (g.after s x))
    on_row x n held w None e = record { unit = x; is = w; held = held; none = e; mirrors = m.after_is u s x r held w.may e }
    on_row x n held w (Some (section, reason)) e = rw (← w.long) (Wrong x section reason held (record { may = w.may; more = drop n rest; there = w.there }) e)

    on_found : holds set u ≡ true → (f : Found) → unit_at (due set u) rest ≡ f → Shows (due set u) rest f → Judged u rest (judge_found g s rest f)
    on_found held (Whole x n) e w = on_row x n held w _ (sym (m.reason_is u s x r w.may))
    on_found held Cut e w = rw (m.due_is u s r, m.section_is u s r) (by_owes _ refl)
      where
        by_owes : (b : Bool) → owes (due set u) rest ≡ b
            → Judged u rest (if b then Faulty (cut_in (due set u) rest (opened set u)) reasons.Truncated (length rest) else Over s)
        by_owes true o = IsCut held (owes_so _ rest o) (λ x w. let k = sym e ∙ ap (unit_at (due set u)) w.there ∙ only (due set u) x w.more w.may in cc)
        by_owes false o = (held, o, r)

    said : IsBytes rest → Judged u rest (judge g s rest)
    said ok = rw (m.holds_is u s r, m.due_is u s r, m.section_is u s r) (by_holds _ refl)
      where
        by_holds : (b : Bool) → holds set u ≡ b
            → Judged u rest (if b then judge_found g s rest (unit_at (due set u) rest) else Faulty (opened set u) reasons.Invalid 0)
        by_holds true h = on_found h _ refl (shows _ rest ok)
        by_holds false h = Fails h

    -- ---- the verdict on what is known of the units

    verdict : (f : Found) → holds set u ≡ true → unit_at (due set u) rest ≡ f → judge g s rest ≡ judge_found g s rest f
    verdict f held e = rw (m.holds_is u s r, held, m.due_is u s r, e)

    by_reason : (x : Piece) (more : List ℕ) (o : Option (Option ℕ × Reason)) → holds set u ≡ true → May (due set u) x → rest ≡ spell x ++ more
        → reason_of set names u x ≡ o → judge g s rest ≡ by_row g o (length (spell x)) (g.after s x)
    by_reason x more o held may there e = grind (arith, verdict, due, only)

    told : (section : Option ℕ) (reason : Reason) (size : ℕ) → IsBytes rest → Why set names u rest section reason size
        → judge g s rest ≡ Faulty section reason size
    told _ _ _ ok (Fails f) = rw (m.holds_is u s r, f, m.section_is u s r)
    told _ _ _ ok (IsCut held o never) =
        verdict Cut held (cut_is _ rest _ (shows _ rest ok)
        (λ x more may e. never x (record { may = may; more = more; there = e })))
        ∙ rw (m.due_is u s r, m.section_is u s r, owes_true _ rest o)
    told section reason _ ok (Wrong x _ _ held w taken) = by_reason x w.more _ held w.may w.there taken

    over_is : IsBytes rest → holds set u ≡ true → owes (due set u) rest ≡ false → judge g s rest ≡ Over s
    over_is ok held o = grind (arith, due, shows, owes_true, may_owe, verdict)

  -- ---- whole readings

  -- the units u and some more end well
  pub record Well (u : List Piece) (input : List ℕ) (n : ℕ) (end : S) : Type 0 where
    pub units : List Piece
    pub more : List Piece
    pub is : units ≡ more ++ u
    pub ends : Ends set names input n units
    pub mirrors : Mirrors units end

  -- what a reading says that goes on from the units u
  abbrev pub Says : List Piece → List ℕ → Reading S → Type 0
  Says u input (Accepted n end) = Well u input n end
  Says u input (Refused place section reason size) = Fault set names input place section reason size

  abbrev SaysFrom : ℕ → Type 0
  SaysFrom k =
      (u : List Piece) (s : S) (at : ℕ) (input rest : List ℕ)
      (x : Reading S) → input ≡ spelled u ++ rest → IsBytes rest → Front set names u → Mirrors u s → length (spelled u) ≡ at
      → reading_from (judge g) k s at rest ≡ Some x → Says u input x

  by_verdict : (k : ℕ) → SaysFrom k → (u : List Piece) (at : ℕ) (input rest : List ℕ) (x : Reading S) → input ≡ spelled u ++ rest → IsBytes rest
      → Front set names u → length (spelled u) ≡ at
      → (v : Verdict S) → Judged u rest v → reading_after (reading_from (judge g) k) at rest v ≡ Some x → Says u input x
  by_verdict k later u at input rest x e ok front long (Goes n next) j h =
      one_more x (later (j.unit ∷ u) next (at + n) input (drop n rest) x (rw (append_assoc, ← j.is.there) e) (is_bytes_drop n rest ok)
      (front, j.held, j.is.may, j.none) j.mirrors
      (let b = j.is.long in omega (arith, length-append (spelled u) (spell j.unit))) h)
    where
      one_more : (x : Reading S) → Says (j.unit ∷ u) input x → Says u input x
      one_more (Accepted n end) w =
          record { units = w.units; more = w.more ++ j.unit ∷ []; is = w.is ∙ sym (append_assoc w.more (j.unit ∷ []) u); ends = w.ends; mirrors = w.mirrors }
      one_more (Refused place section reason size) f = f
  by_verdict k later u at input rest x e ok front long (Faulty section reason size) j h = search arith
  by_verdict k later u at input rest x e ok front long (Over end) j h = search arith

  pub says : (k : ℕ) → SaysFrom k
  says zero u s at input rest x e ok front r long h = cc
  says (suc k) u s at input rest x e ok front r long h = by_verdict k (says k) u at input rest x e ok front long (judge g s rest) (said u s rest r ok) h

  record Reaches (start : S) (u : List Piece) (rest : List ℕ) : Type 0 where
    state : S
    mirrors : Mirrors u state
    reads : reading_on (judge g) start 0 (spelled u ++ rest) ≡ reading_on (judge g) state (length (spelled u)) rest

  reaches : (start : S) (u : List Piece) (rest : List ℕ) → Mirrors [] start → Front set names u → Reaches start u rest
  reaches start [] rest r front = record { state = start; mirrors = r; reads = refl }
  reaches start (x ∷ u) rest r front =
      let t = reaches start u (spell x ++ rest) r front.0 in
      record {
        state = g.after t.state x;
        mirrors = m.after_is u t.state x t.mirrors front.1 front.2 front.3;
        reads = cc (
          append_assoc (spelled u) (spell x) rest,
          unit_read _ (advances g solid) _ _ _ _ rest
              (by_reason u _ _ t.mirrors x rest None front.1 front.2 refl front.3),
          length-append (spelled u) (spell x),
        );
      }

  module _ (start : S) (r : Mirrors [] start) where
    pub accepts : Accepts set names g Mirrors start
    unfolding reading
    accepts = record {
      accepted = λ input n end ok h. let w = says (suc (length input)) [] start 0 input input
          (Accepted n end) refl ok tt r refl h in (w.units, w.ends, w.mirrors);
      ends = λ input n u ok f.
          let t = reaches start u f.rest r f.front in
          let ok2 = bytes_rest _ f.rest (subst IsBytes f.whole ok) in (
            t.state,
            ap (reading_on (judge g) start 0) f.whole ∙ t.reads
                ∙ ap (reading_after (reading_from (judge g) (length f.rest)) (length (spelled u)) f.rest) (over_is u _ f.rest t.mirrors ok2 f.held f.over)
                ∙ ap (λ k. Some (Accepted k t.state)) f.long,
            t.mirrors,
          );
    }

    pub refuses : Refuses set names g start
    unfolding reading
    refuses = record {
      refused = λ input place section reason size ok h. says (suc (length input)) [] start 0 input input
          (Refused place section reason size) refl ok tt r refl h;
      faulty = λ input place section reason size ok f.
          let t = reaches start _ f.rest r f.front in
          ap (reading_on (judge g) start 0) f.whole ∙ t.reads ∙ ap (reading_after (reading_from (judge g) (length f.rest)) (length (spelled f.units)) f.rest)
          (told _ _ f.rest t.mirrors _ reason size (bytes_rest _ f.rest (subst IsBytes f.whole ok)) f.why)
          ∙ ap (λ k. Some (Refused k section reason size)) f.long;
    }

module _ (set : Set) (names : List (List ℕ)) where
  pub units_mirror : Mirrored set names (by_units set names) (λ u s. s ≡ u)
  units_mirror = search arith

  pub units_refuse : Refuses set names (by_units set names) []
  units_refuse = refuses set names _ (due_solid set) (λ u s. s ≡ u) units_mirror [] refl

-- ---- the state that a loader holds mirrors the units so far

long_put : (images : List Image) (o : Option ℕ) (y : Image) → length (put_image images o y) ≡ length images
long_put images None y = refl
long_put images (Some k) y = length-set images k y

put_here : (images : List Image) (o : Option ℕ) (y : Image) (k : ℕ) → o ≡ Some k → k < length images → slice_get (put_image images o y) k ≡ Some y
put_here images o y k e lt = rw e (at_set images k y lt)

module _ (set : Set) where
  abbrev spot_of : List Piece → Spot
  spot_of [] = Before
  spot_of (Magic bytes ∷ u) = Headed
  spot_of (Version v ∷ u) = Free true false
  spot_of (Configuration name ∷ u) = Free false true
  spot_of (Foot id ∷ u) = Free false false
  spot_of (End ∷ u) = Ended
  spot_of u = inside (opened set u) (id_of u) (part set u) (passed set u)

  -- the state after some units
  abbrev pub mirror : List Piece → State
  mirror u = record { machine = machine set u; images = images set u; came = come set u; tail = tail set u; spot = spot_of u }

  -- ---- the images

  record Images (u : List Piece) : Type 0 where
    long : length (images set u) ≡ length set.devices
    here : (k : ℕ) → opened set u ≡ Some k → slice_get (images set u) k ≡ Some (image set u)

  put_on : (u : List Piece) (y : Image) → Images u
      → (length (put_image (images set u) (opened set u) y) ≡ length set.devices) × ((k : ℕ) → opened set u ≡ Some k → slice_get
      (put_image (images set u) (opened set u) y) k ≡ Some y)
  put_on u y r = (
    long_put _ _ y ∙ r.long,
    λ k e. put_here _ _ y k e
        (slice_get_within (images set u) k (image set u) (r.here k e)),
  )

  images_of : (u : List Piece) → Images u
  images_of [] = record { long = length-map set.devices (default_image set); here = λ k e. cc }
  images_of (Head id name instance v ∷ u) =
      let o = device_named set name instance in
      let y = fresh set (at_option set.devices o) v in
      let long = (images_of u).long in
      record {
        long = cc (long_put _ o y);
        here = λ k e.
            let f = found_is set.devices 0 name instance k e in
            put_here _ o y k e (omega (arith, slice_get_within set.devices f.i f.device f.there));
      }
  images_of (Number c kind z ∷ u) = let r = put_on u _ (images_of u) in record { long = r.0; here = r.1 }
  images_of (SubHead name v ∷ u) = let r = put_on u _ (images_of u) in record { long = r.0; here = r.1 }
  images_of (Constant kind z ∷ u) = let r = images_of u in record { long = r.long; here = r.here }
  images_of (Filler bytes ∷ u) = let r = images_of u in record { long = r.long; here = r.here }
  images_of (x ∷ u) = record { long = (images_of u).long; here = λ k e. cc }

  -- ---- the spot

  abbrev IsInside : Due → Type 0
  IsInside (Field k slot) = Unit {0}
  IsInside (AfterFields k tail) = Unit {0}
  IsInside _ = ⊥

  -- what is read off the state is read off the units
  record Reads (u : List Piece) : Type 0 where
    section : open_at (spot_of u) ≡ opened set u
    due_is : due_by set (mirror u) (spot_of u) ≡ due set u
    held : rules_hold (slots_at set (mirror u) (spot_of u)) ≡ holds set u
    known_is : IsInside (due set u) → known_at set (mirror u) ≡ known set u
    to_part : (j : Option ℕ) → onward (spot_of u) (λ p n. j) (λ n. 0) ≡ inside (opened set u) (id_of u) j 0
    next : next_spot set (mirror u) ≡ inside (opened set u) (id_of u) (part set u) (beyond (passed set u) (slots set u))
    put : (step : Image → Image)
        → put_image (images set u) (opened set u) (step (or_none (at_option (images set u) (opened set u)))) ≡ put_image (images set u) (opened set u)
        (step (image set u))

  reads_part : (u : List Piece) (o : Option ℕ) → opened set u ≡ o → spot_of u ≡ inside o (id_of u) (part set u) (passed set u)
      → due set u ≡ due_field (tail set u) o (drop (passed set u) (slots set u)) → Reads u
  reads_part u None e s d = search arith
  reads_part u (Some k) e s d =
      let i = (images_of u).here k e in
      record {
        section = rw (s, e);
        due_is = rw (s, d, i, e);
        held = rw (s, i, e);
        known_is = λ _. rw (s, i, e);
        to_part = λ j. rw (s, e);
        next = rw (s, i, e);
        put = λ step. rw (e, i);
      }

  reads : (u : List Piece) → Reads u
  reads [] = search arith
  reads (Magic bytes ∷ u) = search arith
  reads (Version v ∷ u) = search arith
  reads (Configuration name ∷ u) = search arith
  reads (Foot id ∷ u) = search arith
  reads (End ∷ u) = search arith
  reads (x ∷ u) = reads_part _ _ refl refl refl

  -- ---- the rows

  -- the rows for a unit between sections need only which devices came
  rows_so : (names : List (List ℕ)) (d : Due) (x : Piece) → May d x → (k l : Known) → k.came ≡ l.came → (IsInside d → k ≡ l)
      → first_of set names d k x ≡ first_of set names d l x
  rows_so names d x m k l c f = grind arith

  -- ---- after a unit

  after_is : (u : List Piece) (x : Piece) → after set (mirror u) x ≡ mirror (x ∷ u)
  after_is u (Head id name instance v) = rw (reads u).section
  after_is u (Number c kind z) = rw ((reads u).section, (reads u).put (λ i. record i { numbers = slice_set i.numbers c z }), (reads u).next)
  after_is u (Constant kind z) = rw (reads u).next
  after_is u (Filler bytes) = rw (reads u).next
  after_is u (SubHead name v) =
      rw ((reads u).section, (reads u).to_part (sub_named set u name), (reads u).put (λ i. record i { came = put_version i.came (sub_named set u name) v }))
  after_is u End = rw (reads u).section
  after_is u x = refl

  mirrored : (names : List (List ℕ)) → Mirrored set names (by_state set names) (λ u s. s ≡ mirror u)
  mirrored names = record {
    due_is = λ u s e. rw e (reads u).due_is;
    holds_is = λ u s e. rw e (reads u).held;
    section_is = λ u s e. rw e (reads u).section;
    reason_is = λ u s x e may. rw (e, (reads u).due_is) (rows_so names _ x may _ _ refl (reads u).known_is);
    after_is = λ u s x e held may none. rw e (after_is u x);
  }

  pub solid : (s : State) (p : Spot) → IsSolid (due_by set s p)
  solid s (Inside k id part n) = field_solid s.tail (Some k) (slots_at set s (Inside k id part n))
  solid s p = tt

  pub state_accepts : (names : List (List ℕ)) → Accepts set names (by_state set names) (λ u s. s ≡ mirror u) (at_start set)
  state_accepts names = accepts set names _ (λ s. solid s s.spot) (λ u s. s ≡ mirror u) (mirrored names) _ refl

  pub state_refuses : (names : List (List ℕ)) → Refuses set names (by_state set names) (at_start set)
  state_refuses names = refuses set names _ (λ s. solid s s.spot) (λ u s. s ≡ mirror u) (mirrored names) _ refl
