-- One unit that is read, and what it means that no row of the table takes it.
use Rattle.vms_stream.proofs.{Judging.solid, Finding.only, Finding.Shows, Finding.shows, Finding.advances}
use Rattle.vms_stream.proofs.Facade
use Facade.{◌≡◌, ℕ, zero, suc, ◌<◌, List, ◌∷◌, length, Option, Some, None, refl, ap, arith, Bool, true, false, not, [], slice_get, bytes_eq}
use Facade.{le-ltb, eq-eqb, bytes_eq-Decides, Reason, at_option, position, Set, Device, Sub, IsVersionOf, magic, is_one_of, Piece, Magic, Version}
use Facade.{Configuration, Head, SubHead, Foot, End, Start, Mark, subs_of, device_named, found_is, sub_is, find_sub, Known, Due, first_of, is_between}
use Facade.{wants_foot, is_after_end, test_some, is_none, open_at, known_at, after, by_state, ◌⊎◌, inl, inr, ◌+◌, ◌≤◌, ◌++◌, slice_set, sym}
use Facade.{◌∙◌, if◌then◌else◌, slice_get_within, IsBytes, LONGEST_NAME, default_image, section_head, configuration, Verdict, Faulty, Over}
use Facade.{Accepted, reading_after, spell, reading_on, Advances, one_unit, unit_read, Footed, behind, Between, May, AtConfiguration, AtLongName, AtStart}
use Facade.{AtHead, AtEnd, AtMark, cut_in, Found, Whole, Cut, unit_at, Grammar, judge, judge_found, by_row, owes, IsThere, State, Free, Inside, Ended}
use Rattle.vms_spec.specs.Lookup.{find_device}
use Rattle.vms_spec.specs.declared.Reason.TheVariants as reasons

-- ---- what it means for a unit that no row of the table takes it. Each proof searches the unit's rows, whichever they are.

abbrev pub Line : Type 0
Line = Option (Option ℕ × Reason)

-- the element at a number, and what holds of it
pub record At {X : Type 0} (xs : List X) (k : ℕ) (P : X → Type 0) : Type 0 where
  pub item : X
  pub there : slice_get xs k ≡ Some item
  pub is : P item

device_at : (devices : List Device) (name : List ℕ) (instance k : ℕ) → find_device 0 devices name instance ≡ Some k
    → At devices k (λ (d : Device). (d.desc.name ≡ name) × (d.instance ≡ instance))
device_at devices name instance k e =
    let f = found_is devices 0 name instance k e in
    let same : f.i ≡ k = omega arith in
    record { item = f.device; there = rw same at f.there; is = ((bytes_eq-Decides _ name).0 f.name_is, f.instance_is) }

sub_at : (subs : List Sub) (name : List ℕ) (k : ℕ) → find_sub 0 subs name ≡ Some k → At subs k (λ (s : Sub). s.desc.name ≡ name)
sub_at subs name k e =
    let f = sub_is subs 0 name k e in
    let same : f.i ≡ k = omega arith in
    record { item = f.sub; there = rw same at f.there; is = (bytes_eq-Decides _ name).0 f.name_is }

module _ (set : Set) (names : List (List ℕ)) (d : Due) (so_far : Known) where
  abbrev row_of : Piece → Line
  row_of x = first_of set names d so_far x

  pub magic_is : (bytes : List ℕ) → row_of (Magic bytes) ≡ None → bytes ≡ magic
  magic_is bytes e = (bytes_eq-Decides bytes magic).0 (grind arith)

  pub version_is_3 : (v : ℕ) → row_of (Version v) ≡ None → v ≡ 3
  version_is_3 v e = grind arith

  pub name_is_one : (name : List ℕ) → row_of (Configuration name) ≡ None → is_one_of names name ≡ true
  name_is_one name e = grind arith

  pub start_never : (id : ℕ) (name : List ℕ) → row_of (Start id name) ≡ None → ⊥
  start_never id name e = grind arith

  pub end_is : row_of End ≡ None → position not 0 so_far.came ≡ None
  end_is e = grind arith

  pub end_passes : position not 0 so_far.came ≡ None → row_of End ≡ None
  end_passes e = rw e

  pub foot_is : (id : ℕ) → row_of (Foot id) ≡ None → id ≡ so_far.id
  foot_is id e = grind arith

  pub foot_passes : (id : ℕ) → id ≡ so_far.id → row_of (Foot id) ≡ None
  foot_passes id e = rw (eq-eqb id so_far.id e)

  -- ---- marks that begin nothing

  pub mark_never : (b : ℕ) → is_between d ≡ true → row_of (Mark b) ≡ None → ⊥
  mark_never b s e = let f = rw s at e in grind arith

  pub foot_mark_never : (b : ℕ) → wants_foot d ≡ true → row_of (Mark b) ≡ None → ⊥
  foot_mark_never b w e = let f = rw w at e in grind arith

  pub trailing_never : (b : ℕ) → is_after_end d ≡ true → row_of (Mark b) ≡ None → ⊥
  trailing_never b l e = let f = rw l at e in grind arith

  -- ---- heads

  -- a section head that no row takes: of a device that has not come, at a version of its description
  pub record HeadIs (name : List ℕ) (instance v : ℕ) : Type 0 where
    pub k : ℕ
    pub named : device_named set name instance ≡ Some k
    pub found : At set.devices k (λ (d : Device). (d.desc.name ≡ name) × (d.instance ≡ instance))
    pub new : test_some (λ (b : Bool). b) (slice_get so_far.came k) ≡ false
    pub version : IsVersionOf found.item.desc v

  pub head_is : (id : ℕ) (name : List ℕ) (instance v : ℕ) → row_of (Head id name instance v) ≡ None → HeadIs name instance v
  head_is id name instance v e = by (device_named set name instance) refl
    where
      by : (o : Option ℕ) → device_named set name instance ≡ o → HeadIs name instance v
      by None n = let f = rw n at e in cc
      by (Some j) n =
          let found = device_at _ name _ j n in
          let free = rw found.there at (rw n at e) in
          record { k = j; named = n; found = found; new = grind arith; version = (grind arith, grind arith) }

  pub head_passes : (id : ℕ) (name : List ℕ) (instance v k : ℕ) (device : Device) → device_named set name instance ≡ Some k
      → slice_get set.devices k ≡ Some device → slice_get so_far.came k ≡ Some false → IsVersionOf device.desc v → row_of (Head id name instance v) ≡ None
  head_passes id name instance v k device named there new version = grind arith

  -- a subsection head that no row takes: of a subsection that has not come, at a version of its description
  pub record SubIs (subs : List Sub) (came : List (Option ℕ)) (name : List ℕ) (v : ℕ) : Type 0 where
    pub j : ℕ
    pub named : position (λ (s : Sub). bytes_eq s.desc.name name) 0 subs ≡ Some j
    pub found : At subs j (λ (s : Sub). s.desc.name ≡ name)
    pub new : test_some (λ (o : Option ℕ). not (is_none o)) (slice_get came j) ≡ false
    pub version : IsVersionOf found.item.desc v

  pub sub_is_one : (subs : List Sub) (name : List ℕ) (v : ℕ) → subs_of (at_option set.devices so_far.section) ≡ subs → row_of (SubHead name v) ≡ None
      → SubIs subs so_far.image.came name v
  sub_is_one subs name v is e = by (position (λ (s : Sub). bytes_eq s.desc.name name) 0 subs) refl
    where
      by : (o : Option ℕ) → position (λ (s : Sub). bytes_eq s.desc.name name) 0 subs ≡ o → SubIs subs so_far.image.came name v
      by None n = let f = rw (is, n) at e in cc
      by (Some j) n =
          let found = sub_at subs name j n in
          let free = rw (is, n, found.there) at e in
          record { j = j; named = n; found = found; new = grind arith; version = (grind arith, grind arith) }

  pub sub_passes : (subs : List Sub) (name : List ℕ) (v j : ℕ) (sub : Sub) → subs_of (at_option set.devices so_far.section) ≡ subs
      → position (λ (s : Sub). bytes_eq s.desc.name name) 0 subs ≡ Some j → slice_get subs j ≡ Some sub → slice_get so_far.image.came j ≡ Some None
      → IsVersionOf sub.desc v → row_of (SubHead name v) ≡ None
  sub_passes subs name v j sub is named there new version = rw (is, named, there, le-ltb sub.desc.version v version.1, le-ltb v sub.desc.minimum version.0, new)

-- what hasn't come, of all that there are
pub false_from : (came : List Bool) (k : ℕ) → k < length came → test_some (λ (b : Bool). b) (slice_get came k) ≡ false → slice_get came k ≡ Some false
false_from [] k lt e = absurd (omega arith)
false_from (b ∷ came) zero lt e = ap Some e
false_from (b ∷ came) (suc k) lt e = false_from came k (omega arith) e

-- the same for subsections
pub none_from : (came : List (Option ℕ)) (j : ℕ) → j < length came → test_some (λ (o : Option ℕ). not (is_none o)) (slice_get came j) ≡ false
    → slice_get came j ≡ Some None
none_from [] j lt e = absurd (omega arith)
none_from (None ∷ came) zero lt e = refl
none_from (Some v ∷ came) zero lt e = cc
none_from (o ∷ came) (suc j) lt e = none_from came j (omega arith) e

-- ---- one unit that is read, and one unit of an accepted reading: in any state, and between sections

module _ (set : Set) (names : List (List ℕ)) where
  abbrev pub g : Grammar State
  g = by_state set names

  forward : Advances (judge (by_state set names))
  forward = advances (by_state set names) (λ s. solid set s s.spot)

  -- a unit that may come and that no row takes is read
  pub unit_on : (s : State) (x : Piece) (place : ℕ) (more : List ℕ) → g.holds s ≡ true → May (g.due s) x → g.reason s x ≡ None
      → reading_on (judge (by_state set names)) s place (spell x ++ more) ≡ reading_on (judge (by_state set names)) (after set s x)
      (place + length (spell x)) more
  unit_on s x place more held may none = unit_read _ forward s _ place _ more (rw (held, only (g.due s) x more may) (rw none))

-- what is read of what, and how that ends
pub record Run : Type 0 where
  pub set : Set
  pub names : List (List ℕ)
  pub taken : ℕ
  pub end : State

-- from s on, the rest is accepted
pub record Goes (r : Run) (s : State) (place : ℕ) (rest : List ℕ) : Type 0 where
  pub is : reading_on (judge (by_state r.set r.names)) s place rest ≡ Some (Accepted r.taken r.end)

-- an accepted reading goes on by a unit
pub record Steps (r : Run) (s : State) (place : ℕ) (rest : List ℕ) : Type 0 where
  pub unit : Piece
  pub more : List ℕ
  pub may : May ((g r.set r.names).due s) unit
  pub there : rest ≡ spell unit ++ more
  pub none : (g r.set r.names).reason s unit ≡ None
  pub goes : Goes r (after r.set s unit) (place + length (spell unit)) more

-- or ends
pub record Stops (r : Run) (s : State) (place : ℕ) (rest : List ℕ) : Type 0 where
  pub over : owes ((g r.set r.names).due s) rest ≡ false
  pub place_is : place ≡ r.taken
  pub end_is : s ≡ r.end

module _ {r : Run} {s : State} {place : ℕ} {rest : List ℕ} (ok : IsBytes rest) (h : Goes r s place rest) where
  abbrev gr : Grammar State
  gr = g r.set r.names

  abbrev Then : Verdict State → Type 0
  Then v = reading_after (reading_on (judge gr)) place rest v ≡ Some (Accepted r.taken r.end)

  by_row_of : (x : Piece) (m : ℕ) → IsThere (gr.due s) rest x m → (o : Option (Option ℕ × Reason)) → gr.reason s x ≡ o
      → Then (by_row gr o m (after r.set s x)) → Steps r s place rest
  by_row_of x m w None e h = search arith
  by_row_of x m w (Some (section, reason)) e h = cc

  by_owes : (b : Bool) → owes (gr.due s) rest ≡ b
      → Then (if b then Faulty (cut_in (gr.due s) rest (gr.section s)) reasons.Truncated (length rest) else Over s) → Stops r s place rest
  by_owes b e h = grind (arith, end_is)

  by_found : (f : Found) → Shows (gr.due s) rest f → Then (judge_found gr s rest f) → Steps r s place rest ⊎ Stops r s place rest
  by_found (Whole x m) w h = inl (by_row_of x m w _ refl h)
  by_found Cut w h = inr (by_owes (owes (gr.due s) rest) refl h)

  by_holds : (b : Bool) → Then (if b then judge_found gr s rest (unit_at (gr.due s) rest) else Faulty (gr.section s) reasons.Invalid 0)
      → Steps r s place rest ⊎ Stops r s place rest
  by_holds b h = grind (arith, by_found, unit_at, shows)

  pub next : Steps r s place rest ⊎ Stops r s place rest
  next = by_holds (gr.holds s) (sym (one_unit _ (forward r.set _) s place rest) ∙ h.is)

  -- if a unit must come, it goes on by one
  pub steps : owes (gr.due s) rest ≡ true → Steps r s place rest
  steps o = elim next [
    | inl t ↦ t
    | inr t ↦ absurd (let f = t.over in cc)
  ]

-- ---- between sections

-- device k's section is open at a version
abbrev pub opened : Set → State → ℕ → ℕ → Device → ℕ → State
opened set s k id d v =
    record s { images = slice_set s.images k (record (default_image set d) { version = v }); came = slice_set s.came k true; spot = Inside k id None 0 }

-- a section ends before the next unit, if one is open
abbrev pub settled : Set → State → State
settled set s = record s { tail = behind set (open_at s.spot) s.tail; spot = Free false false }

-- a unit between sections: the end mark, a section head, or, directly after the stream head, a configuration
pub data Opening (r : Run) (first : Bool) (s : State) (place : ℕ) (rest : List ℕ) : Type 0 where
  Closes : (more : List ℕ) → rest ≡ 0x00 ∷ more → position not 0 s.came ≡ None → Goes r (record s { spot = Ended }) (place + 1) more
      → Opening r first s place rest
  Opens : (k id v : ℕ) (d : Device) (more : List ℕ) → id < 4294967296 → rest ≡ section_head id d.desc.name d.instance v ++ more
      → slice_get r.set.devices k ≡ Some d → slice_get s.came k ≡ Some false → IsVersionOf d.desc v
      → Goes r (opened r.set s k id d v) (place + length (section_head id d.desc.name d.instance v)) more → Opening r first s place rest
  Names : (name more : List ℕ) → first ≡ true → rest ≡ configuration name ++ more → is_one_of r.names name ≡ true → length name ≤ LONGEST_NAME
      → Goes r (record s { machine = Some name; tail = Footed; spot = Free false true }) (place + length (configuration name)) more
      → Opening r first s place rest

-- the state after a section head
pub head_after : (set : Set) (s : State) (id : ℕ) (name : List ℕ) (instance v k : ℕ) (d : Device) → device_named set name instance ≡ Some k
    → slice_get set.devices k ≡ Some d → after set s (Head id name instance v) ≡ opened set (settled set s) k id d v
head_after set s id name instance v k d named there = rw (named, there)

-- by the unit that is there
pub opening : {r : Run} (first c : Bool) (d : Due) (s : State) {place : ℕ} {rest more : List ℕ} → length s.came ≡ length r.set.devices → is_between d ≡ true
    → (x : Piece) → May (Between first c) x → first_of r.set r.names d (known_at r.set s) x ≡ None → rest ≡ spell x ++ more
    → Goes r (after r.set s x) (place + length (spell x)) more → Opening r first (settled r.set s) place rest
opening {r} _ c d s long b _ (AtConfiguration _ name le) none there goes =
    Names name _ refl there (name_is_one r.set _ d (known_at r.set s) name none) le goes
opening _ c d s long b _ (AtLongName _ size lt f) none there goes = cc
opening {r} _ _ d s long b _ (AtStart first c id name f) none there goes = absurd (start_never r.set r.names d (known_at r.set s) id name none)
opening {r} _ _ d s long b _ (AtMark first c m e) none there goes = absurd (mark_never r.set r.names d (known_at r.set s) m b none)
opening {r} _ _ d s long b _ (AtEnd first c) none there goes = Closes _ there (end_is r.set r.names d (known_at r.set s) none) goes
opening {r} _ _ d s {more = more} long b _ (AtHead first c id name instance v f g i) none there goes =
    let h = head_is r.set r.names d (known_at r.set s) id name _ v none in
    let d = h.found in
    let lt : h.k < length r.set.devices = slice_get_within r.set.devices h.k d.item d.there in
    Opens h.k id v d.item more f (rw (d.is.0, d.is.1) there) d.there (false_from s.came h.k (omega arith) h.new) h.version
    (rw (d.is.0, d.is.1, ← head_after r.set s id name instance v h.k d.item h.named d.there) goes)

pub free_opens : {r : Run} {s : State} (first c : Bool) {place : ℕ} {rest : List ℕ} → s.spot ≡ Free first c → IsBytes rest
    → length s.came ≡ length r.set.devices → Goes r s place rest → Opening r first (record s { spot = Free false false }) place rest
free_opens {r} {s} first c e ok long h =
    let s1 : State = record s { spot = Free first c } in
    let u = steps {s = s1} ok (rw (← e) h) refl in
    opening first c (Between first c) s1 long refl u.unit u.may u.none u.there u.goes
