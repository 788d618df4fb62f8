-- A section, as the judge reads it: its head, and what comes after the fields of a part.
use Rattle.vms_load.proofs.Facade
use Facade.{◌≡◌, ℕ, ◌+◌, ◌<◌, List, length, map, drop, slice_set, Option, Some, None, Bool, true, false, Result, Ok, Err, refl, sym, ap}
use Facade.{◌∙◌, subst, zero, suc, ◌-◌, [], ◌∷◌, get_or, IfSome, arith, map-set, drop_all, slice_get-get_or, slice_get, Set, Device, Sub, Image}
use Facade.{Piece, SubHead, Goes, reading_after, find_device, find_sub, reading_on, set_twice, at_set, judge, ask, judge_seen, State, Free, Inside, after}
use Facade.{by_state, or_none, slots_at, due_by, known_at, Head, Stand, Tail, Refusal, Typed, Unfit, opened_at, section_opened, opened_unless}
use Facade.{reason_against_sub, sub_opened, Onward, Reads, ReadsOn, ReadsBehind, behind, Settles, concerning, state_in, in_fields, after_part, bytes_of}
use Facade.{subs_due, spot_in, all_passed, after_fields, image_at, state_of, LoadFault, Section, Staged, AfterFields, begins_next, rules_hold, Good, seen}
use Facade.{judged_holds, next_holds, seen_holds, device_at, sub_at, AnswersBehind, in_section, tail_of, FrameFault, Open, LONGEST_SUB_HEAD}
use Rattle.vms_load.proofs.HeadLemmas.{device_is, known_sub, sub_below, sub_is, verdict, section_judged, sub_judged}
use Rattle.vms_load.proofs.ReadLemmas.{IsLong, refused_here, unit_fails, unit_settled, unit_of}
use Rattle.vms_spec.specs.Units.{Head as HeadUnit}
use Rattle.vms_stream.specs.{SoFar.Tail as StreamTail, SoFar.Bare as IsBare, State.image_at as open_image}
use Rattle.vms_image.specs.Typed.{state_of as untyped}
use Rattle.vms_load.specs.declared.fault.LoadFault.TheVariants as faults
use Rattle.vms_frames.specs.declared.units.After.TheVariants as afters
use Rattle.vms_frames.specs.declared.units.Tail.TheVariants as tails
use Rattle.vms_frames.specs.declared.fault.FrameFault.TheVariants as frames

pub refusal_is : (r s : Refusal) → faults.Refused r ≡ faults.Refused s → r ≡ s
refusal_is r s e = cc

-- the unit of a head, and its length
abbrev pub head_unit : Head → Piece
head_unit head = HeadUnit head.id head.name.items head.instance head.version

abbrev pub head_long : Head → ℕ
head_long head = 14 + length head.name.items

module _ (set : Set) (names : List (List ℕ)) (staged : Staged) (first configured : Bool) where
  abbrev go : State → Onward
  go = reading_on (judge (by_state set names))

  abbrev state : State
  state = state_of set staged (Free first configured)

  refuses : {X : Type 0} (x : Piece) (n place to : ℕ) (end : Stand) (bytes rest : List ℕ) (left : Option (List ℕ)) (next : X → Onward) (o : Result ℕ Unfit) (e : LoadFault) → Err e ≡ opened_at place o → left ≡ Some (drop n bytes)
      → Reads (behind go place (verdict set names state x n o) to rest) next place end bytes left (Err e)
  refuses x n place to end bytes rest left next o e h is = search (arith, refused_here, refusal_is)

  -- the device has come
  abbrev pub begun : ℕ → State
  begun k = record state { came = slice_set state.came k true }

  -- a device that is opened is begun
  opened_is : (id : ℕ) (name : List ℕ) (instance v k : ℕ) (image : Image) (tail : Tail) → find_device 0 set.devices name instance ≡ Some k → k < length set.devices → image ≡ image_at set k v → tail ≡ staged.tail
      → after set state (HeadUnit id name instance v) ≡ state_in (begun k) (record { device = k; id = id; tail = tail }) image (Inside k id None 0)
  opened_is id name instance v k image tail found below is same = search (arith, slice_get-get_or)

  opens : (x : Piece) (n place k : ℕ) (o : Result ℕ Unfit) → Ok k ≡ opened_at place o → verdict set names state x n o ≡ Goes n (after set state x)
  opens x n place k o e = grind arith

  pub section_long : (head : Head) → length staged.came.items ≡ length set.devices → IsLong (head_long head) (ask set names state (head_unit head) (head_long head))
  section_long head came = grind (arith, section_judged, verdict)

  -- a head that opens no section
  pub section_refused : {X : Type 0} (head : Head) (place : ℕ) (end : Stand) (bytes : List ℕ) (left : Option (List ℕ)) (next : X → Onward) (e : LoadFault) → length staged.came.items ≡ length set.devices
      → Err e ≡ opened_at place (section_opened set staged.came.items head.name.items head.instance head.version) → left ≡ Some (drop (head_long head) bytes)
      → ReadsBehind go (ask set names state (head_unit head) (head_long head)) next place (head_long head) bytes end left (Err e)
  section_refused head place end bytes left next e came h is =
      let n = head_long head in
      subst (λ v. Reads (behind go place v (place + n) (drop n bytes)) next place end bytes left (Err e)) (sym (section_judged set names state head.id head.name.items head.instance head.version n came))
      (refuses (head_unit head) n place (place + n) end bytes (drop n bytes) left next (section_opened set staged.came.items head.name.items head.instance head.version) e h is)

  -- the section of a head that opens one
  pub section_reads : (head : Head) (k place : ℕ) (from end : Stand) (image new : Image) (tail : Tail) (now : Section) (final : State) (old left : Option (List ℕ)) (result : Result (Unit {0}) LoadFault)
      → length staged.came.items ≡ length set.devices → k < length set.devices
      → Ok k ≡ opened_at place (section_opened set staged.came.items head.name.items head.instance head.version) → image ≡ image_at set k head.version → tail ≡ staged.tail
      → state_in (begun k) now new (Free false false) ≡ final
      → ReadsOn (in_fields set names (begun k) (record { device = k; id = head.id; tail = tail }) None image) (λ _. after_part set names (begun k) now new None) from end old left result
      → ReadsOn (behind go place (ask set names state (head_unit head) (head_long head))) (λ _. go final) from end old left result
  section_reads head k place from end image new tail now final old left result came below h is same last r =
      let n = head_long head in
      let o = section_opened set staged.came.items head.name.items head.instance head.version in
      let found = device_is set staged.came.items head.name.items head.instance head.version place k h in
      let begins = section_judged set names state head.id head.name.items head.instance head.version n came ∙ opens (head_unit head) n place k o h
      ∙ ap (λ s. Goes n s) (opened_is head.id head.name.items head.instance head.version k image tail found below is same) in
      rw begins (rw last at r)

-- if the section has ended
abbrev pub ended_in : Option (List ℕ) → List Image → List Bool → StreamTail → State
ended_in machine images came tail = record { machine = machine; images = images; came = came; tail = tail; spot = Free false false }

pub ends_later : (machine named : Option (List ℕ)) (images first : List Typed) (came now : List Bool) (k j : ℕ) (image new : Typed) (tail : StreamTail)
    → named ≡ machine → images ≡ slice_set first k image → now ≡ slice_set came k true → j ≡ k
    → ended_in machine (slice_set (map untyped first) j (untyped new)) (slice_set came k true) tail ≡ ended_in named (map untyped (slice_set images k new)) now tail
ends_later machine named images first came now k j image new tail m i c same = rw (m, i, c, same, set_twice first k image new, map-set untyped first k new)

-- ---- What comes after the fields of a part, as the judge reads it.

module _ (set : Set) (names : List (List ℕ)) (state : State) (section : Section) (part : Option ℕ) (image : Image) (here : section.device < length set.devices) (room : section.device < length state.images) where
  abbrev onward : State → Onward
  onward = reading_on (judge (by_state set names))

  abbrev done : ℕ
  done = all_passed set names state section part image

  abbrev inner : State
  inner = state_in state section image (Inside section.device section.id part done)

  abbrev t : StreamTail
  t = tail_of section.tail

  there : slice_get set.devices section.device ≡ Some (device_at set section.device)
  there = slice_get-get_or set.devices section.device _ here

  image_is : open_image inner ≡ image
  image_is = ap or_none (at_set state.images section.device image room)

  -- no slot is left
  none_left : slots_at set inner (Inside section.device section.id part done) ≡ []
  none_left = grind (arith, device_at, there, image_is, drop_all)

  due_is : due_by set inner (Inside section.device section.id part done) ≡ AfterFields section.device t
  due_is = rw none_left

  held : rules_hold (slots_at set inner (Inside section.device section.id part done)) ≡ true
  held = ap rules_hold none_left

  after_is : (place : ℕ) (rest : List ℕ) → begins_next t rest ≡ false
      → onward inner place rest ≡ reading_after onward place rest (judge_seen (Some section.device) (ask set names inner) rest (seen (AfterFields 0 t) (in_section section.id) rest))
  after_is place rest b =
      unit_of set names inner place rest ∙ ap (reading_after onward place rest) (
      judged_holds set names inner rest held (rw due_is) (rw due_is (b))
      ∙ ap (λ d. judge_seen (Some section.device) (ask set names inner) rest (seen d (known_at set inner) rest)) due_is
      ∙ ap (judge_seen (Some section.device) (ask set names inner) rest) (seen_holds t section.device (known_at set inner) (in_section section.id) rest refl)
      )

  -- after a section without a footer
  abbrev free : State
  free = record { machine = state.machine; images = slice_set state.images section.device image; came = state.came; tail = IsBare; spot = Free false false }

  next_is : (place : ℕ) (rest : List ℕ) → begins_next t rest ≡ true → onward inner place rest ≡ onward free place rest
  next_is place rest b =
      cc (unit_of set names inner place rest, next_holds set names state.machine (slice_set state.images section.device image) state.came section.device section.id part done t rest due_is held b, unit_of set names free place rest)

  pub after_fault : {Y : Type 0} (from to : Stand) (old left : Option (List ℕ)) (next : Y → Onward) (fault : FrameFault) → from.held ≡ None
      → IfSome old (λ rest. AnswersBehind t section.id from.at rest to.held left (Err fault))
      → ReadsOn (after_fields set names state section part image) next from to old left (Err (concerning (Some section.device) fault))
  after_fault from to (Some rest) left next (frames.Refused place reason) before a =
      rw (before, after_is from.at rest a.0)
      (unit_fails onward (Some section.device) (ask set names inner) from.at rest (seen (AfterFields 0 t) (in_section section.id) rest) left next to place reason a.1 a.2)
  after_fault from to _ left next _ before a = tt

  -- a unit after the fields that is judged
  pub after_settled : (from to : Stand) (old left : Option (List ℕ)) (x : Piece) (n : ℕ) (now : Section) (new : Image) (result : Result (Option Open) LoadFault) → from.held ≡ None → to.held ≡ None
      → IfSome old (λ rest. (begins_next t rest ≡ false) × (seen (AfterFields 0 t) (in_section section.id) rest ≡ Good x n) × (left ≡ Some (drop n rest))) → to.at ≡ from.at + n
      → Settles (ask set names inner x n) from.at (λ next. state_in state now new (spot_in now next)) n result
      → ReadsOn (after_fields set names state section part image) (after_part set names state now new) from to old left result
  after_settled from to None left x n now new result before free' a far h = tt
  after_settled from to (Some rest) left x n now new result before free' a far h =
      rw (before, after_is from.at rest a.0)
      (unit_settled onward (Some section.device) (ask set names inner) from.at rest (seen (AfterFields 0 t) (in_section section.id) rest) x n left to
      (λ next. state_in state now new (spot_in now next)) result (a.1, a.2) far free' h)

  -- the section ends at the next unit, whose first byte is held
  pub after_next : (from to : Stand) (old left : Option (List ℕ)) → from.held ≡ None → to.at ≡ from.at
      → IfSome old (λ rest. AnswersBehind t section.id from.at rest to.held left (Ok afters.Next))
      → ReadsOn (after_fields set names state section part image) (after_part set names state (record section { tail = tails.Bare }) image) from to old left (Ok None)
  after_next from to old left before far a = grind (arith, next_is)

  module _ (place : ℕ) (name : List ℕ) (v : ℕ) (long : length image.came ≡ length (device_at set section.device).subs) where
    abbrev n : ℕ
    n = 6 + length name

    abbrev marked : ℕ → Image
    marked j = record image { came = slice_set image.came j (Some v) }

    judged : ask set names inner (SubHead name v) n ≡ verdict set names inner (SubHead name v) n (sub_opened section.device (device_at set section.device) image.came name v)
    judged =
        sub_judged set names inner section.device (device_at set section.device) name v n refl there (rw image_is (long))
        ∙ ap (λ i. verdict set names inner (SubHead name v) n (sub_opened section.device (device_at set section.device) i.came name v)) image_is

    abbrev into : List Image → Option ℕ → State
    into images o = record { machine = state.machine; images = images; came = state.came; tail = t; spot = Inside section.device section.id o 0 }

    after_sub : (j : ℕ) → find_sub 0 (device_at set section.device).subs name ≡ Some j → after set inner (SubHead name v) ≡ state_in state section (marked j) (Inside section.device section.id (Some j) 0)
    after_sub j e = rw (there, e, image_is, set_twice state.images section.device image (marked j))

    sub_ok : (o : Result ℕ Unfit) (j : ℕ) → find_sub 0 (device_at set section.device).subs name ≡ Some j → Ok j ≡ opened_at place o
        → Settles (verdict set names inner (SubHead name v) n o) place (λ next. state_in state section (marked j) (spot_in section next)) n (Ok (Some (record { sub = Some j; version = v })))
    sub_ok (Ok i) j f e = (after_sub j f, refl)
    sub_ok (Err why) j f e = cc

    sub_err : {X : Type 0} (o : Result ℕ Unfit) (e : LoadFault) (next : X → State) → Err e ≡ opened_at place o → Settles (verdict set names inner (SubHead name v) n o) place next n (Err e)
    sub_err o e next h = search (arith, refusal_is)

    -- a subsection that is opened, or not
    pub sub_settled : (j : ℕ) → Ok j ≡ opened_at place (sub_opened section.device (device_at set section.device) image.came name v)
        → Settles (ask set names inner (SubHead name v) n) place (λ next. state_in state section (marked j) (spot_in section next)) n (Ok (Some (record { sub = Some j; version = v })))
    sub_settled j e =
        rw judged (sub_ok (sub_opened section.device (device_at set section.device) image.came name v) j (sub_is section.device (device_at set section.device) image.came name v place j long e) e)

    pub sub_refused : {X : Type 0} (e : LoadFault) (next : X → State) → Err e ≡ opened_at place (sub_opened section.device (device_at set section.device) image.came name v)
        → Settles (ask set names inner (SubHead name v) n) place next n (Err e)
    sub_refused e next h = rw judged (sub_err (sub_opened section.device (device_at set section.device) image.came name v) e next h)

-- ---- a subsection that is opened hasn't come

unless_came : (k j : ℕ) (s : Sub) (came : Option ℕ) (v place : ℕ) → Ok j ≡ opened_at place (opened_unless (Some k) j (reason_against_sub s came v)) → came ≡ None
unless_came k j s came v place e = grind arith

pub sub_new : (k : ℕ) (d : Device) (came : List (Option ℕ)) (name : List ℕ) (v j place : ℕ) → length came ≡ length d.subs → Ok j ≡ opened_at place (sub_opened k d came name v)
    → (j < length d.subs) × (slice_get came j ≡ Some None)
sub_new k d came name v j place long e = grind (arith, sub_is, sub_below, unless_came, sub_at, known_sub, slice_get-get_or)

pub subs_taken : (set : Set) (subs : List Sub) (came : List (Option ℕ)) (j v : ℕ) (none : Sub) → length came ≡ length subs → slice_get came j ≡ Some None
    → subs_due set subs (slice_set came j (Some v)) + (LONGEST_SUB_HEAD + bytes_of set (get_or subs j none).desc) ≡ subs_due set subs came
subs_taken set [] (o ∷ came) j v none long e = absurd (omega arith)
subs_taken set (s ∷ subs) (None ∷ came) zero v none long e = omega arith
subs_taken set (s ∷ subs) (None ∷ came) (suc j) v none long e = omega (arith, subs_taken set subs came j v none (omega arith) e)
subs_taken set (s ∷ subs) (Some w ∷ came) (suc j) v none long e = subs_taken set subs came j v none (omega arith) e
subs_taken set _ _ _ v none long e = cc
