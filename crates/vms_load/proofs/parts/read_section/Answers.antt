use Rattle.vms_load.proofs.{parts.read_section.Given.Over, parts.read_section.Goals.After-read_fields, parts.read_section.Goals.After-read_after_fields}
use Rattle.vms_load.proofs.Facade
use Facade.{rules, ◌≡◌, ℕ, List, ◌+◌, ◌<◌, ◌≤◌, Option, Some, None, length, ap, ◌∙◌, arith, Result, Set, State, Device, GoesOn}
use Facade.{Intake, LoadFault, Section, Typed, intake, Stand, described, device_at, Open, Onward, reach, IsMoved, part_due, subs_due, bytes_of_part, in_fields}
use Facade.{after_fields, after_part, section_due, FOOT_LENGTH, LONGEST_SUB_HEAD, LONGEST_HEAD}
use Rattle.vms_load.proofs.ReadLemmas.{err_is, goes_here, goes_on, goes_still}
use Rattle.vms_desc.specs.declared.set.DescSet.{DescSet}
use Rattle.vms_image.specs.Typed.{state_of as untyped}
use Rattle.vms_load.proofs.parts.read_section.Goals as goal

pub loop-next-init : goal.loop-next-init
loop-next-init g c = search (rules, goes_here, g.met.S.Source.counted)

pub read_fields-requires : goal.read_fields-requires
read_fields-requires g c = search rules

pub read_after_fields-requires : goal.read_after_fields-requires
read_after_fields-requires g c = search rules

-- what has been read of the section from its first part on
abbrev Goes : {X : Type 0} (set : DescSet) (section : Section) (image : Typed) (names : List (List ℕ)) (state : State) (from : Stand) (a b : Intake) (next : X → Onward) (to : Stand) (result : Result X LoadFault) → Type 0
Goes set section image names state from a b next to result = GoesOn a b (section_due set section image + LONGEST_HEAD) (in_fields (described set) names state section None (untyped image)) next from to result

-- once the fields of a part were read, or refused
on_fields : (g : Over) (c : After-read_fields g) (names : List (List ℕ)) (state : State) → c.args.section.now.device < length state.images
    → Goes c.args.set.now c.args.section.now c.args.image.now names state c.args.cursor.now (intake g.S.Source c.args.source.now) (intake g.S.Source c.read_fields.new.source)
    (λ _. after_fields (described c.args.set.now) names state c.loop-next.section c.in-Some.part.sub (untyped c.read_fields.new.image)) c.read_fields.new.cursor c.read_fields.result
on_fields g c names state room =
    let set = described c.args.set.now in
    let loop = c.loop-next in
    let d = device_at set loop.section.device in
    let bytes = bytes_of_part set d c.in-Some.part.sub in
    let same = loop.invariant.same in
    let inside : loop.section.device < length state.images = omega arith in
    goes_on bytes _ bytes (λ _. 0) (in_fields set names state c.args.section.now None (untyped c.args.image.now)) (after_part set names state loop.section (untyped loop.image) (Some c.in-Some.part))
    (λ _. after_fields set names state loop.section c.in-Some.part.sub (untyped c.read_fields.new.image)) c.args.cursor.now loop.cursor c.read_fields.new.cursor c.read_fields.result
    loop.invariant.from loop.invariant.onward c.read_fields.ensures.moves (omega (arith, ap (λ o. part_due set d loop.image.came o) c.in-Some.is)) (rw c.in-Some.is at (loop.invariant.reads names state room)) (c.read_fields.ensures.reads names state inside)

-- once what follows them was read, or refused
on_after : (g : Over) (c : After-read_after_fields g) (names : List (List ℕ)) (state : State) → c.args.section.now.device < length state.images
    → Goes c.args.set.now c.args.section.now c.args.image.now names state c.args.cursor.now (intake g.S.Source c.args.source.now) (intake g.S.Source c.read_fields.new.source)
    (λ _. after_fields (described c.args.set.now) names state c.loop-next.section c.in-Some.part.sub (untyped c.read_fields.new.image)) c.read_fields.new.cursor c.read_fields.result
    → Goes c.args.set.now c.args.section.now c.args.image.now names state c.args.cursor.now (intake g.S.Source c.args.source.now) (intake g.S.Source c.read_after_fields.new.source)
    (after_part (described c.args.set.now) names state c.read_after_fields.new.section (untyped c.read_after_fields.new.image)) c.read_after_fields.new.cursor c.read_after_fields.result
on_after g c names state room on =
    let set = described c.args.set.now in
    let loop = c.loop-next in
    let d = device_at set loop.section.device in
    let one = c.in_ok-read_fields.ensures.moves in
    let same = loop.invariant.same in
    let inside : loop.section.device < length state.images = omega arith in
    goes_on LONGEST_SUB_HEAD _ (subs_due set d.subs c.read_fields.new.image.came + FOOT_LENGTH) (part_due set d c.read_after_fields.new.image.came) (in_fields set names state c.args.section.now None (untyped c.args.image.now))
    (after_fields set names state loop.section c.in-Some.part.sub (untyped c.read_fields.new.image)) (after_part set names state c.read_after_fields.new.section (untyped c.read_after_fields.new.image))
    c.args.cursor.now c.read_fields.new.cursor c.read_after_fields.new.cursor c.read_after_fields.result (omega arith) (omega arith) c.read_after_fields.ensures.moves (omega (arith, ap (λ o. part_due set d loop.image.came o) c.in-Some.is))
    (rw c.in_ok-read_fields.was at on) (c.read_after_fields.ensures.reads names state c.in-Some.part.sub inside)

pub loop-next-preserved : goal.loop-next-preserved
loop-next-preserved g c =
    let set = described c.args.set.now in
    let loop = c.loop-next in
    let section = loop.section in
    let d = device_at set section.device in
    let same = loop.invariant.same in
    let still = c.in_ok-next.ensures.section in
    let due = ap (λ o. part_due set d loop.image.came o) c.in-Some.is in
    let kept = ap (λ image. subs_due set d.subs image.came) c.in_ok-read_fields.ensures.image.kept in
    let later = ap (λ k. part_due set (device_at set k) c.read_after_fields.new.image.came c.in_ok-next.next) still.0 in
    let one = c.in_ok-read_fields.ensures.moves in
    let two = c.in_ok-next.ensures.moves in
    record {
      same = (still.0 ∙ same.0, still.1 ∙ same.1);
      held = c.in_ok-next.ensures.next.held;
      reads = λ names state room.
          let at = goal.at.loop-next-preserved g c in
          rw c.in_ok-next.was at (on_after g at.After-read_after_fields names state room (on_fields g at.After-read_fields names state room));
      next_is = rw still.0 c.in_ok-next.ensures.next.opens;
      shaped = rw still.0 c.in_ok-next.ensures.shaped;
      from = omega arith;
      onward = omega arith;
      place = omega arith;
    }

pub returns-in_err-read_fields : goal.returns-in_err-read_fields
returns-in_err-read_fields g c =
    let set = described c.args.set.now in
    let end = c.read_fields.new.cursor in
    rw (err_is _ _ c.from_residual.ensures.1) (record {
      reads = λ names state room.
          let next : Unit {0} → Onward = λ x. after_fields set names state c.loop-next.section c.in-Some.part.sub (untyped c.read_fields.new.image) in
          (goes_still (Unit {0}) (Unit {0}) _ (in_fields set names state c.args.section.now None (untyped c.args.image.now)) next (λ x. after_part set names state c.loop-next.section (untyped c.read_fields.new.image) None) c.args.cursor.now end end
          c.in_err-read_fields.field-0.0 (rw c.in_err-read_fields.was at (on_fields g (goal.at.returns-in_err-read_fields g c).After-read_fields names state room)));
      section = search rules;
      moves = tt;
      shaped = search rules;
    })

pub returns-in_err-next : goal.returns-in_err-next
returns-in_err-next g c =
    let at = goal.at.returns-in_err-next g c in
    let end = c.read_after_fields.new.cursor in
    rw (err_is _ _ c.from_residual-in_err-next.ensures.1) (record {
      reads = λ names state room.
          let next = after_part (described c.args.set.now) names state c.read_after_fields.new.section (untyped c.read_after_fields.new.image) in
          (goes_still (Option Open) (Unit {0}) _ (in_fields (described c.args.set.now) names state c.args.section.now None (untyped c.args.image.now)) next (λ x. next None) c.args.cursor.now end end
          c.in_err-next.field-0.0 (rw c.in_err-next.was at (on_after g at.After-read_after_fields names state room (on_fields g at.After-read_fields names state room))));
      section = search rules;
      moves = tt;
      shaped = search rules;
    })

-- less is due with each part
less : (set : Set) (d : Device) (came : List (Option ℕ)) (next : Option Open) (from to : Stand) (most : ℕ) → from.held ≡ None → IsMoved from to next → reach to + part_due set d came next ≤ reach from + most → 0 < most
    → part_due set d came next < most
less set d came next from to most free moved h some = search rules

pub loop-next-smaller : goal.loop-next-smaller
loop-next-smaller g c = search (rules, less)

pub returns : goal.returns
returns g c = record {
  reads = λ names state room. rw c.in_default.is at (c.loop-next.invariant.reads names state room);
  section = c.loop-next.invariant.same;
  moves = search rules;
  shaped = search rules;
}
