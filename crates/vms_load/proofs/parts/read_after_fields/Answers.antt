use Rattle.vms_load.proofs.{ReadLemmas.goes_refused, ReadLemmas.same_course}
use Rattle.vms_load.proofs.AfterReads.{after_fault, after_settled, after_next, sub_settled, sub_refused, sub_new, subs_taken}
use Rattle.vms_load.proofs.Facade
use Facade.{rules, refl, ◌≡◌, ℕ, ◌+◌, List, Option, Some, None, Result, Ok, Err, length, slice_set, sym, subst, ap, ◌∙◌, arith, Reason}
use Facade.{Device, AtLeast, no_desc, described, at_set, device_at, held_long, SubHead, Foot, opened_at, sub_opened, intake, reads_as, GoesOn, subs_due}
use Facade.{after_fields, after_part, state_in, spot_in, LoadFault, Open, Typed, LONGEST_SUB_HEAD, few_subs}
use Rattle.vms_load.specs.{Heads.in_section, declared.fault.LoadFault.TheVariants.Refused}
use Rattle.vms_image.specs.Typed.{state_of as untyped}
use Rattle.vms_frames.specs.declared.units.Tail.TheVariants as tails
use Rattle.vms_load.proofs.parts.read_after_fields.Goals as goal

-- what a subsection head opens, as the call returns it
opened : (k place : ℕ) (came : List (Option ℕ)) (name : List ℕ) (v : ℕ) (d there : Device) (result is : Result ℕ Reason) → there ≡ d → in_section k result ≡ sub_opened k there came name v → result ≡ is
    → opened_at place (in_section k is) ≡ opened_at place (sub_opened k d came name v)
opened k place came name v d there result is same e r = cc

pub open_sub-requires : goal.open_sub-requires
open_sub-requires g c =
    let same = ap (λ d. length d.subs) c.device.ensures in
    let few = few_subs (described c.args.set.now) c.args.set.now.well_formed c.args.section.now.device c.requires.image.device in
    record { long = omega (arith, c.requires.image.shaped.subs, same); few = omega (arith, few, same) }

pub returns-in-Ok-Done : goal.returns-in-Ok-Done
returns-in-Ok-Done g c =
    let set = described c.args.set.now in
    let section = c.args.section.now in
    let came = rw c.in-Ok-Done.field-0-is at c.in-Ok-Done.ensures in
    record {
      reads = λ names state part room.
          reads_as (λ n l. omega (arith, ap held_long came.held, ap held_long c.requires.cursor.held))
          (λ rest left h. after_settled set names state section part (untyped c.args.image.now) c.requires.image.device room c.args.cursor.now c.after_fields.new.self
          (Some rest) (Some left) (Foot section.id) 5 (record section { tail = tails.Footed }) (untyped c.args.image.now) (Ok None)
          c.requires.cursor.held came.held h came.place (refl, refl)) came.reads;
      section = (refl, refl);
      next = record { moved = omega arith; held = tt; opens = tt };
      moves = search rules;
      shaped = c.requires.image.shaped;
    }

pub returns-in-Ok-Next : goal.returns-in-Ok-Next
returns-in-Ok-Next g c =
    let came = rw c.in-Ok-Next.field-0-is at c.in-Ok-Next.ensures in
    let before = ap held_long c.requires.cursor.held in
    let now = ap held_long came.held.1 in
    record {
      reads = λ names state part room.
          reads_as (λ n l. omega arith)
          (λ rest left h. after_next (described c.args.set.now) names state c.args.section.now part (untyped c.args.image.now) c.requires.image.device room c.args.cursor.now c.after_fields.new.self
          (Some rest) (Some left) c.requires.cursor.held (omega arith) h) came.reads;
      section = (refl, refl);
      next = record { moved = omega arith; held = tt; opens = tt };
      moves = search rules;
      shaped = c.requires.image.shaped;
    }

pub returns-in-Err-open_sub : goal.returns-in-Err-open_sub
returns-in-Err-open_sub g c =
    let set = described c.args.set.now in
    let name = c.in-Ok-Sub.name.items in
    let came = rw c.in-Ok-Sub.field-0-is at c.in-Ok-Sub.ensures in
    let e : LoadFault = Refused (record { section = Some c.args.section.now.device; at = c.at-at.result; reason = c.in-Err-open_sub.reason }) in
    let is = opened c.args.section.now.device c.at-at.result c.args.image.now.came name c.in-Ok-Sub.version _ _ c.open_sub.result (Err c.in-Err-open_sub.reason) c.device.ensures (c.open_sub.ensures.opened c.args.section.now.device) c.in-Err-open_sub.is
    ∙ ap (λ n. opened_at n (sub_opened c.args.section.now.device (device_at set c.args.section.now.device) c.args.image.now.came name c.in-Ok-Sub.version)) c.at-at.ensures in
    record {
      reads = λ names state part room.
          rw c.refused.ensures
          (goes_refused e tt (reads_as (λ n l. omega arith)
          (λ rest left h. after_settled set names state c.args.section.now part (untyped c.args.image.now) c.requires.image.device room c.args.cursor.now c.after_fields.new.self
          (Some rest) (Some left) (SubHead name c.in-Ok-Sub.version) (6 + length name) c.args.section.now (untyped c.args.image.now) (Err e) c.requires.cursor.held came.held h came.place
          (sub_refused set names state c.args.section.now part (untyped c.args.image.now) c.requires.image.device room c.args.cursor.now.at name c.in-Ok-Sub.version c.requires.image.shaped.subs e
          (λ next. state_in state c.args.section.now (untyped c.args.image.now) (spot_in c.args.section.now next)) is)) came.reads));
      section = (refl, refl);
      next = tt;
      moves = tt;
      shaped = c.requires.image.shaped;
    }

pub mark-requires : goal.mark-requires
mark-requires g c =
    let set = described c.args.set.now in
    let is = opened c.args.section.now.device c.at-at.result c.args.image.now.came c.in-Ok-Sub.name.items c.in-Ok-Sub.version _ _ c.open_sub.result (Ok c.in-Ok.sub) c.device.ensures (c.open_sub.ensures.opened c.args.section.now.device) c.in-Ok.is in
    let new = sub_new c.args.section.now.device (device_at set c.args.section.now.device) c.args.image.now.came c.in-Ok-Sub.name.items c.in-Ok-Sub.version c.in-Ok.sub c.at-at.result c.requires.image.shaped.subs is in
    omega arith

pub returns-in-Ok : goal.returns-in-Ok
returns-in-Ok g c =
    let set = described c.args.set.now in
    let d = device_at set c.args.section.now.device in
    let name = c.in-Ok-Sub.name.items in
    let j = c.in-Ok.sub in
    let v = c.in-Ok-Sub.version in
    let came = rw c.in-Ok-Sub.field-0-is at c.in-Ok-Sub.ensures in
    let opens = opened c.args.section.now.device c.at-at.result c.args.image.now.came name v _ _ c.open_sub.result (Ok c.in-Ok.sub) c.device.ensures (c.open_sub.ensures.opened c.args.section.now.device) c.in-Ok.is in
    let is = opens ∙ ap (λ n. opened_at n (sub_opened c.args.section.now.device d c.args.image.now.came name v)) c.at-at.ensures in
    let new = sub_new c.args.section.now.device d c.args.image.now.came name v j c.at-at.result c.requires.image.shaped.subs opens in
    let due = subs_taken set d.subs c.args.image.now.came j v (record { desc = no_desc; needed = AtLeast 0 }) c.requires.image.shaped.subs new.1 in
    let same = ap (λ image. subs_due set d.subs image.came) c.mark.ensures in
    let before = ap held_long c.requires.cursor.held in
    let now = ap held_long came.held in
    let from = c.args.cursor.now in
    let to = c.after_fields.new.self in
    let begun : Open = record { sub = Some j; version = v } in
    record {
      reads = λ names state part room.
          let P : Typed → Type 0 = λ image. GoesOn (intake g.S.Source c.args.source.now) (intake g.S.Source c.after_fields.new.source) LONGEST_SUB_HEAD (after_fields set names state c.args.section.now part (untyped c.args.image.now))
          (after_part set names state c.args.section.now (untyped image)) from to (Ok (Some begun)) in
          subst P (sym c.mark.ensures)
          (reads_as (λ n l. omega (arith, now, before))
          (λ rest left h. after_settled set names state c.args.section.now part (untyped c.args.image.now) c.requires.image.device room from to (Some rest) (Some left) (SubHead name v) (6 + length name) c.args.section.now
          (record (untyped c.args.image.now) { came = slice_set c.args.image.now.came j (Some v) }) (Ok (Some begun)) c.requires.cursor.held came.held h came.place
          (sub_settled set names state c.args.section.now part (untyped c.args.image.now) c.requires.image.device room from.at name v c.requires.image.shaped.subs j is)) came.reads);
      section = (refl, refl);
      next = record {
        moved = omega arith;
        held = came.held;
        opens = (new.0, rw (c.mark.ensures) (at_set c.args.image.now.came j (Some v) (omega arith)));
      };
      moves = (omega arith, omega arith, omega arith);
      shaped = search rules;
    }

pub returns-in-Err : goal.returns-in-Err
returns-in-Err g c = record {
  reads = λ names state part room.
      rw (c.concerning.ensures, ← same_course (Some c.args.section.now.device) c.in-Err.fault)
      (reads_as (λ n l. l) (λ rest left h. after_fault (described c.args.set.now) names state c.args.section.now part (untyped c.args.image.now) c.requires.image.device room c.args.cursor.now c.after_fields.new.self
      (Some rest) (Some left) (after_part (described c.args.set.now) names state c.args.section.now (untyped c.args.image.now)) c.in-Err.fault c.requires.cursor.held h) c.in-Err.ensures.reads);
  section = (refl, refl);
  next = tt;
  moves = tt;
  shaped = c.requires.image.shaped;
}
