use Rattle.vms_values.proofs.{DeviceLemmas.Said, DeviceLemmas.top, DeviceLemmas.said_so, ReadLemmas.some_of, devices.read_lines.Goals.After-read_machine-start}
use Rattle.vms_values.proofs.Facade.{values_read, length, eqb-true, nil_from_length, Err, Option, Some, None, Result, IfOk, rules, ap, refl, sym, ◌∙◌}
use Rattle.vms_values.proofs.Facade.{arith, err_from_is_err_and, Set, described, AreImagesOf, ToldAs, LineFault, few_machines}
use Rattle.vms_values.proofs.JudgeLemmas.{text_told, text_longer, text_refused}
use Rattle.vms_values.specs.{declared.judge.BadLine.BadLine, declared.fault.Values.Values as Given}
use Rattle.vms_values.proofs.devices.read_lines.Goals as goal

pub read_machine-start-requires : goal.read_machine-start-requires
read_machine-start-requires c =
    omega (arith, ap length c.as_slice.ensures, ap (λ s. length s.machines) c.parts.ensures, few_machines (described c.args.set.now) c.args.set.now.well_formed)

-- what the text says, from the machine's line on
said : (c : After-read_machine-start) → Said (described c.args.set.now) (values_read (described c.args.set.now) c.args.text.now) c.read_machine-start.result
said c =
    top _ _ _ _ (c.as_slice.ensures ∙ ap (λ x. x.machines) c.parts.ensures) c.read_machine-start.ensures

pub returns-in_err-images : goal.returns-in_err-images
returns-in_err-images c =
    let set = described c.args.set.now in
    let s = said (goal.at.returns-in_err-images c).After-read_machine-start in
    let p = err_from_is_err_and c.from_residual.result c.from_residual.ensures.1 in
    record {
      read = rw (p.1, p.2) (said_so _ _ _ (Err c.in_err-images.field-0.0) s.is (text_refused set s.name _ _ _ _ c.in_err-images.ensures.read));
      of = rw p.1 tt;
    }

pub returns-then-not-is_empty : goal.returns-then-not-is_empty
returns-then-not-is_empty c =
    let set = described c.args.set.now in
    let new = c.read_images.new.reading in
    record {
      read = said_so set c.args.text.now _ (Err c.bad.result) (said (goal.at.returns-then-not-is_empty c).After-read_machine-start).is
          (rw c.bad.ensures (text_longer set _ _ _ _ _ c.in_ok-images.ensures.read (some_of new.lines.rest.now (sym c.is_empty.ensures ∙ c.if-not-is_empty.true))));
      of = tt;
    }

told_of : (o : Option BadLine) (v : Given) (result : Result Given LineFault) (set : Set) → ToldAs o v result → AreImagesOf set v.images.items → IfOk result (λ w. AreImagesOf set w.images.items)
told_of None v result set t of = rw t (search (rules, of))
told_of (Some b) v result set t of = rw t (search rules)

pub returns : goal.returns
returns c =
    let set = described c.args.set.now in
    let s = said (goal.at.returns c).After-read_machine-start in
    let new = c.read_images.new.reading in
    record {
      read = said_so _ _ _ _ s.is
          (text_told _ _ _ _ _ _ _ c.in_ok-images.ensures.read (nil_from_length new.lines.rest.now (eqb-true (length new.lines.rest.now) 0 (sym c.is_empty.ensures ∙ c.if-not-is_empty.false))) refl s.machine s.known c.told.ensures);
      of = told_of _ _ _ _ c.told.ensures c.in_ok-images.ensures.of;
    }
