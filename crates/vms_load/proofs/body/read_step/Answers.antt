use Rattle.vms_load.proofs.BodyLemmas.{reads_rule, number_ok, number_err, constant_taken, filler_taken}
use Rattle.vms_load.proofs.Facade.{w128, to_z-of_z, rules, SFits, ◌≡◌, ℕ, ◌+◌, Some, Result, Ok, OnOk, None, Typed, sym, subst, arith, WalkStep}
use Rattle.vms_load.proofs.Facade.{capacities_of, take_slot, intake, reads_as, IsLong, FrameFault, TakesOn, HasMoved, progress, slot_of, step_long}
use Rattle.vms_load.proofs.ReadLemmas.{err_is}
use Rattle.vms_load.specs.Calls.{Input, TakesStep}
use Rattle.vms_load.proofs.body.read_step.Goals as goal

-- all bytes of an item, by which the cursor moves
moved : (most at to : ℕ) (result : Result (Unit {0}) FrameFault) (n : ℕ) → OnOk result (to ≡ at + most) → IsLong (λ _. most) most result n → HasMoved most at to result n
moved most at to result n far l = search rules

-- a step that leaves the image as it is
stays : (x y : WalkStep) (image : Typed) (from to : Input) (result : Result (Unit {0}) FrameFault) → x ≡ y → OnOk result (to.cursor.held ≡ None)
    → TakesOn from.source to.source (step_long y) from.cursor.at to.cursor.at (λ rest. take_slot (slot_of y) (progress image.numbers from.cursor.at rest)) image.numbers result
    → TakesStep x image image from to result
stays x y image from to result is held reads = search rules

pub set-requires-clause-cell : goal.set-requires-clause-cell
set-requires-clause-cell g c = rw c.in-Number.is at c.requires.step.inside

pub set-requires-clause-range : goal.set-requires-clause-range
set-requires-clause-range g c = search rules

pub returns-in_err-number-in-Number : goal.returns-in_err-number-in-Number
returns-in_err-number-in-Number g c =
    stays _ _ _ _ _ _ c.in-Number.is (search rules)
    (rw (err_is _ _ c.from_residual.ensures.1)
    (reads_as (λ n l. (l, tt)) (λ rest left h. number_err rest (Some left) c.args.cursor.now.at _ c.args.image.now.numbers c.in-Number.kind (capacities_of c.in-Number.most) c.in-Number.cell _ _ h)
    c.in_err-number-in-Number.ensures.reads))

pub returns-in_ok-number-in-Number : goal.returns-in_ok-number-in-Number
returns-in_ok-number-in-Number g c =
    let numbers = c.args.image.now.numbers in
    let at = c.args.cursor.now.at in
    let to = c.number.new.cursor.at in
    let z = c.in_ok-number-in-Number.number in
    let P : WalkStep → Type 0 = λ x. TakesOn (intake g.S.Source c.args.source.now) (intake g.S.Source c.number.new.source) (step_long x) at to
    (λ rest. take_slot (slot_of x) (progress numbers at rest)) c.set.new.self.numbers (Ok tt) in
    record {
      reads = subst P (sym c.in-Number.is)
          (rw (c.set.ensures, to_z-of_z w128 z (search rules))
          (reads_as (λ n l. (omega (arith, l), omega (arith, l, c.in_ok-number-in-Number.ensures.place)))
          (λ rest left h. number_ok rest (Some left) at to numbers c.in-Number.kind (capacities_of c.in-Number.most) c.in-Number.cell z c.in_ok-number-in-Number.ensures.place h)
          c.in_ok-number-in-Number.ensures.reads));
      held = search rules;
      kept = search rules;
      keeps = search rules;
      stopped = search rules;
    }

pub returns-in-Constant : goal.returns-in-Constant
returns-in-Constant g c =
    let z = c.in-Constant.value in
    let at = c.args.cursor.now.at in
    let to = c.constant.new.cursor.at in
    let f : SFits w128 z = search rules in
    stays _ _ _ _ _ _ c.in-Constant.is (search rules)
    (reads_as (λ n l. moved _ at to c.constant.result n c.constant.ensures.place l)
    (λ rest left h. constant_taken rest (Some left) at to c.args.image.now.numbers c.in-Constant.kind z c.constant.result c.constant.ensures.place h)
    (rw (to_z-of_z w128 z f) at c.constant.ensures.reads))

pub returns-in-Filler : goal.returns-in-Filler
returns-in-Filler g c = search (rules, stays, reads_as, moved, filler_taken)

pub returns-in-Rule : goal.returns-in-Rule
returns-in-Rule g c =
    stays _ _ _ _ _ _ c.in-Rule.is (search rules)
    (reads_rule (intake g.S.Source c.args.source.now) c.in-Rule.holds c.args.image.now.numbers c.args.cursor.now.at c.rule.result (g.met.S.Source.counted c.args.source.now)
    c.rule.ensures.ok c.rule.ensures.err)
