use Rattle.vms_frames.proofs.{HeadLemmas.err_is, HeadLemmas.kept_byte, ReadsUnits.grown_both}
use Rattle.vms_frames.proofs.Facade.{CutsShort, CutsHead, rules, arith, ◌≡◌, ◌+◌, ◌-◌, ◌<◌, get_or, ap, on_ok_weaker, IfErr-weaker, intake}
use Rattle.vms_frames.specs.Reads.{InFront, AfterFront}
use Rattle.vms_frames.proofs.fill.grow_head.Goals as goal

pub returns-in_err-grow-clause-cut : goal.returns-in_err-grow-clause-cut
returns-in_err-grow-clause-cut g c = rw (err_is _ _ c.from_residual.ensures.1) (InFront c.in_err-grow.ensures.cut)

pub returns-clause-grown : goal.returns-clause-grown
returns-clause-grown g c =
    let one = c.in_ok-grow.ensures.grown in
    let i = c.args.front - 1 in
    let byte : get_or c.deref.result.now i 0 ≡ get_or c.grow.new.unit.items i 0 = ap (λ l. get_or l i 0) c.deref.ensures.0 in
    on_ok_weaker c.grow-2.result (λ two.
    let kept = kept_byte i _ _ two.kept (omega arith) in
    grown_both _ (omega arith) one two) c.grow-2.ensures.grown

pub returns-clause-cut : goal.returns-clause-cut
returns-clause-cut g c =
    let one = c.in_ok-grow.ensures.grown in
    let i = c.args.front - 1 in
    let byte : get_or c.deref.result.now i 0 ≡ get_or c.grow.new.unit.items i 0 = ap (λ l. get_or l i 0) c.deref.ensures.0 in
    let low : get_or c.deref.result.now i 0 < 256 = search rules in
    let mid = intake g.S.Source c.grow.new.source in
    let new = intake g.S.Source c.grow-2.new.source in
    IfErr-weaker _ (CutsShort mid new c.args.at (get_or c.deref.result.now i 0 + c.args.rest))
    (CutsHead (intake g.S.Source c.args.source.now) new c.args.at c.args.unit.now.items c.args.front c.args.rest)
    (λ fault cut. AfterFront mid c.grow.new.unit.items one (omega arith) (rw byte at cut)) c.grow-2.ensures.cut
