use Rattle.vms_frames.proofs.{ReadsUnits.unit_refused, HeadLemmas.foot_whole, HeadLemmas.foot_wrong, ReadsUnits.unit_whole, ReadsUnits.unit_short, Facade.rules}
use Rattle.vms_frames.proofs.{HeadLemmas.foot_cut, ReadsUnits.unit_on, ReadsUnits.a_foot, Facade.◌≡◌, Facade.length, Facade.arith, Facade.Err, Facade.Ok}
use Rattle.vms_frames.proofs.read.footer.Goals as goal

pub returns-in_err-grow : goal.returns-in_err-grow
returns-in_err-grow g c =
    unit_short (a_foot c.args.id) _ _ _ _ c.from_residual.ensures.1 (omega arith) c.in_err-grow.ensures.cut
    (λ rest lt. foot_cut c.args.id c.args.unit.items rest (omega arith))

pub returns-then-of-id : goal.returns-then-of-id
returns-then-of-id g c =
    let one = c.in_ok-grow.ensures.grown in
    let unit = c.grow.new.unit.items in
    let long : length unit ≡ 5 = omega arith in
    unit_on (a_foot c.args.id) c.args.at (Err c.no_footer.result) one
    (unit_refused (a_foot c.args.id) unit c.no_footer.ensures (g.met.S.Source.counted c.grow.new.source) long (omega arith)
    (λ rest. foot_wrong c.args.id unit rest long (search rules)))

pub returns : goal.returns
returns g c =
    let one = c.in_ok-grow.ensures.grown in
    let unit = c.grow.new.unit.items in
    let long : length unit ≡ 5 = omega arith in
    unit_on (a_foot c.args.id) c.args.at (Ok tt) one
    (unit_whole (a_foot c.args.id) unit c.args.at (g.met.S.Source.counted c.grow.new.source) long (λ rest. foot_whole c.args.id unit rest long (search rules)))
