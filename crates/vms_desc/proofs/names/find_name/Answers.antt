use Rattle.vms_desc.proofs.Facade.{sym, ◌∙◌, found_one}
use Rattle.vms_desc.proofs.names.find_name.Goals as goal

pub returns-then-eq-clause-one : goal.returns-then-eq-clause-one
returns-then-eq-clause-one c =
    let f = found_one c.args.names.now c.loop-number.number c.args.name.now c.index-names-number.result c.loop-number-test.true c.index-names-number.is
    (rw c.as_bytes.ensures at (sym c.eq.ensures ∙ c.if-eq.true)) c.loop-number.invariant.0 in
    (f.0, c.loop-number-test.true, f.1)
