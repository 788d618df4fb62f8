use Rattle.vms_convert.proofs.BackNormal.{may_give}
use Rattle.vms_convert.proofs.giving.give_part.Goals as goal

pub walk-requires-clause-may : goal.walk-requires-clause-may
walk-requires-clause-may c xs ys rest x b h e =
    let may = may_give c.args.gift.partners.now b.partners.now c.args.gift.image.now.numbers b.image.now.numbers xs c.args.target.now b.target.now
    (rw (h.2)) (rw (h.1)) h.3 c.requires.may.targets c.requires.may.kinds in
    record { targets = may.0; kinds = may.1 }
