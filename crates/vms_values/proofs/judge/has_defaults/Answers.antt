use Rattle.vms_values.proofs.{Facade.◌∙◌, Facade.arith, Facade.described, Facade.sub_inside, JudgeLemmas.bare_defaults}
use Rattle.vms_values.proofs.judge.has_defaults.Goals as goal

pub is_bare-requires : goal.is_bare-requires
is_bare-requires c = record { device = c.requires.device; is_sub = c.requires.is_sub }

pub returns : goal.returns
returns c =
    let set = described c.args.set.now in
    let inside = sub_inside set c.args.device c.args.sub c.requires.is_sub in
    c.is_bare.ensures ∙ bare_defaults set c.args.device c.args.sub c.args.image.now.numbers c.requires.is_sub (omega arith)
