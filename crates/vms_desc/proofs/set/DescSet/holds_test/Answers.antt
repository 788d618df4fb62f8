use Rattle.vms_desc.proofs.{Facade.◌∙◌, Facade.formula, Facade.no_parent, Facade.refl, EvalLaws.seen, EvalLaws.truth_same}
use Rattle.vms_desc.proofs.set.DescSet.holds_test.Goals as goal

pub holds-requires : goal.holds-requires
holds-requires g c = record {
  names = rw c.scope.ensures.fields c.requires.names;
  own = (seen c.scope.ensures c.requires.few c.requires.own).inside;
  parent = tt;
  few = c.requires.few;
}

pub returns : goal.returns
returns g c =
    let number = (seen c.scope.ensures c.requires.few c.requires.own).number in
    c.holds.ensures ∙ truth_same c.args.version _ _ no_parent no_parent number (λ k. refl) (formula c.args.test.now)
