use Rattle.vms_desc.proofs.Facade.{◌≡◌, ap, map, Desc, formula, described, desc_at}
use Rattle.vms_desc.proofs.{EvalLaws.seen, AskLaws.rules_name, AskLaws.all_hold_same}
use Rattle.vms_desc.proofs.set.DescSet.holds_rules.Goals as goal

pub all_hold-requires : goal.all_hold-requires
all_hold-requires g c =
    let set = described c.args.self.now in
    let tests : map formula c.as_slice-tests.result.now ≡ (desc_at set c.args.part).validate =
    rw c.as_slice-tests.ensures (ap (λ (d : Desc). d.validate) c.desc.ensures) in
    record {
      names = rules_name set c.args.self.now.well_formed c.args.part c.requires.part c.scope.result c.scope.ensures.fields
          (map formula c.as_slice-tests.result.now) tests;
      own = (seen c.scope.ensures c.requires.few c.requires.own).inside;
      few = c.requires.few;
    }

pub returns : goal.returns
returns g c =
    let d = desc_at (described c.args.self.now) c.args.part in
    let tests : map formula c.as_slice-tests.result.now ≡ d.validate = rw c.as_slice-tests.ensures (ap (λ (x : Desc). x.validate) c.desc.ensures) in
    rw (c.all_hold.ensures, tests) (all_hold_same d.validate c.args.version _ _ (seen c.scope.ensures c.requires.few c.requires.own).number)
