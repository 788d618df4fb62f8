use Rattle.vms_shipped.proofs.Facade.{◌≡◌, sym, ap, arith, nat_tests, set_of}
use Rattle.vms_shipped.specs.Numbered.{shipped_set}
use Rattle.vms_spec.specs.Shipped.{set_4}
use Rattle.vms_shipped.proofs.SetLaws.{same_set}
use Rattle.vms_shipped.proofs.sets.shipped_parts.Goals as goal

pub returns-in_default : goal.returns-in_default
returns-in_default c =
    let is : c.args.s ≡ 4 = grind (arith, nat_tests) in
    same_set set_of c.parts-in_default.result set_4 (shipped_set c.args.s) c.parts-in_default.ensures (ap shipped_set (sym is))
