use Rattle.vms_shipped.proofs.Facade.{◌≤◌, arith, nat_tests, set_of, clock_1, clock_2, clock_set}
use Rattle.vms_shipped.proofs.SetLaws.{same_set, first_clock, second_clock}
use Rattle.vms_shipped.proofs.sets.clock_parts.Goals as goal

pub returns-in-0 : goal.returns-in-0
returns-in-0 c =
    let le : c.args.c ≤ 1 = grind (arith, nat_tests) in
    same_set set_of c.parts.result clock_1 (clock_set c.args.c) c.parts.ensures (first_clock c.args.c le)

pub returns-in_default : goal.returns-in_default
returns-in_default c =
    let ge : 2 ≤ c.args.c = grind (arith, nat_tests) in
    same_set set_of c.parts-in_default.result clock_2 (clock_set c.args.c) c.parts-in_default.ensures (second_clock c.args.c ge)
