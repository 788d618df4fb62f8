use Rattle.vms_desc.proofs.Facade.{◌≡◌, true, drop, map, list_all, all_hold, names_well, nobody, formula, number_of, may_ask}
use Rattle.vms_desc.proofs.eval.all_hold.Given as goal

abbrev pub invariant-loop-test : goal.invariant-loop-test
invariant-loop-test g l = record {
  names : list_all (names_well (may_ask l.own) nobody) (map formula (drop l.test-index l.tests)) ≡ true;
  same : all_hold (map formula (drop l.test-index l.tests)) l.version (number_of (g.C.Cells.numbers l.cells) l.own)
      ≡ all_hold (map formula l.tests) l.version (number_of (g.C.Cells.numbers l.cells) l.own);
}
