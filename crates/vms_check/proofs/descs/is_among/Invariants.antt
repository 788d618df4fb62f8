use Rattle.vms_check.proofs.Facade.{◌≡◌, map, drop, list_any, formula, is_left, as_reduced}
use Rattle.vms_check.proofs.descs.is_among.Given as goal

abbrev pub invariant-loop-test : goal.invariant-loop-test
invariant-loop-test l =
    list_any (is_left l.old l.new (as_reduced l.new.version l.left)) (map formula (drop l.test-index l.tests)) ≡ list_any
    (is_left l.old l.new (as_reduced l.new.version l.left)) (map formula l.tests)
