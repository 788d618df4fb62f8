use Rattle.vms_check.proofs.Facade.{◌≡◌, map, drop, list_all, formula, is_kept_test}
use Rattle.vms_check.proofs.descs.are_kept.Given as goal

abbrev pub invariant-loop-test : goal.invariant-loop-test
invariant-loop-test l =
    list_all (is_kept_test l.old l.new) (map formula (drop l.test-index l.tests)) ≡ list_all (is_kept_test l.old l.new) (map formula l.tests)
