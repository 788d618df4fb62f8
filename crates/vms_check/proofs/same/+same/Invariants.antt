use Rattle.vms_check.proofs.Facade.{◌+◌, ◌*◌, nodes, formula, left_nodes}
use Rattle.vms_check.proofs.same.+same.Given as goal

abbrev pub decreases-same_reduced : goal.decreases-same_reduced
decreases-same_reduced l = 3 * left_nodes l.one + 1

abbrev pub decreases-same_tests : goal.decreases-same_tests
decreases-same_tests l = 3 * nodes (formula l.one.now)

abbrev pub decreases-same_inner : goal.decreases-same_inner
decreases-same_inner l = 3 * nodes (formula l.one.now) + 2
