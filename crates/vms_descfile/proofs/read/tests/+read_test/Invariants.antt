use Rattle.vms_descfile.proofs.read.tests.+read_test.Given as goal

abbrev pub decreases-read_test : goal.decreases-read_test
decreases-read_test l = l.depth
