use Rattle.vms_rules.proofs.Facade.{◌≡◌, map, drop, validations_fault, formula, desc_of, validations_from}
use Rattle.vms_rules.proofs.descs.check_validations.Given as goal

abbrev pub invariant-loop-test : goal.invariant-loop-test
invariant-loop-test l =
    validations_from (desc_of l.fn.desc) l.fn.part l.test-index (map formula (drop l.test-index l.fn.desc.validate)) ≡ validations_fault
    (desc_of l.fn.desc) l.fn.part
