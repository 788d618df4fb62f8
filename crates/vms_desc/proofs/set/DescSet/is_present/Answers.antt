use Rattle.vms_desc.proofs.Facade.{rules, ◌≡◌, ◌∙◌, sym, ap, Some, option_map}
use Rattle.vms_desc.proofs.{Facade.formula, Facade.formula_in, set.DescSet.is_present.Given.Over, set.DescSet.is_present.Goals.After-deref, AskLaws.field_names}
use Rattle.vms_desc.proofs.set.DescSet.is_present.Goals as goal

-- the test that the code found
test_is : (g : Over) (c : After-deref g) → option_map formula_in c.args.field.now.test ≡ Some (formula c.deref.result.now)
test_is g c = ap (option_map formula_in) c.in-Some.is ∙ ap (λ t. Some (formula t)) (sym c.deref.ensures)

pub holds_test-requires : goal.holds_test-requires
holds_test-requires g c = search (rules, field_names)

pub returns-in-Some : goal.returns-in-Some
returns-in-Some g c = search rules
