use Rattle.vms_script.proofs.Facade.{◌≡◌, drop, list_all, is_digit}
use Rattle.vms_script.proofs.number.are_all_digits.Given as goal

abbrev pub invariant-loop-b : goal.invariant-loop-b
invariant-loop-b l = list_all is_digit (drop l.b-index l.text) ≡ list_all is_digit l.text
