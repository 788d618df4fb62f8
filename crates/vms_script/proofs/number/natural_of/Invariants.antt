use Rattle.vms_script.proofs.Facade.{◌≡◌, ◌<◌, ◌^◌, drop, natural_from}
use Rattle.vms_script.proofs.number.natural_of.Given as goal

abbrev pub invariant-loop-digit : goal.invariant-loop-digit
invariant-loop-digit l = record { small : l.value < 2 ^ 64; value : natural_from l.value (drop l.digit-index l.digits) ≡ natural_from 0 l.digits }
