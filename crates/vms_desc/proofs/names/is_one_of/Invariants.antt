use Rattle.vms_desc.proofs.Facade.{◌≡◌, drop, is_one_of}
use Rattle.vms_desc.proofs.names.is_one_of.Given as goal

abbrev pub invariant-loop-known : goal.invariant-loop-known
invariant-loop-known l = is_one_of (drop l.known-index l.names) l.name ≡ is_one_of l.names l.name
