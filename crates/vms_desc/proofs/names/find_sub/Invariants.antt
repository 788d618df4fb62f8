use Rattle.vms_desc.proofs.Facade.{◌≡◌, drop, map, find_sub, sub_of}
use Rattle.vms_desc.proofs.names.find_sub.Given as goal

abbrev pub invariant-loop-number : goal.invariant-loop-number
invariant-loop-number l = find_sub l.number (map sub_of (drop l.number l.subs)) l.name ≡ find_sub 0 (map sub_of l.subs) l.name
