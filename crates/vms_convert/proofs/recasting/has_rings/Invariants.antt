use Rattle.vms_convert.proofs.Facade.{◌≡◌, drop, map, list_any, sub_of, is_ring}
use Rattle.vms_convert.proofs.recasting.has_rings.Given as goal

abbrev pub invariant-loop-sub : goal.invariant-loop-sub
invariant-loop-sub l = list_any is_ring (map sub_of (drop l.sub-index l.subs)) ≡ list_any is_ring (map sub_of l.subs)
