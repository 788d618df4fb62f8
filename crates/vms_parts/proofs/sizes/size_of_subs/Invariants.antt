use Rattle.vms_parts.proofs.Facade.{◌≡◌, map, drop, ◌+◌, ◌<◌, ◌^◌, in_u32, subs_size, sub_of}
use Rattle.vms_parts.proofs.sizes.size_of_subs.Given as goal

abbrev pub invariant-loop-sub : goal.invariant-loop-sub
invariant-loop-sub l = record {
  small : l.sum < 2 ^ 32;
  whole : in_u32 (l.sum + subs_size l.measure l.sizes (map sub_of (drop l.sub-index l.subs))) ≡ in_u32 (subs_size l.measure l.sizes (map sub_of l.subs));
}
