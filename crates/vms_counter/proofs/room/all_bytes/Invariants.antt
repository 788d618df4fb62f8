use Rattle.vms_counter.proofs.Facade.{◌≡◌, drop, ◌+◌, ◌<◌, ◌^◌, in_u32}
use Rattle.vms_counter.proofs.room.all_bytes.Given as goal

abbrev pub invariant-loop-item : goal.invariant-loop-item
invariant-loop-item g l = record {
  small : l.sum < 2 ^ 32;
  whole : in_u32 (l.sum + g.T.TakesRoom.all_bytes l.structs (drop l.item-index l.items)) ≡ in_u32 (g.T.TakesRoom.all_bytes l.structs l.items);
}
