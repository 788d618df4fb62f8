use Rattle.vms_counter.proofs.Facade.{◌≡◌, map, in_u32, desc_of, struct_bytes}
use Rattle.vms_counter.proofs.room.struct_bytes.Given as goal

abbrev pub invariant-loop-desc : goal.invariant-loop-desc
invariant-loop-desc l = l.bytes.items ≡ map in_u32 (struct_bytes (map desc_of l.structs) l.desc-index)
