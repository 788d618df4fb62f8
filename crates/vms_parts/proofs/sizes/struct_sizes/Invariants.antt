use Rattle.vms_parts.proofs.Facade.{◌≡◌, map, in_u32, sizes_to, desc_of}
use Rattle.vms_parts.proofs.sizes.struct_sizes.Given as goal

abbrev pub invariant-loop-desc : goal.invariant-loop-desc
invariant-loop-desc l = l.sizes.items ≡ map in_u32 (sizes_to l.measure (map desc_of l.structs) l.desc-index)
