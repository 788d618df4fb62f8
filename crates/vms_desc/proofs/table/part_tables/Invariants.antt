use Rattle.vms_desc.proofs.Facade.{◌≡◌, ℕ, ◌<◌, map, take, ◌∷◌, Some, slice_get, device_of, sub_of, FitsSub, AreTables}
use Rattle.vms_spec.specs.Sets as sets
use Rattle.vms_desc.proofs.table.part_tables.Given as goal

abbrev pub invariant-loop-sub : goal.invariant-loop-sub
invariant-loop-sub l = record {
  tables : AreTables l.sizes ((device_of l.device).desc.fields ∷ map (λ s. s.desc.fields) (map sub_of (take l.sub-index l.device.subs))) l.tables.items;
  heads : (k : ℕ) → k < l.sub-index → (s : sets.Sub) → slice_get (map sub_of l.device.subs) k ≡ Some s → FitsSub s;
}
