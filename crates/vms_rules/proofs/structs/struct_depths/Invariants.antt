use Rattle.vms_rules.proofs.{Facade.◌≡◌, Facade.◌≤◌, Facade.ℕ, Facade.get_or, Facade.map, Facade.desc_of, WalkLaws.depths_to}
use Rattle.vms_rules.proofs.structs.struct_depths.Given as goal

abbrev pub invariant-loop-desc : goal.invariant-loop-desc
invariant-loop-desc l = record {
  depths : l.depths.items ≡ depths_to (map desc_of l.structs) l.desc-index;
  small : (j : ℕ) → get_or l.depths.items j 0 ≤ l.desc-index;
}
