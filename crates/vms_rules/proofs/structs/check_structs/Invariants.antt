use Rattle.vms_rules.proofs.Facade.{◌≡◌, List, ℕ, map, take, drop, is_one_of, desc_of, has_name, structs_from}
use Rattle.vms_rules.proofs.structs.check_structs.Given as goal

abbrev pub invariant-loop-number : goal.invariant-loop-number
invariant-loop-number l = record {
  names : (n : List ℕ) → has_name l.names n ≡ is_one_of (map (λ e. e.name) (take l.number (map desc_of l.structs))) n;
  good : structs_from (map desc_of l.structs) l.number (map desc_of (drop l.number l.structs)) ≡ structs_from (map desc_of l.structs) 0 (map desc_of l.structs);
}
