use Rattle.vms_rules.proofs.Facade.{◌≡◌, List, ℕ, take, drop, ◌&&◌, ◌||◌, is_one_of, has_name, are_new_to}
use Rattle.vms_rules.proofs.names.add_names.Given as goal

abbrev pub invariant-loop-name : goal.invariant-loop-name
invariant-loop-name l = record {
  has : (n : List ℕ) → has_name l.names n ≡ (is_one_of (take l.name-index l.list) n || has_name l.initial.names n);
  new : (l.are_new && are_new_to (has_name l.names) (drop l.name-index l.list)) ≡ are_new_to (has_name l.initial.names) l.list;
}
