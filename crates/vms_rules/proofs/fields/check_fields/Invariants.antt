use Rattle.vms_rules.proofs.Facade.{◌≡◌, false, List, ℕ, map, take, drop, all_names, is_one_of, fields_fault, field_of, desc_of, has_name, fields_from}
use Rattle.vms_rules.proofs.fields.check_fields.Given as goal

abbrev pub invariant-loop-number : goal.invariant-loop-number
invariant-loop-number l = record {
  names : l.differ ≡ false → (n : List ℕ) → has_name l.names n ≡ is_one_of (all_names (map field_of (take l.number l.fn.desc.fields))) n;
  good : fields_from l.fn.usable (desc_of l.fn.desc) l.fn.part l.number (map field_of (drop l.number l.fn.desc.fields)) ≡ fields_fault l.fn.usable
      (desc_of l.fn.desc) l.fn.part;
}
