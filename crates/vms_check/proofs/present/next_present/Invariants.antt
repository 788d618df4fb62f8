use Rattle.vms_check.proofs.Facade.{◌≡◌, ◌-◌, ◌≤◌, drop, length, fields_from, desc_on}
use Rattle.vms_check.proofs.present.next_present.Given as goal

abbrev pub invariant-loop-number : goal.invariant-loop-number
invariant-loop-number l = record {
  later : l.from ≤ l.number;
  same : fields_from l.side.version l.number (drop l.number (desc_on l.side).fields) ≡ fields_from l.side.version l.from (drop l.from (desc_on l.side).fields);
}

abbrev pub decreases-loop-number : goal.decreases-loop-number
decreases-loop-number l = length l.fields - l.number
