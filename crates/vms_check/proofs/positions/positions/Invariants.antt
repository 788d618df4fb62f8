use Rattle.vms_check.proofs.Facade.{◌≡◌, ℕ, ◌<◌, ◌≤◌, get_or, length, map, take, None, field_of, count_present, position_in}
use Rattle.vms_check.proofs.positions.positions.Given as goal

abbrev pub invariant-loop-number : goal.invariant-loop-number
invariant-loop-number l = record {
  wide : length l.table ≡ 256;
  counted : l.count ≡ count_present l.version (map field_of (take l.number l.fields));
  small : l.count ≤ l.number;
  before : (k : ℕ) → k < l.number → get_or l.table k None ≡ position_in l.version (map field_of l.fields) k;
  after : (k : ℕ) → l.number ≤ k → get_or l.table k None ≡ None;
}
