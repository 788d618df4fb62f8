use Rattle.vms_convert.proofs.Facade.{◌≡◌, ◌-◌, length, IsStart, entries_at, desc_on}
use Rattle.vms_convert.proofs.pairing.next_start.Given as goal

abbrev pub invariant-loop-next : goal.invariant-loop-next
invariant-loop-next l = record { start : IsStart l.side l.next; same : entries_at l.side l.next ≡ entries_at l.side l.fn.start }

abbrev pub decreases-loop-next : goal.decreases-loop-next
decreases-loop-next l = length (desc_on l.side).fields - l.next.field
