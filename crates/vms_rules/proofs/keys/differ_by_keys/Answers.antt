use Rattle.vms_rules.proofs.NameLaws.{distinct_before}
use Rattle.vms_rules.proofs.keys.differ_by_keys.Goals as goal

pub returns : goal.returns
returns c = λ e.
    rw c.in_ok-keys.ensures at (distinct_before c.in_ok-keys.keys.items c.sort_unstable.new.self.items c.sort_unstable.ensures.permutation
    (rw c.as_slice.ensures.value at (c.are_rising.ensures e)))
