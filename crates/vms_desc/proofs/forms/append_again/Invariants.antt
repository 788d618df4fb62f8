use Rattle.vms_desc.proofs.Facade.{◌≡◌, ◌++◌, ◌-◌, ◌≤◌, take, drop}
use Rattle.vms_desc.proofs.forms.append_again.Given as goal

abbrev pub invariant-loop-done : goal.invariant-loop-done
invariant-loop-done g l = record {
  items : l.list.items ≡ l.initial.list.items ++ take (l.done - l.start) (drop l.start l.initial.list.items);
  begun : l.start ≤ l.done;
  within : l.done ≤ l.end;
}

abbrev pub decreases-loop-done : goal.decreases-loop-done
decreases-loop-done g l = l.end - l.done
