use Rattle.vms_desc.proofs.{FormLaws.repeated, Facade.◌≡◌, Facade.◌++◌, Facade.◌-◌, Facade.◌<◌, Facade.◌≤◌, Facade.take, Facade.drop}
use Rattle.vms_desc.proofs.forms.repeat.Given as goal

abbrev pub invariant-loop-done : goal.invariant-loop-done
invariant-loop-done g l = record {
  items : l.list.items ≡ take l.start l.initial.list.items ++ repeated (drop l.start l.initial.list.items) l.done;
  some : 0 < l.done;
  within : l.done ≤ l.count;
}

abbrev pub decreases-loop-done : goal.decreases-loop-done
decreases-loop-done g l = l.count - l.done
