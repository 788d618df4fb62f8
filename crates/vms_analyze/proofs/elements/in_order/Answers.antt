use Rattle.vms_analyze.proofs.Facade.{rules, none_left, object_is}
use Rattle.vms_analyze.proofs.elements.in_order.Goals as goal

pub returns : goal.returns
returns c = search (rules, none_left, object_is)
