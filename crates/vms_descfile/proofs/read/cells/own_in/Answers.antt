use Rattle.vms_descfile.proofs.Facade.{rules, none_left, object_is}
use Rattle.vms_descfile.proofs.read.cells.own_in.Goals as goal

pub returns : goal.returns
returns c = search (rules, none_left, object_is)
