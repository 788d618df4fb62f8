use Rattle.vms_descfile.proofs.read.read_set.Goals as goal

pub returns-in-Ok : goal.returns-in-Ok
returns-in-Ok c = rw c.in-Ok.ensures c.make_set.ensures
