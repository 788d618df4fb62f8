use Rattle.vms_analyze.proofs.elements.ElementReads.read.Goals as goal

pub returns-in-Some : goal.returns-in-Some
returns-in-Some c = rw c.in-Some.ensures c.sent_by.ensures
