use Rattle.vms_descfile.proofs.read.devices.read_sub_asked.Goals as goal

pub returns-in_ok-names : goal.returns-in_ok-names
returns-in_ok-names c =
    rw (c.if-asks.true, ← c.in_ok-names.ensures) c.read_sub.ensures

pub returns-else-asks : goal.returns-else-asks
returns-else-asks c =
    rw c.if-asks.false c.read_sub-else-asks.ensures
