use Rattle.vms_rules.proofs.{Facade.key, NameLaws.name_added}
use Rattle.vms_rules.proofs.names.add_name.Goals as goal

pub returns-clause-added : goal.returns-clause-added
returns-clause-added c =
    let name = c.args.name.now in
    name_added c.args.names.now c.insert.new.self name
    (rw (c.key.ensures, c.as_bytes.ensures.value) at c.in_ok-insert.ensures.updates)
