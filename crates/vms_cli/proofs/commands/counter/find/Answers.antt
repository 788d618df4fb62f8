use Rattle.vms_cli.proofs.commands.counter.find.Goals as goal

pub returns-clause-ends : goal.returns-clause-ends
returns-clause-ends g c = rw c.in_ok-loader.ensures.set at c.find_by.ensures.ends
