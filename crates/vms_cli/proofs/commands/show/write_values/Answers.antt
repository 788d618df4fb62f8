use Rattle.vms_cli.proofs.{Facade.map, Facade.sym, Facade.subst, Facade.loads, Facade.state_of, Facade.AreOf, TextCommands.are_of}
use Rattle.vms_cli.proofs.commands.show.write_values.Goals as goal

pub print_values-requires-clause-one_each : goal.print_values-requires-clause-one_each
print_values-requires-clause-one_each g c =
    subst (λ s. AreOf s s.devices (map state_of c.images.result.now)) (sym c.set.ensures)
    (are_of (loads c.args.loader.now) c.args.loader.now.set.well_formed c.images.result.now c.images.ensures.shape)
