use Rattle.vms_cli.proofs.{TextCommands.printed_of, StreamCommands.named}
use Rattle.vms_cli.proofs.Facade.{machine_of, ℕ, ◌<◌, length, map, Option, IfSome, subst, outlet, wrote_behind, values_text, described, state_of}
use Rattle.vms_cli.proofs.commands.counter.write_state.Goals as goal

pub print_values-requires-clause-named : goal.print_values-requires-clause-named
print_values-requires-clause-named g c = λ m e.
    rw e at c.requires.machine

pub print_values-requires-clause-one_each : goal.print_values-requires-clause-one_each
print_values-requires-clause-one_each g c = printed_of (described c.args.set.now) c.args.set.now.well_formed c.args.images.now c.requires.of

pub returns-in-Ok : goal.returns-in-Ok
returns-in-Ok g c =
    let set = described c.args.set.now in
    let d = outlet g.O.Sink c.print_values.new.sink in
    let r = c.print_values.result in
    let states = map state_of c.args.images.now in
    rw (named set c.args.machine (λ m e. subst (λ (x : Option ℕ). IfSome x (λ k. k < length set.machines)) e c.requires.machine))
    (wrote_behind r d (values_text set (machine_of set c.args.machine) states) c.in-Ok.ensures c.print_values.ensures)
