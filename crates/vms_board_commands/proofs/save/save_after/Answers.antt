use Rattle.std.proofs.Common.{rules}
use Rattle.vms_board_commands.proofs.{RunLemmas.saved_so, ScriptCommands.saved_ends, Facade.outlet, Facade.ending_mapped}
use Rattle.vms_board_commands.proofs.save.save_after.Goals as goal

pub save_devices-requires-clause-may : goal.save_devices-requires-clause-may
save_devices-requires-clause-may g c = search (rules, g.met.M.Machine.stands.begun)

pub returns-clause-ends : goal.returns-clause-ends
returns-clause-ends g c = search (rules, ending_mapped, saved_ends)

pub returns-clause-so : goal.returns-clause-so
returns-clause-so g c = λ input shelf.
    rw (ending_mapped _ _ _ c.map_err.ensures.cases)
    (saved_so input shelf (outlet g.O.Sink c.args.out.now) (outlet g.O.Sink c.save_devices.new.sink) _ c.save_devices.result c.save_devices.ensures)
