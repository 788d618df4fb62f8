use Rattle.dev_pit.proofs.{Facade.rules, Facade.◌-◌, CallLaws.written_keeps, CallLaws.controlled_keeps}
use Rattle.dev_pit.proofs.pit.Pit.write.Goals as goal

pub returns-then-port-eq-CONTROL_PORT-clause-keeps : goal.returns-then-port-eq-CONTROL_PORT-clause-keeps
returns-then-port-eq-CONTROL_PORT-clause-keeps c = λ later l.
    controlled_keeps c.of.result c.args.now later c.control.new.self c.args.self.now c.control.ensures c.requires.loaded l

pub returns-else-port-eq-CONTROL_PORT-clause-keeps : goal.returns-else-port-eq-CONTROL_PORT-clause-keeps
returns-else-port-eq-CONTROL_PORT-clause-keeps c =
    written_keeps (c.args.port - 64) c.args.now c.write.new.self _ c.args.self.now (search rules) c.requires.loaded c.args.value c.write.ensures
