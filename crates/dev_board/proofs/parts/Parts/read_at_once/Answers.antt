use Rattle.dev_board.proofs.{Facade.parts_view, SoundLaws.after-pit, SoundLaws.loaded}
use Rattle.dev_board.proofs.QuickLaws.{first-read, first-touch, none-read, status-read, status-touch}
use Rattle.dev_board.proofs.parts.Parts.read_at_once.Goals as goal

pub read_first-requires-clause-loaded : goal.read_first-requires-clause-loaded
read_first-requires-clause-loaded c = loaded (parts_view c.self.inside) c.self.invariant

pub invariant_of-self : goal.invariant_of-self
invariant_of-self c = after-pit (parts_view c.self.inside) c.self.invariant 0 c.read_first.result c.read_first.new.self c.read_first.ensures

pub returns-in-1021-clause-read : goal.returns-in-1021-clause-read
returns-in-1021-clause-read c =
    status-read (parts_view c.self.inside) c.args.self.now c.args.port c.self.view_is c.in-1021.is _ c.status.result c.status.ensures

pub returns-in-1021-clause-touch : goal.returns-in-1021-clause-touch
returns-in-1021-clause-touch c =
    status-touch (parts_view c.self.inside) c.args.self.now c.args.port c.self.view_is c.in-1021.is _ c.status.result c.status.ensures

pub returns-in-64-clause-read : goal.returns-in-64-clause-read
returns-in-64-clause-read c =
    first-read (parts_view c.self.inside) c.args.self.now c.args.port c.self.view_is c.in-64.is c.read_first.result c.read_first.new.self c.read_first.ensures

pub returns-in-64-clause-touch : goal.returns-in-64-clause-touch
returns-in-64-clause-touch c = first-touch (parts_view c.self.inside) c.args.self.now c.args.port c.self.view_is c.in-64.is c.read_first.result

pub returns-else-has_port-clause-read : goal.returns-else-has_port-clause-read
returns-else-has_port-clause-read c = none-read c.args.self.now c.args.port c.has_port.result c.has_port.ensures c.if-has_port.false
