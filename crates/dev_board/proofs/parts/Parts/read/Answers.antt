use Rattle.dev_board.proofs.{Facade.parts_view, Facade.Counter, Facade.Register, PortLaws.reached_as, PortLaws.pair_port}
use Rattle.dev_board.proofs.SoundLaws.{after-pair, after-pit, after-serial, loaded}
use Rattle.dev_board.proofs.parts.Parts.read.Goals as goal

pub read-requires : goal.read-requires
read-requires c = pair_port (parts_view c.self.inside) c.args.self.now c.args.port c.target.result c.self.invariant c.self.view_is c.target.ensures c.in-Pair.is

pub invariant_of-self : goal.invariant_of-self
invariant_of-self c = after-pair (parts_view c.self.inside) c.self.invariant c.args.port c.read.result c.read.new.self c.read.ensures

pub read-requires-in-Counter-clause-counter : goal.read-requires-in-Counter-clause-counter
read-requires-in-Counter-clause-counter c =
    (reached_as c.args.self.now.level c.args.port c.target.result (Counter c.in-Counter.counter) c.target.ensures c.in-Counter.is).0

pub read-requires-in-Counter-clause-loaded : goal.read-requires-in-Counter-clause-loaded
read-requires-in-Counter-clause-loaded c = loaded (parts_view c.self.inside) c.self.invariant

pub invariant_of-self-in-Counter : goal.invariant_of-self-in-Counter
invariant_of-self-in-Counter c = after-pit (parts_view c.self.inside) c.self.invariant c.in-Counter.counter c.read-in-Counter.result c.read-in-Counter.new.self c.read-in-Counter.ensures.step

pub read-value-requires-clause-offset : goal.read-value-requires-clause-offset
read-value-requires-clause-offset c =
    reached_as c.args.self.now.level c.args.port c.target.result (Register c.in-Register.offset) c.target.ensures c.in-Register.is

pub invariant_of-self-in-Register : goal.invariant_of-self-in-Register
invariant_of-self-in-Register c =
    after-serial (parts_view c.self.inside) c.self.invariant c.in-Register.offset c.read-value.result c.read-value.new.self c.read-value.ensures.state
