use Rattle.dev_board.proofs.{Facade.parts_view, Facade.Register, SoundLaws.pair-written, SoundLaws.pit-written, SoundLaws.serial-written, SoundLaws.loaded}
use Rattle.dev_board.proofs.PortLaws.{reached_as, pair_port, pit_port}
use Rattle.dev_board.proofs.parts.Parts.write.Goals as goal

pub write-requires : goal.write-requires
write-requires c =
    pair_port (parts_view c.self.inside) c.args.self.now c.args.port c.target.result c.self.invariant c.self.view_is c.target.ensures c.in-Pair.is

pub invariant_of-self : goal.invariant_of-self
invariant_of-self c =
    let is = pair_port (parts_view c.self.inside) c.args.self.now c.args.port c.target.result c.self.invariant c.self.view_is c.target.ensures c.in-Pair.is in
    rw c.write.ensures (pair-written (parts_view c.self.inside) c.self.invariant c.args.port c.args.value c.ranges.value.fits is)

pub write-requires-in-Counter-clause-port : goal.write-requires-in-Counter-clause-port
write-requires-in-Counter-clause-port c = pit_port c.args.self.now.level c.args.port c.target.result c.target.ensures c.in-Counter.is

pub write-requires-in-Counter-clause-loaded : goal.write-requires-in-Counter-clause-loaded
write-requires-in-Counter-clause-loaded c = loaded (parts_view c.self.inside) c.self.invariant

pub invariant_of-self-in-Counter : goal.invariant_of-self-in-Counter
invariant_of-self-in-Counter c =
    rw c.write-in-Counter.ensures.step (pit-written (parts_view c.self.inside) c.self.invariant c.args.port c.args.value c.ranges.value.fits)

pub write-requires-in-Register-clause-offset : goal.write-requires-in-Register-clause-offset
write-requires-in-Register-clause-offset c =
    reached_as c.args.self.now.level c.args.port c.target.result (Register c.in-Register.offset) c.target.ensures c.in-Register.is

pub invariant_of-self-in-Register : goal.invariant_of-self-in-Register
invariant_of-self-in-Register c =
    rw c.write-in-Register.ensures.state (serial-written (parts_view c.self.inside) c.self.invariant c.in-Register.offset c.args.value c.ranges.value.fits)
