use Rattle.dev_serial.proofs.{Facade.queues, SoundLaws.queued-by, SoundLaws.queue-line}
use Rattle.dev_serial.specs.{View.port_view}
use Rattle.std.proofs.Common.{rules}
use Rattle.dev_serial.proofs.serial.Serial.queue.Goals as goal

pub returns-clause-queued : goal.returns-clause-queued
unfolding queues
returns-clause-queued c is now =
    queued-by c.args.byte now (port_view c.self.inside) c.args.self.now c.queue.new.self c.is_some.result
    c.self.view_is (search rules) c.is_some.ensures c.queue.ensures.state

pub returns-clause-line : goal.returns-clause-line
returns-clause-line c now = cc (queue-line now c.queue.new.self (port_view c.self.inside), c.self.view_is)
