use Rattle.dev_serial.proofs.Facade.{◌≡◌, [], ◌∷◌, ◌∙◌, sym, Some, None, nat_eq, judged_by, id_holds}
use Rattle.dev_serial.proofs.RestoredLaws.{restored_by, rule_within}
use Rattle.dev_serial.proofs.numbers.PortNumbers.restore.Goals as goal

pub returns-in-Some-clause-restored : goal.returns-in-Some-clause-restored
unfolding judged_by id_holds
returns-in-Some-clause-restored c =
    let same : nat_eq c.args.self.now.iir c.number.result ≡ id_holds c.args.level c.args.now c.args.self.now =
    rw (c.number.ensures, c.interrupt.ensures, c.to_port-port.ensures) in
    restored_by c.args.level c.args.now c.args.self.now c.to_port-port.result (Some c.in-Some.rule) _ _ _ _ _ _ _ _ _ _ c.registers_hold.ensures c.fifo_control_holds.ensures c.unused_hold.ensures c.status_holds.ensures c.shift_holds.ensures c.timeout_holds.ensures c.latch_holds.ensures same c.once_holds.ensures c.rings_hold.ensures c.to_port-port.ensures
    (sym c.in-Some.is ∙ c.first_failing.ensures.rule)

pub returns-in-None-clause-restored : goal.returns-in-None-clause-restored
unfolding judged_by id_holds
returns-in-None-clause-restored c =
    let same : nat_eq c.args.self.now.iir c.number.result ≡ id_holds c.args.level c.args.now c.args.self.now =
    rw (c.number.ensures, c.interrupt.ensures, c.to_port-port.ensures) in
    restored_by c.args.level c.args.now c.args.self.now c.to_port-port.result None _ _ _ _ _ _ _ _ _ _ c.registers_hold.ensures c.fifo_control_holds.ensures c.unused_hold.ensures c.status_holds.ensures c.shift_holds.ensures c.timeout_holds.ensures c.latch_holds.ensures same c.once_holds.ensures c.rings_hold.ensures c.to_port-port.ensures
    (sym c.in-None.is ∙ c.first_failing.ensures.rule)

pub returns-in-Some-clause-rule : goal.returns-in-Some-clause-rule
returns-in-Some-clause-rule c =
    let rules = c.registers_hold.result ∷ c.fifo_control_holds.result ∷ c.unused_hold.result ∷ c.status_holds.result ∷ c.shift_holds.result ∷ c.timeout_holds.result ∷ c.latch_holds.result ∷ nat_eq c.args.self.now.iir c.number.result ∷ c.once_holds.result ∷ c.rings_hold.result ∷ [] in
    rule_within rules c.in-Some.rule (sym c.first_failing.ensures.rule ∙ c.in-Some.is)
