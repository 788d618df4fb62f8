use Rattle.dev_serial.proofs.{Facade.sym, Facade.ap, Facade.◌∙◌, WaitLaws.still}
use Rattle.std.proofs.Common.{rules}
use Rattle.dev_serial.proofs.serial.Serial.advance.Goals as goal

pub returns-then-is_still-clause-state : goal.returns-then-is_still-clause-state
returns-then-is_still-clause-state c =
    ap (λ bytes. (bytes, c.args.self.now)) (search rules) ∙ sym (still c.args.to c.args.self.now (c.is_still.ensures.0 c.if-is_still.true))
