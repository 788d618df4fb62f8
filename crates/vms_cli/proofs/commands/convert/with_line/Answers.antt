use Rattle.vms_cli.proofs.Facade.{◌≡◌, Err, Result, ap, ◌∙◌, Option, ConvertFault, ending_passed, refused_line, Ending, IsDone, IsLost, IsMismatch}
use Rattle.vms_cli.proofs.Facade.{LacksLine, LacksMemory}
use Rattle.vms_cli.specs.Commands.ConvertCommand.{EndsLike, FailsReading, FailsWriting, IsRefused}
use Rattle.vms_cli.proofs.commands.convert.with_line.Goals as goal

-- by the fault that the call answered
by_fault : {converted : Result (Unit {0}) ConvertFault} {answered fault : ConvertFault} {e : Option Ending} → converted ≡ Err answered → answered ≡ fault
    → EndsLike (Err fault) e → EndsLike converted e
by_fault {e = e} is same like = rw (is ∙ ap Err same) like

pub returns-in-Ok : goal.returns-in-Ok
returns-in-Ok c = rw c.in-Ok.is (IsDone c.in-Ok.field-0)

pub returns-in_ok-mismatch_line-in-Err-NotCompatible : goal.returns-in_ok-mismatch_line-in-Err-NotCompatible
returns-in_ok-mismatch_line-in-Err-NotCompatible c =
    let line = c.in_ok-mismatch_line-in-Err-NotCompatible in
    by_fault c.in-Err-NotCompatible.is (rw c.in-Err-NotCompatible.is at c.in-Err-NotCompatible.field-0-is)
    (IsMismatch c.in-Err-NotCompatible.mismatch line.field-0 line.ensures)

pub returns-in_err-mismatch_line-in-Err-NotCompatible : goal.returns-in_err-mismatch_line-in-Err-NotCompatible
returns-in_err-mismatch_line-in-Err-NotCompatible c =
    rw (ending_passed c.from_residual.result c.from_residual.ensures.1)
    (by_fault c.in-Err-NotCompatible.is (rw c.in-Err-NotCompatible.is at c.in-Err-NotCompatible.field-0-is) (LacksLine c.in-Err-NotCompatible.mismatch))

pub returns-in-Err-Refused : goal.returns-in-Err-Refused
returns-in-Err-Refused c =
    let r = c.in-Err-Refused.refusal in
    by_fault c.in-Err-Refused.is (rw c.in-Err-Refused.is at c.in-Err-Refused.field-0-is)
    (IsRefused r c.refused_line.result (c.refused_line.ensures ∙ ap (λ s. refused_line s r.at r.section r.reason) c.requires.newest))

pub returns-in-Err-WouldLose : goal.returns-in-Err-WouldLose
returns-in-Err-WouldLose c =
    let lost = c.in-Err-WouldLose in
    by_fault lost.is (rw lost.is at lost.field-0-is) (IsLost lost.section lost.cell c.lost_line.result c.lost_line.ensures)

pub returns-in-Err-ReadFault : goal.returns-in-Err-ReadFault
returns-in-Err-ReadFault c = by_fault c.in-Err-ReadFault.is (rw c.in-Err-ReadFault.is at c.in-Err-ReadFault.field-0-is) FailsReading

pub returns-in-Err-WriteFault : goal.returns-in-Err-WriteFault
returns-in-Err-WriteFault c = by_fault c.in-Err-WriteFault.is (rw c.in-Err-WriteFault.is at c.in-Err-WriteFault.field-0-is) FailsWriting

pub returns-in-Err-NoMemory : goal.returns-in-Err-NoMemory
returns-in-Err-NoMemory c = by_fault c.in-Err-NoMemory.is (rw c.in-Err-NoMemory.is at c.in-Err-NoMemory.field-0-is) LacksMemory
