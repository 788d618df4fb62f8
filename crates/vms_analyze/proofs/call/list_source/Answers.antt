use Rattle.vms_analyze.proofs.Facade.{arith}
use Rattle.vms_analyze.proofs.{Facade.intake, One.lists_taken, One.is_too_much}
use Rattle.vms_analyze.proofs.call.list_source.Goals as goal

pub returns-in-Ok : goal.returns-in-Ok
returns-in-Ok g c = grind (arith, lists_taken)

pub returns-in-Err-TooLong : goal.returns-in-Err-TooLong
returns-in-Err-TooLong g c =
    is_too_much (intake g.S.Source c.args.source.now) (intake g.S.Source c.read_input.new.source) (rw c.in-Err-TooLong.field-0-is at c.in-Err-TooLong.ensures)
