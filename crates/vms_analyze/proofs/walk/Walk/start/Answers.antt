use Rattle.vms_analyze.proofs.Walks.{why_before, why_then, walks_then, goes_then}
use Rattle.vms_analyze.proofs.walk.Walk.start.Goals as goal

pub returns-in-Err : goal.returns-in-Err
returns-in-Err c = why_before _ _ _ _ _ c.in-Err.ensures

pub returns-in-Err-bytes : goal.returns-in-Err-bytes
returns-in-Err-bytes c =
    why_before _ _ _ _ _ (why_then _ _ _ c.in_default.ensures c.in-Err-bytes.ensures)

pub returns : goal.returns
returns c = walks_then _ _ _ (goes_then c.in_default.ensures c.in_default-bytes.ensures) c.machine.ensures
