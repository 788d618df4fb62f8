use Rattle.vms_io.proofs.Gathering.{kept_front, later_cause, still_told, told_empty}
use Rattle.vms_io.proofs.standard.StdSink.flush.Goals as goal

pub returns-in-Ok-clause-bytes : goal.returns-in-Ok-clause-bytes
returns-in-Ok-clause-bytes g c = still_told _ _ _ _ c.in-Ok.ensures.bytes c.in_ok-hand_on.ensures.bytes

pub returns-in-Ok-clause-handed : goal.returns-in-Ok-clause-handed
returns-in-Ok-clause-handed g c = told_empty _ _ _ _ c.in_ok-hand_on.ensures.empty

pub returns-in-Err-clause-bytes : goal.returns-in-Err-clause-bytes
returns-in-Err-clause-bytes g c = still_told _ _ _ _ c.in-Err.ensures.bytes c.in_ok-hand_on.ensures.bytes

pub returns-in-Err-clause-cause : goal.returns-in-Err-clause-cause
returns-in-Err-clause-cause g c = later_cause _ _ _ _ c.in_ok-hand_on.ensures.cause.later c.failed.ensures.cause

pub returns-in-Ok-clause-front : goal.returns-in-Ok-clause-front
returns-in-Ok-clause-front g c = kept_front _ _ _ (still_told _ _ _ _ c.in-Ok.ensures.bytes c.in_ok-hand_on.ensures.bytes)

pub returns-in-Err-clause-front : goal.returns-in-Err-clause-front
returns-in-Err-clause-front g c = kept_front _ _ _ (still_told _ _ _ _ c.in-Err.ensures.bytes c.in_ok-hand_on.ensures.bytes)
