use Rattle.vms_cli.proofs.{Facade.OutFlushed, Facade.OutLate, OutcomeLaws.kept_flushed}
use Rattle.vms_cli.proofs.running.flush.Goals as goal

pub returns-in-Ok : goal.returns-in-Ok
returns-in-Ok g c = OutFlushed (kept_flushed _ _ _ c.in-Ok.ensures.bytes c.in-Ok.ensures.handed) c.flush_notes.ensures

pub returns-in-Err : goal.returns-in-Err
returns-in-Err g c = OutLate c.tell_late.ensures.status c.in-Err.ensures.front c.tell_late.ensures.told
