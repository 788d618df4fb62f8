use Rattle.vms_cli.proofs.{Facade.refl, Facade.inl, Facade.inr, OutcomeLaws.kept_flushed}
use Rattle.vms_cli.proofs.running.flush_notes.Goals as goal

pub returns-in-Ok : goal.returns-in-Ok
returns-in-Ok g c = inl (refl, kept_flushed _ _ _ c.in-Ok.ensures.bytes c.in-Ok.ensures.handed)

pub returns-in-Err : goal.returns-in-Err
returns-in-Err g c = inr (c.status.ensures, c.in-Err.ensures.front)
