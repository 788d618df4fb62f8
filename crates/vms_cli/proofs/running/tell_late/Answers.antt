use Rattle.vms_cli.proofs.OutcomeLaws.{told_late}
use Rattle.vms_cli.proofs.running.tell_late.Goals as goal

pub returns-clause-told : goal.returns-clause-told
returns-clause-told g c = record {
  first = _;
  whole = _;
  cut = c.discard.ensures.front;
  told = told_late _ _ _ _ _ c.tell-told.ensures.tells;
  flushed = c.flush-flushed.ensures.front;
}
