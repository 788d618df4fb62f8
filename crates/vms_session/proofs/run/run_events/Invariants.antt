use Rattle.vms_session.proofs.Facade.{◌≡◌, drop, AreEvents, after_events}
use Rattle.vms_session.proofs.run.run_events.Given as goal

abbrev pub invariant-loop-event : goal.invariant-loop-event
invariant-loop-event g l = record {
  events : AreEvents (drop l.event-index l.events);
  left : after_events g.M.Machine.family (drop l.event-index l.events) l.devices ≡ after_events g.M.Machine.family l.events l.fn.devices;
  sound : g.M.Machine.is_sound l.devices;
}
