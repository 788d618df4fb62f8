use Rattle.vms_session.proofs.Facade.{◌≡◌, take, drop, AreEvents, after_events, outlet, trace_from}
use Rattle.vms_io.proofs.WritingLemmas.{Leaves}
use Rattle.vms_session.proofs.run.trace.Given as goal

abbrev pub invariant-loop-event : goal.invariant-loop-event
invariant-loop-event g l = record {
  events : AreEvents (drop l.event-index l.events);
  leaves : Leaves (outlet g.K.Sink l.fn.out) (outlet g.K.Sink l.out) (trace_from g.M.Machine.family l.events l.fn.board.state)
      (trace_from g.M.Machine.family (drop l.event-index l.events) l.board.state);
  left : after_events g.M.Machine.family (drop l.event-index l.events) l.board.state ≡ after_events g.M.Machine.family l.events l.fn.board.state;
  among : l.board.state ≡ after_events g.M.Machine.family (take l.event-index l.events) l.fn.board.state;
  number : g.M.Machine.family.number l.board.state ≡ g.M.Machine.family.number l.fn.board.state;
  taken : l.board.taken ≡ l.fn.board.taken;
}
