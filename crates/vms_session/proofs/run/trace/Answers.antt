use Rattle.std.proofs.Common.{rules}
use Rattle.vms_session.proofs.{Facade.arith, Facade.err_from_is_err_and, Facade.trace_line, run.trace.Given.Over, run.trace.Goals.In-loop-event}
use Rattle.vms_session.proofs.{run.trace.Goals.After-loop-event, CourseLemmas.number_next, CourseLemmas.one_more}
use Rattle.vms_session.proofs.CourseLemmas.{trace_next, trace_none, event_at, left_next, none_left, first_event, later_events, after_next, after_none, none_yet}
use Rattle.vms_session.proofs.Facade.{trace_from, leaves_all, leaves_none, leaves_rest, leaves_stop, ◌≡◌, ◌+◌, [], ◌∷◌, drop, ◌∙◌}
use Rattle.vms_session.proofs.run.trace.Goals as goal

-- the event whose turn it is, and those after it
next : (g : Over) (c : goal.In-loop-event g)
    → (let events = c.args.events.now in let i = c.loop-event.event-index in drop i events ≡ event_at events i ∷ drop (i + 1) events)
next g c = left_next c.args.events.now c.loop-event.event-index (omega arith)

pub loop-event-init : goal.loop-event-init
loop-event-init g c = search (rules, leaves_all, none_yet)

pub trace_event-requires : goal.trace_event-requires
trace_event-requires g c =
    let events = c.args.events.now in
    let i = c.loop-event.event-index in
    first_event (event_at events i) (drop (i + 1) events) (drop i events)
    (next g (goal.at.trace_event-requires g c).In-loop-event) c.loop-event.invariant.events

pub returns-in_err-trace_event-clause-wrote : goal.returns-in_err-trace_event-clause-wrote
returns-in_err-trace_event-clause-wrote g c =
    let f = g.M.Machine.family in
    let events = c.args.events.now in
    let i = c.loop-event.event-index in
    let m = c.loop-event.board.state in
    let split =
    trace_next f (event_at events i) (drop (i + 1) events) (drop i events) m c.trace_event.new.board.state
    (next g (goal.at.returns-in_err-trace_event-clause-wrote g c).In-loop-event) c.in_err-trace_event.ensures.state in
    rw (err_from_is_err_and c.from_residual.result c.from_residual.ensures.1).1 (leaves_stop {part = trace_line (f.step (event_at events i) m).0}
    (trace_from f (drop (i + 1) events) c.trace_event.new.board.state) split c.loop-event.invariant.leaves c.in_err-trace_event.ensures.wrote)

pub loop-event-preserved : goal.loop-event-preserved
loop-event-preserved g c =
    let f = g.M.Machine.family in
    let i = c.loop-event.event-index in
    let event = event_at c.args.events.now i in
    let rest = drop (i + 1) c.args.events.now in
    let all = drop i c.args.events.now in
    let m = c.loop-event.board.state in
    let m' = c.trace_event.new.board.state in
    let left = next g (goal.at.loop-event-preserved g c).In-loop-event in
    record {
      events = later_events event rest all left c.loop-event.invariant.events;
      leaves = leaves_rest {part = trace_line (f.step event m).0} (trace_from f rest m')
          (trace_next f event rest all m m' left c.in_ok-trace_event.ensures.state) c.loop-event.invariant.leaves c.in_ok-trace_event.ensures.wrote;
      left = after_next f event rest all m m' left c.in_ok-trace_event.ensures.state ∙ c.loop-event.invariant.left;
      among = one_more f c.args.events.now i c.args.board.now.state m m'
          (omega arith) c.loop-event.invariant.among c.in_ok-trace_event.ensures.state;
      number = number_next f g.met.M.Machine.stands.stays event m m' c.in_ok-trace_event.ensures.state ∙ c.loop-event.invariant.number;
      taken = c.in_ok-trace_event.ensures.taken ∙ c.loop-event.invariant.taken;
    }

-- no event is left
none : (g : Over) (c : goal.After-loop-event g) → drop c.loop-event.event-index c.args.events.now ≡ []
none g c = none_left c.args.events.now c.loop-event.event-index (omega arith)

pub returns-clause-wrote : goal.returns-clause-wrote
returns-clause-wrote g c = search (rules, leaves_none, trace_none, none)

pub returns-in_err-trace_event-clause-number : goal.returns-in_err-trace_event-clause-number
returns-in_err-trace_event-clause-number g c = search (rules, number_next, g.met.M.Machine.stands.stays)

pub returns-in_err-trace_event-clause-stopped : goal.returns-in_err-trace_event-clause-stopped
returns-in_err-trace_event-clause-stopped g c =
    let i = c.loop-event.event-index in
    rw (err_from_is_err_and c.from_residual.result c.from_residual.ensures.1).1 (record {
      count = i + 1;
      within = omega arith;
      is = one_more g.M.Machine.family c.args.events.now i c.args.board.now.state c.loop-event.board.state c.trace_event.new.board.state
          (omega arith) c.loop-event.invariant.among c.in_err-trace_event.ensures.state;
    })

pub returns-clause-state : goal.returns-clause-state
returns-clause-state g c =
    cc (
      after_none g.M.Machine.family (drop c.loop-event.event-index c.args.events.now) c.loop-event.board.state
          (none g (goal.at.returns-clause-state g c).After-loop-event),
      c.loop-event.invariant.left,
    )
