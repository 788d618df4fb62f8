use Rattle.std.proofs.Common.{rules}
use Rattle.vms_session.proofs.CourseLemmas.{event_at, left_next, none_left, first_event, later_events, after_next, after_none, after_number}
use Rattle.vms_session.proofs.Facade.{◌≡◌, ◌+◌, drop, ap, ◌∙◌, arith, names}
use Rattle.vms_session.proofs.run.run_events.Goals as goal

pub event-requires : goal.event-requires
event-requires g c = search (rules, names, first_event, left_next)

pub loop-event-preserved : goal.loop-event-preserved
loop-event-preserved g c =
    let events = c.args.events.now in
    let i = c.loop-event.event-index in
    let event = event_at events i in
    let m = c.loop-event.devices in
    let m' = c.event.new.self in
    let split = left_next events i (omega arith) in
    let done : m' ≡ (g.M.Machine.family.step event m).1 = ap (λ s. s.1) c.event.ensures.step in
    record {
      events = later_events event _ _ split c.loop-event.invariant.events;
      left = after_next g.M.Machine.family event (drop (i + 1) events) (drop i events) m m' split done ∙ c.loop-event.invariant.left;
      sound = c.event.ensures.sound;
    }

pub returns-clause-state : goal.returns-clause-state
returns-clause-state g c = search (rules, after_none, none_left)

pub returns-clause-number : goal.returns-clause-number
returns-clause-number g c = search (rules, after_none, none_left, after_number, g.met.M.Machine.stands.stays)
