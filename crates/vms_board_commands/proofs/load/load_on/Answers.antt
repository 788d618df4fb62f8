use Rattle.vms_board_commands.proofs.Facade.{event_lines, Loads, ending_of, Ok, Err, ap, ◌∙◌, within, outlet, draws_took, refused_line}
use Rattle.vms_board_commands.proofs.RunLemmas.{seen_runs, unread_runs, refused_so, traced_so}
use Rattle.vms_board_commands.proofs.ScriptCommands.{loads_same, refusal_seen, trace_seen, written_events}
use Rattle.vms_board_commands.proofs.load.load_on.Goals as goal

-- the board was restored, and its trace was written
pub returns-in-Ok : goal.returns-in-Ok
returns-in-Ok g c =
    let f = g.M.Machine.family in
    let stands = g.met.M.Machine.stands in
    let number = f.number c.args.board.now.state in
    let lines = event_lines c.args.events.now in
    let out = outlet g.O.Sink c.args.out.now in
    let out' = outlet g.O.Sink c.go_on.new.out in
    let e = ending_of c.go_on.result in
    let reads = c.in-Ok.ensures.reads in
    let written = written_events f c.args.events.now c.restore.new.self.state out out' e c.go_on.ensures in
    record {
      runs = seen_runs (Loads f number lines) (λ bytes held x y ok p q. loads_same f stands.well stands.heads number lines bytes held ok x y p q) (λ held bytes x p. p) (g.met.I.Source.octets c.args.input.now)
          (λ shelf shelf' held. trace_seen f number lines c.restore.new.self e held reads written)
          (λ shelf asks. traced_so shelf (draws_took reads.takes) _ out out' e c.go_on.ensures);
      given = within f number c.restore.new.self (Ok tt) reads;
    }

pub returns-in-Err-Refused : goal.returns-in-Err-Refused
returns-in-Err-Refused g c =
    let f = g.M.Machine.family in
    let stands = g.met.M.Machine.stands in
    let number = f.number c.args.board.now.state in
    let lines = event_lines c.args.events.now in
    let r = c.in-Err-Refused.refusal in
    let line = c.refused_line.result in
    let reads = rw c.in-Err-Refused.field-0-is at c.in-Err-Refused.ensures.reads in
    let said = c.refused_line.ensures ∙ ap (λ s. refused_line s r.at r.section r.reason) c.set.ensures in
    record {
      runs = seen_runs (Loads f number lines) (λ bytes held x y ok p q. loads_same f stands.well stands.heads number lines bytes held ok x y p q) (λ held bytes x p. p) (g.met.I.Source.octets c.args.input.now)
          (λ shelf shelf' held. refusal_seen f number lines c.restore.new.self r line reads said)
          (λ shelf asks. refused_so shelf (draws_took reads.takes) (outlet g.O.Sink c.args.out.now) line);
      given = within f number c.restore.new.self (Err c.in-Err-Refused.field-0) c.in-Err-Refused.ensures.reads;
    }

pub returns-in-Err-ReadFault : goal.returns-in-Err-ReadFault
returns-in-Err-ReadFault g c =
    let f = g.M.Machine.family in
    let reads = rw c.in-Err-ReadFault.field-0-is at c.in-Err-ReadFault.ensures.reads in
    record {
      runs = unread_runs (outlet g.O.Sink c.args.out.now) (draws_took reads.takes) reads.cause;
      given = within f (f.number c.args.board.now.state) c.restore.new.self (Err c.in-Err-ReadFault.field-0) c.in-Err-ReadFault.ensures.reads;
    }
