use Rattle.vms_cli.proofs.Facade.{None, Ok, Err, ap, ◌∙◌, subst, outlet, values_text, machine_of, within, loads, has, taken_by, accepted_of, ending_of}
use Rattle.vms_cli.proofs.Facade.{WritesAs, refused_line, draws_took, refused_so, traced_so, seen_runs, unread_runs, Shows, fit_of}
use Rattle.vms_cli.proofs.TextCommands.{refusal_seen, shows_same, text_seen}
use Rattle.vms_cli.proofs.commands.show.show_stream.Goals as goal

pub returns-in-Ok : goal.returns-in-Ok
returns-in-Ok g c =
    let set = loads c.args.loader.now in
    let fit = fit_of set c.args.loader.now.set.well_formed c.args.loader.now.set.heads in
    let out = outlet g.O.Sink c.args.out.now in
    let out' = outlet g.O.Sink c.write_values.new.out in
    let images = has c.load.new.self in
    let taken = taken_by c.load.new.self in
    let machine = c.in-Ok.machine in
    let e = ending_of c.write_values.result in
    let reads = c.in-Ok.ensures.reads in
    let written = subst (λ s. WritesAs (values_text s (machine_of s machine) images) out out' e) c.in-Ok.ensures.set c.write_values.ensures in
    record {
      runs = seen_runs (Shows set) (shows_same set fit) (λ held bytes x shows. (fit.well, shows)) (g.met.I.Source.octets c.args.input.now)
          (λ shelf shelf' held. text_seen set images taken machine e held reads written)
          (λ shelf asks. traced_so shelf (draws_took reads.takes) _ out out' e c.write_values.ensures);
      given = within set (accepted_of set None) images taken (Ok machine) reads;
    }

pub returns-in-Err-Refused : goal.returns-in-Err-Refused
returns-in-Err-Refused g c =
    let set = loads c.args.loader.now in
    let fit = fit_of set c.args.loader.now.set.well_formed c.args.loader.now.set.heads in
    let images = has c.load.new.self in
    let taken = taken_by c.load.new.self in
    let r = c.in-Err-Refused.refusal in
    let line = c.refused_line.result in
    let reads = rw c.in-Err-Refused.field-0-is at c.in-Err-Refused.ensures.reads in
    let said = c.refused_line.ensures ∙ ap (λ s. refused_line s r.at r.section r.reason) (c.set.ensures ∙ c.in-Err-Refused.ensures.set) in
    record {
      runs = seen_runs (Shows set) (shows_same set fit) (λ held bytes x shows. (fit.well, shows)) (g.met.I.Source.octets c.args.input.now)
          (λ shelf shelf' held. refusal_seen set images taken r line reads said)
          (λ shelf asks. refused_so shelf (draws_took reads.takes) (outlet g.O.Sink c.args.out.now) line);
      given = within set (accepted_of set None) images taken (Err c.in-Err-Refused.field-0) c.in-Err-Refused.ensures.reads;
    }

pub returns-in-Err-ReadFault : goal.returns-in-Err-ReadFault
returns-in-Err-ReadFault g c =
    let set = loads c.args.loader.now in
    let reads = rw c.in-Err-ReadFault.field-0-is at c.in-Err-ReadFault.ensures.reads in
    record {
      runs = unread_runs (outlet g.O.Sink c.args.out.now) (draws_took reads.takes) reads.cause;
      given = within set (accepted_of set None) (has c.load.new.self) (taken_by c.load.new.self)
          (Err c.in-Err-ReadFault.field-0) c.in-Err-ReadFault.ensures.reads;
    }
