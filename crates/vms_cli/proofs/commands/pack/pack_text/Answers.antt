use Rattle.vms_cli.proofs.{Facade.rules, Facade.outlet, Facade.described, Facade.fit_of, Facade.ending_of, StreamCommands.packs_read, StreamCommands.read_ready}
use Rattle.vms_cli.proofs.commands.pack.pack_text.Goals as goal

pub write-requires : goal.write-requires
write-requires g c =
    let set = described c.args.set.now in
    record {
      machine = search rules;
      of = c.in-Ok.ensures.of;
      ready = read_ready set (fit_of set c.args.set.now.well_formed c.args.set.now.heads) c.args.text.now c.in-Ok.values c.in-Ok.ensures.read;
    }

pub returns-in-Ok-clause-ends : goal.returns-in-Ok-clause-ends
returns-in-Ok-clause-ends g c =
    packs_read (described c.args.set.now) c.args.text.now (outlet g.O.Sink c.args.out.now) (outlet g.O.Sink c.write.new.out)
    c.in-Ok.values (ending_of c.write.result) c.in-Ok.ensures.read c.write.ensures.written
