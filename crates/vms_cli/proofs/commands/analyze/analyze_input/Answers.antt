use Rattle.vms_cli.proofs.Facade.{intake, outlet, ending_of}
use Rattle.vms_cli.proofs.TextCommands.{list_content, list_given, list_seen, list_so, listed_like}
use Rattle.vms_cli.proofs.commands.analyze.analyze_input.Goals as goal

pub returns : goal.returns
returns g c = λ shelf.
    let i = intake g.I.Source c.args.input.now in
    let i' = intake g.I.Source c.analyze.new.source in
    let o = outlet g.O.Sink c.args.out.now in
    let o' = outlet g.O.Sink c.analyze.new.sink in
    let e = ending_of c.map_err.result in
    let like = listed_like c.analyze.result c.map_err.result c.map_err.ensures.cases in
    record {
      content = list_content i i' o o' c.analyze.result e like c.analyze.ensures (g.met.I.Source.octets c.args.input.now) shelf;
      so = list_so i i' o o' c.analyze.result e like c.analyze.ensures shelf;
      given = list_given i i' o o' c.analyze.result c.analyze.ensures;
      seen = λ reads. list_seen i i' o o' c.analyze.result e like c.analyze.ensures shelf;
    }
