use Rattle.vms_cli.proofs.Facade.{refl, rules, Err, Some, intake, outlet, described, fit_of, ending_passed, ending_of, LacksMemory}
use Rattle.vms_cli.proofs.StreamCommands.{converts_stream, names_cell}
use Rattle.vms_commands.specs.declared.ending.Ending.TheVariants as endings
use Rattle.vms_convert.specs.declared.fault.ConvertFault.TheVariants as faults
use Rattle.vms_cli.proofs.commands.convert.convert_to.Goals as goal

pub with_line-requires : goal.with_line-requires
with_line-requires g c =
    let to = c.args.to.now in
    record {
      newest = search rules;
      path = search rules;
      named = names_cell (described to) (fit_of (described to) to.well_formed to.heads) (intake g.I.Source c.args.input.now)
          (intake g.I.Source c.convert_with-converted.new.source) (outlet g.O.Sink c.args.out.now)
          (outlet g.O.Sink c.convert_with-converted.new.sink) c.convert_with-converted.result c.convert_with-converted.ensures.converts;
    }

pub returns : goal.returns
returns g c =
    let to = c.args.to.now in
    converts_stream (described to) (fit_of (described to) to.well_formed to.heads) (intake g.I.Source c.args.input.now)
    (intake g.I.Source c.convert_with-converted.new.source)
    (outlet g.O.Sink c.args.out.now) (outlet g.O.Sink c.convert_with-converted.new.sink) c.convert_with-converted.result
    (ending_of c.with_line.result) c.with_line.ensures c.convert_with-converted.ensures.converts
    (g.met.I.Source.octets c.args.input.now) (g.met.I.Source.counted c.args.input.now)

-- no memory, before anything was read
pub returns-in_err-path : goal.returns-in_err-path
returns-in_err-path g c = rw (ending_passed c.from_residual.result c.from_residual.ensures.1) (
    let to = c.args.to.now in
    converts_stream (described to) (fit_of (described to) to.well_formed to.heads) _ _ _ _ (Err faults.NoMemory) (Some endings.NoMemory) LacksMemory
    (refl, refl)
    (g.met.I.Source.octets c.args.input.now) (g.met.I.Source.counted c.args.input.now))

pub returns-in_err-loader : goal.returns-in_err-loader
returns-in_err-loader g c = rw (ending_passed c.from_residual-in_err-loader.result c.from_residual-in_err-loader.ensures.1) (
    let to = c.args.to.now in
    converts_stream (described to) (fit_of (described to) to.well_formed to.heads) _ _ _ _ (Err faults.NoMemory) (Some endings.NoMemory) LacksMemory
    (refl, refl)
    (g.met.I.Source.octets c.args.input.now) (g.met.I.Source.counted c.args.input.now))
