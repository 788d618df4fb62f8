use Rattle.vms_board_commands.proofs.{Facade.NoMemory, RunLemmas.other_seen}
use Rattle.vms_board_commands.proofs.Facade.{ending_passed, refl, ap, ◌∙◌, arith, Some, Keeps-refl, outlet, comes_to_nothing, event_lines, same_so}
use Rattle.vms_board_commands.proofs.load.load_events.Goals as goal

pub returns : goal.returns
returns g c =
    let lines = event_lines c.args.events.now in
    rw (ap g.M.Machine.family.number c.in_ok-board.ensures.state ∙ g.met.M.Machine.stands.begun c.args.number) at c.load_on.ensures

-- without memory nothing was done
pub returns-in_err-board : goal.returns-in_err-board
returns-in_err-board g c = rw (ending_passed c.from_residual.result c.from_residual.ensures.1) (
    let out = outlet g.O.Sink c.args.out.now in
    record {
      runs = record {
        content = λ shelf shelf' o held loads. comes_to_nothing out out shelf shelf' _ (Keeps-refl out.written) held;
        so = λ shelf asks. same_so _ out shelf _ _ refl tt;
        seen = λ shelf shelf' held. other_seen (Some NoMemory) refl;
      };
      given = omega arith;
    })
