use Rattle.std.proofs.Common.{rules}
use Rattle.vms_board_commands.proofs.{ScriptCommands.played_by, ScriptCommands.at_level, RunLemmas.played_so, Facade.ending_mapped}
use Rattle.vms_board_commands.proofs.Facade.{ending_passed, ap, ◌∙◌, outlet, stock, lines_view, comes_to_nothing, same_so}
use Rattle.vms_board_commands.proofs.play.play_lines.Goals as goal

pub play-requires : goal.play-requires
play-requires g c = rw (ap (λ m. m.level) c.in_ok-board.ensures.state ∙ at_level c.args.level) c.requires.lines

pub returns : goal.returns
returns g c = λ input few.
    rw (ending_mapped _ _ _ c.map_err.ensures.cases) (record {
      content = λ o has. played_by c.args.level (lines_view c.args.lines.now) input (outlet g.O.Sink c.args.out.now) (outlet g.O.Sink c.play.new.out) (stock g.H.Shelf c.args.shelf.now) (stock g.H.Shelf c.play.new.shelf) c.in_ok-board.board.state c.play.new.board.state o c.in_ok-board.ensures.state c.play.result few c.play.ensures.content has;
      so = played_so input c.play.result c.play.ensures.goes;
      given = tt;
      seen = λ reads. cc;
    })

-- without memory nothing was done
pub returns-in_err-board : goal.returns-in_err-board
returns-in_err-board g c = search (rules, ending_passed, comes_to_nothing, same_so)
