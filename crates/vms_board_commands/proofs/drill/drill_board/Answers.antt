use Rattle.vms_board_commands.proofs.Facade.{refl, ◌∙◌, outlet, ending_of, ending_passed, Gives, drill_line, same_so, writes_end}
use Rattle.vms_board_commands.proofs.RunLemmas.{drilled_so, text_runs}
use Rattle.vms_board_commands.proofs.drill.drill_board.Goals as goal

pub returns : goal.returns
returns g c = λ shelf input few.
    let out = outlet g.O.Sink c.args.out.now in
    let out' = outlet g.O.Sink c.write_text.new.out in
    let e = ending_of c.write_text.result in
    text_runs (Gives (drill_line c.args.level c.args.seed c.args.count)) few refl
    (rw (c.as_bytes.ensures.value ∙ c.in_ok-line.ensures) at (writes_end _ out out' e c.write_text.ensures))
    (drilled_so input shelf out out' c.as_bytes.result.now e c.write_text.ensures) (refl, refl) (λ x has. has)

pub returns-in_err-line : goal.returns-in_err-line
returns-in_err-line g c = rw (ending_passed _ c.from_residual.ensures.1) (λ shelf input few.
    text_runs (Gives (drill_line c.args.level c.args.seed c.args.count)) few refl tt
    (same_so input (outlet g.O.Sink c.args.out.now) shelf _ _ refl tt) (refl, refl) (λ x has. has))
