use Rattle.vms_board_commands.proofs.DrillLaws.{one_more, none_more}
use Rattle.vms_board_commands.proofs.Facade.{◌+◌, ◌-◌, ◌∙◌, ap, arith, drill_begun, drilled_on, summary_of, progress_view}
use Rattle.vms_board_commands.proofs.drills.fold.drill.Goals as goal

pub loop-preserved : goal.loop-preserved
loop-preserved c = record {
  going = c.in_ok-step.ensures.going;
  count = omega (arith, ap (λ d. d.progress.events) c.in_ok-step.ensures.view);
  left = one_more (c.args.count - c.loop.counter) (c.args.count - (c.loop.counter + 1)) (progress_view c.loop.progress) (progress_view c.step.new.self)
      (drilled_on c.args.count (drill_begun c.args.level c.args.seed)) (omega arith) c.loop.invariant.left c.in_ok-step.ensures.view;
}

pub returns-clause-summary : goal.returns-clause-summary
returns-clause-summary c = c.end.ensures.summary ∙ ap summary_of (none_more (c.args.count - c.loop.counter) _ _ (omega arith) c.loop.invariant.left)

pub returns-clause-board : goal.returns-clause-board
returns-clause-board c =
    ap (λ b. b.state) c.end.ensures.board ∙ ap (λ d. d.progress.board) (none_more (c.args.count - c.loop.counter) _ _ (omega arith) c.loop.invariant.left)

pub returns-clause-taken : goal.returns-clause-taken
returns-clause-taken c =
    ap (λ b. b.taken) c.end.ensures.board ∙ ap (λ d. d.taken) (none_more (c.args.count - c.loop.counter) _ _ (omega arith) c.loop.invariant.left)
