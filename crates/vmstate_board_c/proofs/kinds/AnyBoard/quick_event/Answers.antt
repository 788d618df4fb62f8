use Rattle.vmstate_board_c.proofs.{Facade.rules, Facade.step_of, Facade.Isa, Silent.at_reached}
use Rattle.std.proofs.Common.{◌≡◌}
use Rattle.vmstate_board_c.proofs.kinds.AnyBoard.quick_event.Goals as goal

pub returns-then-reach : goal.returns-then-reach
returns-then-reach c =
    let stepped : (c.event-answer.result, Isa c.event-answer.new.self) ≡ step_of c.args.event (Isa c.reach.new.board) = search rules in
    rw c.in-Isa.is (at_reached c.args.moment c.args.event (Isa c.in-Isa.board) _ _ c.event-answer.result c.requires.access (c.reach.ensures.reached c.if-reach.true) stepped)
