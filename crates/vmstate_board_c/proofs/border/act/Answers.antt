use Rattle.vmstate_board_c.proofs.Silent.{now_said}
use Rattle.vmstate_board_c.proofs.border.act.Goals as goal

pub returns : goal.returns
returns c = now_said _ _ _ _ c.requires.access c.event-answer.ensures
