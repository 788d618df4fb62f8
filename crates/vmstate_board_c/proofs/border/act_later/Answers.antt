use Rattle.vmstate_board_c.proofs.{Facade.ℕ, Facade.ap, Facade.◌∙◌, Facade.said, Silent.later_said}
use Rattle.std.proofs.Common.{List}
use Rattle.vmstate_board_c.proofs.border.act_later.Goals as goal

pub returns : goal.returns
returns c =
    later_said _ _ _ _ _ _ _ _ c.requires.access c.event-passed.ensures c.event-answer.ensures
    (c.answered.ensures ∙ ap (λ (l : List ℕ). said c.event-answer.result.value c.event-answer.result.int l) c.as_slice.ensures.value)
