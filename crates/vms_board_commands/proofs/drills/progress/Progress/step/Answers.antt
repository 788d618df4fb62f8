use Rattle.vms_board_commands.proofs.{Facade.◌∙◌, Facade.sym, DrillLaws.some_saves, DrillLaws.goes_saved, DrillLaws.goes_unsaved}
use Rattle.vms_board_commands.proofs.drills.progress.Progress.step.Goals as goal

pub overflow_sub-saves : goal.overflow_sub-saves
overflow_sub-saves c = some_saves _ (sym c.is_save_due.ensures ∙ c.if-is_save_due.true)

pub returns-in_ok-self-clause-view : goal.returns-in_ok-self-clause-view
returns-in_ok-self-clause-view c =
    goes_saved _ _ _ _ _ _
    c.next_event.ensures.number c.next_event.ensures.event c.event-answer.ensures.step c.count.ensures.counts
    _ _ _ (sym c.is_save_due.ensures ∙ c.if-is_save_due.true)
    c.in_ok-self.ensures.back.state c.in_ok-self.ensures.back.long c.in_ok-self.ensures.back.taken

pub returns-else-is_save_due-clause-view : goal.returns-else-is_save_due-clause-view
returns-else-is_save_due-clause-view c =
    goes_unsaved _ _ _ _ _ _
    c.next_event.ensures.number c.next_event.ensures.event c.event-answer.ensures.step c.count.ensures.counts
    _ (sym c.is_save_due.ensures ∙ c.if-is_save_due.false) c.event-answer.ensures.taken
