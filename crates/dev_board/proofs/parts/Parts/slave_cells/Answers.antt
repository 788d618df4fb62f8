use Rattle.dev_board.proofs.{Facade.ap, Facade.◌∙◌, Facade.saved_cells, RestoredLaws.slave-half}
use Rattle.dev_board.proofs.parts.Parts.slave_cells.Goals as goal

pub returns : goal.returns
returns c =
    c.second_half.ensures ∙ slave-half c.args.set c.self.inside.pair c.save_device.result.items c.save_device.ensures
    ∙ ap (λ m. saved_cells c.args.set m.pair.slave) c.self.view_is
