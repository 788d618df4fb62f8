use Rattle.dev_board.proofs.{Facade.◌/◌, Facade.take, Facade.ap, Facade.◌∙◌, Facade.saved_cells, RestoredLaws.master-half}
use Rattle.dev_board.proofs.parts.Parts.master_cells.Goals as goal

pub returns : goal.returns
returns c =
    let cells = c.save_device-cells.result.items in
    c.truncate.ensures.items ∙ ap (λ n. take (n / 2) cells) c.len-half.ensures.value
    ∙ master-half c.args.set c.self.inside.pair cells c.save_device-cells.ensures ∙ ap (λ m. saved_cells c.args.set m.pair.master) c.self.view_is
