use Rattle.dev_images.proofs.Facade.{◌≡◌, take}
use Rattle.dev_images.proofs.cells.image_cells.Given as goal

abbrev pub invariant-loop-cell : goal.invariant-loop-cell
invariant-loop-cell l = l.cells.items ≡ take l.cell l.image.numbers
