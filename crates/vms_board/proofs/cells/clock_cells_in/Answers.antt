use Rattle.std.proofs.Common.{arith}
use Rattle.vms_board.proofs.Imaging.{behind, chip_room, cells-behind}
use Rattle.vms_board.proofs.cells.clock_cells_in.Goals as goal

pub image_cells-requires : goal.image_cells-requires
image_cells-requires c = chip_room _ c.index-images-0.result c.requires c.index-images-0.is

pub cells_in-requires : goal.cells_in-requires
cells_in-requires c = behind c.args.images.now c.requires

pub returns : goal.returns
returns c = grind (arith, cells-behind)
