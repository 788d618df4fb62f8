use Rattle.vms_convert.proofs.Facade.{◌≡◌, length, ap, arith, recast_cells, recast_kinds}
use Rattle.vms_convert.proofs.recasting.recast_into.Goals.{After-recast-cells}
use Rattle.vms_convert.proofs.recasting.recast_into.Goals as goal

recast_is : (c : After-recast-cells) → c.recast-cells.result.items ≡ recast_cells c.args.source.now.numbers
recast_is c = cc (c.recast-cells.ensures.cells, c.image_cells.ensures)

pub put_cells-requires : goal.put_cells-requires
put_cells-requires c =
    let of = recast_kinds c.args.source.now.numbers c.requires.cells.of_kinds in
    let is = recast_is (goal.at.put_cells-requires c).After-recast-cells in
    record {
      long = omega (arith, ap length is, ap length c.requires.kinds);
      in_range = λ k lt. rw (c.requires.kinds, is) (of.in_range k (omega (arith, ap length is)));
    }
