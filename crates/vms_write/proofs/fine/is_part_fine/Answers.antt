use Rattle.vms_write.proofs.Facade.{refl, ◌≡◌, ◌+◌, arith, own_cell_count, described, desc_at, formed}
use Rattle.vms_write.proofs.FineReady.{part_is}
use Rattle.vms_write.proofs.fine.is_part_fine.Goals as goal

pub returns-in-Ok : goal.returns-in-Ok
returns-in-Ok c =
    let set = described c.args.set.now in
    let spot = c.args.spot in
    let n = c.args.image.now.numbers in
    let forms = formed c.args.defaults.now in
    let went = c.in-Ok.ensures in
    let same : c.walk.new.walker.image.now.numbers ≡ n = rw went.0 in
    let end = spot.base + c.cells_of.result in
    let whole : end ≡ spot.base + own_cell_count set (desc_at set spot.part) = omega (arith, c.cells_of.ensures, c.requires.spot.room, c.requires.spot.few) in
    rw (c.are_default.ensures, went.2, same) (rw (rw same at went.3) at (part_is set spot forms n end whole))

pub returns-in-Err : goal.returns-in-Err
returns-in-Err c =
    let stopped = c.in-Err.ensures in
    let same : c.walk.new.walker.image.now.numbers ≡ c.args.image.now.numbers = rw stopped.0 in
    rw (rw same at stopped.3) at (part_is (described c.args.set.now) c.args.spot (formed c.args.defaults.now) c.args.image.now.numbers _ refl)
