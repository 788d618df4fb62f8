use Rattle.vms_desc.proofs.Facade.{◌≡◌, ◌<◌, length, arith, AtLeast, no_desc, own_cells, own_cell_count, described, sub_at}
use Rattle.vms_desc.specs.Described.{device_at}
use Rattle.vms_desc.proofs.AskLaws.{few_cells, sub_first, sub_next, sub_inside, own_inside_device}
use Rattle.vms_desc.proofs.set.DescSet.first_cell_of_sub.Goals.{After-cells_of-cell-in-loop-earlier}
use Rattle.vms_desc.proofs.set.DescSet.first_cell_of_sub.Goals as goal

pub loop-earlier-init : goal.loop-earlier-init
loop-earlier-init c =
    let set = described c.args.self.now in
    let d = device_at set c.args.device in
    omega (
      arith,
      c.cells_of-cell.ensures,
      own_inside_device set c.args.device,
      few_cells set c.args.self.now.well_formed c.args.device,
      sub_first set
          (own_cells set d) d.subs,
    )

-- an earlier subsection is one of the device's, and the code knows its size
earlier : (c : After-cells_of-cell-in-loop-earlier) → (let d = device_at (described c.args.self.now) c.args.device in
    (c.loop-earlier.earlier < length d.subs) × (c.cells_of-cell-in-loop-earlier.result ≡ own_cell_count (described c.args.self.now)
    (sub_at d c.loop-earlier.earlier).desc))
earlier c =
    let set = described c.args.self.now in
    let lt : c.loop-earlier.earlier < length (device_at set c.args.device).subs = omega (arith, c.requires.1) in
    (lt, omega (arith, c.cells_of-cell-in-loop-earlier.ensures, sub_inside set c.args.device c.loop-earlier.earlier lt, few_cells set c.args.self.now.well_formed c.args.device))

pub overflow_add-cell : goal.overflow_add-cell
overflow_add-cell c =
    let set = described c.args.self.now in
    let e = earlier c in
    omega (arith, e.1, c.loop-earlier.invariant, sub_inside set c.args.device c.loop-earlier.earlier e.0, few_cells set c.args.self.now.well_formed c.args.device)

pub loop-earlier-preserved : goal.loop-earlier-preserved
loop-earlier-preserved c =
    let set = described c.args.self.now in
    let d = device_at set c.args.device in
    let e = earlier (goal.at.loop-earlier-preserved c).After-cells_of-cell-in-loop-earlier in
    omega (
      arith,
      e.1,
      sub_next set (own_cells set d) d.subs c.loop-earlier.earlier
          (record { desc = no_desc; needed = AtLeast 0 }) e.0,
      c.loop-earlier.invariant,
    )
