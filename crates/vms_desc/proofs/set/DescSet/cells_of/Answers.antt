use Rattle.vms_desc.proofs.Facade.{◌≡◌, ◌-◌, ap, arith, length, take_all, described, desc_at}
use Rattle.vms_desc.proofs.EvalLaws.{capped_cells}
use Rattle.vms_desc.proofs.set.DescSet.cells_of.Goals as goal

pub returns : goal.returns
returns c =
    let set = described c.args.self.now in
    let d = desc_at set c.args.desc in
    let last : length c.as_slice-starts.result.now - 1 ≡ length d.fields = omega (arith, ap length c.as_slice-starts.ensures, c.table.ensures.starts.long) in
    rw (last, c.as_slice-starts.ensures, c.table.ensures.starts.start (length d.fields) (omega arith), take_all (length d.fields) d.fields (omega arith))
    (capped_cells set d)
