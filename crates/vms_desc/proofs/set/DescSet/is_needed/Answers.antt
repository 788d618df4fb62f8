use Rattle.vms_desc.proofs.Facade.{◌∙◌, ap, arith, Sub, described, is_placed}
use Rattle.vms_spec.specs.declared.Part.TheVariants as parts
use Rattle.vms_desc.proofs.AskLaws.{found_sub, needed_placed, own_inside_device, sub_inside}
use Rattle.vms_desc.proofs.set.DescSet.is_needed.Goals as goal

pub eval-requires : goal.eval-requires
eval-requires g c =
    let set = described c.args.self.now in
    let i = c.args.device in
    let j = c.args.sub in
    let has = c.requires.sub.part in
    let found =
    found_sub set i j c.device.result.now c.as_slice.result.now c.index-as_slice-sub.result c.device.ensures c.as_slice.ensures has.1 c.index-as_slice-sub.is in
    record {
      part = has;
      placed = ap (λ (s : Sub). is_placed set (parts.Sub i j) s.needed) found ∙ needed_placed set c.args.self.now.well_formed i j has.0 has.1;
      few = c.requires.few;
      own = omega (arith, c.first_cell-base.ensures, sub_inside set i j has.1, c.requires.sub.cells);
      parent = omega (arith, own_inside_device set i, c.requires.sub.cells);
    }
