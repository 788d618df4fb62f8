use Rattle.vms_desc.proofs.Facade.{◌∙◌, ap, arith, map, Device, sub_of, described}
use Rattle.vms_desc.proofs.Clean.{few_subs, long_seen}
use Rattle.vms_desc.proofs.set.DescSet.sub_count.Goals as goal

pub overflow_cast-result : goal.overflow_cast-result
overflow_cast-result c =
    let few = few_subs (described c.args.self.now) c.args.self.now.well_formed c.args.device c.requires in
    omega (arith, few, long_seen sub_of c.as_slice.result.now (ap (map sub_of) c.as_slice.ensures ∙ ap (λ (d : Device). d.subs) c.device.ensures))
