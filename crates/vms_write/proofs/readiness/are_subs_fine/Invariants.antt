use Rattle.vms_write.proofs.Facade.{◌≡◌, drop, first_cell, described, device_at, state_of, subs_fine, forms_of, all_subs_fine}
use Rattle.vms_spec.specs.declared.Part.TheVariants as parts
use Rattle.vms_write.proofs.readiness.are_subs_fine.Given as goal

abbrev pub invariant-loop-sub : goal.invariant-loop-sub
invariant-loop-sub l =
    let set = described l.set in
    let d = device_at set l.device in
    subs_fine set d (forms_of set d) (state_of l.image) l.sub (first_cell set (parts.Sub l.device l.sub)) (drop l.sub d.subs) (drop l.sub l.image.came) ≡ all_subs_fine set d (state_of l.image)
