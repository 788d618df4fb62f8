use Rattle.vms_write.proofs.Facade.{rules, ◌+◌, ◌&&◌, drop, ap, sym, ◌∙◌, arith, first_cell, described, device_at, state_of, sub_first}
use Rattle.vms_write.proofs.{Facade.subs_fine, Facade.forms_of, Sections.subs_fine_next}
use Rattle.vms_spec.specs.declared.Part.TheVariants as parts
use Rattle.vms_write.proofs.readiness.are_subs_fine.Goals as goal

pub loop-sub-init : goal.loop-sub-init
loop-sub-init c = search (rules, sub_first)

pub loop-sub-preserved : goal.loop-sub-preserved
loop-sub-preserved c =
    let set = described c.args.set.now in
    let i = c.args.device in
    let d = device_at set i in
    let image = state_of c.args.image.now in
    let j = c.loop-sub.sub in
    let rest = subs_fine set d (forms_of set d) image (j + 1) (first_cell set (parts.Sub i (j + 1))) (drop (j + 1) d.subs) (drop (j + 1) image.came) in
    ap (λ b. b && rest) (sym c.if-not-is_sub_fine.false ∙ c.is_sub_fine.ensures)
    ∙ sym (subs_fine_next set i image j (omega arith) (omega (arith, c.requires.device.subs)) (forms_of set d)) ∙ c.loop-sub.invariant
