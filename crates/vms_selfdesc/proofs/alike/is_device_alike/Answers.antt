use Rattle.vms_selfdesc.proofs.Facade.{rules, true, ap₂, OnTrue_at, OnTrue_from, object, described, device_at, own_inside_device, device_members}
use Rattle.vms_selfdesc.proofs.alike.is_device_alike.Goals as goal

pub is_part_alike-requires : goal.is_part_alike-requires
is_part_alike-requires c = search (rules, own_inside_device)

pub returns-then-is_part_alike : goal.returns-then-is_part_alike
returns-then-is_part_alike c =
    let d = device_at (described c.args.pair.now.set.now) c.args.device in
    OnTrue_from _ _ (λ is. ap₂ (λ entries trees. object (device_members entries d.instance d.desc.name trees d.desc.version))
    (OnTrue_at c.if-is_part_alike.true c.is_part_alike.ensures true) (OnTrue_at is c.are_subs_alike.ensures))
