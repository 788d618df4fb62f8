use Rattle.vms_selfdesc.proofs.Facade.{◌≡◌, rules, None, get_or, is_some, described, device_at, sub_at, sub_inside, OnTrue_at, OnTrue_from}
use Rattle.vms_selfdesc.proofs.OfElements.{sub_same}
use Rattle.vms_selfdesc.proofs.alike.is_sub_alike.Goals as goal

pub is_part_alike-requires : goal.is_part_alike-requires
is_part_alike-requires c = search (rules, sub_inside)

pub returns : goal.returns
returns c =
    let set = described c.args.pair.now.set.now in
    let first = c.args.pair.now.first.now in
    let second = c.args.pair.now.second.now in
    let same : is_some (get_or first.came c.args.sub None) ≡ is_some (get_or second.came c.args.sub None) = search rules in
    rw (← c.first_cell.ensures) (OnTrue_from _ _ (λ is. sub_same set (sub_at (device_at set c.args.device) c.args.sub) c.first_cell.result first.numbers
    second.numbers (get_or first.came c.args.sub None) (get_or second.came c.args.sub None) same (OnTrue_at is c.is_part_alike.ensures)))
