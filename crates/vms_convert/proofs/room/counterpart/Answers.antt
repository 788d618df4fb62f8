use Rattle.vms_convert.proofs.Facade.{◌≡◌, sym, ap, ◌∙◌, find_device, Device, first_fault, described, device_at, none_is}
use Rattle.vms_convert.proofs.{LostLaws.always_found, LostLaws.pair_found, room.counterpart.Goals.After-find}
use Rattle.vms_convert.proofs.room.counterpart.Goals as goal

found : (c : After-find)
    → let d = device_at (described c.args.to.now) c.args.device in find_device 0 (described c.args.newest.now).devices d.desc.name d.instance ≡ c.find.result
found c =
    let name = c.as_bytes.ensures ∙ ap (λ (x : Device). x.desc.name) c.device-described.ensures in
    rw (← name, ← ap (λ (x : Device). x.instance) c.device-described.ensures) (sym c.find.ensures)

pub returns : goal.returns
returns c =
    pair_found (described c.args.to.now) (described c.args.newest.now) c.args.device c.in-Some.other c.requires.device
    (found (goal.at.returns c).After-find ∙ c.in-Some.is)

pub unreachable-requires : goal.unreachable-requires
unreachable-requires c =
    always_found _ _ (none_is (first_fault _) c.args.to.now.well_formed)
    (none_is (first_fault _) c.args.newest.now.well_formed) c.requires.compatible c.args.device c.requires.device
    (found (goal.at.unreachable-requires c).After-find ∙ c.in-None.is)
