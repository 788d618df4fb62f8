use Rattle.vms_desc.proofs.Facade.{◌≡◌, length, map, ◌≤◌, arith, length-map, MOST_ITEMS, device_cells, described, defaults_at}
use Rattle.vms_desc.proofs.{AskLaws.few_cells, FormLaws.entry_is}
use Rattle.vms_desc.specs.Described.{device_at}
use Rattle.vms_desc.proofs.set.DescSet.defaults.Goals as goal

are : (c : goal.After-index-as_slice-device) → c.index-as_slice-device.result ≡ defaults_at (described c.args.self.now) c.args.device
are c =
    entry_is (described c.args.self.now) c.args.self.now.defaults c.args.device c.index-as_slice-device.result c.args.self.now.at_default c.requires
    (cc (c.index-as_slice-device.is, c.as_slice.ensures))

pub returns : goal.returns
returns c =
    let set = described c.args.self.now in
    let cells = device_cells set (device_at set c.args.device) in
    let few : length (map (λ x. x.default) cells) ≤ MOST_ITEMS =
    omega (arith, few_cells set c.args.self.now.well_formed c.args.device, length-map cells (λ x. x.default)) in
    record { defaults = are c; few = rw (are c) few }
