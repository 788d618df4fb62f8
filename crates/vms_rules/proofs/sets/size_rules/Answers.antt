use Rattle.vms_rules.proofs.Facade.{sizes_to, desc_of, set_of, ◌≡◌, length, map, length-map, devices_items, Items, in_u32}
use Rattle.vms_rules.proofs.WalkLaws.{few_items}
use Rattle.vms_rules.proofs.sets.size_rules.Goals as goal

pub returns : goal.returns
returns c =
    let set = set_of c.args.parts.now in
    let sizes = c.in_ok-sizes.sizes.items in
    let made : sizes ≡ map in_u32 (sizes_to Items set.structs (length set.structs)) =
    cc (c.in_ok-sizes.ensures, c.as_slice.ensures, length-map c.args.parts.now.structs desc_of) in
    let items : c.devices_items-items.result ≡ in_u32 (devices_items sizes set.devices) =
    cc (c.devices_items-items.ensures, c.as_slice-2.ensures.value, c.as_slice-3.ensures) in
    rw (few_items set.structs set.devices sizes c.devices_items-items.result made items)
