use Rattle.vms_desc.proofs.Facade.{◌≡◌, ◌∙◌, arith, length-map, set_of, desc_of, device_of, sizes_of}
use Rattle.vms_desc.proofs.{Clean.few_devices, Clean.sizes_are, EvalLaws.heads_of}
use Rattle.vms_desc.proofs.set.DescSet.assemble.Goals as goal

pub device_defaults-requires : goal.device_defaults-requires
device_defaults-requires c = record { well = c.requires; heads = heads_of c.args.parts c.as_slice-3.result.now c.as_slice-3.ensures c.in_ok-devices.ensures.heads }

pub invariant_of-result : goal.invariant_of-result
invariant_of-result c =
    let set = set_of c.args.parts in
    let sized : c.in_ok-sizes.sizes.items ≡ sizes_of set =
    c.in_ok-sizes.ensures ∙ rw (c.as_slice.ensures, ← length-map c.args.parts.structs desc_of) (sizes_are set) in
    let same : c.deref.result.now ≡ sizes_of set = c.deref.ensures.value ∙ sized in
    let same-2 : c.deref-2.result.now ≡ sizes_of set = c.deref-2.ensures.value ∙ sized in
    record {
      well_formed = c.requires;
      heads = heads_of c.args.parts c.as_slice-3.result.now c.as_slice-3.ensures c.in_ok-devices.ensures.heads;
      few = omega (arith, few_devices set c.requires, length-map c.args.parts.devices device_of);
      at_default = c.new.ensures ∙ c.in_ok-defaults.ensures;
      sized = c.new-2.ensures ∙ sized;
      structs_tabled = rw c.new-3.ensures (rw (same, c.as_slice-2.ensures) at c.in_ok-structs.ensures);
      devices_tabled = rw c.new-4.ensures (rw (same-2, c.as_slice-3.ensures) at c.in_ok-devices.ensures.tables);
    }
