use Rattle.vms_rules.proofs.Facade.{devices_items, Device, in_u32, field_of, sub_of, device_of, sum_ends, sum_goes, ◌≡◌, ◌+◌, List, ◌∷◌, ℕ}
use Rattle.vms_rules.proofs.Facade.{map, refl, arith, items_in, subs_items}
use Rattle.vms_rules.proofs.sets.devices_items.Goals as goal

abbrev whole : List ℕ → List Device → ℕ
whole sizes l = devices_items sizes (map device_of l)

abbrev one : List ℕ → Device → ℕ
one sizes d = items_in sizes (map field_of d.desc.fields) + subs_items sizes (map sub_of d.subs)

adds : (sizes : List ℕ) (d : Device) (l : List Device) → whole sizes (d ∷ l) ≡ one sizes d + whole sizes l
adds sizes d l = omega arith

pub loop-device-preserved : goal.loop-device-preserved
loop-device-preserved c =
    let sizes = c.args.sizes.now in
    let d = c.device-item.result in
    let own : c.size_of_fields-own.result ≡ in_u32 (items_in sizes (map field_of d.desc.fields)) =
    cc (c.size_of_fields-own.ensures, c.as_slice.ensures) in
    let subs : c.size_of_subs-subs.result ≡ in_u32 (subs_items sizes (map sub_of d.subs)) =
    cc (c.size_of_subs-subs.ensures, c.as_slice-in-loop-device.ensures) in
    let has : c.saturating_add-sum.result ≡ in_u32 (c.loop-device.sum + one sizes d) =
    let first = c.saturating_add.ensures in omega arith in
    record {
      small = c.saturating_add-sum.type_inv;
      whole = sum_goes (whole sizes) (one sizes) refl
          (adds sizes) c.args.devices.now c.loop-device.device-index c.loop-device.sum c.saturating_add-sum.result _ d c.loop-device-test.true c.device-item.is has c.loop-device.invariant.whole;
    }

pub returns : goal.returns
returns c =
    sum_ends (whole c.args.sizes.now) (one c.args.sizes.now) refl
    (adds c.args.sizes.now) c.args.devices.now c.loop-device.device-index c.loop-device.sum _ c.loop-device-test.false c.loop-device.invariant.small c.loop-device.invariant.whole
