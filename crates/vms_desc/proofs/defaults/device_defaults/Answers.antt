use Rattle.vms_desc.proofs.Facade.{rules, ◌≡◌, ◌<◌, get_or, length, map, arith, length-map, map_more, device_at, set_of, device_of, form_of}
use Rattle.vms_desc.proofs.Facade.{device_cells, Held, device_forms, structs_forms, form_numbers}
use Rattle.vms_desc.proofs.{AskLaws.few_cells, defaults.device_defaults.Goals.In_ok-forms}
use Rattle.vms_desc.proofs.FormLaws.{forms_are, forms_in, form_count, kinds_long, defaults_long, numbers_seen, kept_fit, defaults_made}
use Rattle.vms_parts.specs.declared.types.Device.{Device}
use Rattle.vms_desc.proofs.defaults.device_defaults.Goals as goal

-- the device of this number, and the forms that are made of it
record IsHere (c : In_ok-forms) : Type 0 where
  lt : c.loop-device.device-index < length c.args.parts.now.devices
  is : c.device-item.result ≡ get_or c.args.parts.now.devices c.loop-device.device-index c.device-item.result
  laid : device_forms (structs_forms c.as_slice.result.now) (device_of c.device-item.result)
      ≡ map form_of (device_cells (set_of c.args.parts.now) (device_at (set_of c.args.parts.now) c.loop-device.device-index))

is_here : (c : In_ok-forms) → IsHere c
is_here c = search (rules, forms_are)

pub numbers_of-requires : goal.numbers_of-requires
numbers_of-requires c =
    let here = is_here (goal.at.numbers_of-requires c).In_ok-forms in
    let set = set_of c.args.parts.now in
    let i = c.loop-device.device-index in
    record {
      few = omega (arith, few_cells set c.requires.well i, form_count set i _ here.laid, kinds_long c.in_ok-forms.forms _ c.in_ok-forms.ensures);
      long = defaults_long c.in_ok-forms.forms _ c.in_ok-forms.ensures;
      range = kept_fit c.in_ok-forms.forms _ c.in_ok-forms.ensures set i here.laid c.requires.well c.requires.heads
          (omega (arith, here.lt, length-map c.args.parts.now.devices device_of));
    }

pub loop-device-preserved : goal.loop-device-preserved
loop-device-preserved c =
    let here = is_here (goal.at.loop-device-preserved c).In_ok-forms in
    let i = c.loop-device.device-index in
    let ds = c.args.parts.now.devices in
    let made : Device → Held = λ x. form_numbers (forms_in c.args.parts.now x) in
    let seen : c.in_ok-numbers_of.field-0 ≡ made c.device-item.result =
    cc (numbers_seen c.in_ok-forms.forms _ c.in_ok-forms.ensures c.in_ok-numbers_of.field-0 c.in_ok-numbers_of.ensures, c.as_slice.ensures) in
    cc (c.in_ok-push.ensures.items, c.loop-device.invariant, here.is, map_more made ds i c.device-item.result here.lt)

pub returns : goal.returns
returns c = search (rules, defaults_made)
