use Rattle.std.proofs.Common.{rules}
use Rattle.vms_rules.proofs.Facade.{◌≡◌, ℕ, Option, None, length, length-map, or_else, SetFault, failing, here, fields_fault, validations_fault}
use Rattle.vms_rules.proofs.Facade.{device_rules, device_at, desc_of, device_of, set_of, get_map_at}
use Rattle.vms_rules.proofs.WalkLaws.{stops_by, first_stops}
use Rattle.vms_rules.proofs.devices.check_device.Goals.{After-as_slice, After-index-as_slice-number, In_ok-lowest}
use Rattle.vms_spec.specs.declared.Part.TheVariants as parts
use Rattle.vms_spec.specs.Sets as sets
use Rattle.vms_rules.proofs.devices.check_device.Goals as goal

-- the device of this number
device_is : (c : After-index-as_slice-number) → device_at (set_of c.args.parts.now) c.args.number ≡ device_of c.index-as_slice-number.result
device_is c = search (rules, get_map_at)

structs_are : (c : After-as_slice) → length c.as_slice.result.now ≡ length (set_of c.args.parts.now).structs
structs_are c = cc (c.as_slice.ensures, length-map c.args.parts.now.structs desc_of)

-- its own rules hold
own_good : (c : In_ok-lowest)
    → let set = set_of c.args.parts.now in let i = c.args.number in failing 1 (device_rules set i (device_at set i)) (here (parts.Device i)) ≡ None
own_good c = cc (c.here.ensures, c.device_rules.ensures, c.in_ok-lowest.ensures)

inside : ℕ → sets.Device → ℕ → Option SetFault
inside k d i = or_else (fields_fault k d.desc (parts.Device i)) (validations_fault d.desc (parts.Device i))

pub returns-in_err-lowest : goal.returns-in_err-lowest
unfolding inside
returns-in_err-lowest c = search (rules, stops_by, first_stops)

pub returns-in_err-check_inside : goal.returns-in_err-check_inside
unfolding inside
returns-in_err-check_inside c = search (rules, device_is, structs_are, stops_by, first_stops)

pub returns : goal.returns
unfolding inside
returns c = search (rules, device_is, structs_are)
