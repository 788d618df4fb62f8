use Rattle.std.proofs.Common.{rules}
use Rattle.vms_rules.proofs.{WalkLaws.stops_by, WalkLaws.first_stops, sets.check.Goals.In_ok-check_structs, sets.check.Goals.In_ok-lowest}
use Rattle.vms_rules.proofs.Facade.{◌≡◌, None, failing, here, set_rules, first_fault, set_of, structs_from}
use Rattle.vms_spec.specs.declared.Part.TheVariants as parts
use Rattle.vms_rules.proofs.sets.check.Goals as goal

-- the set's own rules hold
own_good : (c : In_ok-lowest) → failing 1 (set_rules (set_of c.args.parts.now)) (here parts.Set) ≡ None
own_good c = cc (c.here-place.ensures, c.in_ok-set_rules.ensures, c.in_ok-lowest.ensures)

-- and so do those of its structures
structs_good : (c : In_ok-check_structs) → structs_from (set_of c.args.parts.now).structs 0 (set_of c.args.parts.now).structs ≡ None
structs_good c = cc (c.as_slice.ensures, c.in_ok-check_structs.ensures)

pub returns-in_err-lowest : goal.returns-in_err-lowest
unfolding first_fault
returns-in_err-lowest c = search (rules, stops_by, first_stops)

pub returns-in_err-check_structs : goal.returns-in_err-check_structs
unfolding first_fault
returns-in_err-check_structs c = search (rules, stops_by, first_stops)

pub returns-in_err-check_devices : goal.returns-in_err-check_devices
unfolding first_fault
returns-in_err-check_devices c = search (rules, structs_good, stops_by, first_stops)

pub returns : goal.returns
unfolding first_fault
returns c = search (rules, structs_good)
