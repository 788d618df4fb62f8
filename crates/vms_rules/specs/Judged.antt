-- The result of a check, by the first fault of a set or of a part of it.
use Rattle.std.specs.Prelude.{◌≡◌, Option, Some, None, Result, Ok, Err}
use Rattle.vms_spec.specs.WellFormed.{SetFault}
use Rattle.vms_rules.specs.declared.fault.DescFault.{DescFault}
use Rattle.vms_rules.specs.declared.fault.DescFault.TheVariants.{IllFormed, NoMemory}

-- the fault is exactly the first one; NoMemory may come in any case
abbrev pub IsFirst : Option SetFault → DescFault → Type 0
IsFirst fault (IllFormed rule place) = fault ≡ Some (record { rule = rule; place = place })
IsFirst fault NoMemory = Unit {0}

-- there is no fault, or the result is the first one
abbrev pub Judges : {X : Type 0} → Option SetFault → Result X DescFault → Type 0
Judges fault (Ok x) = fault ≡ None
Judges fault (Err e) = IsFirst fault e
