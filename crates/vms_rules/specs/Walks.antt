-- The rest of the walks over the places of a set, from a number on.
use Rattle.std.specs.Prelude.{ℕ, List, [], get_or, Option}
use Rattle.vms_spec.specs.declared.Part.{Part}
use Rattle.vms_spec.specs.Layout.{no_desc}
use Rattle.vms_spec.specs.Lists.{first_answer}
use Rattle.vms_spec.specs.Rules.{field_rules, validation_rules}
use Rattle.vms_spec.specs.Sets.{Formula, AtLeast, Field, Desc, Sub, Device, Set}
use Rattle.vms_spec.specs.WellFormed.{SetFault, failing, here, in_field, struct_fault, sub_fault, device_fault}

-- the first fault at field i
abbrev pub at_field : ℕ → Desc → Part → ℕ → Field → Option SetFault
at_field k d part i f = failing 1 (field_rules k d i f) (in_field part i)

-- the first fault at validation i
abbrev pub at_validation : Desc → Part → ℕ → Formula → Option SetFault
at_validation d part i t = failing 1 (validation_rules d t) (here part)

-- the first fault at these fields, of which the first is field i
abbrev pub fields_from : ℕ → Desc → Part → ℕ → List Field → Option SetFault
fields_from k d part i fs = first_answer (at_field k d part) i fs

-- the first fault at these validations
abbrev pub validations_from : Desc → Part → ℕ → List Formula → Option SetFault
validations_from d part i ts = first_answer (at_validation d part) i ts

-- the first fault at these structures, of which the first is structure i
abbrev pub structs_from : List Desc → ℕ → List Desc → Option SetFault
structs_from structs i ds = first_answer (struct_fault structs) i ds

-- the first fault at these subsections, of which the first is subsection j
abbrev pub subs_from : ℕ → ℕ → Device → ℕ → List Sub → Option SetFault
subs_from k i d j subs = first_answer (sub_fault k i d) j subs

-- the first fault at these devices, of which the first is device i
abbrev pub devices_from : Set → ℕ → List Device → Option SetFault
devices_from set i ds = first_answer (device_fault set) i ds

-- structure i
abbrev pub desc_at : List Desc → ℕ → Desc
desc_at structs i = get_or structs i no_desc

-- subsection j
abbrev pub sub_at : Device → ℕ → Sub
sub_at d j = get_or d.subs j (record { desc = no_desc; needed = AtLeast 0 })

-- device i
abbrev pub numbered : List Device → ℕ → Device
numbered devices k = get_or devices k (record { instance = 0; desc = no_desc; subs = [] })
