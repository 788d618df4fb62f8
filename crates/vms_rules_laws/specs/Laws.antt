-- The law of the eight rules.
use Rattle.vms_spec.specs.Sets.{Set}
use Rattle.vms_spec.specs.WellFormed.{WellFormed}
use Rattle.vms_rules_laws.specs.Eight.{ObeysRules}

-- the walk finds no fault exactly if the eight rules hold
abbrev pub EightLaw : Type 0
EightLaw = (set : Set) → (WellFormed set → ObeysRules set) × (ObeysRules set → WellFormed set)
