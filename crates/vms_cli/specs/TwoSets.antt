-- Two sets of the code, and what they describe.
use Rattle.vms_spec.specs.Sets.{Set}
use Rattle.vms_desc.specs.Described.{described}
use Rattle.vms_commands.specs.Steps.{Both}
use Rattle.vms_cli.specs.declared.two_sets.TwoSets.{TwoSets}

-- The sets that the code's value describes.
abbrev pub sets_of : TwoSets → Both Set
sets_of sets = record { old = described sets.old; new = described sets.new }
