-- Whether a set is well formed, as a test.
use Rattle.std.specs.Prelude.{Bool, is_none}
use Rattle.vms_spec.specs.Sets.{Set}
use Rattle.vms_spec.specs.WellFormed.{first_fault}
pub use Rattle.vms_shipped.specs.ClockSets.{clock_set}
pub use Rattle.vms_shipped.specs.Numbered.{newest_set, shipped_set}

-- no rule of well-formed sets fails
abbrev pub is_well_formed : Set → Bool
is_well_formed set = is_none (first_fault set)
