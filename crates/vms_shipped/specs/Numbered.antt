-- The shipped sets by number.
use Rattle.std.specs.Prelude.{ℕ, get_or}
use Rattle.vms_kinds.specs.declared.TheConstants.{NEWEST_SET}
use Rattle.vms_spec.specs.Sets.{Set}
use Rattle.vms_spec.specs.Shipped.{set_0, shipped_sets}

-- the newest shipped set
abbrev pub newest_set : Set
newest_set = get_or shipped_sets NEWEST_SET set_0

-- the shipped set of a number; the newest set for a number above its own
abbrev pub shipped_set : ℕ → Set
shipped_set s = get_or shipped_sets s newest_set
