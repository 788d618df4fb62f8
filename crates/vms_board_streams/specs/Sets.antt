-- Sets that are kept with their numbers.
use Rattle.std.specs.Prelude.{◌≡◌}
use Rattle.std.specs.List.{All}
use Rattle.vms_board.specs.Family.{Family}
use Rattle.vms_board.specs.Last.{IsLast}
use Rattle.vms_desc.specs.Described.{described}
use Rattle.vms_board_streams.specs.declared.sets.KeptSet.{KeptSet}
use Rattle.vms_board_streams.specs.declared.sets.KeptSets.{KeptSets}

-- The set is the one with its number in the family `f`.
abbrev pub IsOf : {S : Type 0} → Family S → KeptSet → Type 0
IsOf f kept = described kept.set ≡ f.set kept.number

-- All kept sets are those with their numbers in the family `f`, and the last description is of the family.
pub record AreOf {S : Type 0} (f : Family S) (kept : KeptSets) : Type 0 where
  pub sets : All (IsOf f) kept.sets.items
  pub last : IsLast f kept.last
