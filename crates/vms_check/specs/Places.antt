-- The positions of the fields of two sides, as tables.
use Rattle.std.specs.Prelude.{◌≡◌, ℕ, None, get_or}
use Rattle.vms_check.specs.Sides.{IsSide, position_on}
use Rattle.vms_check.specs.declared.positions.Places.{Places}
use Rattle.vms_check.specs.declared.side.Side.{Side}

-- Each entry is the position of the field of its number, if that is present.
pub record ArePlaces (s t : Side) (places : Places) : Type 0 where
  pub old : (k : ℕ) → get_or places.in_old k None ≡ position_on s k
  pub new : (k : ℕ) → get_or places.in_new k None ≡ position_on t k

-- Two sides, each of which has its part, and the positions of their fields.
pub record HavePlaces (s t : Side) (p : Places) : Type 0 where
  pub old : IsSide s
  pub new : IsSide t
  pub places : ArePlaces s t p
