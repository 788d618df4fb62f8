-- Numbers from a cell on, and the bytes of one side read by the other.
use Rattle.std.specs.Prelude.{◌≡◌, ℕ, ◌+◌, ◌<◌, List, ◌++◌, length, get_or, ℤ, pos}
use Rattle.vms_spec.specs.Layout.{Cell, no_cell, Slot}
use Rattle.vms_spec.specs.Images.{FitsCell, Spells, zeroed, RulesHold}

-- From cell `at` on, the numbers are those of a segment.
pub record Holds (numbers : List ℤ) (at : ℕ) (segment : List ℤ) : Type 0 where
  pub each : (c : ℕ) → c < length segment → get_or numbers (at + c) (pos 0) ≡ get_or segment c (pos 0)

-- From cell `at` on, the numbers are in the range of the cells.
pub record FitsAt (cells : List Cell) (numbers : List ℤ) (at : ℕ) : Type 0 where
  pub each : (c : ℕ) → c < length cells → FitsCell (get_or cells c no_cell) (get_or numbers (at + c) (pos 0))

-- The bytes that one side writes for its slots are bytes of the other's slots, and rules that hold there hold here.
pub record Carries (numbers : List ℤ) (a : List Slot) (numbers' : List ℤ) (b : List Slot) : Type 0 where
  pub spells : Spells numbers' b (zeroed numbers a)
  pub rules : RulesHold a → RulesHold b

-- If the other side's slots are at the front of what one side wrote for its own slots, they take exactly the bytes
-- of these.
pub record Aligns (numbers : List ℤ) (a : List Slot) (numbers' : List ℤ) (b : List Slot) : Type 0 where
  pub rests : (body r r' : List ℕ) → Spells numbers' b body → body ++ r' ≡ zeroed numbers a ++ r → r' ≡ r
