-- The state of a cursor.
use Rattle.std.specs.Prelude.{ℕ, Option}

-- The offset of the next unit, and its first byte, if that has been read already.
pub record Stand : Type 0 where
  pub at : ℕ
  pub held : Option ℕ
