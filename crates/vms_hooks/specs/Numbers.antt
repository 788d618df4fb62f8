-- The three numbers of a pass.
use Rattle.std.specs.Prelude.{ℕ}

-- The board's level, the set and the moment of one call.
pub record Numbers : Type 0 where
  pub level : ℕ
  pub set : ℕ
  pub moment : ℕ
