-- Pieces that are written to a sink.
use Rattle.std.specs.Prelude.{ℕ, List, [], ◌++◌, ◌∷◌}
use Rattle.std.specs.Borrow.{Bor}

-- The pieces, one after the other.
abbrev pub joined : List (Bor (List ℕ)) → List ℕ
joined [] = []
joined (piece ∷ pieces) = piece.now ++ joined pieces
