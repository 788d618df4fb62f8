-- One more item of a list.
use Rattle.vms_parts.proofs.Facade.{◌≡◌, ℕ, zero, suc, ◌+◌, ◌<◌, List, [], ◌∷◌, length, get_or, drop, sym, ap, map, arith, drop_more}

pub drop_is : {X : Type 0} (xs : List X) (i : ℕ) (x : X) → i < length xs → x ≡ get_or xs i x → drop i xs ≡ x ∷ drop (i + 1) xs
drop_is xs i x lt is = rw (drop_more xs i x lt, ← is)

-- the value of an item
pub get_map_at : {X Y : Type 0} (f : X → Y) (xs : List X) (i : ℕ) (x : X) (d : Y) → i < length xs → x ≡ get_or xs i x → get_or (map f xs) i d ≡ f x
get_map_at f [] i x d lt is = absurd (omega arith)
get_map_at f (y ∷ xs) zero x d lt is = ap f (sym is)
get_map_at f (y ∷ xs) (suc i) x d lt is = get_map_at f xs i x d (omega arith) is
