-- Which input is served next (8259A data sheet, "Priority Resolver").
use Rattle.std.specs.Prelude.{◌≡◌, ℕ, ◌+◌, ◌%◌, ◌<◌, ◌≤◌, Bool, true, false, List, [], ◌∷◌, map, find, if◌then◌else◌, Option, MatchOption}
use Rattle.std.specs.List.{range_with_len}
use Rattle.dev_base.specs.Bits.{has}

-- `input_at lowest place` is the input at a place of the priority order. Place 0 has the highest
-- priority, and place 7 is `lowest` itself.
abbrev pub input_at : ℕ → ℕ → ℕ
input_at lowest place = (lowest + 1 + place) % 8

-- `order lowest` is the list of the eight inputs, from the highest priority to the lowest.
abbrev pub order : ℕ → List ℕ
order lowest = map (input_at lowest) (range_with_len 0 8)

-- `IsFirstPlace lowest inputs place`: it is the first place of the priority order whose input is in
-- the set, or 8 if none is.
pub record IsFirstPlace (lowest inputs place : ℕ) : Type 0 where
  pub most : place ≤ 8
  pub before : (other : ℕ) → other < place → has inputs (input_at lowest other) ≡ false
  pub there : place < 8 → has inputs (input_at lowest place) ≡ true

-- `before test inputs` is the list of the inputs that come before the first one that passes the
-- test.
abbrev pub before : (ℕ → Bool) → List ℕ → List ℕ
before test [] = []
before test (input ∷ inputs) = if test input then [] else input ∷ before test inputs

-- `ready_among requests served inputs` is the first requested input of the list that comes before
-- every input in service.
unfoldable pub ready_among : ℕ → ℕ → List ℕ → Option ℕ
ready_among requests served inputs = find (has requests) (before (has served) inputs)

-- `winner_of lowest requests served` is the same for all inputs, in priority order.
unfoldable pub winner_of : ℕ → ℕ → ℕ → Option ℕ
winner_of lowest requests served = ready_among requests served (order lowest)

-- `highest_of lowest inputs` is the input of highest priority in the set, if there is one.
unfoldable pub highest_of : ℕ → ℕ → Option ℕ
highest_of lowest inputs = find (has inputs) (order lowest)

-- `IsWinner lowest requests served winner`: the input is requested, no input of higher priority is,
-- and it comes strictly before every input in service.
pub record IsWinner (lowest requests served winner : ℕ) : Type 0 where
  pub place : ℕ
  pub in_order : (place < 8) × (winner ≡ input_at lowest place)
  pub requested : has requests winner ≡ true
  pub least : (other : ℕ) → other < place → has requests (input_at lowest other) ≡ false
  pub before_served : (other : ℕ) → other ≤ place → has served (input_at lowest other) ≡ false

-- `HasNoWinner lowest requests served`: each requested input is in service or comes after one that
-- is.
abbrev pub HasNoWinner : ℕ → ℕ → ℕ → Type 0
HasNoWinner lowest requests served =
    (place : ℕ) → place < 8 → has requests (input_at lowest place) ≡ true → (other : ℕ)
    × (other ≤ place) × (has served (input_at lowest other) ≡ true)

-- `MeansWinner lowest requests served winner` is what an answer of the search for a winner means.
abbrev pub MeansWinner : ℕ → ℕ → ℕ → Option ℕ → Type 0
MeansWinner lowest requests served winner =
    MatchOption winner (HasNoWinner lowest requests served) (IsWinner lowest requests served)
