-- What is known of a board's devices between events.
use Rattle.std.specs.Prelude.{◌≡◌, ℕ, ◌<◌, ◌≤◌, false, nat_lt, min, if◌then◌else◌}
use Rattle.dev_pic.specs.Pair.{int_of}
use Rattle.dev_pit.specs.Pit.{pit_edge, pit_out}
use Rattle.dev_pit.specs.declared.turns.Turns.{Turns}
use Rattle.dev_board.specs.State.{State}
use Rattle.dev_board.specs.declared.kept.Kept.{Kept}

-- `IsStill m to`: at the moment `to` OUT of counter 0 is as it is now, and it has had no edge.
abbrev pub IsStill : State → ℕ → Type 0
IsStill m to = (pit_out 0 to m.pit ≡ pit_out 0 m.moment m.pit) × (pit_edge 0 m.moment to m.pit ≡ false)

-- `IsCalm until m`: OUT of counter 0 stays as it is before the moment `until`.
abbrev pub IsCalm : ℕ → State → Type 0
IsCalm until m = (to : ℕ) → m.moment ≤ to → to < until → IsStill m to

-- `IsKept kept m`: what is kept is so of the devices.
pub record IsKept (kept : Kept) (m : State) : Type 0 where
  pub int : kept.int ≡ int_of m.pair
  pub calm : IsCalm kept.calm m

-- `later base turn` is the turn if it is after the base, else a moment that never comes.
abbrev pub later : (base turn : ℕ) → ℕ
later base turn = if nat_lt base turn then turn else 18446744073709551615

-- `calm_by turns base` is the first of three turns that is after the base.
abbrev pub calm_by : Turns → (base : ℕ) → ℕ
calm_by turns base = min (min (later base turns.first) (later base turns.second)) (later base turns.third)
