-- The moments at which OUT of a counter may turn.
use Rattle.std.specs.Prelude.{◌≡◌, ℕ, ◌+◌, ◌-◌, ◌*◌, ◌/◌, ◌≤◌, ◌⊎◌}
use Rattle.dev_base.specs.declared.limits.TheConstants.{NANOSECONDS}
use Rattle.dev_pit.specs.Count.{high_part}
use Rattle.dev_pit.specs.Counter.{LoadedBy, edge_of, out_of}
use Rattle.dev_pit.specs.declared.counter.Counter.{Counter}
use Rattle.dev_pit.specs.declared.limits.TheConstants.{CLOCK_HERTZ}
use Rattle.dev_pit.specs.declared.mode.Mode.{Mode}
use Rattle.dev_pit.specs.declared.mode.Mode.TheVariants.{TerminalCount, OneShot, RateGenerator, SquareWave, SoftwareStrobe, HardwareStrobe}
use Rattle.dev_pit.specs.declared.turns.Marks.{Marks}
use Rattle.dev_pit.specs.declared.turns.Turns.{Turns}

-- a moment is the base, or one of three
abbrev pub IsTurn : Turns → (base at : ℕ) → Type 0
IsTurn turns base at = (at ≡ base) ⊎ ((at ≡ turns.first) ⊎ ((at ≡ turns.second) ⊎ (at ≡ turns.third)))

-- OUT at the moment `to`, and its edge since `since`, are those at the base or at one of three moments that has come
pub record Turned (turns : Turns) (counter : Counter) (since base to : ℕ) : Type 0 where
  pub at : ℕ
  pub is : IsTurn turns base at
  pub from : base ≤ at
  pub upto : at ≤ to
  pub edge : edge_of counter since at ≡ edge_of counter since to
  pub out : out_of counter at ≡ out_of counter to

-- from the base on, OUT and its edges since any moment before do nothing that they haven't done by one of three moments
abbrev pub AreTurns : Turns → Counter → (base : ℕ) → Type 0
AreTurns turns counter base =
    (since to : ℕ) → LoadedBy since counter.loaded_at → since ≤ base → base ≤ to → Turned turns counter since base to

-- the first moment, in nanoseconds, at which so many ticks have passed since a load
unfoldable pub moment_of : (load tick : ℕ) → ℕ
moment_of load tick = load + (tick * NANOSECONDS + (CLOCK_HERTZ - 1)) / CLOCK_HERTZ

-- the ticks after the k-th at which OUT turns, up to where all that it does repeats
abbrev pub marks_of : Mode → (n k : ℕ) → Marks
marks_of TerminalCount n k = record { first = n; second = n; third = n }
marks_of OneShot n k = record { first = k; second = k; third = k }
marks_of RateGenerator n k =
    let start = k / n * n in record { first = start + n - 1; second = start + n; third = start + n + n - 1 }
marks_of SquareWave n k =
    let start = k / n * n in
    record { first = start + high_part n; second = start + n; third = start + n + high_part n }
marks_of SoftwareStrobe n k = record { first = n; second = n + 1; third = n + 1 }
marks_of HardwareStrobe n k = record { first = k; second = k; third = k }
