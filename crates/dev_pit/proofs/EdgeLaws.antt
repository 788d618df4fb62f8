-- Edges of OUT in a span of time, and the ticks at which they are.
use Rattle.dev_pit.proofs.Facade.{◌≡◌, ℕ, ◌+◌, ◌/◌, ◌<◌, ◌≤◌, ◌==◌, Bool, false, not, ◌&&◌, ◌||◌, Option, Some, refl}
use Rattle.dev_pit.proofs.Facade.{arith, nat_tests, nat_lt, nat_le, grown, quotient_mono, rises, ticks, period, edge_of, edge_since, TicksGoOn}
use Rattle.dev_pit.proofs.Facade.{SecondsHaveTicks, EdgeInParts, Mode, TerminalCount, RateGenerator, SquareWave, SoftwareStrobe, ◌-◌, ◌*◌, ◌%◌}
use Rattle.dev_pit.proofs.Facade.{true, ⊎_elim, cases_lt, le-div, mod-mul-add, out_at, high_part, EdgeTurnsHigh}

-- ---- an edge in a span of time is one in a part of it

-- Ticks never go back.
pub ticks-mono : (load now later : ℕ) → now ≤ later → ticks load now ≤ ticks load later
unfolding ticks
ticks-mono load now later h = omega arith

pub ticks_go_on : TicksGoOn
ticks_go_on = ticks-mono

pub seconds_have_ticks : SecondsHaveTicks
unfolding ticks
seconds_have_ticks load seconds = omega arith

pub period-pos : (count : ℕ) → 0 < period count
period-pos count = grind (arith, nat_tests)

pub period-two : (count : ℕ) → (count == 1) ≡ false → 2 ≤ period count
period-two count e = grind (arith, nat_tests)

-- A threshold is passed in one of two parts.
passed : (n a b c : ℕ) → a ≤ b → b ≤ c → (nat_lt a n && nat_le n c) ≡ ((nat_lt a n && nat_le n b) || (nat_lt b n && nat_le n c))
passed n a b c h l = grind (arith, nat_tests)

both : (x u v w : Bool) → u ≡ (v || w) → (x && u) ≡ ((x && v) || (x && w))
both x u v w e = grind arith

periods : (count a b c : ℕ) → a ≤ b → b ≤ c → (not (count == 1) && nat_lt (a / period count) (c / period count)) ≡ ((not (count == 1) && nat_lt (a / period count) (b / period count)) || (not (count == 1) && nat_lt (b / period count) (c / period count)))
periods count a b c h l = grind (arith, both, grown, quotient_mono, period-pos)

rises-parts : (mode : Mode) (count a b c : ℕ) → a ≤ b → b ≤ c → rises mode count a c ≡ (rises mode count a b || rises mode count b c)
unfolding rises
rises-parts mode count a b c h l = grind (arith, passed, periods)

pub edge_in_parts : EdgeInParts
unfolding edge_of
edge_in_parts counter from between to h l = grind (arith, rises-parts, ticks-mono)

-- ---- an edge is a tick at which OUT turns high

-- OUT is low after tick - 1 ticks and high after tick, for some tick of the span
record Turns (mode : Mode) (count before after : ℕ) : Type 0 where
  tick : ℕ
  above : before < tick
  within : tick ≤ after
  low : out_at mode count (tick - 1) ≡ false
  high : out_at mode count tick ≡ true

-- A quotient that grows, in a period of at least two ticks: the first tick of the last whole period.
record Starts (n before after : ℕ) : Type 0 where
  quotient : ℕ
  positive : 0 < quotient
  above : before < quotient * n
  within : quotient * n ≤ after

-- The position in the period is 0 at its first tick, and n - 1 at the tick before.
at_first : (n q : ℕ) → 2 ≤ n → q * n % n ≡ 0
at_first n q h = grind (arith, mod-mul-add)

-- If the tick before is the last of a period, the quotient grew.
grown-from_last : (n before after tick : ℕ) → 2 ≤ n → before < tick → tick ≤ after → (tick - 1) % n ≡ n - 1 → before / n < after / n
grown-from_last n before after tick h above within last = grind (arith, le-div)

-- The next position in a period, except at its last tick.
next_place : (n tick : ℕ) → 0 < tick → (tick - 1) % n + 1 < n → tick % n ≡ (tick - 1) % n + 1
next_place n tick h l = grind (arith, mod-mul-add)

-- A rate generator.
rate-low : (count k : ℕ) → (count == 1) ≡ false → k % period count ≡ period count - 1 → out_at RateGenerator count k ≡ false
unfolding out_at
rate-low count k one e = rw (one, e) (grind (arith, nat_tests))

rate-high : (count k : ℕ) → (count == 1) ≡ false → k % period count ≡ 0 → out_at RateGenerator count k ≡ true
unfolding out_at
rate-high count k one e = let h : 2 ≤ period count = period-two count one in rw (one, e) (grind (arith, nat_tests))

rate-last : (count k : ℕ) → (count == 1) ≡ false → out_at RateGenerator count k ≡ false → k % period count ≡ period count - 1
unfolding out_at
rate-last count k one e = grind (arith, nat_tests)

-- A square wave.
square-low : (count k : ℕ) → (count == 1) ≡ false → k % period count ≡ period count - 1 → out_at SquareWave count k ≡ false
unfolding out_at
square-low count k one e = let h : 2 ≤ period count = period-two count one in rw (one, e) (grind (arith, nat_tests))

square-high : (count k : ℕ) → (count == 1) ≡ false → k % period count ≡ 0 → out_at SquareWave count k ≡ true
unfolding out_at
square-high count k one e = let h : 2 ≤ period count = period-two count one in rw (one, e) (grind (arith, nat_tests))

square-above : (count k : ℕ) → (count == 1) ≡ false → out_at SquareWave count k ≡ false → high_part (period count) ≤ k % period count
unfolding out_at
square-above count k one e = grind (arith, nat_tests)

square-below : (count k : ℕ) → (count == 1) ≡ false → out_at SquareWave count k ≡ true → k % period count < high_part (period count)
unfolding out_at
square-below count k one e = grind (arith, nat_tests)

-- The modes with periods; `low_last`, `high_first` and `last` say what OUT is in the mode.
periodic-turns : (mode : Mode) (count before after : ℕ) → (count == 1) ≡ false → ((k : ℕ) → k % period count ≡ period count - 1 → out_at mode count k ≡ false)
    → ((k : ℕ) → k % period count ≡ 0 → out_at mode count k ≡ true) → before / period count < after / period count → Turns mode count before after
periodic-turns mode count before after one low_last high_first l =
    let h : 2 ≤ period count = period-two count one in
    let s : Starts (period count) before after = (search arith) in
    record {
      tick = s.quotient * period count;
      above = s.above;
      within = s.within;
      low = low_last _ (grind (arith, mod-mul-add));
      high = high_first _ (at_first (period count) s.quotient h);
    }

rate-grown : (count before after : ℕ) → (count == 1) ≡ false → Turns RateGenerator count before after → before / period count < after / period count
rate-grown count before after one t =
    grown-from_last (period count) before after t.tick (period-two count one) t.above t.within (rate-last count (t.tick - 1) one t.low)

square-grown : (count before after : ℕ) → (count == 1) ≡ false → Turns SquareWave count before after → before / period count < after / period count
square-grown count before after one t =
    let n : ℕ = period count in
    let low : high_part n ≤ (t.tick - 1) % n = square-above count (t.tick - 1) one t.low in
    let high : t.tick % n < high_part n = square-below count t.tick one t.high in
    let last : (t.tick - 1) % n ≡ n - 1 =
    ⊎_elim (λ small. absurd (omega (arith, next_place n t.tick (omega arith) small))) (λ large. omega arith) (cases_lt ((t.tick - 1) % n + 1) n) in
    grown-from_last n before after t.tick (period-two count one) t.above t.within last

-- For a count of 1, OUT is high at each tick.
no_turns : (mode : Mode) (count before after : ℕ) → ((k : ℕ) → out_at mode count k ≡ true) → Turns mode count before after → ⊥
no_turns mode count before after high t = let e = high (t.tick - 1) in let l = t.low in cc

periodic-grown : (count a b : ℕ) → (count == 1) ≡ false → a < b → (not (count == 1) && nat_lt a b) ≡ true
periodic-grown count a b one l = grind (arith, nat_tests)

grown-periodic : (count a b : ℕ) → (count == 1) ≡ false → (not (count == 1) && nat_lt a b) ≡ true → a < b
grown-periodic count a b one e = grind (arith, nat_tests)

periodic-not_one : (count a b : ℕ) → (count == 1) ≡ true → (not (count == 1) && nat_lt a b) ≡ true → ⊥
periodic-not_one count a b one e = grind (arith, nat_tests)

-- The modes with one edge.
terminal-turns : (count before after : ℕ) → (nat_lt before (period count) && nat_le (period count) after) ≡ true → Turns TerminalCount count before after
unfolding out_at
terminal-turns count before after e =
    let p : 0 < period count = period-pos count in
    record {
      tick = period count;
      above = grind (arith, nat_tests);
      within = grind (arith, nat_tests);
      low = grind (arith, nat_tests);
      high = grind (arith, nat_tests);
    }

terminal-rises : (count before after : ℕ) → Turns TerminalCount count before after → (nat_lt before (period count) && nat_le (period count) after) ≡ true
unfolding out_at
terminal-rises count before after t = grind (arith, nat_tests)

strobe-turns : (count before after : ℕ) → (nat_lt before (period count + 1) && nat_le (period count + 1) after) ≡ true → Turns SoftwareStrobe count before after
unfolding out_at
strobe-turns count before after e = record {
  tick = period count + 1;
  above = grind (arith, nat_tests);
  within = grind (arith, nat_tests);
  low = grind (arith, nat_tests);
  high = grind (arith, nat_tests);
}

strobe-rises : (count before after : ℕ) → Turns SoftwareStrobe count before after → (nat_lt before (period count + 1) && nat_le (period count + 1) after) ≡ true
unfolding out_at
strobe-rises count before after t = grind (arith, nat_tests)

-- An edge is a turn.
turns-from_rises : (mode : Mode) (count before after : ℕ) → rises mode count before after ≡ true → Turns mode count before after
unfolding rises
turns-from_rises TerminalCount count before after e = terminal-turns count before after e
turns-from_rises RateGenerator count before after e = grind (arith, periodic-not_one, periodic-turns, rate-low, rate-high, grown-periodic)
turns-from_rises SquareWave count before after e = grind (arith, periodic-not_one, periodic-turns, square-low, square-high, grown-periodic)
turns-from_rises SoftwareStrobe count before after e = strobe-turns count before after e
turns-from_rises _ count before after e = cc

-- A turn is an edge.
rises-from_turns : (mode : Mode) (count before after : ℕ) → Turns mode count before after → rises mode count before after ≡ true
unfolding rises out_at
rises-from_turns TerminalCount count before after t = terminal-rises count before after t
rises-from_turns RateGenerator count before after t = grind (arith, no_turns, periodic-grown, rate-grown)
rises-from_turns SquareWave count before after t = grind (arith, no_turns, periodic-grown, square-grown)
rises-from_turns SoftwareStrobe count before after t = strobe-rises count before after t
rises-from_turns _ count before after t = absurd (no_turns _ count before after (λ k. refl) t)

turns-since : (load : Option ℕ) (mode : Mode) (count from to start : ℕ) → load ≡ Some start → Turns mode count (ticks start from) (ticks start to)
    → edge_since load mode count from to ≡ true
turns-since load mode count from to start e t = rw e (rises-from_turns mode count _ _ t)

pub edge_turns_high : EdgeTurnsHigh
unfolding edge_of
edge_turns_high counter from to = (
  λ e. let found : (start : ℕ) × (counter.loaded_at ≡ Some start) × Turns counter.mode counter.count (ticks start from)
      (ticks start to) = grind (arith, nat_tests, turns-from_rises) in
      record {
        load = found.0;
        is_loaded = found.1;
        tick = found.2.tick;
        after = found.2.above;
        not_after = found.2.within;
        low = found.2.low;
        high = found.2.high;
      },
  λ t. turns-since counter.loaded_at counter.mode counter.count from to t.load t.is_loaded
      (record { tick = t.tick; above = t.after; within = t.not_after; low = t.low; high = t.high }),
)
