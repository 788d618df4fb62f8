-- What a counter shows after a number of ticks (8254 data sheet, "Mode Definitions").
use Rattle.std.specs.Prelude.{ℕ, ◌+◌, ◌-◌, ◌*◌, ◌/◌, ◌%◌, ◌==◌, Bool, true, false, not, ◌&&◌, ◌||◌, nat_lt, nat_le, if◌then◌else◌}
use Rattle.dev_base.specs.declared.limits.TheConstants.{NANOSECONDS}
use Rattle.dev_pit.specs.declared.limits.TheConstants.{CLOCK_HERTZ}
use Rattle.dev_pit.specs.declared.mode.Mode.{Mode}
use Rattle.dev_pit.specs.declared.mode.Mode.TheVariants.{TerminalCount, OneShot, RateGenerator, SquareWave, SoftwareStrobe, HardwareStrobe}

-- `ticks load now` is the number of whole ticks between the two moments, in nanoseconds.
unfoldable pub ticks : ℕ → ℕ → ℕ
ticks load now = (now - load) * CLOCK_HERTZ / NANOSECONDS

-- `period count` is the number of ticks that a written count means; 0 means 65,536.
abbrev pub period : ℕ → ℕ
period count = if count == 0 then 65536 else count

-- `down n k` is `n - k` modulo 65,536, for `n` at most 65,536.
abbrev pub down : ℕ → ℕ → ℕ
down n k = (n + 65536 - k % 65536) % 65536

-- `high_part n` is the number of ticks, in a square wave's period of `n`, in which OUT is high.
abbrev pub high_part : ℕ → ℕ
high_part n = (n + 1) / 2

-- `square n k` is the live count of a square wave of period `n` after `k` ticks. It goes down by
-- two from the even part of `n`, once while OUT is high and once while it is low.
unfoldable pub square : ℕ → ℕ → ℕ
square n k =
    let even = n / 2 * 2 in
    let j = k % n in
    if nat_lt j (high_part n) then (even - 2 * j) % 65536 else (even - 2 * (j - high_part n)) % 65536

-- `live_at mode count k` is the live count, 16 bits, of a counter that was loaded `k` ticks ago.
-- With count 1 a rate generator and a square wave read 1.
unfoldable pub live_at : Mode → ℕ → ℕ → ℕ
live_at TerminalCount count k = down (period count) k
live_at OneShot count k = count
live_at RateGenerator count k = if count == 1 then 1 else (period count - k % period count) % 65536
live_at SquareWave count k = if count == 1 then 1 else square (period count) k
live_at SoftwareStrobe count k = down (period count) k
live_at HardwareStrobe count k = count

-- `out_at mode count k` is OUT, true if high, of a counter that was loaded `k` ticks ago. With
-- count 1 a rate generator and a square wave hold it high.
unfoldable pub out_at : Mode → ℕ → ℕ → Bool
out_at TerminalCount count k = nat_le (period count) k
out_at OneShot count k = true
out_at RateGenerator count k = (count == 1) || not (k % period count == period count - 1)
out_at SquareWave count k = (count == 1) || nat_lt (k % period count) (high_part (period count))
out_at SoftwareStrobe count k = not (k == period count)
out_at HardwareStrobe count k = true

-- `rises mode count before after` tells whether OUT has a rising edge after the tick `before` and
-- not after the tick `after`.
unfoldable pub rises : Mode → ℕ → ℕ → ℕ → Bool
rises TerminalCount count before after = nat_lt before (period count) && nat_le (period count) after
rises OneShot count before after = false
rises RateGenerator count before after = not (count == 1) && nat_lt (before / period count) (after / period count)
rises SquareWave count before after = not (count == 1) && nat_lt (before / period count) (after / period count)
rises SoftwareStrobe count before after = nat_lt before (period count + 1) && nat_le (period count + 1) after
rises HardwareStrobe count before after = false

-- `out_unloaded mode` is OUT of a counter that isn't loaded: low in mode 0, else high.
abbrev pub out_unloaded : Mode → Bool
out_unloaded TerminalCount = false
out_unloaded _ = true
