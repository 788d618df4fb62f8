-- When a period of the periodic interrupt ends next.
use Rattle.std.specs.Prelude.{◌≡◌, ℕ, ◌+◌, ◌-◌, ◌*◌, ◌/◌, ◌≤◌, Bool, false, nat_le, Option, Some, None}
use Rattle.dev_base.specs.declared.limits.TheConstants.{NANOSECONDS}
use Rattle.vms_rtc.specs.Chip.{ends_within, period_of, register}
use Rattle.vms_rtc.specs.declared.limits.TheConstants.{CRYSTAL_HERTZ, REGISTER_A}
use Rattle.vms_rtc.specs.declared.rtc.Rtc.{Rtc}

-- the first moment, in nanoseconds, at which so many ticks of the crystal have passed since power on
unfoldable pub moment_of : ℕ → ℕ
moment_of tick = (tick * NANOSECONDS + (CRYSTAL_HERTZ - 1)) / CRYSTAL_HERTZ

-- `period_in chip` is the period that register A of `chip` sets, if it sets one.
abbrev pub period_in : Rtc → Option ℕ
period_in chip = period_of (register REGISTER_A chip)

-- a moment, if there is one, has come
abbrev pub has_come : Option ℕ → ℕ → Bool
has_come None to = false
has_come (Some at) to = nat_le at to

-- a period ends after `from` and not after a later moment exactly where this one, if there is one, has come by then
pub record IsNextEnd (period : Option ℕ) (from : ℕ) (end : Option ℕ) : Type 0 where
  pub ends : (to : ℕ) → from ≤ to → ends_within period from to ≡ has_come end to
