-- The states that the chip may have.
use Rattle.std.specs.Prelude.{◌≡◌, ℕ, ◌<◌, ◌≤◌, false, length}
use Rattle.dev_base.specs.Levels.{IsUpTo}
use Rattle.vms_rtc.specs.Chip.{register, has_mask}
use Rattle.vms_rtc.specs.declared.limits.TheConstants.{NEWEST_CLOCK, REGISTER_A, REGISTER_C, REGISTER_D, REGISTERS}
use Rattle.vms_rtc.specs.declared.rtc.Rtc.{Rtc}

-- The version exists, the registers are bytes, and no rule fails for what is saved.
pub record IsSound (chip : Rtc) : Type 0 where
  pub version : IsUpTo NEWEST_CLOCK chip.version
  pub index : chip.index ≤ 63
  pub count : length chip.cmos ≡ REGISTERS
  pub bytes : (k : ℕ) → k < REGISTERS → register k chip < 256
  pub a : register REGISTER_A chip ≤ 127
  pub c : register REGISTER_C chip ≡ 0
  pub d : register REGISTER_D chip ≡ 0
  pub mask : has_mask chip ≡ false → chip.nmi_mask ≡ false
