-- The laws of the chip, which functions in src/laws.rt have as clauses.
use Rattle.std.specs.Prelude.{◌≡◌, ◌≢◌, ℕ, ℤ, ◌*◌, ◌<◌, ◌≤◌, ◌==◌, ◌&&◌, ◌||◌, ◌↔◌, ◌⊎◌, true, false, List, length, Option, Some, None, Ok}
use Rattle.vms_hooks.specs.Numbers.{Numbers}
use Rattle.dev_base.specs.Bits.{has}
use Rattle.dev_base.specs.Cells.{AreOf}
use Rattle.dev_base.specs.Levels.{IsUpTo}
use Rattle.dev_base.specs.Rules.{first_failing}
use Rattle.vms_rtc.specs.Cells.{kinds, saved_cells, carried}
use Rattle.vms_rtc.specs.Chip.{is_port, register, power_on, line_of, index_read, data_read, read_of, index_written, data_written, written, ticks, period_of, passed}
use Rattle.vms_rtc.specs.Saved.{CanSave, CanRestore, MayRestore, rules, hook_restored}
use Rattle.vms_rtc.specs.Sound.{IsSound}
use Rattle.vms_rtc.specs.declared.limits.TheConstants.{NEWEST_CLOCK, NMI_SINCE, INDEX_PORT, DATA_PORT, REGISTER_A, REGISTER_B, REGISTER_C, REGISTER_D, CRYSTAL_HERTZ, REGISTERS}
use Rattle.vms_rtc.specs.declared.rtc.Rtc.{Rtc}

-- The numbers of the data sheet and of the PC: 0x70 is the port of the index and 0x71 that of the
-- selected register, bit 6 of register 0x0b enables the interrupt, and a second has 32,768 ticks.
pub record NumbersAre : Type 0 where
  pub ports : (port : ℕ) → is_port port ≡ ((port == 0x70) || (port == 0x71))
  pub reads_index : (chip : Rtc) → read_of 0x70 chip ≡ (index_read chip, chip)
  pub reads_data : (chip : Rtc) → read_of 0x71 chip ≡ data_read chip
  pub writes_index : (value : ℕ) (chip : Rtc) → written 0x70 value chip ≡ index_written value chip
  pub writes_data : (value : ℕ) (chip : Rtc) → written 0x71 value chip ≡ data_written value chip
  pub enables : (chip : Rtc) → line_of chip ≡ (chip.pf && has (register 0x0b chip) 6)
  pub seconds : (seconds : ℕ) → ticks (seconds * 1000000000) ≡ seconds * 32768
  -- The constants that definitions cite: the ports, the crystal, the registers by their names in
  -- the data sheet, their number, and the first version with an NMI mask.
  pub index_port : INDEX_PORT ≡ 0x70
  pub data_port : DATA_PORT ≡ 0x71
  pub crystal : CRYSTAL_HERTZ ≡ 32768
  pub register_a : REGISTER_A ≡ 0x0a
  pub register_b : REGISTER_B ≡ 0x0b
  pub register_c : REGISTER_C ≡ 0x0c
  pub register_d : REGISTER_D ≡ 0x0d
  pub registers : REGISTERS ≡ 64
  pub nmi : NMI_SINCE ≡ 2

-- Time that passes in two parts has the same effect as time that passes at once.
pub record PartsAreWhole : Type 0 where
  pub passed : (first middle last : ℕ) (chip : Rtc) → first ≤ middle → middle ≤ last
      → passed middle last (passed first middle chip) ≡ passed first last chip

-- A multiple of the period is after the ticks at a span's beginning, and not after those at its
-- end.
abbrev pub HasMultiple : Option ℕ → ℕ → ℕ → Type 0
HasMultiple None from to = ⊥
HasMultiple (Some period) from to = (k : ℕ) × (ticks from < k * period) × (k * period ≤ ticks to)

-- A span of time sets the flag exactly if it has a multiple of the period that register A selects,
-- and never clears it.
pub record FlagIsSetAtMultiples : Type 0 where
  pub flag : (from to : ℕ) (chip : Rtc)
      → ((passed from to chip).pf ≡ true) ↔ ((chip.pf ≡ true) ⊎ HasMultiple (period_of (register REGISTER_A chip)) from to)

-- A read of register C clears the flag and changes nothing else; other reads change nothing.
pub record ReadsClearFlag : Type 0 where
  pub of_c : (chip : Rtc) → chip.index ≡ REGISTER_C → (data_read chip).1 ≡ record chip { pf = false }
  pub others : (chip : Rtc) → chip.index ≢ REGISTER_C → (data_read chip).1 ≡ chip

-- Writes to registers C and D don't change them.
pub record FlagsAreKept : Type 0 where
  pub c : (value : ℕ) (chip : Rtc) → register REGISTER_C (data_written value chip) ≡ register REGISTER_C chip
  pub d : (value : ℕ) (chip : Rtc) → register REGISTER_D (data_written value chip) ≡ register REGISTER_D chip

-- No call changes the version.
pub record VersionStays : Type 0 where
  pub power_on : (version : ℕ) → (power_on version).version ≡ version
  pub read : (port : ℕ) (chip : Rtc) → (read_of port chip).1.version ≡ chip.version
  pub write : (port value : ℕ) (chip : Rtc) → (written port value chip).version ≡ chip.version
  pub passed : (from to : ℕ) (chip : Rtc) → (passed from to chip).version ≡ chip.version

-- The chip is sound at power on, and each call keeps it so.
pub record CallsKeepSound : Type 0 where
  pub power_on : (version : ℕ) → IsUpTo NEWEST_CLOCK version → IsSound (power_on version)
  pub read : (port : ℕ) (chip : Rtc) → IsSound chip → IsSound (read_of port chip).1
  pub write : (port value : ℕ) (chip : Rtc) → value < 256 → IsSound chip → IsSound (written port value chip)
  pub passed : (from to : ℕ) (chip : Rtc) → IsSound chip → IsSound (passed from to chip)

-- What a sound chip saves are cells of the set.
pub record SavedAreCells : Type 0 where
  pub of_kinds : (set : ℕ) (chip : Rtc) → IsSound chip → AreOf (kinds set) (saved_cells set chip)

-- If a sound chip is saved under a set from its version on, and the cells are carried to the newest
-- set, it is restored as it was.
pub record SavedIsRestored : Type 0 where
  pub chip : (numbers back : Numbers) (chip : Rtc) → CanSave numbers chip → IsSound chip → MayRestore back
      → back.level ≡ chip.version
      → CanRestore back (carried numbers.set (saved_cells numbers.set chip))
      × (hook_restored back (carried numbers.set (saved_cells numbers.set chip)) ≡ Ok chip)

-- A chip that a stream can describe: its version exists, it has all registers, and what the newest
-- clock set saves are cells of that set.
pub record IsTold (chip : Rtc) : Type 0 where
  pub version : IsUpTo NEWEST_CLOCK chip.version
  pub count : length chip.cmos ≡ REGISTERS
  pub cells : AreOf (kinds NEWEST_CLOCK) (saved_cells NEWEST_CLOCK chip)

-- A chip is sound exactly if a stream can describe it and no rule fails for what the newest clock
-- set saves.
pub record SoundMeetsRules : Type 0 where
  pub chip : (chip : Rtc) → IsSound chip
      ↔ (IsTold chip × (first_failing (rules chip.version (saved_cells NEWEST_CLOCK chip)) ≡ None))

-- A restored chip is sound and has the version of the restore.
pub record RestoredIsSound : Type 0 where
  pub sound : (numbers : Numbers) (cells : List ℤ) (chip : Rtc) → CanRestore numbers cells → hook_restored numbers cells ≡ Ok chip → IsSound chip
  pub version : (numbers : Numbers) (cells : List ℤ) (chip : Rtc) → hook_restored numbers cells ≡ Ok chip → chip.version ≡ numbers.level
