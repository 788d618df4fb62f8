-- The meaning of saving and restoring the chip.
use Rattle.std.specs.Prelude.{◌≡◌, ℕ, ℤ, ◌+◌, ◌==◌, Bool, ◌&&◌, ◌||◌, not, nat_le, List, [], ◌∷◌, Result, codes}
use Rattle.vms_fields.specs.Clock.{place_of_clock}
use Rattle.vms_hooks.specs.Numbers.{Numbers}
use Rattle.vms_hooks.specs.declared.fault.HookFault.{HookFault}
use Rattle.dev_base.specs.Cells.{number_at, flag_at, firsts, AreOf}
use Rattle.dev_base.specs.Hooks.{hook_result}
use Rattle.dev_base.specs.Levels.{IsUpTo, ReachesSet}
use Rattle.dev_base.specs.Rules.{judged}
use Rattle.vms_rtc.specs.Cells.{kinds}
use Rattle.vms_rtc.specs.declared.limits.TheConstants.{NEWEST_CLOCK, NMI_SINCE, REGISTER_A, REGISTER_C, REGISTER_D, REGISTERS}
use Rattle.vms_rtc.specs.declared.rtc.Rtc.{Rtc}

-- The chip may be saved at its version, under a clock set from its version to the newest.
pub record CanSave (numbers : Numbers) (chip : Rtc) : Type 0 where
  pub is_version : IsUpTo NEWEST_CLOCK chip.version
  pub own_version : numbers.level ≡ chip.version
  pub reaches : ReachesSet NEWEST_CLOCK numbers.level numbers.set

-- A chip may be restored at a version that exists, from the newest clock set.
pub record MayRestore (numbers : Numbers) : Type 0 where
  pub is_version : IsUpTo NEWEST_CLOCK numbers.level
  pub newest_set : numbers.set ≡ NEWEST_CLOCK

-- The cells may be restored: the pass may restore, and they are cells of the newest clock set.
pub record CanRestore (numbers : Numbers) (cells : List ℤ) : Type 0 where
  pub pass : MayRestore numbers
  pub of_kinds : AreOf (kinds NEWEST_CLOCK) cells

-- ---- the fields of cells, by their names

-- The index.
abbrev pub index_in : List ℤ → ℕ
index_in cells = number_at cells (place_of_clock (codes "index"))

-- Register `k`.
abbrev pub register_in : List ℤ → ℕ → ℕ
register_in cells k = number_at cells (place_of_clock (codes "cmos") + k)

-- The NMI mask.
abbrev pub nmi_mask_in : List ℤ → Bool
nmi_mask_in cells = flag_at cells (place_of_clock (codes "nmi_mask"))

-- The periodic interrupt flag.
abbrev pub pf_in : List ℤ → Bool
pf_in cells = flag_at cells (place_of_clock (codes "pf"))

-- Rule 1: the index is that of a register.
abbrev pub index_holds : List ℤ → Bool
index_holds cells = nat_le (index_in cells) 63

-- Rule 2: register A has only bits 6 to 0, and C and D are 0.
abbrev pub registers_hold : List ℤ → Bool
registers_hold cells =
    nat_le (register_in cells REGISTER_A) 127 && ((register_in cells REGISTER_C == 0) && (register_in cells REGISTER_D == 0))

-- Rule 3: a chip without an NMI mask has it clear.
abbrev pub mask_holds : ℕ → List ℤ → Bool
mask_holds version cells = nat_le NMI_SINCE version || not (nmi_mask_in cells)

-- The rules for cells of the newest clock set, in their order.
abbrev pub rules : ℕ → List ℤ → List Bool
rules version cells = index_holds cells ∷ registers_hold cells ∷ mask_holds version cells ∷ []

-- The chip with these cells.
unfoldable pub chip_of : ℕ → List ℤ → Rtc
chip_of version cells = record {
  version = version;
  index = index_in cells;
  cmos = firsts REGISTERS (register_in cells);
  nmi_mask = nmi_mask_in cells;
  pf = pf_in cells;
}

-- The chip, or the number of the first rule that fails.
abbrev pub restored : ℕ → List ℤ → Result Rtc ℕ
restored version cells = judged (rules version cells) (chip_of version cells)

-- The same as a hook's result.
abbrev pub hook_restored : Numbers → List ℤ → Result Rtc HookFault
hook_restored numbers cells = hook_result (restored numbers.level cells)
