-- What is saved of a pair and restored from it, and what its hooks return.
use Rattle.dev_pic.proofs.Facade
use Facade.{◌≡◌, ℕ, ◌≤◌, ◌%◌, true, List, ℤ, take, drop, Result, Ok, Err, arith, nat_tests, IsLevel, number-lt, AllTrue, judged-ok, hook-ok}
use Facade.{cell_count, IsChipCells, chip_of, registers_hold, rules, restored, RestoredIsSound, pair_of, restored_pair, by_number, IsSoundChip, IsSoundPair}
use Facade.{Chip, Role, Master, Slave, ChipFault, PicPair, ◌++◌, length, subst, ◌∙◌, sym, ap, ◌+◌, ◌-◌, ◌<◌, ◌==◌, Bool, false, cond}
use Facade.{[], ◌∷◌, refl, pos, codes, Option, Some, take-append_seam, drop-append_seam, nat_le, kinds, cell_in, flag_in, state_number, named}
use Facade.{saved_cells, carried, levels_hold, mode_holds, cells_under, i8259_rows, Numbers, flag_number, AreOf, MayRestore, NEWEST, either, byte, flag}
use Facade.{flag-back, AllHold, one_holds, none_lacks, of_rows, carried_rows, none_failing, all_true, judged-all, ok-hook, first_failing_is_first}
use Facade.{SoundMeetsRules, SavedAreCells, SavedIsRestored, FaultsAreTold, CanSave, CanRestore, pair_cells, pair_carried, hook_rule, fault_of, hook_restored}
use Facade.{HasRegisters, MeetsRules, InitState, ELCR_SINCE, LTIM_SINCE, HookFault, hook_result, judged_by}

-- ---- a restored pair is sound

-- What rule 1 says.
low_priority : (lowest state base : ℕ) → registers_hold lowest state base ≡ true → lowest ≤ 7
unfolding registers_hold
low_priority lowest state base h = grind (arith, nat_tests)

clear_vectors : (lowest state base : ℕ) → registers_hold lowest state base ≡ true → base % 8 ≡ 0
unfolding registers_hold
clear_vectors lowest state base h = grind (arith, nat_tests)

-- A chip whose cells break no rule is sound.
pub sound : (level : ℕ) (role : Role) (cells : List ℤ) → IsChipCells cells → AllTrue (rules level role cells) → IsSoundChip level role (chip_of cells)
unfolding chip_of
sound level role cells is hold = search (arith, number-lt, low_priority, clear_vectors)

restored-sound : (level : ℕ) (role : Role) (cells : List ℤ) (chip : Chip) → IsChipCells cells → restored level role cells ≡ Ok chip
    → IsSoundChip level role chip
restored-sound level role cells chip is e =
    let ok = judged-ok (rules level role cells) (chip_of cells) chip e in
    rw ok.1 at (sound level role cells is ok.0)

-- A pair is made of two chips that were restored.
pub record IsMadeOf (level : ℕ) (master slave : Result Chip ℕ) (pair : PicPair) : Type 0 where
  pub same_level : pair.level ≡ level
  pub of_master : master ≡ Ok pair.master
  pub of_slave : slave ≡ Ok pair.slave

pub made_of : (level : ℕ) (master slave : Result Chip ℕ) (pair : PicPair) → pair_of level master slave ≡ Ok pair → IsMadeOf level master slave pair
unfolding pair_of
made_of level master slave pair e = search arith

pub number-ok : (outcome : Result PicPair ChipFault) (pair : PicPair) → by_number outcome ≡ Ok pair → outcome ≡ Ok pair
unfolding by_number
number-ok outcome pair e = grind arith

pub pair-sound : (level : ℕ) (master slave : List ℤ) (pair : PicPair) → IsLevel level → IsChipCells master → IsChipCells slave
    → restored_pair level master slave ≡ Ok pair → IsSoundPair pair × (pair.level ≡ level)
pair-sound level master slave pair l m s e =
    let made = made_of level (restored level Master master) (restored level Slave slave) pair e in
    let same = made.same_level in
    let at_level : (n : ℕ) → n ≡ level → IsLevel n × IsSoundChip n Master pair.master × IsSoundChip n Slave pair.slave = λ n is. rw is (l, restored-sound level Master master pair.master m made.of_master, restored-sound level Slave slave pair.slave s made.of_slave) in
    let parts = at_level pair.level same in
    (record { level = parts.0; master = parts.1; slave = parts.2 }, same)

pub restored_is_sound : RestoredIsSound
restored_is_sound = record {
  pair = λ numbers cells pair can e. pair-sound numbers.level (take cell_count cells) (drop cell_count cells) pair can.pass.is_level can.master can.slave
      (number-ok _ pair (hook-ok _ pair e));
}

-- ---- the parts of a list that joins two

pub first_part : (count : ℕ) (first second : List ℤ) → length first ≡ count → take count (first ++ second) ≡ first
first_part count first second is = rw (← is) (take-append_seam first second)

pub second_part : (count : ℕ) (first second : List ℤ) → length first ≡ count → drop count (first ++ second) ≡ second
second_part count first second is = rw (← is) (drop-append_seam first second)

-- If a list joins two chips' cells, its parts are chips' cells.
pub master_cells : (master slave both : List ℤ) → both ≡ master ++ slave → IsChipCells master → IsChipCells (take cell_count both)
master_cells master slave both joined cells = rw joined (subst IsChipCells (sym (first_part cell_count master slave cells.count)) cells)

pub slave_cells : (master slave both : List ℤ) → both ≡ master ++ slave → IsChipCells master → IsChipCells slave → IsChipCells (drop cell_count both)
slave_cells master slave both joined first cells = rw joined (subst IsChipCells (sym (second_part cell_count master slave first.count)) cells)

-- ---- saved and restored

state-le : (s : InitState) → state_number s ≤ 3
state-le s = grind arith

-- A chip is that of its own cells.
pub chip_of-saved : (chip : Chip) → chip_of (saved_cells NEWEST chip) ≡ chip
unfolding chip_of saved_cells
chip_of-saved chip = grind (flag-back, arith)

-- Rule 1 holds for a chip with its registers.
registers-met : (level : ℕ) (role : Role) (chip : Chip) → HasRegisters level role chip
    → registers_hold chip.lowest (state_number chip.init_state) chip.base ≡ true
unfolding registers_hold
registers-met level role chip h = grind (arith, state-le)

-- All rules hold for a sound chip.
met : (level : ℕ) (role : Role) (chip : Chip) → IsSoundChip level role chip → AllTrue (rules level role (saved_cells NEWEST chip))
unfolding saved_cells
met level role chip s = grind (arith, flag-back, registers-met)

-- Each field has as many numbers of its kind as it counts.
holds : (level : ℕ) (role : Role) (chip : Chip) → HasRegisters level role chip → AllHold (named chip) i8259_rows
holds level role chip h = grind (arith, one_holds, byte, state-le, flag)

pub set-of : (level set : ℕ) (role : Role) (chip : Chip) → HasRegisters level role chip → AreOf (kinds set) (saved_cells set chip)
unfolding saved_cells
set-of level set role chip h = of_rows (named chip) set i8259_rows (holds level role chip h)

-- the cells of a chip, by whether the set has elcr and the level mode
abbrev by_sets : Bool → Bool → Chip → List ℤ
by_sets a b chip = cells_under i8259_rows 1 (named chip) ++ (cond a (pos chip.elcr ∷ []) [] ++ (cond b (pos (flag_number chip.ltim) ∷ []) [] ++ []))

pub saved-count : (set : ℕ) (chip : Chip) → length (saved_cells set chip) ≡ length (kinds set)
unfolding saved_cells
saved-count set chip = grind (arith, kinds)

-- A chip is sound if its cells break no rule, and conversely.
meets : (level : ℕ) (role : Role) (chip : Chip) → IsSoundChip level role chip → IsChipCells (saved_cells NEWEST chip) × MeetsRules level role chip
meets level role chip s = (set-of level NEWEST role chip s.registers, none_failing (rules level role (saved_cells NEWEST chip)) (met level role chip s))

is_sound : (level : ℕ) (role : Role) (chip : Chip) → IsChipCells (saved_cells NEWEST chip) × MeetsRules level role chip → IsSoundChip level role chip
is_sound level role chip h =
    rw (chip_of-saved chip) at (sound level role (saved_cells NEWEST chip) h.0 (all_true (rules level role (saved_cells NEWEST chip)) h.1))

pub sound_meets_rules : SoundMeetsRules
sound_meets_rules = record { chip = λ level role chip. (meets level role chip, is_sound level role chip) }

restored-newest : (level : ℕ) (role : Role) (chip : Chip) → IsSoundChip level role chip → restored level role (saved_cells NEWEST chip) ≡ Ok chip
restored-newest level role chip s =
    cc (judged-all (rules level role (saved_cells NEWEST chip)) (chip_of (saved_cells NEWEST chip)) (met level role chip s), chip_of-saved chip)

-- What a set lacks is at its default on a chip of a level that may be saved in it.
no-levels : (level elcr : ℕ) (role : Role) → level < ELCR_SINCE → levels_hold level role elcr ≡ true → elcr ≡ 0
unfolding levels_hold
no-levels level elcr role l h = grind (arith, nat_tests)

no-mode : (level : ℕ) (ltim : Bool) → level < LTIM_SINCE → mode_holds level ltim ≡ true → ltim ≡ false
unfolding mode_holds
no-mode level ltim l h = grind (arith, nat_tests, nat_le)

-- Carried cells are those of the newest set.
pub carried-saved : (level set : ℕ) (role : Role) (chip : Chip) → level ≤ set → IsSoundChip level role chip
    → carried set (saved_cells set chip) ≡ saved_cells NEWEST chip
unfolding saved_cells
carried-saved level set role chip le s =
    let elcr : nat_le ELCR_SINCE set ≡ false → chip.elcr ≡ 0 =
    λ e. let l : level < ELCR_SINCE = grind (arith, nat_tests) in no-levels level chip.elcr role l s.registers.levels in
    let ltim : nat_le LTIM_SINCE set ≡ false → chip.ltim ≡ false =
    λ e. let l : level < LTIM_SINCE = grind (arith, nat_tests) in no-mode level chip.ltim l s.registers.mode in
    carried_rows (named chip) set i8259_rows (holds level role chip s.registers)
    (none_lacks (named chip) set (take 15 i8259_rows) (drop 15 i8259_rows) refl
    (λ e. rw (elcr e), (λ e. rw (ltim e), tt)))
    [] 0 refl

-- The level mode's cell if the subsection isn't needed.
off : (ltim : Bool) → (flag_number ltim == 1) ≡ false → pos (flag_number ltim) ≡ pos 0
off ltim e = grind (arith, nat_tests)

unneeded : (set : ℕ) (chip : Chip) → LTIM_SINCE ≤ set → flag_in (saved_cells set chip) (codes "ltim") ≡ false
    → cell_in (saved_cells set chip) (codes "ltim") ≡ pos 0
unfolding saved_cells
unneeded set chip h = grind (arith, cell_in, off)

master-part : (set : ℕ) (pair : PicPair) → take (length (kinds set)) (pair_cells set pair) ≡ saved_cells set pair.master
master-part set pair = first_part (length (kinds set)) (saved_cells set pair.master) (saved_cells set pair.slave) (saved-count set pair.master)

slave-part : (set : ℕ) (pair : PicPair) → drop (length (kinds set)) (pair_cells set pair) ≡ saved_cells set pair.slave
slave-part set pair = second_part (length (kinds set)) (saved_cells set pair.master) (saved_cells set pair.slave) (saved-count set pair.master)

pub saved_are_cells : SavedAreCells
saved_are_cells = record {
  of_kinds = λ chip numbers pair can s. either (λ c. AreOf (kinds numbers.set) (saved_cells numbers.set c)) (chip == 0) pair.master pair.slave
      (set-of pair.level numbers.set Master pair.master s.master.registers) (set-of pair.level numbers.set Slave pair.slave s.slave.registers);
  unneeded = unneeded;
  master = master-part;
  slave = slave-part;
}

-- A fault is that of its own number.
told : (chip rule : ℕ) → chip < 2 → 1 ≤ rule → rule ≤ 10 → fault_of (hook_rule (record { chip = chip; rule = rule })) ≡ record { chip = chip; rule = rule }
told chip rule c l h = search arith

pub faults_are_told : FaultsAreTold
faults_are_told = record { fault = λ fault c l h. told fault.chip fault.rule c l h }

-- The pair's carried cells are those of the newest set.
pair-carried : (set : ℕ) (pair : PicPair) → IsSoundPair pair → pair.level ≤ set → pair_carried set (pair_cells set pair) ≡ pair_cells NEWEST pair
pair-carried set pair s le =
    cc (master-part set pair, slave-part set pair, carried-saved pair.level set Master pair.master le s.master, carried-saved pair.level set Slave pair.slave le s.slave)

pub pair-restored : (pair : PicPair) → IsSoundPair pair → restored_pair pair.level (saved_cells NEWEST pair.master) (saved_cells NEWEST pair.slave) ≡ Ok pair
unfolding pair_of
pair-restored pair s = cc (restored-newest pair.level Master pair.master s.master, restored-newest pair.level Slave pair.slave s.slave)

-- Both chips' cells in the newest set.
newest-can : (numbers : Numbers) (pair : PicPair) → MayRestore numbers → IsSoundPair pair → CanRestore numbers (pair_cells NEWEST pair)
newest-can numbers pair may s = search (arith, master-part, set-of, slave-part)

newest-restored : (numbers : Numbers) (pair : PicPair) → numbers.level ≡ pair.level → IsSoundPair pair
    → hook_restored numbers (pair_cells NEWEST pair) ≡ Ok pair
unfolding by_number
newest-restored numbers pair same s =
    let parts : restored_pair numbers.level (take cell_count (pair_cells NEWEST pair)) (drop cell_count (pair_cells NEWEST pair)) ≡ Ok pair =
    cc (master-part NEWEST pair, slave-part NEWEST pair, pair-restored pair s)
    in ok-hook _ pair (ap by_number parts)

restored-back : (numbers back : Numbers) (pair : PicPair) → CanSave numbers pair → IsSoundPair pair → MayRestore back → back.level ≡ pair.level → CanRestore back (pair_carried numbers.set (pair_cells numbers.set pair)) × (hook_restored back (pair_carried numbers.set (pair_cells numbers.set pair)) ≡ Ok pair)
restored-back numbers back pair can s may same =
    let e = sym (pair-carried numbers.set pair s (omega arith)) in (
      rw e at (newest-can back pair may s),
      rw e at (newest-restored back pair same s),
    )

pub saved_is_restored : SavedIsRestored
saved_is_restored = record { pair = restored-back }

-- ---- what the pair's hooks return

-- A rule of a chip, and a fault of one of two chips.
abbrev IsRule : ℕ → Type 0
IsRule rule = (1 ≤ rule) × (rule ≤ 4)

record IsFault (fault : ChipFault) : Type 0 where
  chip : fault.chip < 2
  rule : IsRule fault.rule

failing : (answer : Option ℕ) (chip : Chip) (rule : ℕ) → judged_by answer chip ≡ Err rule → answer ≡ Some rule
unfolding judged_by
failing answer chip rule e = grind arith

chip-rule : (level : ℕ) (role : Role) (cells : List ℤ) (rule : ℕ) → restored level role cells ≡ Err rule → IsRule rule
chip-rule level role cells rule e = search (arith, failing, first_failing_is_first)

made-fault : (level : ℕ) (master slave : Result Chip ℕ) (fault : ChipFault) → ((rule : ℕ) → master ≡ Err rule → IsRule rule)
    → ((rule : ℕ) → slave ≡ Err rule → IsRule rule) → pair_of level master slave ≡ Err fault → IsFault fault
unfolding pair_of
made-fault level master slave fault m s e = search arith

pair-fault : (level : ℕ) (master slave : List ℤ) (fault : ChipFault) → restored_pair level master slave ≡ Err fault → IsFault fault
pair-fault level master slave fault e = grind (arith, made-fault, chip-rule)

hook-err : (outcome : Result PicPair ChipFault) (fault : HookFault) → ((found : ChipFault) → outcome ≡ Err found → IsFault found)
    → hook_result (by_number outcome) ≡ Err fault → outcome ≡ Err (fault_of fault.rule)
unfolding hook_result by_number
hook-err outcome fault within e = search (arith, faults_are_told)

-- Two chips' cells, one after the other.
module _ (numbers : Numbers) (master slave : List ℤ) (m : IsChipCells master) where
  parts : restored_pair numbers.level (take cell_count (master ++ slave)) (drop cell_count (master ++ slave)) ≡ restored_pair numbers.level master slave
  parts = cc (first_part cell_count master slave m.count, second_part cell_count master slave m.count)

  pub pair-told : (pair : PicPair) → hook_restored numbers (master ++ slave) ≡ Ok pair → restored_pair numbers.level master slave ≡ Ok pair
  pair-told pair e = sym parts ∙ number-ok _ pair (hook-ok _ pair e)

  pub fault-told : (fault : HookFault) → hook_restored numbers (master ++ slave) ≡ Err fault
      → restored_pair numbers.level master slave ≡ Err (fault_of fault.rule)
  fault-told fault e = hook-err (restored_pair numbers.level master slave) fault (pair-fault numbers.level master slave) (rw (sym parts) (e))

-- The pair restored from what the newest set saves of a pair, which may break rules, is sound and
-- the same.
chip-same : (level : ℕ) (role : Role) (chip back : Chip) → restored level role (saved_cells NEWEST chip) ≡ Ok back → back ≡ chip
chip-same level role chip back e =
    sym (judged-ok (rules level role (saved_cells NEWEST chip)) (chip_of (saved_cells NEWEST chip)) back e).1 ∙ chip_of-saved chip

pub pair-same : (level : ℕ) (pair back : PicPair) → pair.level ≡ level
    → restored_pair level (saved_cells NEWEST pair.master) (saved_cells NEWEST pair.slave) ≡ Ok back → back ≡ pair
pair-same level pair back same e =
    let made = made_of level (restored level Master (saved_cells NEWEST pair.master)) (restored level Slave (saved_cells NEWEST pair.slave)) back e in
    rw (made.same_level ∙ sym same, chip-same level Master pair.master back.master made.of_master, chip-same level Slave pair.slave back.slave made.of_slave)
