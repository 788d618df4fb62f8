-- The laws of the pair in the data sheet's terms, of its steps, and of saving and restoring. The
-- contract of a function names each.
use Rattle.std.specs.Prelude.{◌≡◌, ◌≢◌, ℕ, ◌+◌, ◌-◌, ◌%◌, ◌^◌, ◌<◌, ◌≤◌, ◌==◌, Bool, true, false, ◌&&◌, ◌||◌, not, if◌then◌else◌, List, ℤ, pos, codes, length, take, drop, Some, None, Ok, ◌↔◌, bit_and}
use Rattle.vms_hooks.specs.Numbers.{Numbers}
use Rattle.dev_base.specs.Cells.{AreOf}
use Rattle.dev_base.specs.Levels.{IsLevel, MayRestore}
use Rattle.dev_base.specs.declared.limits.TheConstants.{NEWEST}
use Rattle.dev_base.specs.Bits.{has}
use Rattle.dev_pic.specs.Cells.{kinds, saved_cells, cell_in, flag_in, IsChipCells}
use Rattle.dev_pic.specs.Chip.{cascade_input, level_inputs, level_inputs_of, ltim_after, in_service_of, served_of, winner_at, taken, read_of, settled, commanded, written_even, written_odd}
use Rattle.dev_pic.specs.Pair.{power_on, is_port, slave_int_of, lines_of, acked, settled_pair, read_pair, written_pair}
use Rattle.dev_pic.specs.Saved.{chip_at, CanSave, CanRestore, pair_cells, pair_carried, hook_rule, fault_of, hook_restored}
use Rattle.dev_pic.specs.Sound.{IsSoundChip, MeetsRules, PairHasRegisters, IsSoundPair}
use Rattle.dev_pic.specs.Winner.{input_at, winner_of, IsWinner, MeansWinner}
use Rattle.dev_pic.specs.declared.chip.Chip.{Chip}
use Rattle.dev_pic.specs.declared.chip.InitState.TheVariants.{Ready}
use Rattle.dev_pic.specs.declared.chip.Role.{Role}
use Rattle.dev_pic.specs.declared.chip.Role.TheVariants.{Master, Slave}
use Rattle.dev_pic.specs.declared.fault.ChipFault.{ChipFault}
use Rattle.dev_pic.specs.declared.levels.TheConstants.{LTIM_SINCE}
use Rattle.dev_pic.specs.declared.ocw2.Ocw2.TheVariants.{NonSpecificEoi, RotateOnNonSpecificEoi}
use Rattle.dev_pic.specs.declared.pair.PicPair.{PicPair}

-- The winner is the requested input of highest priority, if it comes strictly before every input in
-- service (8259A data sheet, "Priority Resolver").
pub record WinnerIsLeastRequest : Type 0 where
  pub means : (lowest requests served : ℕ)
      → MeansWinner lowest requests served (winner_of lowest requests served)
  pub only : (lowest requests served winner : ℕ) → IsWinner lowest requests served winner
      → winner_of lowest requests served ≡ Some winner

-- A masked request never wins (8259A data sheet, "Interrupt Mask Register (IMR)").
abbrev pub MaskedNeverWins : Type 0
MaskedNeverWins =
    (role : Role) (chip : Chip) (input : ℕ) → chip.imr < 256 → input < 8 → has chip.imr input ≡ true
    → winner_at role chip ≢ Some input

-- In fully nested mode an input in service blocks itself and each input of lower priority (8259A
-- data sheet, "Fully Nested Mode").
abbrev pub ServedBlocksLower : Type 0
ServedBlocksLower =
    (role : Role) (chip : Chip) (place lower : ℕ) → chip.special_mask ≡ false → chip.nested ≡ false
    → place ≤ lower → lower < 8 → has chip.isr (input_at chip.lowest place) ≡ true
    → winner_at role chip ≢ Some (input_at chip.lowest lower)

-- `IsHighestServed chip input`: the input has the highest priority of those in service, in special
-- mask mode of those that aren't masked.
pub record IsHighestServed (chip : Chip) (input : ℕ) : Type 0 where
  pub place : ℕ
  pub in_order : (place < 8) × (input ≡ input_at chip.lowest place)
  pub served : has (in_service_of chip) input ≡ true
  pub highest : (other : ℕ) → other < place
      → has (in_service_of chip) (input_at chip.lowest other) ≡ false

-- `EndsService input chip after`: only this input's service is ended, and nothing else changes
-- except, perhaps, which input has the lowest priority.
pub record EndsService (input : ℕ) (chip after : Chip) : Type 0 where
  pub ended : has after.isr input ≡ false
  pub others : (other : ℕ) → other < 8 → other ≢ input → has after.isr other ≡ has chip.isr other
  pub rest : after ≡ record chip { isr = after.isr; lowest = after.lowest }

-- A non-specific EOI, the word 0x20, ends the service of highest priority. A rotating one, the word
-- 0xa0, gives that input the lowest priority. If nothing is in service, both do nothing (8259A data
-- sheet, "End of Interrupt (EOI)" and "Automatic Rotation").
pub record EoiEndsHighest : Type 0 where
  pub words : (level : ℕ) (chip : Chip)
      → (written_even level 0x20 chip ≡ commanded NonSpecificEoi chip)
      × (written_even level 0xa0 chip ≡ commanded RotateOnNonSpecificEoi chip)
  pub highest : (chip : Chip) (input : ℕ) → chip.isr < 256 → IsHighestServed chip input
      → EndsService input chip (commanded NonSpecificEoi chip)
      × ((commanded NonSpecificEoi chip).lowest ≡ chip.lowest)
  pub rotating : (chip : Chip) (input : ℕ) → chip.isr < 256 → IsHighestServed chip input
      → EndsService input chip (commanded RotateOnNonSpecificEoi chip)
      × ((commanded RotateOnNonSpecificEoi chip).lowest ≡ input)
  pub nothing : (chip : Chip) → ((input : ℕ) → input < 8 → has (in_service_of chip) input ≡ false)
      → (commanded NonSpecificEoi chip ≡ chip) × (commanded RotateOnNonSpecificEoi chip ≡ chip)

-- An input is a level input if its bit is set in `elcr` or the level mode is on.
abbrev pub LevelInputsAre : Type 0
LevelInputsAre =
    (ltim : Bool) (elcr input : ℕ) → input < 8
    → has (level_inputs ltim elcr) input ≡ (has elcr input || ltim)

-- `IsInitialized vectors auto_eoi nested ltim chip after`: `after` is the chip after its
-- initialization words. OCW1 comes next, and the vectors and modes are those of the words. Nothing
-- is in service or masked, priority is fully nested, and only level inputs are still requested.
pub record IsInitialized (vectors : ℕ) (auto_eoi nested ltim : Bool) (chip after : Chip) : Type 0 where
  pub ready : after.init_state ≡ Ready
  pub base : after.base ≡ vectors - vectors % 8
  pub modes : (after.auto_eoi ≡ auto_eoi) × (after.nested ≡ nested) × (after.special_mask ≡ false)
      × (after.rotate ≡ false)
  pub level_mode : after.ltim ≡ ltim
  pub clear : (after.isr ≡ 0) × (after.imr ≡ 0) × (after.lowest ≡ 7)
  pub shows_irr : (after.poll ≡ false) × (after.read_isr ≡ false)
  pub kept : (after.irr ≡ bit_and chip.irr (level_inputs ltim chip.elcr))
      × (after.lines ≡ chip.lines) × (after.elcr ≡ chip.elcr)

-- The initialization (8259A data sheet, "Initialization Command Words (ICWs)"). Bit 0 of ICW1
-- announces ICW4, without which both its modes are off. Bit 1 says that there is no ICW3. Bit 3 is
-- the level mode at a level that has it.
pub record InitializesByWords : Type 0 where
  pub all : (level : ℕ) (chip : Chip) (icw1 icw2 icw3 icw4 : ℕ) → has icw1 4 ≡ true
      → has icw1 0 ≡ true → has icw1 1 ≡ false
      → IsInitialized icw2 (has icw4 1) (has icw4 4) (ltim_after level icw1 chip) chip
      (written_odd icw4 (written_odd icw3 (written_odd icw2 (written_even level icw1 chip))))
  pub single : (level : ℕ) (chip : Chip) (icw1 icw2 icw4 : ℕ) → has icw1 4 ≡ true
      → has icw1 0 ≡ true → has icw1 1 ≡ true
      → IsInitialized icw2 (has icw4 1) (has icw4 4) (ltim_after level icw1 chip) chip
      (written_odd icw4 (written_odd icw2 (written_even level icw1 chip)))
  pub without_icw4 : (level : ℕ) (chip : Chip) (icw1 icw2 icw3 : ℕ) → has icw1 4 ≡ true
      → has icw1 0 ≡ false → has icw1 1 ≡ false
      → IsInitialized icw2 false false (ltim_after level icw1 chip) chip
      (written_odd icw3 (written_odd icw2 (written_even level icw1 chip)))
  pub shortest : (level : ℕ) (chip : Chip) (icw1 icw2 : ℕ) → has icw1 4 ≡ true → has icw1 0 ≡ false
      → has icw1 1 ≡ true
      → IsInitialized icw2 false false (ltim_after level icw1 chip) chip
      (written_odd icw2 (written_even level icw1 chip))
  pub level_mode : (level icw1 : ℕ) (chip : Chip) → LTIM_SINCE ≤ level
      → ltim_after level icw1 chip ≡ has icw1 3
  pub without_level_mode : (level icw1 : ℕ) (chip : Chip) → level < LTIM_SINCE
      → ltim_after level icw1 chip ≡ chip.ltim

-- An acknowledge without a winner of the master returns the master's base + 7 and changes nothing.
-- If the slave's output was taken and the slave has no winner, the slave's base + 7 is returned and
-- the slave is unchanged (8259A data sheet, "Edge and Level Triggered Modes", on the default IR7).
pub record AckWithoutWinner : Type 0 where
  pub master : (pair : PicPair) → PairHasRegisters pair → winner_at Master pair.master ≡ None
      → acked pair ≡ (pair.master.base + 7, pair)
  pub slave : (pair : PicPair) → PairHasRegisters pair
      → winner_at Master pair.master ≡ Some cascade_input → winner_at Slave pair.slave ≡ None
      → ((acked pair).0 ≡ pair.slave.base + 7) × ((acked pair).1.slave ≡ pair.slave)

-- A taken edge input loses its request, and a level input keeps it. Without automatic EOI its
-- service begins.
pub record TakesWinner : Type 0 where
  pub edge : (chip : Chip) (winner : ℕ) → chip.irr < 256 → winner < 8
      → has (level_inputs_of chip) winner ≡ false → has (taken winner chip).irr winner ≡ false
  pub level : (chip : Chip) (winner : ℕ) → has (level_inputs_of chip) winner ≡ true
      → (taken winner chip).irr ≡ chip.irr
  pub served : (chip : Chip) (winner : ℕ) → chip.isr < 256 → winner < 8 → chip.auto_eoi ≡ false
      → has (taken winner chip).isr winner ≡ true

-- OCW3 with bit 2 makes the next read of either port a poll. It returns 0x80 plus the winner, which
-- is taken, or 0 if there is none. The read after it is no poll (8259A data sheet, "Poll Command").
pub record PollsOnce : Type 0 where
  pub asked : (level value : ℕ) (chip : Chip) → has value 4 ≡ false → has value 3 ≡ true → has value 2 ≡ true
      → (written_even level value chip).poll ≡ true
  pub winner : (role : Role) (is_odd : Bool) (chip : Chip) (input : ℕ) → chip.poll ≡ true → winner_at role chip ≡ Some input
      → read_of role is_odd chip ≡ (0x80 + input, taken input (record chip { poll = false }))
  pub none : (role : Role) (is_odd : Bool) (chip : Chip) → chip.poll ≡ true → winner_at role chip ≡ None
      → read_of role is_odd chip ≡ (0, record chip { poll = false })
  pub once : (role : Role) (is_odd : Bool) (chip : Chip) → chip.poll ≡ true → (read_of role is_odd chip).1.poll ≡ false

-- In special fully nested mode the master's cascade input blocks no request, so that a later
-- interrupt of the slave gets through. Every other input blocks as usual, and so does each of the
-- slave's (8259A data sheet, "The Special Fully Nested Mode").
pub record NestsSpecially : Type 0 where
  pub cascade : (chip : Chip) → chip.nested ≡ true → has (served_of Master chip) cascade_input ≡ false
  pub others : (chip : Chip) (input : ℕ) → chip.nested ≡ true → input < 8 → input ≢ cascade_input
      → has (served_of Master chip) input ≡ has (in_service_of chip) input
  pub slave : (chip : Chip) → served_of Slave chip ≡ in_service_of chip

-- The words 0x80 and 0x00 switch rotation in automatic EOI on and off. With it a taken input gets
-- the lowest priority; without it priorities stay. In both cases its service ends at once (8259A
-- data sheet, "Automatic Rotation").
pub record RotatesAtOnce : Type 0 where
  pub words : (level : ℕ) (chip : Chip)
      → (written_even level 0x80 chip ≡ record chip { rotate = true }) × (written_even level 0x00 chip ≡ record chip { rotate = false })
  pub ended : (chip : Chip) (winner : ℕ) → chip.auto_eoi ≡ true → (taken winner chip).isr ≡ chip.isr
  pub rotated : (chip : Chip) (winner : ℕ) → chip.auto_eoi ≡ true → chip.rotate ≡ true → (taken winner chip).lowest ≡ winner
  pub kept : (chip : Chip) (winner : ℕ) → chip.auto_eoi ≡ true → chip.rotate ≡ false → (taken winner chip).lowest ≡ chip.lowest

-- `requested_after inputs edges chip input` tells whether an input is requested after the lines are
-- updated. A level input is if its line is high. An edge input is if it was before, if its line
-- rises, or if it is in `edges`.
abbrev pub requested_after : ℕ → ℕ → Chip → ℕ → Bool
requested_after inputs edges chip input =
    if has (level_inputs_of chip) input then has inputs input
    else has chip.irr input || ((has inputs input && not (has chip.lines input)) || has edges input)

-- After the lines are updated, each input is requested as `requested_after` says (8259A data sheet,
-- "Edge and Level Triggered Modes").
abbrev pub TakesLinesOver : Type 0
TakesLinesOver =
    (inputs edges : ℕ) (chip : Chip) (input : ℕ) → chip.lines < 256 → chip.elcr < 256 → input < 8
    → has (settled inputs edges chip).irr input ≡ requested_after inputs edges chip input

-- A pair at power on is sound, each step keeps its registers in range, and after the lines are
-- updated the pair is sound.
pub record StepsKeepRegisters : Type 0 where
  pub power : (level : ℕ) → IsLevel level → IsSoundPair (power_on level)
  pub read : (port : ℕ) (pair : PicPair) → PairHasRegisters pair
      → PairHasRegisters (read_pair port pair).1
  pub write : (port value : ℕ) (pair : PicPair) → value < 256 → is_port pair.level port ≡ true
      → PairHasRegisters pair → PairHasRegisters (written_pair port value pair)
  pub ack : (pair : PicPair) → PairHasRegisters pair → PairHasRegisters (acked pair).1
  pub settle : (inputs edges : ℕ) (pair : PicPair) → inputs < 2 ^ 16 → edges < 2 ^ 16
      → PairHasRegisters pair → IsSoundPair (settled_pair inputs edges pair)
  pub sound : (pair : PicPair) → IsSoundPair pair → PairHasRegisters pair

-- No step changes the level.
pub record StepsKeepLevel : Type 0 where
  pub power : (level : ℕ) → (power_on level).level ≡ level
  pub read : (port : ℕ) (pair : PicPair) → (read_pair port pair).1.level ≡ pair.level
  pub write : (port value : ℕ) (pair : PicPair) → (written_pair port value pair).level ≡ pair.level
  pub ack : (pair : PicPair) → (acked pair).1.level ≡ pair.level
  pub settle : (inputs edges : ℕ) (pair : PicPair)
      → (settled_pair inputs edges pair).level ≡ pair.level

-- The remembered lines after an update are the given ones of the slave and of the master, except at
-- the cascade input. There it is the slave's output after the update.
pub record LinesAreTaken : Type 0 where
  pub master : (inputs edges input : ℕ) (pair : PicPair) → inputs < 2 ^ 16 → input < 8
      → input ≢ cascade_input
      → has (lines_of (settled_pair inputs edges pair)) input ≡ has inputs input
  pub cascade : (inputs edges : ℕ) (pair : PicPair) → inputs < 2 ^ 16
      → has (lines_of (settled_pair inputs edges pair)) cascade_input
      ≡ slave_int_of (settled_pair inputs edges pair)
  pub slave : (inputs edges input : ℕ) (pair : PicPair) → inputs < 2 ^ 16 → input < 8
      → has (lines_of (settled_pair inputs edges pair)) (8 + input) ≡ has inputs (8 + input)

-- No other step changes the remembered lines, except an acknowledge of the slave, which makes the
-- cascade input's line low.
pub record LinesAreKept : Type 0 where
  pub read : (port : ℕ) (pair : PicPair) → lines_of (read_pair port pair).1 ≡ lines_of pair
  pub write : (port value : ℕ) (pair : PicPair)
      → lines_of (written_pair port value pair) ≡ lines_of pair
  pub ack : (pair : PicPair) → winner_at Master pair.master ≢ Some cascade_input
      → lines_of (acked pair).1 ≡ lines_of pair
  pub of_slave : (input : ℕ) (pair : PicPair) → PairHasRegisters pair
      → winner_at Master pair.master ≡ Some cascade_input → input < 16
      → has (lines_of (acked pair).1) input
      ≡ (has (lines_of pair) input && not (input == cascade_input))

-- A chip is sound exactly if its cells in the newest set fit their kinds and break no rule.
pub record SoundMeetsRules : Type 0 where
  pub chip : (level : ℕ) (role : Role) (chip : Chip) → IsSoundChip level role chip
      ↔ (IsChipCells (saved_cells NEWEST chip) × MeetsRules level role chip)

-- A chip of the pair is saved in as many cells as the set has, each in its kind's range. If its
-- subsection isn't needed, the level mode's cell is at its default. Each chip's cells are a part of
-- the pair's.
pub record SavedAreCells : Type 0 where
  pub of_kinds : (chip : ℕ) (numbers : Numbers) (pair : PicPair) → CanSave numbers pair
      → IsSoundPair pair → AreOf (kinds numbers.set) (saved_cells numbers.set (chip_at chip pair))
  pub unneeded : (set : ℕ) (chip : Chip) → LTIM_SINCE ≤ set
      → flag_in (saved_cells set chip) (codes "ltim") ≡ false → cell_in (saved_cells set chip) (codes "ltim") ≡ pos 0
  pub master : (set : ℕ) (pair : PicPair)
      → take (length (kinds set)) (pair_cells set pair) ≡ saved_cells set pair.master
  pub slave : (set : ℕ) (pair : PicPair)
      → drop (length (kinds set)) (pair_cells set pair) ≡ saved_cells set pair.slave

-- The cells saved of a sound pair, carried to the newest set, can be restored at the pair's level
-- and give an equal pair.
pub record SavedIsRestored : Type 0 where
  pub pair : (numbers back : Numbers) (pair : PicPair) → CanSave numbers pair → IsSoundPair pair
      → MayRestore back → back.level ≡ pair.level
      → CanRestore back (pair_carried numbers.set (pair_cells numbers.set pair))
      × (hook_restored back (pair_carried numbers.set (pair_cells numbers.set pair)) ≡ Ok pair)

-- The hooks' number of a fault determines the fault.
pub record FaultsAreTold : Type 0 where
  pub fault : (fault : ChipFault) → fault.chip < 2 → 1 ≤ fault.rule → fault.rule ≤ 10
      → fault_of (hook_rule fault) ≡ fault

-- A restored pair is sound and has the level of the restore.
pub record RestoredIsSound : Type 0 where
  pub pair : (numbers : Numbers) (cells : List ℤ) (pair : PicPair) → CanRestore numbers cells
      → hook_restored numbers cells ≡ Ok pair → IsSoundPair pair × (pair.level ≡ numbers.level)
