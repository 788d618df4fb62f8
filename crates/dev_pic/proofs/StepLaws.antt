-- What each step of a chip and of the pair keeps.
use Rattle.dev_pic.proofs.BitLaws.{level-lines, level_inputs-lt, but_not-lt, without_input-lt, with_input-lt, and-twice}
use Rattle.dev_pic.proofs.Facade
use Facade.{◌≡◌, ℕ, Option, Some, None, false, ◌-◌, ◌%◌, ◌<◌, ◌≤◌, ◌==◌, Bool, true, IfSome, arith, nat_tests, or_of_8, and_le_l}
use Facade.{bit_and, nat_le, either, has, ended, ended_lowest, commanded, selected, written_even, written_odd_in, level_inputs, level_inputs_of, ltim_after}
use Facade.{requests_of, served_of, winner_at, taken, settled, started, polled_by, read_of, answered, cascaded, command_of, HasInput, Chip, InitState, Ocw2}
use Facade.{but_not, requests_hold, mode_holds, HasRegisters, IsSoundChip, Role, LTIM_SINCE, ◌^◌, or-true, cond_both, levels_hold, elcr_mask, elcr_written}
use Facade.{cascade_input, IsLevel, StepsKeepRegisters, StepsKeepLevel, chip_on, power_on, is_port, with_cascade, settled_pair, read_pair, written_pair}
use Facade.{acked_for, PairHasRegisters, IsSoundPair, Master, Slave, ELCR_SINCE, PicPair}
use Rattle.dev_pic.proofs.WinnerLaws.{highest-lt, winner-lt as winners-lt}

-- ---- commands that leave the requests and the lines

-- What requests and lines depend on is the same.
pub record Keeps (chip after : Chip) : Type 0 where
  pub irr : after.irr ≡ chip.irr
  pub lines : after.lines ≡ chip.lines
  pub elcr : after.elcr ≡ chip.elcr
  pub ltim : after.ltim ≡ chip.ltim

pub commanded-keeps : (command : Ocw2) (chip : Chip) → Keeps chip (commanded command chip)
unfolding commanded ended ended_lowest
commanded-keeps command chip = search (arith, nat_tests)

pub even-keeps : (level value : ℕ) (chip : Chip) → has value 4 ≡ false → Keeps chip (written_even level value chip)
unfolding written_even selected
even-keeps level value chip e = search (arith, nat_tests, commanded-keeps)

pub odd-keeps : (s : InitState) (value : ℕ) (chip : Chip) → Keeps chip (written_odd_in s value chip)
unfolding written_odd_in
odd-keeps s value chip = search (arith, nat_tests)

-- ---- registers

pub winner-lt : (role : Role) (chip : Chip) → IfSome (winner_at role chip) (λ w. w < 8)
unfolding winner_at
winner-lt role chip = winners-lt chip.lowest (requests_of chip) (served_of role chip)

command-input : (value : ℕ) → HasInput (command_of value)
command-input value = grind arith

module _ (level : ℕ) (role : Role) (chip : Chip) (h : HasRegisters level role chip) where
  with-isr : (v : ℕ) → v < 256 → HasRegisters level role (record chip { isr = v })
  with-isr v l = search

  with-lowest : (v : ℕ) → v ≤ 7 → HasRegisters level role (record chip { lowest = v })
  with-lowest v l = search

  with-inputs : (requests lines : ℕ) → requests < 256 → lines < 256 → HasRegisters level role (record chip { irr = requests; lines = lines })
  with-inputs requests lines l m = search

module _ (level : ℕ) (role : Role) (chip : Chip) (h : HasRegisters level role chip) where
  pub settled-registers : (inputs edges : ℕ) → inputs < 256 → edges < 256 → HasRegisters level role (settled inputs edges chip)
  unfolding settled
  settled-registers inputs edges i e =
      let risen = or_of_8 chip.irr _ h.irr (or_of_8 _ edges (but_not-lt inputs chip.lines i) e) in
      let levels = level_inputs_of chip in
      with-inputs level role chip h _ inputs (or_of_8 _ _ (but_not-lt _ levels risen) (omega (arith, and_le_l inputs levels))) i

  pub taken-registers : (w : ℕ) → w < 8 → HasRegisters level role (taken w chip)
  unfolding taken
  taken-registers w l = grind (arith, either, with-lowest, with-isr, with_input-lt, has, without_input-lt)

  ended-registers : (o : Option ℕ) → HasRegisters level role (ended o chip)
  unfolding ended
  ended-registers o = grind (arith, with-isr, without_input-lt)

  ended_lowest-registers : (o : Option ℕ) → IfSome o (λ w. w < 8) → HasRegisters level role (ended_lowest o chip)
  unfolding ended_lowest
  ended_lowest-registers o l = grind (arith, with-lowest, with-isr, without_input-lt)

  commanded-registers : (command : Ocw2) → HasInput command → HasRegisters level role (commanded command chip)
  unfolding commanded
  commanded-registers command i = search (arith, ended-registers, ended_lowest-registers, highest-lt, with-lowest)

  mode-after : (value : ℕ) → mode_holds level (ltim_after level value chip) ≡ true
  unfolding mode_holds
  mode-after value = let mode = h.mode in grind (arith, nat_tests)

  started-registers : (value : ℕ) → HasRegisters level role (started level value chip)
  unfolding started
  started-registers value =
      let levels = level_inputs (ltim_after level value chip) chip.elcr in
      let irr : bit_and chip.irr levels < 256 = omega (arith, and_le_l chip.irr levels) in
      let mode = mode-after value in
      search arith

  selected-registers : (value : ℕ) → HasRegisters level role (selected value chip)
  unfolding selected
  selected-registers value = search

  pub written_even-registers : (value : ℕ) → HasRegisters level role (written_even level value chip)
  unfolding written_even
  written_even-registers value = grind (arith, either, has, started-registers, selected-registers, commanded-registers, command-input)

  pub written_odd-registers : (s : InitState) (value : ℕ) → value < 256 → HasRegisters level role (written_odd_in s value chip)
  unfolding written_odd_in
  written_odd-registers s value v = grind arith

module _ (level : ℕ) (role : Role) (chip : Chip) (h : HasRegisters level role chip) where
  polled-registers : (o : Option ℕ) → IfSome o (λ w. w < 8) → HasRegisters level role (polled_by o chip).1
  unfolding polled_by
  polled-registers None l = search
  polled-registers (Some w) l =
      let unpolled : HasRegisters level role (record chip { poll = false }) = search in
      taken-registers level role _ unpolled w l

  pub read-registers : (is_odd : Bool) → HasRegisters level role (read_of role is_odd chip).1
  unfolding read_of
  read-registers is_odd = grind (arith, polled-registers, winner-lt)

  pub answered-registers : (o : Option ℕ) → IfSome o (λ w. w < 8) → HasRegisters level role (answered o chip).1
  unfolding answered
  answered-registers None l = h
  answered-registers (Some w) l = taken-registers level role chip h w l

  pub cascaded-registers : HasRegisters level role (cascaded chip)
  unfolding cascaded
  cascaded-registers =
      let k = taken-registers level role chip h 2 (omega arith) in
      let lines = without_input-lt _ 2 k.lines in search

  agreed : (irr lines levels : ℕ) → bit_and irr levels ≡ bit_and lines levels → requests_hold irr lines levels ≡ true
  unfolding requests_hold
  agreed irr lines levels e = grind (arith, nat_tests)

  settled-requests : (inputs edges : ℕ) → inputs < 256 → edges < 256
      → requests_hold (settled inputs edges chip).irr (settled inputs edges chip).lines (level_inputs_of (settled inputs edges chip)) ≡ true
  unfolding settled but_not
  settled-requests inputs edges i e = grind (arith, agreed, level-lines, or_of_8, but_not-lt, level_inputs-lt)

  pub settled-sound : (inputs edges : ℕ) → inputs < 256 → edges < 256 → IsSoundChip level role (settled inputs edges chip)
  settled-sound inputs edges i e = search (settled-registers, settled-requests)

-- ---- what each step of the pair keeps

-- An answer after which the pair has its registers.
abbrev Kept : ℕ × PicPair → Type 0
Kept answer = PairHasRegisters answer.1

-- There is no level input at power on.
levels_off : (level : ℕ) (role : Role) → levels_hold level role 0 ≡ true
unfolding levels_hold
levels_off level _ = grind (arith, nat_tests)

-- Rule 2 holds for what a write keeps, at a level with edge/level registers.
levels_written : (level : ℕ) (role : Role) (value : ℕ) → ELCR_SINCE ≤ level → levels_hold level role (bit_and value (elcr_mask role)) ≡ true
unfolding levels_hold
levels_written level role value h = grind (arith, and-twice)

-- The level mode is off at power on.
mode_off : (level : ℕ) → mode_holds level false ≡ true
unfolding mode_holds
mode_off level = or-true (nat_le LTIM_SINCE level)

has_elcr : (level port : ℕ) → is_port level port ≡ true → (port == 0x20) ≡ false → (port == 0x21) ≡ false → (port == 0xa0) ≡ false → (port == 0xa1) ≡ false
    → ELCR_SINCE ≤ level
has_elcr level port h a b c d = grind (arith, nat_tests)

on-sound : (level : ℕ) (role : Role) → IsSoundChip level role chip_on
unfolding chip_on requests_hold level_inputs
on-sound level role = search (arith, levels_off, mode_off)

power-sound : (level : ℕ) → IsLevel level → IsSoundPair (power_on level)
unfolding power_on
power-sound level l = record { level = l; master = on-sound level Master; slave = on-sound level Slave }

elcr-written : (level : ℕ) (role : Role) (chip : Chip) (value : ℕ) → ELCR_SINCE ≤ level → value < 256 → HasRegisters level role chip
    → HasRegisters level role (elcr_written role value chip)
unfolding elcr_written
elcr-written level role chip value l v h =
    let elcr : bit_and value (elcr_mask role) < 256 = omega (arith, and_le_l value (elcr_mask role)) in
    let levels = levels_written level role value l in search

pub cascade-lt : (is_high : Bool) (inputs : ℕ) → inputs < 256 → with_cascade is_high inputs < 256
cascade-lt is_high inputs h = grind (arith, or_of_8, without_input-lt, either)

module _ (pair : PicPair) (h : PairHasRegisters pair) where
  with-master : (chip : Chip) → HasRegisters pair.level Master chip → PairHasRegisters (record pair { master = chip })
  with-master chip k = record { level = h.level; master = k; slave = h.slave }

  with-slave : (chip : Chip) → HasRegisters pair.level Slave chip → PairHasRegisters (record pair { slave = chip })
  with-slave chip k = record { level = h.level; master = h.master; slave = k }

  settle-sound : (inputs edges : ℕ) → inputs < 2 ^ 16 → edges < 2 ^ 16 → IsSoundPair (settled_pair inputs edges pair)
  unfolding settled_pair
  settle-sound inputs edges i e = record {
    level = h.level;
    master = settled-sound pair.level Master pair.master h.master _ _ (cascade-lt _ (inputs % 256) (omega arith))
        (without_input-lt _ cascade_input (omega arith));
    slave = settled-sound pair.level Slave pair.slave h.slave _ _ (omega arith) (omega arith);
  }

  acked_for-kept : (o : Option ℕ) → IfSome o (λ w. w < 8) → Kept (acked_for o pair)
  unfolding acked_for
  acked_for-kept None l = with-master _ (answered-registers pair.level Master pair.master h.master None tt)
  acked_for-kept (Some w) l =
      either Kept (w == cascade_input) _ _
      (record {
        level = h.level;
        master = cascaded-registers pair.level Master pair.master h.master;
        slave = answered-registers pair.level Slave pair.slave h.slave (winner_at Slave pair.slave) (winner-lt Slave pair.slave);
      }) (with-master _ (answered-registers pair.level Master pair.master h.master (Some w) l))

  read-kept : (port : ℕ) → Kept (read_pair port pair)
  unfolding read_pair
  read-kept port =
      either Kept (port == 0x20) _ _ (with-master _ (read-registers pair.level Master pair.master h.master false))
      (either Kept (port == 0x21) _ _ (with-master _ (read-registers pair.level Master pair.master h.master true))
      (either Kept (port == 0xa0) _ _ (with-slave _ (read-registers pair.level Slave pair.slave h.slave false))
      (either Kept (port == 0xa1) _ _ (with-slave _ (read-registers pair.level Slave pair.slave h.slave true))
      (either Kept (port == 0x4d0) _ _ h h))))

  written-kept : (port value : ℕ) → value < 256 → is_port pair.level port ≡ true → PairHasRegisters (written_pair port value pair)
  unfolding written_pair
  written-kept port value v is =
      cond_both (port == 0x20) _ _ PairHasRegisters (λ _. with-master _ (written_even-registers pair.level Master pair.master h.master value)) (λ a.
      cond_both (port == 0x21) _ _ PairHasRegisters
      (λ _. with-master _ (written_odd-registers pair.level Master pair.master h.master pair.master.init_state value v)) (λ b.
      cond_both (port == 0xa0) _ _ PairHasRegisters (λ _. with-slave _ (written_even-registers pair.level Slave pair.slave h.slave value)) (λ c.
      cond_both (port == 0xa1) _ _ PairHasRegisters
      (λ _. with-slave _ (written_odd-registers pair.level Slave pair.slave h.slave pair.slave.init_state value v)) (λ d.
      let since = has_elcr pair.level port is a b c d in
      either PairHasRegisters (port == 0x4d0) _ _ (with-master _ (elcr-written pair.level Master pair.master value since v h.master))
      (with-slave _ (elcr-written pair.level Slave pair.slave value since v h.slave))))))

pub steps_keep_registers : StepsKeepRegisters
steps_keep_registers = search (arith, power-sound, read-kept, written-kept, acked_for-kept, winner-lt, settle-sound)

pub steps_keep_level : StepsKeepLevel
unfolding power_on settled_pair read_pair written_pair acked_for
steps_keep_level = search arith
