-- What is saved of a clock board's devices and restored from it.
use Rattle.dev_clock.proofs.Facade.{SavedAreCells, ComesBack, SavedComesBack, SavedGoesOn, IsSound, ClockState, CLOCK_DEVICE, LINES_CELL, ◌≡◌, ℕ}
use Rattle.dev_clock.proofs.Facade.{◌==◌, ap, arith, ℤ, ◌≤◌, Bool, List, Result, Ok, refl, sym, subst, ◌∙◌, has, lines_of, IsSoundPair}
use Rattle.dev_clock.proofs.Facade.{PicPair, CLOCK_INPUT, hook-ok, number_at, NEWEST, same-refl, by_device, State, Misfit, carried-saved, Numbers}
use Rattle.dev_clock.proofs.Facade.{saved_is_restored, saved_cells, line_of, CanRestore, hook_restored, Rtc, MaySaveUnder, saved, carried, AreSavedCells}
use Rattle.dev_clock.proofs.Facade.{AreClockCells, numbers_back, slave_line, with_line, joined, restored, Err, either, timed, by_chip, agreed, moment_of}
use Rattle.dev_clock.proofs.Facade.{BoardCells, pair_of, Chip, Pit, Port, IsPlaced, clock_back, judged-ok, ok-hook, same, AreOf, IsUpTo, chip-ok, device-ok}
use Rattle.dev_clock.proofs.Facade.{same-is, chip_of, rules, kinds, NEWEST_CLOCK, RestoredIsSound, ClockCells, AllTrue, none_failing, same-chip, restored-own}
use Rattle.dev_clock.proofs.{Facade.IsTold, Facade.SoundMeetsRules, StepLaws.alike_stays, StepLaws.newest-is}
use Rattle.dev_board.proofs.RestoredLaws.{let-through, restored_is_sound as board-is-sound, made_of as board_made_of, sound_meets_rules as board-meets}
use Rattle.dev_board.proofs.SavedLaws.{saved_are_cells as board-saved, saved_comes_back as board-comes-back}
use Rattle.dev_board.specs.{Saved.restored as board_restored, SavedLaws.ComesBack as BoardComesBack, Sound.IsSound as IsSoundBoard}
use Rattle.dev_board.specs.Saved.{saved as board_saved, carried as board_carried, MaySaveUnder as MaySaveBoard, joined as board_joined}
use Rattle.dev_pic.proofs.SavedLaws.{made_of as pair_made_of}
use Rattle.dev_pic.specs.Cells.{saved_cells as chip_cells}
use Rattle.vms_rtc.proofs.SavedLaws.{saved_are_cells as clock-saved, restored_is_sound as clock-is-sound, sound_meets_rules as clock-meets}
use Rattle.vms_rtc.specs.{Cells.carried as clock_carried, Sound.IsSound as IsSoundClock}
use Rattle.vms_rtc.specs.Saved.{restored as clock_restored, rules as clock_rules, chip_of as clock_chip}

-- ---- what is saved of a clock board's devices can be restored

-- Its input is bit 0 of the slave's lines.
pub slave-bit : (pair : PicPair) → IsSoundPair pair → has (lines_of pair) CLOCK_INPUT ≡ has pair.slave.lines 0
unfolding lines_of
slave-bit pair s = ap (λ (n : ℕ). n == 1) (omega (arith, s.master.registers.lines))

-- ---- what is saved

-- The chip if its rules hold, and the devices if there is no fault.
pub line-kept : (line : Bool) (clock : Rtc) (outcome : Result Rtc ℕ) → outcome ≡ Ok clock → line ≡ line_of clock → with_line line outcome ≡ Ok clock
unfolding with_line
line-kept line clock outcome e l = rw (e, same-refl line (line_of clock) l) refl

pub device-kept : (place : ℕ) (clock : Rtc) (outcome : Result Rtc ℕ) → outcome ≡ Ok clock → by_device place outcome ≡ Ok clock
unfolding by_device
device-kept place clock outcome e = rw e refl

pub both-kept : (clock : Rtc) (board : State) (of_clock : Result Rtc Misfit) (of_board : Result State Misfit) → of_clock ≡ Ok clock → of_board ≡ Ok board
    → joined of_clock of_board ≡ Ok (record { clock = clock; board = board })
unfolding joined
both-kept clock board of_clock of_board a b = rw (a, b) refl

module _ (set : ℕ) (m : ClockState) (s : IsSound m) (may : MaySaveUnder m.clock.version set) where
  may-board : MaySaveBoard m.board.level NEWEST
  may-board = record { level_le_set = let e = s.devices.level in omega (arith, e); set_le_newest = omega arith }

  saved-are : AreSavedCells set (saved set m)
  unfolding saved
  saved-are = record {
    clock = clock-saved.of_kinds set m.clock s.devices.clock;
    board = board-saved.of_set NEWEST m.board s.board may-board;
  }

  -- The chip.
  abbrev numbers : Numbers
  numbers = record { level = m.clock.version; set = set; moment = 0 }

  clock-both : CanRestore (numbers_back m.clock.version 0) (clock_carried set (saved_cells set m.clock))
      × (hook_restored (numbers_back m.clock.version 0) (clock_carried set (saved_cells set m.clock)) ≡ Ok m.clock)
  clock-both =
      saved_is_restored.chip numbers (numbers_back m.clock.version 0) m.clock
      (record { is_version = s.devices.clock.version; own_version = refl; reaches = may }) s.devices.clock
      (record { is_version = s.devices.clock.version; newest_set = refl }) refl

  -- The board's devices.
  board-back : BoardComesBack NEWEST (board_carried NEWEST (board_saved NEWEST m.board)) m.board
  board-back =
      subst (λ level. BoardComesBack level (board_carried NEWEST (board_saved NEWEST m.board)) m.board) s.devices.level
      (board-comes-back.back NEWEST m.board s.board may-board)

  line-there : slave_line (board_carried NEWEST (board_saved NEWEST m.board)).slave.items ≡ line_of m.clock
  unfolding board_carried board_saved chip_cells
  line-there = grind (arith, has, slave-bit, number_at, carried-saved)

  back : restored m.clock.version (carried set (saved set m)) ≡ Ok (record { clock = m.clock; board = board-back.back })
  unfolding carried saved
  back =
      both-kept m.clock board-back.back _ _
      (device-kept CLOCK_DEVICE m.clock _ (line-kept _ m.clock _ (hook-ok _ m.clock clock-both.1) line-there)) board-back.restored

  carried-are : AreClockCells (carried set (saved set m))
  unfolding carried saved
  carried-are = record { clock = clock-both.0.of_kinds; board = board-back.may }

  pub comes-back : ComesBack m.clock.version (carried set (saved set m)) m
  comes-back = record {
    may = carried-are;
    back = record { clock = m.clock; board = board-back.back };
    restored = back;
    alike = record { clock = refl; board = board-back.alike };
  }

pub saved_are_cells : SavedAreCells
saved_are_cells = record { of_set = saved-are }

pub saved_comes_back : SavedComesBack
saved_comes_back = record { back = comes-back }

pub saved_goes_on : SavedGoesOn
saved_goes_on = record {
  answers = λ set m back events s may e. let there = comes-back set m s may in
      let same : there.back ≡ back = cc (there.restored) in
      alike_stays.answers events m back (rw same at there.alike);
}

-- ---- restored devices are sound: the devices that misfits of a board name

-- A misfit, if there is one, names a device of a board.
abbrev MayBePlaced : {D : Type 0} → Result D Misfit → Type 0
MayBePlaced (Ok device) = Unit {0}
MayBePlaced (Err misfit) = IsPlaced misfit

of-chips : (level : ℕ) (master slave : Result Chip ℕ) → MayBePlaced (by_chip (pair_of level master slave))
unfolding by_chip pair_of
of-chips level master slave = grind arith

of-device : {D : Type 0} (place : ℕ) (outcome : Result D ℕ) → place ≤ 4 → MayBePlaced (by_device place outcome)
unfolding by_device
of-device place outcome l = grind arith

of-all : (level : ℕ) (moment : Result ℕ Misfit) (pair : Result PicPair Misfit) (pit : Result Pit Misfit) (port : Result Port Misfit) → MayBePlaced moment
    → MayBePlaced pair → MayBePlaced pit → MayBePlaced port → MayBePlaced (board_joined level moment pair pit port)
unfolding board_joined agreed
of-all level moment pair pit port a b c d = grind (arith, either)

pub placed : (level : ℕ) (cells : BoardCells) (misfit : Misfit) → board_restored level cells ≡ Err misfit → IsPlaced misfit
unfolding timed
placed level cells misfit e = grind (arith, of-all, of-chips, of-device, either)

-- ---- the devices

-- The devices are made of a chip and a board's devices that were restored.
pub record IsMadeOf (of_clock : Result Rtc Misfit) (of_board : Result State Misfit) (m : ClockState) : Type 0 where
  pub clock : of_clock ≡ Ok m.clock
  pub board : of_board ≡ Ok m.board

pub made_of : (of_clock : Result Rtc Misfit) (of_board : Result State Misfit) (m : ClockState) → joined of_clock of_board ≡ Ok m → IsMadeOf of_clock of_board m
unfolding joined
made_of of_clock of_board m e = search arith

-- A chip whose line the slave remembers.
pub record IsLined (line : Bool) (outcome : Result Rtc ℕ) (clock : Rtc) : Type 0 where
  pub found : outcome ≡ Ok clock
  pub kept : line ≡ line_of clock

lined : (line : Bool) (outcome : Result Rtc ℕ) (clock : Rtc) → with_line line outcome ≡ Ok clock → IsLined line outcome clock
unfolding with_line
lined line outcome clock e = search (arith, let-through, same, same-is)

pub clock-lined : (version : ℕ) (line : Bool) (cells : List ℤ) (clock : Rtc) → clock_back version line cells ≡ Ok clock
    → IsLined line (clock_restored version cells) clock
clock-lined version line cells clock e = lined line (clock_restored version cells) clock (device-ok CLOCK_DEVICE _ clock e)

pub clock-sound : (version : ℕ) (line : Bool) (cells : List ℤ) (clock : Rtc) → IsUpTo NEWEST_CLOCK version → AreOf (kinds NEWEST_CLOCK) cells
    → clock_back version line cells ≡ Ok clock → IsSoundClock clock
clock-sound version line cells clock v are e =
    clock-is-sound.sound (numbers_back version 0) cells clock (record { pass = record { is_version = v; newest_set = refl }; of_kinds = are })
    (ok-hook _ clock (clock-lined version line cells clock e).found)

-- The slave's lines.
slave-lines : (level : ℕ) (cells : BoardCells) (board : State) → board_restored level cells ≡ Ok board
    → number_at cells.slave.items LINES_CELL ≡ board.pair.slave.lines
unfolding chip_of
slave-lines level cells board e =
    let pair = chip-ok _ board.pair (board_made_of level (timed (moment_of cells)) _ _ _ board e).pair in
    let slave = (pair_made_of level _ _ board.pair pair).of_slave in
    ap (λ (c : Chip). c.lines) (judged-ok (rules level _ cells.slave.items) (chip_of cells.slave.items) board.pair.slave slave).1

pub both-sound : (version : ℕ) (cells : ClockCells) (clock : Rtc) (board : State) → IsUpTo NEWEST_CLOCK version → AreClockCells cells → clock_back version (slave_line cells.board.slave.items) cells.clock.items ≡ Ok clock → board_restored NEWEST cells.board ≡ Ok board → IsSound (record { clock = clock; board = board })
both-sound version cells clock board v are a b =
    let sound = board-is-sound.sound NEWEST cells.board board newest-is are.board b in
    record {
      devices = record {
        clock = clock-sound version _ cells.clock.items clock v are.clock a;
        level = board-is-sound.level NEWEST cells.board board b;
      };
      board = sound;
      line =
          slave-bit board.pair sound.pair ∙ sym (ap (λ (lines : ℕ). has lines 0) (slave-lines NEWEST cells.board board b))
          ∙ (clock-lined version _ cells.clock.items clock a).kept;
    }

clock-version : (version : ℕ) (line : Bool) (cells : List ℤ) (clock : Rtc) → clock_back version line cells ≡ Ok clock → clock.version ≡ version
clock-version version line cells clock e =
    clock-is-sound.version (numbers_back version 0) cells clock (ok-hook _ clock (clock-lined version line cells clock e).found)

pub restored_is_sound : RestoredIsSound
restored_is_sound = record {
  sound = λ version cells m v are e. let made = made_of _ _ m e in both-sound version cells m.clock m.board v are made.clock made.board;
  version = λ version cells m e. let made = made_of _ _ m e in clock-version version _ cells.clock.items m.clock made.clock;
}

-- ---- the devices are sound exactly if their cells in the newest clock set meet the rules and the lines agree

-- The slave's line among the saved cells of a sound board.
slave-there : (board : State) → IsSoundBoard board → slave_line (board_saved NEWEST board).slave.items ≡ has (lines_of board.pair) 8
unfolding board_saved chip_cells
slave-there board s = sym (slave-bit board.pair s.pair)

-- Sound devices.
module _ (m : ClockState) (s : IsSound m) where
  board-own : (back : State) × (board_restored NEWEST (board_saved NEWEST m.board) ≡ Ok back)
  board-own =
      subst (λ level. (back : State) × (board_restored level (board_saved NEWEST m.board) ≡ Ok back)) s.devices.level
      ((board-meets.board m.board).0 s.board).1

  told : IsTold m
  told = record { clock = ((clock-meets.chip m.clock).0 s.devices.clock).0; board = ((board-meets.board m.board).0 s.board).0; level = s.devices.level }

  chip-own : clock_restored m.clock.version (saved_cells NEWEST_CLOCK m.clock) ≡ Ok m.clock
  unfolding saved_cells
  chip-own = restored-own m.clock s.devices.clock

  own-back : (n : ClockState) × (restored m.clock.version (saved NEWEST_CLOCK m) ≡ Ok n)
  unfolding saved
  own-back = (
    record { clock = m.clock; board = board-own.0 },
    both-kept m.clock board-own.0 _ _ (device-kept CLOCK_DEVICE m.clock _ (line-kept _ m.clock _ chip-own (slave-there m.board s.board ∙ s.line))) board-own.1,
  )

-- The converse.
module _ (m : ClockState) (t : IsTold m) (n : ClockState) (e : restored m.clock.version (saved NEWEST_CLOCK m) ≡ Ok n) where
  made : IsMadeOf (clock_back m.clock.version (slave_line (board_saved NEWEST m.board).slave.items) (saved_cells NEWEST_CLOCK m.clock))
      (board_restored NEWEST (board_saved NEWEST m.board)) n
  unfolding saved
  made = made_of _ _ n e

  sound-board : IsSoundBoard m.board
  sound-board = (board-meets.board m.board).1
      (t.board, (n.board, ap (λ level. board_restored level (board_saved NEWEST m.board)) t.level ∙ made.board))

  is-lined : IsLined (slave_line (board_saved NEWEST m.board).slave.items) (clock_restored m.clock.version (saved_cells NEWEST_CLOCK m.clock)) n.clock
  is-lined = clock-lined m.clock.version _ (saved_cells NEWEST_CLOCK m.clock) n.clock made.clock

  judged : AllTrue (clock_rules m.clock.version (saved_cells NEWEST_CLOCK m.clock)) × (clock_chip m.clock.version (saved_cells NEWEST_CLOCK m.clock) ≡ n.clock)
  judged =
      judged-ok (clock_rules m.clock.version (saved_cells NEWEST_CLOCK m.clock)) (clock_chip m.clock.version (saved_cells NEWEST_CLOCK m.clock)) n.clock is-lined.found

  sound-clock : IsSoundClock m.clock
  sound-clock = (clock-meets.chip m.clock).1 (t.clock, none_failing (clock_rules m.clock.version (saved_cells NEWEST_CLOCK m.clock)) judged.0)

  same-clock : n.clock ≡ m.clock
  same-clock = sym judged.1 ∙ same-chip m.clock t.clock

  sound : IsSound m
  sound = record {
    devices = record { clock = sound-clock; level = t.level };
    board = sound-board;
    line = sym (slave-there m.board sound-board) ∙ is-lined.kept ∙ ap line_of same-clock;
  }

pub sound_meets_rules : SoundMeetsRules
sound_meets_rules = record { devices = λ m. ((λ s. (told m s, own-back m s)), (λ h. sound m h.0 h.1.0 h.1.1)) }
