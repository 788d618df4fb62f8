-- A restored board is sound, and the rules hold of a sound board alone.
use Rattle.dev_board.proofs.Facade
use Facade.{◌≡◌, ℕ, ◌≤◌, Bool, true, false, cond, Result, Ok, Err, refl, sym, ap, subst, ◌∙◌, arith, nat_tests, ok-hook, IsLevel}
use Facade.{MayRestore, LAST_MOMENT, steps_keep_registers, pair-sound, IsSoundPair, ChipFault, PicPair, pit-restored, IsSoundPit, Pit, IsSoundAt, Port}
use Facade.{AreBoardCells, moment_of, timed, by_chip, by_device, lines_agree, agreed, joined, numbers_back, pair_back, pit_back, serial_back, restored}
use Facade.{RestoredIsSound, HasDevices, IsSound, State, BoardCells, Misfit, LinesDisagree, MASTER_DEVICE, PIT_DEVICE, SERIAL_DEVICE, ℤ, ◌/◌, List}
use Facade.{length, take, drop, length-append, saved-count, saved_are_cells, kinds, saved_cells, pair_cells, pit_cells, saved, carried, MaySaveUnder, judged-ok}
use Facade.{NEWEST, pair-same, pit_of-saved, rules, pit_of, numbers-back, lines_alike, restored-saved, line_of, IsTold, SoundMeetsRules, HasLines}
use Rattle.dev_board.proofs.SavedLaws.{has-lines, comes-back}
use Rattle.dev_serial.proofs.RestoredLaws.{restored_is_sound as port-sound, sound_meets_rules as port-meets}
use Rattle.dev_serial.specs.{PortNumbers.saved as port-saved, Rules.restored as port-restored, Sound.IsSound as IsSoundPort}
use Rattle.dev_serial.proofs.SavedCells.{carried-saved as serial-carried}
use Rattle.dev_pic.proofs.SavedLaws.{carried-saved as chip-carried}
use Rattle.dev_pit.proofs.SavedLaws.{carried-saved as pit-carried}

-- ---- a restored board is sound

-- The board is made of devices that were restored, and the lines agree.
pub record IsMadeOf (level : ℕ) (of_timer : Result ℕ Misfit) (of_pair : Result PicPair Misfit) (of_pit : Result Pit Misfit) (of_port : Result Port Misfit)
    (m : State) : Type 0 where
  pub same_level : m.level ≡ level
  pub timer : of_timer ≡ Ok m.moment
  pub pair : of_pair ≡ Ok m.pair
  pub pit : of_pit ≡ Ok m.pit
  pub serial : of_port ≡ Ok m.serial
  pub lines : lines_agree m ≡ true

-- What a test lets through.
pub let-through : {A E : Type 0} (b : Bool) (found m : A) (fault : E) → cond b (Ok found) (Err fault) ≡ Ok m → (b ≡ true) × (found ≡ m)
let-through b found m fault e = grind arith

agreed-ok : (found m : State) → agreed found ≡ Ok m → (lines_agree found ≡ true) × (found ≡ m)
unfolding agreed
agreed-ok found m e = let-through (lines_agree found) found m _ e

pub made_of : (level : ℕ) (of_timer : Result ℕ Misfit) (of_pair : Result PicPair Misfit) (of_pit : Result Pit Misfit) (of_port : Result Port Misfit) (m : State)
    → joined level of_timer of_pair of_pit of_port ≡ Ok m → IsMadeOf level of_timer of_pair of_pit of_port m
unfolding joined
made_of level of_timer of_pair of_pit of_port m e = search (arith, agreed-ok)

pub chip-ok : (outcome : Result PicPair ChipFault) (pair : PicPair) → by_chip outcome ≡ Ok pair → outcome ≡ Ok pair
unfolding by_chip
chip-ok outcome pair e = grind arith

pub device-ok : {D : Type 0} (place : ℕ) (outcome : Result D ℕ) (device : D) → by_device place outcome ≡ Ok device → outcome ≡ Ok device
unfolding by_device
device-ok place outcome device e = grind arith

-- The moment of a timer whose rule holds.
pub record IsTimed (moment found : ℕ) : Type 0 where
  pub last : moment ≤ LAST_MOMENT
  pub same : found ≡ moment

pub timed-ok : (moment found : ℕ) → timed moment ≡ Ok found → IsTimed moment found
unfolding timed
timed-ok moment found e = search (arith, nat_tests, let-through)

module _ (level : ℕ) (cells : BoardCells) (l : IsLevel level) (are : AreBoardCells cells) (last : moment_of cells ≤ LAST_MOMENT) where
  abbrev moment : ℕ
  moment = moment_of cells

  may : MayRestore (numbers_back level moment)
  may = record { is_level = l; newest_set = refl; moment = last }

  pub pair-back : (pair : PicPair) → pair_back level cells.master.items cells.slave.items ≡ Ok pair → IsSoundPair pair × (pair.level ≡ level)
  pair-back pair e = pair-sound level cells.master.items cells.slave.items pair l are.master are.slave (chip-ok _ pair e)

  pub pit-back : (pit : Pit) → pit_back level moment cells.pit.items ≡ Ok pit → IsSoundPit moment pit × (pit.level ≡ level)
  pit-back pit e = pit-restored level moment cells.pit.items pit l last are.pit (device-ok PIT_DEVICE _ pit e)

  pub port-back : (port : Port) → serial_back level moment cells.serial.items ≡ Ok port → IsSoundAt level moment port
  port-back port e = port-sound (numbers_back level moment) cells.serial.items port (record { pass = may; port_cells = are.serial }) (ok-hook _ port (device-ok SERIAL_DEVICE _ port e))

  -- The restored devices, together.
  pub devices-back : (pair : PicPair) (pit : Pit) (port : Port) → pair_back level cells.master.items cells.slave.items ≡ Ok pair → pit_back level moment cells.pit.items ≡ Ok pit → serial_back level moment cells.serial.items ≡ Ok port → HasDevices (record { level = level; moment = moment; pair = pair; pit = pit; serial = port })
  devices-back pair pit port a b c =
      let of_pair = pair-back pair a in
      let of_pit = pit-back pit b in
      let of_port = port-back port c in
      let registers = steps_keep_registers.sound pair of_pair.0 in
      search

  pub sound-back : (pair : PicPair) (pit : Pit) (port : Port) → pair_back level cells.master.items cells.slave.items ≡ Ok pair → pit_back level moment cells.pit.items ≡ Ok pit → serial_back level moment cells.serial.items ≡ Ok port → lines_agree (record { level = level; moment = moment; pair = pair; pit = pit; serial = port }) ≡ true → IsSound (record { level = level; moment = moment; pair = pair; pit = pit; serial = port })
  sound-back pair pit port a b c d = record {
    devices = devices-back pair pit port a b c;
    pair = (pair-back pair a).0;
    lines = has-lines _ d;
  }

sound : (level : ℕ) (cells : BoardCells) (m : State) → IsLevel level → AreBoardCells cells → restored level cells ≡ Ok m → IsSound m
sound level cells m l are e =
    let made = made_of level (timed (moment_of cells)) _ _ _ m e in
    let time = timed-ok (moment_of cells) m.moment made.timer in
    let state : record { level = level; moment = moment_of cells; pair = m.pair; pit = m.pit; serial = m.serial } ≡ m =
    rw (← made.same_level, ← time.same) refl in
    subst IsSound state (sound-back level cells l are time.last m.pair m.pit m.serial made.pair made.pit made.serial (ap lines_agree state ∙ made.lines))

pub restored_is_sound : RestoredIsSound
restored_is_sound = record {
  sound = sound;
  level = λ level cells m e. (made_of level (timed (moment_of cells)) _ _ _ m e).same_level;
}

-- What a restore returns, by the first fault of a device, with the moment that was found.
module _ (level : ℕ) (cells : BoardCells) (found : ℕ) (time : timed (moment_of cells) ≡ Ok found) (pair : PicPair)
    (of_pair : pair_back level cells.master.items cells.slave.items ≡ Ok pair) where
  same : found ≡ moment_of cells
  same = (timed-ok (moment_of cells) found time).same

  pit-then : (outcome : Result Pit Misfit) → pit_back level found cells.pit.items ≡ outcome → pit_back level (moment_of cells) cells.pit.items ≡ outcome
  pit-then outcome e = rw same at e

  port-then : (outcome : Result Port Misfit) → serial_back level found cells.serial.items ≡ outcome
      → serial_back level (moment_of cells) cells.serial.items ≡ outcome
  port-then outcome e = rw same at e

  pub pit-refused : (misfit : Misfit) → pit_back level found cells.pit.items ≡ Err misfit → restored level cells ≡ Err misfit
  unfolding joined
  pit-refused misfit e = rw (time, of_pair, pit-then _ e) refl

  pub port-refused : (pit : Pit) (misfit : Misfit) → pit_back level found cells.pit.items ≡ Ok pit → serial_back level found cells.serial.items ≡ Err misfit
      → restored level cells ≡ Err misfit
  unfolding joined
  port-refused pit misfit d e = rw (time, of_pair, pit-then _ d, port-then _ e) refl

  module _ (pit : Pit) (of_pit : pit_back level found cells.pit.items ≡ Ok pit) (port : Port)
      (of_port : serial_back level found cells.serial.items ≡ Ok port) where
    abbrev board : State
    board = record { level = level; moment = found; pair = pair; pit = pit; serial = port }

    pub all-agreed : restored level cells ≡ agreed board
    unfolding joined
    all-agreed = rw (time, of_pair, pit-then _ of_pit, port-then _ of_port) refl

    pub lines-taken : lines_agree board ≡ true → restored level cells ≡ Ok board
    unfolding agreed
    lines-taken e = all-agreed ∙ rw e refl

    pub lines-refused : lines_agree board ≡ false → restored level cells ≡ Err (LinesDisagree MASTER_DEVICE)
    unfolding agreed
    lines-refused e = all-agreed ∙ rw e refl

    pub found-devices : IsLevel level → AreBoardCells cells → HasDevices board
    found-devices l are =
        rw same (devices-back level cells l are (timed-ok (moment_of cells) found time).last pair pit port of_pair (pit-then _ of_pit) (port-then _ of_port))

    pub found-sound : IsLevel level → AreBoardCells cells → lines_agree board ≡ true → IsSound board
    found-sound l are e = sound level cells board l are (lines-taken e)

-- ---- the cells of a pair's two chips, separately and one after the other

half : (set : ℕ) (pair : PicPair) → length (pair_cells set pair) / 2 ≡ length (kinds set)
half set pair =
    omega (arith, saved-count set pair.master, saved-count set pair.slave, length-append (saved_cells set pair.master) (saved_cells set pair.slave))

pub master-half : (set : ℕ) (pair : PicPair) (cells : List ℤ) → cells ≡ pair_cells set pair → take (length cells / 2) cells ≡ saved_cells set pair.master
master-half set pair cells e = cc (half set pair, saved_are_cells.master set pair)

pub slave-half : (set : ℕ) (pair : PicPair) (cells : List ℤ) → cells ≡ pair_cells set pair → drop (length cells / 2) cells ≡ saved_cells set pair.slave
slave-half set pair cells e = cc (half set pair, saved_are_cells.slave set pair)

-- The cells of five devices.
abbrev pub five : (t u v w x : List ℤ) → BoardCells
five t u v w x = record {
  timer = record { items = t };
  master = record { items = u };
  slave = record { items = v };
  pit = record { items = w };
  serial = record { items = x };
}

pub same-five : {t u v w x t' u' v' w' x' : List ℤ} → t ≡ t' → u ≡ u' → v ≡ v' → w ≡ w' → x ≡ x' → five t u v w x ≡ five t' u' v' w' x'
same-five a b c d e = rw (a, b, c, d, e) refl

-- ---- the rules

module _ (m : State) (s : IsSound m) where
  may-save : MaySaveUnder m.level NEWEST
  may-save = record { level_le_set = s.devices.level.last; set_le_newest = omega arith }

  -- The newest set's cells are carried as they are.
  carried-newest : carried NEWEST (saved NEWEST m) ≡ saved NEWEST m
  unfolding carried saved
  carried-newest =
      let pair_le : m.pair.level ≤ NEWEST = omega arith in
      same-five refl (chip-carried m.pair.level NEWEST _ m.pair.master pair_le s.pair.master)
      (chip-carried m.pair.level NEWEST _ m.pair.slave pair_le s.pair.slave)
      (pit-carried NEWEST m.moment m.pit (omega arith) s.devices.pit) (serial-carried NEWEST m.moment m.serial s.devices.moment s.devices.serial (omega arith))

  told : IsTold m
  told =
      let serial = ((port-meets m.moment m.serial s.devices.moment).0 s.devices.serial).0 in
      let cells = subst AreBoardCells carried-newest (comes-back NEWEST m s may-save).may in
      search

  back : (n : State) × (restored m.level (saved NEWEST m) ≡ Ok n)
  back =
      let there = comes-back NEWEST m s may-save in
      (there.back, ap (restored m.level) (sym carried-newest) ∙ there.restored)

-- The converse.
module _ (m : State) (t : IsTold m) (n : State) (e : restored m.level (saved NEWEST m) ≡ Ok n) where
  made : IsMadeOf m.level (timed (moment_of (saved NEWEST m))) (pair_back m.level (saved NEWEST m).master.items (saved NEWEST m).slave.items) (pit_back m.level (moment_of (saved NEWEST m)) (saved NEWEST m).pit.items) (serial_back m.level (moment_of (saved NEWEST m)) (saved NEWEST m).serial.items) n
  made = made_of m.level _ _ _ _ n e

  last : m.moment ≤ LAST_MOMENT
  unfolding saved
  last = (timed-ok (moment_of (saved NEWEST m)) n.moment made.timer).last

  same_moment : n.moment ≡ m.moment
  unfolding saved
  same_moment = (timed-ok (moment_of (saved NEWEST m)) n.moment made.timer).same

  same_pair : n.pair ≡ m.pair
  unfolding saved
  same_pair = pair-same m.level m.pair n.pair t.pair_level (chip-ok _ n.pair made.pair)

  sound_pair : IsSoundPair m.pair
  unfolding saved
  sound_pair = rw same_pair at (pair-back m.level (saved NEWEST m) t.level t.cells last n.pair made.pair).0

  same_pit : n.pit ≡ m.pit
  unfolding saved
  same_pit =
      cc ((judged-ok (rules m.level m.moment (pit_cells NEWEST m.pit)) (pit_of m.level (pit_cells NEWEST m.pit)) n.pit (device-ok PIT_DEVICE _ n.pit made.pit)).1, pit_of-saved m.pit t.counters)

  sound_pit : IsSoundPit m.moment m.pit
  unfolding saved
  sound_pit = rw same_pit at (pit-back m.level (saved NEWEST m) t.level t.cells last n.pit made.pit).0

  port-again : port-restored m.serial.level m.moment (port-saved NEWEST m.moment m.serial) ≡ Ok n.serial
  unfolding saved
  port-again = cc (numbers-back NEWEST m.moment m.serial, device-ok SERIAL_DEVICE _ n.serial made.serial)

  sound_port : IsSoundPort m.moment m.serial
  sound_port = (port-meets m.moment m.serial last).1 (t.serial, (n.serial, port-again))

  same_line : line_of m.moment n.serial ≡ line_of m.moment m.serial
  same_line =
      let there = restored-saved NEWEST m.moment m.serial last sound_port in
      let same : n.serial ≡ there.0 = cc (there.1, port-again) in
      rw same (lines_alike m.moment m.serial there.0 there.2)

  -- The remembered lines.
  lines : HasLines m
  lines =
      let has_lines = has-lines n made.lines in
      record {
        out = rw (same_pair, same_moment, same_pit) at has_lines.out;
        slave = rw same_pair at has_lines.slave;
        serial = (rw (same_pair, same_moment) at has_lines.serial) ∙ same_line;
      }

  rules-sound : IsSound m
  rules-sound =
      let moment = last in
      let registers = steps_keep_registers.sound m.pair sound_pair in
      let pair = sound_pair in
      let pit = sound_pit in
      let port = sound_port in
      let agreed = lines in
      search

pub sound_meets_rules : SoundMeetsRules
sound_meets_rules = record { board = λ m. ((λ s. (told m s, back m s)), (λ h. rules-sound m h.0 h.1.0 h.1.1)) }
