-- What is saved of a board is restored as a board like it, which answers each event alike.
use Rattle.dev_board.proofs.Facade
use Facade.{subst, IsLevel, ◌≡◌, ℕ, Bool, List, [], ◌∷◌, refl, sym, ap, PicPair, reads_alike, writes_alike, bytes_in_alike, advances_alike}
use Facade.{lines_alike, alike_itself, alike_back, alike_on, Port, AnswersAlike, StaysAlike, AlikeStays, Likeness, read_at, written_at, Alike, State, Act}
use Facade.{waited, acted, inputs_of, settled, after_act, step, after_by, answers_by, wires_of, Answer, Event, Target, pos, ◌≤◌, true, Result, Ok, arith}
use Facade.{and_from, nat_tests, nat_le, of_none, of_more, long, has, AreOf, MaySave, MayRestore, NEWEST, LAST_MOMENT, hook-ok, carried-saved, pair-restored}
use Facade.{set-of, saved_cells, restored_pair, ChipFault, pit_cells, AreCellsOf, restored_pit, Pit, cells_at, restored_cells, numbers_at, saved, carried}
use Facade.{MaySaveUnder, timer_kinds, AreSavedCells, AreBoardCells, timed, by_chip, by_device, lines_agree, agreed, joined, restored, SavedAreCells, ComesBack}
use Facade.{SavedComesBack, SavedGoesOn, HasLines, IsSound, Misfit, PIT_DEVICE, SERIAL_DEVICE, ◌∙◌}
use Rattle.dev_serial.proofs.SavedCells.{saved_are_cells as serial-saved, saved_comes_back as serial-comes-back}
use Rattle.dev_serial.specs.{Sound.Alike as AlikePorts, Cells.carried as serial_carried, Laws.ComesBack as PortComesBack}
use Rattle.dev_base.specs.Bits.{same}
use Rattle.dev_pic.specs.Cells.{carried as pic_carried}
use Rattle.dev_pit.proofs.SavedLaws.{saved_are_cells as pit-saved, saved_is_restored as pit-is-restored}
use Rattle.dev_pit.specs.Cells.{carried as pit_carried}

-- ---- boards that are alike give equal answers to each event

-- The other board is the first with another port.
module _ (m : State) (port : Port) (a : AlikePorts m.serial port) where
  abbrev other : State
  other = record m { serial = port }

  with-serial : (first second : Port) → AlikePorts first second → Alike (record m { serial = first }) (record m { serial = second })
  with-serial first second b = record { same = refl; serial = b }

  read_at-alike : (target : Target) (number : ℕ) → AnswersAlike Alike (read_at target number m) (read_at target number other)
  unfolding read_at
  read_at-alike target number = search (arith, reads_alike, with-serial)

  written_at-alike : (target : Target) (number value : ℕ) → Alike (written_at target number value m) (written_at target number value other)
  unfolding written_at
  written_at-alike target number value = search (arith, writes_alike)

  waited-alike : (to : ℕ) → AnswersAlike Alike (waited to m) (waited to other)
  unfolding waited
  waited-alike to = search (arith, advances_alike)

  acted-alike : (event : Event) → AnswersAlike Alike (acted event m) (acted event other)
  unfolding acted
  acted-alike event = search (arith, read_at-alike, written_at-alike, bytes_in_alike, waited-alike)

  pair-alike : (wires : ℕ) (edge : Bool) → (settled wires edge other).pair ≡ (settled wires edge m).pair
  unfolding settled inputs_of
  pair-alike wires edge = grind (arith, lines_alike)

  after_act-alike : (wires : ℕ) (act : Act) → AnswersAlike Alike (after_act wires (act, m)) (after_act wires (act, other))
  unfolding after_act settled
  after_act-alike wires act = search (arith, pair-alike)

same_wires : (m : State) (port : Port) → wires_of (record m { serial = port }) ≡ wires_of m
unfolding wires_of
same_wires m port = refl

other-step : (event : Event) (m : State) (port : Port) → AlikePorts m.serial port → AnswersAlike Alike (step event m) (step event (record m { serial = port }))
unfolding step
other-step event m port a = grind (arith, same_wires, acted-alike, after_act-alike)

step-alike : (event : Event) (m n : State) → Alike m n → AnswersAlike Alike (step event m) (step event n)
step-alike event m n a = rw a.same (other-step event m n.serial a.serial)

-- What is alike after each event is alike after a list of events.
module _ {S : Type 0} (AreAlike : S → S → Type 0) (go : Event → S → Answer × S)
    (each : (event : Event) (m n : S) → AreAlike m n → AnswersAlike AreAlike (go event m) (go event n)) where
  answers-alike : (events : List Event) (m n : S) → AreAlike m n → answers_by go events n ≡ answers_by go events m
  unfolding answers_by
  answers-alike [] m n a = refl
  answers-alike (event ∷ events) m n a =
      let now = each event m n a in
      rw (now.value, answers-alike events (go event m).1 (go event n).1 now.alike)

  after-alike : (events : List Event) (m n : S) → AreAlike m n → AreAlike (after_by go events m) (after_by go events n)
  unfolding after_by
  after-alike [] m n a = a
  after-alike (event ∷ events) m n a = after-alike events (go event m).1 (go event n).1 (each event m n a).alike

  pub stays-alike : StaysAlike AreAlike go
  stays-alike = record { event = each; answers = answers-alike; after = after-alike }

pub alike_stays : AlikeStays
alike_stays = stays-alike Alike step step-alike

pub likeness : Likeness
likeness = search (arith, alike_itself, alike_back, alike_on)

-- ---- what is saved of a board can be restored

-- Two truth values are the same.
pub same-refl : (a b : Bool) → a ≡ b → same a b ≡ true
same-refl a b e = grind arith

pub same-is : (a b : Bool) → same a b ≡ true → a ≡ b
same-is a b e = grind arith

lines-agree : (m : State) → HasLines m → lines_agree m ≡ true
unfolding lines_agree
lines-agree m h = grind (arith, and_from, same, has, same-refl)

pub has-lines : (m : State) → lines_agree m ≡ true → HasLines m
unfolding lines_agree
has-lines m e = search (arith, same-is)

-- The board, if no device breaks a rule and the lines agree.
joined-ok : (level moment : ℕ) (pair : PicPair) (pit : Pit) (port : Port) (of_timer : Result ℕ Misfit) (of_pair : Result PicPair ChipFault) (of_pit : Result Pit ℕ) (of_port : Result Port ℕ) → of_timer ≡ Ok moment → of_pair ≡ Ok pair → of_pit ≡ Ok pit → of_port ≡ Ok port → lines_agree (record { level = level; moment = moment; pair = pair; pit = pit; serial = port }) ≡ true → joined level of_timer (by_chip of_pair) (by_device PIT_DEVICE of_pit) (by_device SERIAL_DEVICE of_port) ≡ Ok (record { level = level; moment = moment; pair = pair; pit = pit; serial = port })
unfolding joined agreed by_chip by_device
joined-ok level moment pair pit port of_timer of_pair of_pit of_port a b c d e = rw (a, b, c, d, e) refl

pub ok-same : (first second : State) (outcome : Result State Misfit) → outcome ≡ Ok first → outcome ≡ Ok second → first ≡ second
ok-same first second outcome d e = cc

-- A moment as a cell.
moment-of : (moment : ℕ) → moment ≤ LAST_MOMENT → AreOf timer_kinds (pos moment ∷ [])
moment-of moment l = of_more _ _ _ _ (long moment (omega arith)) of_none

module _ (set : ℕ) (m : State) (s : IsSound m) (may : MaySaveUnder m.level set) where
  can : (level : ℕ) → level ≡ m.level → MaySave (numbers_at set m) level
  can level e =
      let is_level = subst IsLevel (sym e) s.devices.level in
      let own_level = sym e in
      search

  newest : MayRestore (numbers_at NEWEST m)
  newest = record { is_level = s.devices.level; newest_set = refl; moment = s.devices.moment }

  saved-are : AreSavedCells set (saved set m)
  unfolding saved
  saved-are = record {
    timer = moment-of m.moment s.devices.moment;
    master = set-of m.pair.level set _ m.pair.master s.pair.master.registers;
    slave = set-of m.pair.level set _ m.pair.slave s.pair.slave.registers;
    pit = pit-saved.of_set (numbers_at set m) m.pit (can m.pit.level s.devices.pit_level) s.devices.pit;
    serial = serial-saved (numbers_at set m) m.serial (can m.serial.level s.devices.serial_level) s.devices.serial;
  }

  le : m.pair.level ≤ set
  le = omega arith

  master-carried : pic_carried set (saved_cells set m.pair.master) ≡ saved_cells NEWEST m.pair.master
  master-carried = grind (arith, carried-saved, le)

  slave-carried : pic_carried set (saved_cells set m.pair.slave) ≡ saved_cells NEWEST m.pair.slave
  slave-carried = grind (arith, carried-saved, le)

  pair-back : restored_pair m.level (pic_carried set (saved_cells set m.pair.master)) (pic_carried set (saved_cells set m.pair.slave)) ≡ Ok m.pair
  pair-back =
      ap (λ cells. restored_pair m.level cells (pic_carried set (saved_cells set m.pair.slave))) master-carried
      ∙ ap (λ cells. restored_pair m.level (saved_cells NEWEST m.pair.master) cells) slave-carried
      ∙ ap (λ level. restored_pair level (saved_cells NEWEST m.pair.master) (saved_cells NEWEST m.pair.slave)) (sym s.devices.pair_level)
      ∙ pair-restored m.pair s.pair

  pit-both : AreCellsOf NEWEST (pit_carried set (pit_cells set m.pit)) × (restored_pit m.level m.moment (pit_carried set (pit_cells set m.pit)) ≡ Ok m.pit)
  pit-both =
      let back = pit-is-restored.pit (numbers_at set m) (numbers_at NEWEST m) m.pit (can m.pit.level s.devices.pit_level) s.devices.pit newest (sym s.devices.pit_level) refl in
      (back.0.normal, hook-ok _ m.pit back.1)

  serial-both : PortComesBack (numbers_at NEWEST m) m.serial (serial_carried set (cells_at (numbers_at set m) m.serial))
  serial-both = serial-comes-back (numbers_at set m) m.serial (can m.serial.level s.devices.serial_level) s.devices.serial

  carried-are : AreBoardCells (carried set (saved set m))
  unfolding carried saved
  carried-are = search (arith, moment-of, master-carried, set-of, slave-carried, pit-both.0, serial-both.may.port_cells)

  back-lines : (port : Port) → AlikePorts m.serial port → HasLines (record m { serial = port })
  back-lines port a = record { out = s.lines.out; slave = s.lines.slave; serial = cc (lines_alike m.moment m.serial port a) }

  back-restored : (port : Port) → AlikePorts m.serial port → restored_cells (numbers_at NEWEST m) (serial_carried set (cells_at (numbers_at set m) m.serial)) ≡ Ok port → restored m.level (carried set (saved set m)) ≡ Ok (record m { serial = port })
  unfolding carried saved timed
  back-restored port a e =
      let holds : nat_le m.moment LAST_MOMENT ≡ true = let l = s.devices.moment in grind (arith, nat_tests) in
      joined-ok m.level m.moment m.pair m.pit port _ _ _ _ (rw holds refl) pair-back pit-both.1 e (lines-agree (record m { serial = port }) (back-lines port a))

  pub comes-back : ComesBack m.level (carried set (saved set m)) m
  comes-back =
      let port = serial-both in
      record {
        may = carried-are;
        back = record m { serial = port.back };
        restored = back-restored port.back port.alike (hook-ok _ port.back port.restored);
        alike = record { same = refl; serial = port.alike };
      }

pub saved_are_cells : SavedAreCells
saved_are_cells = record { of_set = saved-are }

pub saved_comes_back : SavedComesBack
saved_comes_back = record { back = comes-back }

pub saved_goes_on : SavedGoesOn
saved_goes_on = record {
  answers = λ set m back events s may e. let there = comes-back set m s may in
      alike_stays.answers events m back (rw (ok-same there.back back _ there.restored e) at there.alike);
}
