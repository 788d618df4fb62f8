-- What each event keeps: level and moment, sound devices, and what is known of the timer.
use Rattle.dev_board.proofs.Facade
use Facade.{refl, NumbersAre, ◌≡◌, ℕ, AnswersTellInt, ClockGoesOn, moment_left, target_of, read_at, written_at, State, Act, waited, acted, settled}
use Facade.{after_act, step, Event, Target, ◌-◌, ◌<◌, ◌≤◌, true, arith, ap, sym, subst, List, ◌∙◌, either, LAST_MOMENT}
use Facade.{steps_keep_registers, is_port, read_pair, written_pair, acked, PairHasRegisters, PicPair, sound_stays, IsLoadedBy, pit_read, pit_written}
use Facade.{IsSoundPit, Pit, reads_keep_sound, writes_keep_sound, bytes_in_keep_sound, advances_keep_sound, reads_keep_level, writes_keep_level}
use Facade.{bytes_in_keep_level, advances_keep_level, read_of, written, came_in, advanced, Port, IsEvent, write, HasDevices, Counter, Bool, false, or_parts}
use Facade.{nat_tests, at_step, same, read-goes_on, edge_in_parts, rises, edge_of, out_of, GoesOn, counter_of, pit_edge, pit_out, AreTurns, IsTurn, Mode, Turns}
use Facade.{IsCalm, calm_by, later, read, calm_after, write_touches, Touch, after_all, after_by, AreWires, [], ◌∷◌, IsLevel, lines_are_taken, but_not}
use Facade.{winner_at, served_of, winner_of, ready_among, chip_on, lines_of, slave_int_of, settled_pair, IsSoundPair, powered_on, new_pit, power_on_is_sound}
use Facade.{bits_where, interrupt, line_of, AreEvents, SoundStays, HasLines, IsSound, power_on, inputs_of}
use Rattle.dev_board.proofs.WireLaws.{names, wires_of-are, wires_after-are, one-lt, inputs-lt, inputs-out, inputs-serial}
use Rattle.dev_pic.proofs.StepLaws.{steps_keep_level as pair_keeps_level}
use Rattle.dev_pic.specs.Pair.{power_on as pair_on}
use Rattle.dev_pit.proofs.SoundLaws.{steps_keep_level as pit_keeps_level}
use Rattle.dev_pit.specs.{Counter.read_of as counter_read, declared.counter.Counter.Counter as Counting}
use Rattle.dev_serial.specs.{Sound.IsSound as IsSoundPort, Port.power_on as serial_on}

-- ---- the numbers are the constants' by their definition

pub numbers_are : NumbersAre
numbers_are = record { wires = refl; timer_input = refl; serial_input = refl; driven = refl; timer = refl; master = refl; pit = refl; serial = refl }

-- ---- no event changes the level, and only a wait changes the moment

acted-clock : (event : Event) (m : State) → ((acted event m).1.moment ≡ moment_left event m.moment) × ((acted event m).1.level ≡ m.level)
unfolding acted waited read_at written_at
acted-clock event m = grind arith

pub clock_goes_on : ClockGoesOn
unfolding step after_act settled
clock_goes_on = record { moment = λ event m. (acted-clock event m).0; level = λ event m. (acted-clock event m).1; last = refl }

-- ---- the interrupt output

pub answers_tell_int : AnswersTellInt
unfolding step after_act
answers_tell_int = record { int = λ event m. refl }

-- ---- what each event keeps of the devices

module _ (m : State) (h : HasDevices m) where
  pub with-pair : (pair : PicPair) → PairHasRegisters pair → pair.level ≡ m.pair.level → HasDevices (record m { pair = pair })
  with-pair pair k e = let level = e ∙ h.pair_level in search

  pub with-pit : (pit : Pit) → IsSoundPit m.moment pit → pit.level ≡ m.pit.level → HasDevices (record m { pit = pit })
  with-pit pit k e = let level = e ∙ h.pit_level in search

  pub with-serial : (port : Port) → IsSoundPort m.moment port → port.level ≡ m.serial.level → HasDevices (record m { serial = port })
  with-serial port k e = let level = e ∙ h.serial_level in search

  pub pair-read : (port : ℕ) → HasDevices (record m { pair = (read_pair port m.pair).1 })
  pair-read port = with-pair _ (steps_keep_registers.read port m.pair h.pair) (pair_keeps_level.read port m.pair)

  pub pit-read : (counter : ℕ) → HasDevices (record m { pit = (pit_read counter m.moment m.pit).1 })
  pit-read counter = with-pit _ (sound_stays.in_reads counter m.moment m.pit h.pit) (pit_keeps_level.read counter m.moment m.pit)

  pub serial-read : (offset : ℕ) → HasDevices (record m { serial = (read_of offset m.moment m.serial).1 })
  serial-read offset = with-serial _ (reads_keep_sound offset m.moment m.serial h.serial) (reads_keep_level offset m.moment m.serial)

  pub read_at-kept : (target : Target) (port : ℕ) → HasDevices (read_at target port m).1
  unfolding read_at
  read_at-kept target port = grind (arith, pair-read, pit-read, serial-read)

  pub pit-written : (port value : ℕ) → value < 256 → HasDevices (record m { pit = pit_written port value m.moment m.pit })
  pit-written port value v = with-pit _ (sound_stays.in_writes port value m.moment m.pit v h.pit) (pit_keeps_level.write port value m.moment m.pit)

  pub pair-written : (port value : ℕ) → value < 256 → is_port m.pair.level port ≡ true → HasDevices (record m { pair = written_pair port value m.pair })
  pair-written port value v e = with-pair _ (steps_keep_registers.write port value m.pair v e h.pair) (pair_keeps_level.write port value m.pair)

  pub serial-written : (offset value : ℕ) → value < 256 → HasDevices (record m { serial = written offset value m.moment m.serial })
  serial-written offset value v = with-serial _ (writes_keep_sound offset value m.moment m.serial v h.serial) (writes_keep_level offset value m.moment m.serial)

  pub write-kept : (port value : ℕ) → value < 256 → HasDevices (write port value m)
  unfolding target_of written_at
  write-kept port value v = search (arith, nat_tests, pair-written, pit-written, serial-written)

  pub waited-kept : (to : ℕ) → m.moment ≤ to → to ≤ LAST_MOMENT → HasDevices (waited to m).1
  unfolding waited
  waited-kept to l b =
      let level = advances_keep_level to m.serial ∙ h.serial_level in
      let pit = sound_stays.in_time m.moment to m.pit l b h.pit in
      let serial = advances_keep_sound m.moment to m.serial l h.serial in
      search

  pub byte-kept : (value : ℕ) → value < 256 → HasDevices (record m { serial = came_in value m.moment m.serial })
  byte-kept value v = with-serial _ (bytes_in_keep_sound value m.moment m.serial v h.serial) (bytes_in_keep_level value m.moment m.serial)

  pub ack-kept : HasDevices (record m { pair = (acked m.pair).1 })
  ack-kept = with-pair _ (steps_keep_registers.ack m.pair h.pair) (pair_keeps_level.ack m.pair)

  pub acted-kept : (event : Event) → IsEvent event → HasDevices (acted event m).1
  unfolding acted
  acted-kept event e = grind (arith, read_at-kept, write-kept, byte-kept, waited-kept, ack-kept)

-- The answers of devices, as their calls return them.
module _ (m : State) (h : HasDevices m) where
  pub after-pair : (port value : ℕ) (pair : PicPair) → (value, pair) ≡ read_pair port m.pair → HasDevices (record m { pair = pair })
  after-pair port value pair e = let found = pair-read m h port in rw (← e) at found

  pub after-pit : (counter value : ℕ) (pit : Pit) → (value, pit) ≡ pit_read counter m.moment m.pit → HasDevices (record m { pit = pit })
  after-pit counter value pit e = let found = pit-read m h counter in rw (← e) at found

  pub after-serial : (offset value : ℕ) (port : Port) → (value, port) ≡ read_of offset m.moment m.serial → HasDevices (record m { serial = port })
  after-serial offset value port e = let found = serial-read m h offset in rw (← e) at found

  pub after-ack : (value : ℕ) (pair : PicPair) → (value, pair) ≡ acked m.pair → HasDevices (record m { pair = pair })
  after-ack value pair e = let found = ack-kept m h in rw (← e) at found

  pub after-wait : (to : ℕ) (sent : List ℕ) (port : Port) → m.moment ≤ to → to ≤ LAST_MOMENT → (sent, port) ≡ advanced to m.serial
      → HasDevices (record m { moment = to; serial = port })
  unfolding waited
  after-wait to sent port l b e = let found = waited-kept m h to l b in rw (← e) at found

  -- No counter was loaded after the moment.
  pub loaded : IsLoadedBy m.moment m.pit
  loaded = sound_stays.loaded m.moment m.pit h.pit

-- ---- what is known of the timer between events

no-rise : (mode : Mode) (count a : ℕ) → rises mode count a a ≡ false
unfolding rises
no-rise mode count a = grind (arith, nat_tests)

no-edge : (counter : Counting) (at : ℕ) → edge_of counter at at ≡ false
unfolding edge_of
no-edge counter at = grind (arith, no-rise)

-- Before the first of three turns that is after the base, none has come.
none-came : (turns : Turns) (base at to : ℕ) → IsTurn turns base at → base ≤ at → at ≤ to → to < calm_by turns base → at ≡ base
none-came turns base at to is f l h = grind (arith, later)

pub calm-turns : (m : State) → HasDevices m → (turns : Turns) → AreTurns turns (counter_of 0 m.pit) m.moment → IsCalm (calm_by turns m.moment) m
unfolding pit_out pit_edge
calm-turns m h turns are to l before =
    let t = are m.moment to (loaded m h 0 (omega arith)) (omega arith) l in
    let is : t.at ≡ m.moment = none-came turns m.moment t.at to t.is t.from t.upto before in (
      sym t.out ∙ ap (out_of (counter_of 0 m.pit)) is,
      sym t.edge ∙ ap (edge_of (counter_of 0 m.pit) m.moment) is ∙ no-edge (counter_of 0 m.pit) m.moment,
    )

-- A read of a counter changes neither OUT nor its edges.
record SameOut (before after : Counting) : Type 0 where
  out : (at : ℕ) → out_of after at ≡ out_of before at
  edge : (from to : ℕ) → edge_of after from to ≡ edge_of before from to

read-same : (j now : ℕ) (pit : Pit) → SameOut (counter_of 0 pit) (counter_of 0 (pit_read j now pit).1)
unfolding pit_read out_of edge_of
read-same j now pit =
    let c = counter_of 0 pit in
    let on : GoesOn c (counter_of 0 (pit_read j now pit).1) = at_step (GoesOn c) 0 j (λ d. (counter_read now d).1) pit (λ here. read-goes_on now c) (same c) in
    search arith

-- A read of a counter leaves OUT unchanged.
pub read-out : (j now : ℕ) (pit : Pit) → pit_out 0 now (pit_read j now pit).1 ≡ pit_out 0 now pit
unfolding pit_out
read-out j now pit = (read-same j now pit).out now

module _ (until : ℕ) (m : State) (calm : IsCalm until m) where
  read-calm : (j : ℕ) → IsCalm until (record m { pit = (pit_read j m.moment m.pit).1 })
  unfolding pit_out pit_edge
  read-calm j to l h =
      let reads = read-same j m.moment m.pit in
      let still = calm to l h in
      (reads.out to ∙ still.0 ∙ sym (reads.out m.moment), reads.edge m.moment to ∙ still.1)

  read_at-calm : (target : Target) (port : ℕ) → IsCalm until (read_at target port m).1
  unfolding read_at
  read_at-calm (Counter counter) port = read-calm counter
  read_at-calm _ port = calm

  written_at-calm : (target : Target) (port value : ℕ) → IsCalm (calm_after (write_touches target port value) until) (written_at target port value m)
  unfolding written_at
  written_at-calm target port value = grind (arith, either)

  -- What events leave of it.
  pub calm-read : (port value : ℕ) (after : State) → (value, after) ≡ read port m → IsCalm until after
  calm-read port value after e = subst (λ done. IsCalm until done.1) (sym e) (read_at-calm (target_of m.level port) port)

  pub calm-write : (port value : ℕ) (after : State) (touch : Touch) → touch ≡ write_touches (target_of m.level port) port value → after ≡ write port value m
      → IsCalm (calm_after touch until) after
  calm-write port value after touch t e = rw (t, e) (written_at-calm (target_of m.level port) port value)

  wait-calm : (to : ℕ) → m.moment ≤ to → to < until → IsCalm until (waited to m).1
  unfolding waited pit_edge
  wait-calm to l h at from before =
      let still = calm at (omega arith) before in
      (still.0 ∙ sym (calm to l h).0, (or_parts _ _ (sym (edge_in_parts (counter_of 0 m.pit) m.moment to at l from) ∙ still.1)).1)

  pub calm-wait : (to : ℕ) (act : Act) (after : State) → (act, after) ≡ waited to m → m.moment ≤ to → to < until → IsCalm until after
  calm-wait to act after e l h = let found = wait-calm to l h in rw (← e) at found

-- ---- a board is sound at power on, and each event keeps it sound

-- The board at power on.
pub on-devices : (level : ℕ) → IsLevel level → HasDevices (power_on level)
unfolding power_on serial_on
on-devices level l = record {
  level = l;
  moment = omega arith;
  pair_level = pair_keeps_level.power level;
  pit_level = pit_keeps_level.power_on level;
  serial_level = refl;
  pair = steps_keep_registers.sound (pair_on level) (steps_keep_registers.power level l);
  pit = sound_stays.power_on level 0 l (omega arith);
  serial = power_on_is_sound level 0 l;
}

pub power_on-sound : (level : ℕ) → IsLevel level → IsSound (power_on level)
unfolding power_on pair_on chip_on new_pit powered_on serial_on lines_of slave_int_of winner_at winner_of ready_among served_of but_not pit_out out_of line_of interrupt
power_on-sound level l =
    record { devices = on-devices level l; pair = steps_keep_registers.power level l; lines = record { out = refl; slave = refl; serial = refl } }

-- The board after the lines are updated.
module _ (wires : ℕ) (edge : Bool) (m : State) (w : AreWires wires) (h : HasDevices m) where
  settled-pair : IsSoundPair (settled_pair (inputs_of wires m) (bits_where edge 0x01) m.pair)
  settled-pair = steps_keep_registers.settle (inputs_of wires m) (bits_where edge 0x01) m.pair (inputs-lt wires m w) (one-lt edge 0x01 (omega arith)) h.pair

  settled-lines : HasLines (settled wires edge m)
  unfolding settled
  settled-lines = record {
    out = cc (lines_are_taken.master (inputs_of wires m) (bits_where edge 0x01) 0 m.pair (inputs-lt wires m w) (omega arith) (λ e. absurd (omega (arith, e))), inputs-out wires m w);
    slave = lines_are_taken.cascade (inputs_of wires m) (bits_where edge 0x01) m.pair (inputs-lt wires m w);
    serial = cc (lines_are_taken.master (inputs_of wires m) (bits_where edge 0x01) 4 m.pair (inputs-lt wires m w) (omega arith) (λ e. absurd (omega (arith, e))), inputs-serial wires m w);
  }

  pub settled-sound : IsSound (settled wires edge m)
  unfolding settled
  settled-sound =
      let level = pair_keeps_level.settle (inputs_of wires m) (bits_where edge 0x01) m.pair ∙ h.pair_level in
      let registers = steps_keep_registers.sound _ settled-pair in
      let pair = settled-pair in
      let lines = settled-lines in
      search

-- After each event.
pub step-sound : (event : Event) (m : State) → IsEvent event → HasDevices m → IsSound (step event m).1
unfolding step after_act
step-sound event m e h = grind (arith, settled-sound, wires_after-are, names, wires_of-are, acted-kept)

all-sound : (events : List Event) (m : State) → AreEvents events → IsSound m → IsSound (after_all events m)
unfolding after_by
all-sound [] m e s = s
all-sound (event ∷ events) m e s = all-sound events (step event m).1 e.1 (step-sound event m e.0 s.devices)

pub sound_stays_on : SoundStays
sound_stays_on = record { power_on = power_on-sound; event = λ event m e s. step-sound event m e s.devices; events = all-sound }
