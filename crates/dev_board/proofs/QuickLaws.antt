-- Events that leave the lines as they were.
use Rattle.dev_board.proofs.{QuietLaws.command-taken, QuietLaws.ack-taken, QuietLaws.untouched-settled, PortLaws.ports_are, WireLaws.wires_of-are}
use Rattle.dev_board.proofs.Facade.{◌≡◌, ℕ, Bool, true, false, bit_or, arith, refl, ap, ◌∙◌, sym, not, if◌then◌else◌, cond_both, nat_tests}
use Rattle.dev_board.proofs.Facade.{and-false, and-true, or-false, has, bits_where, lines_of, written_pair, acked, PicPair, HasTaken, IsBefore, is_command}
use Rattle.dev_board.proofs.Facade.{Stays, ack_touches, leaves_port, read_touches, time_touches, write_touches, has-or, either, State, Act, waited, Before}
use Rattle.dev_board.proofs.Facade.{Touch, Untouched, Command, Access, pit_out, lsr_of, lsr_read, Port, line_of, target_of, read_at, written_at, read, write}
use Rattle.dev_board.proofs.Facade.{IsSound, Target, Pair, Counter, Register, ◌<◌, Option, None, Some, IfSome, int_of, is_nothing, is_untouched, HasDevices}
use Rattle.dev_board.proofs.Facade.{written, saying, Event, Read, Write, step, acted, after_act, wires_after, settled, wires_of, IsCalm, Pit, pit_read}
use Rattle.dev_board.proofs.SoundLaws.{read-out, read_at-kept, serial-written, calm-read, calm-write, settled-sound}
use Rattle.dev_board.specs.{Kept.IsKept, Ports.has_port, Ports.is_device, declared.kept.Kept.Kept}
use Rattle.std.specs.Prelude.{MatchOption}
use Rattle.dev_serial.specs.Access.{read_of as registers_read}

-- ---- what an event leaves of the lines

or-bits : (a b c d : Bool) → has (bit_or (bit_or (bit_or (bits_where a 0x01) (bits_where b 0x02)) (bits_where c 0x20)) (bits_where d 0x40)) 1 ≡ b
or-bits a b c d = grind (arith, has-or, has, and-true, and-false, or-false)

pub lsr-overrun : (port : Port) → has (lsr_of port) 1 ≡ port.receiver.overrun
unfolding lsr_of
lsr-overrun port = or-bits _ port.receiver.overrun _ _

no-overrun : (port : Port) → not (has (lsr_of port) 1) ≡ true → (lsr_read port).1 ≡ port
no-overrun port e = grind (arith, lsr-overrun, has)

-- A read of a register that leaves the port unchanged.
abbrev Leaves : ℕ → Port → ℕ × Port → Type 0
Leaves offset port answer = leaves_port offset answer.0 ≡ true → answer.1 ≡ port

abbrev is_at : (offset n value : ℕ) → offset ≡ n → leaves_port offset value ≡ true → leaves_port n value ≡ true
is_at offset n value e h = cc

left-at : (offset now : ℕ) (port : Port) → Leaves offset port (registers_read offset now port)
unfolding leaves_port registers_read
left-at offset now port = grind (arith, nat_tests, cond_both, either, has, no-overrun)

touched : {A : Type 0} → true ≡ false → A
touched e = cc

pub pair-taken : (m : State) → IsSound m → HasTaken (lines_of m.pair) m.pair
pair-taken m s = search

module _ (m : State) (s : IsSound m) (before : Before) (b : IsBefore before m) where
  out : has before.lines 0 ≡ pit_out 0 m.moment m.pit
  out = cc

  serial : has before.lines 4 ≡ line_of m.moment m.serial
  serial = cc

  still-taken : HasTaken before.lines m.pair
  still-taken = rw b.lines (pair-taken m s)

  read-stays : (target : Target) (port : ℕ) → Stays (read_touches target (read_at target port m).0) before (read_at target port m).1
  unfolding read_at
  read-stays (Register offset) port = grind (arith, left-at, still-taken, touched)
  read-stays _ port = search (out, serial, still-taken, touched, read-out)

  command-stays : (port value : ℕ) (command : Bool) → is_command port value ≡ command
      → Stays (if command then Command else Access) before (record m { pair = written_pair port value m.pair })
  command-stays port value true e = search (out, serial, still-taken, touched, command-taken)
  command-stays port value false e = search (out, serial, touched)

  write-stays : (target : Target) (port value : ℕ) → Stays (write_touches target port value) before (written_at target port value m)
  unfolding written_at
  write-stays Pair port value = command-stays port value (is_command port value) refl
  write-stays _ port value = search (out, serial, still-taken, touched)

  ack-stays : (slave : Bool) → has before.lines 2 ≡ slave → Stays (if slave then Access else Command) before (record m { pair = (acked m.pair).1 })
  ack-stays slave e = grind (arith, out, serial, touched, still-taken, ack-taken)

  time-stays : (to : ℕ) (calm : Bool) → (calm ≡ true → pit_out 0 to m.pit ≡ pit_out 0 m.moment m.pit) → Stays (time_touches calm) before (waited to m).1
  unfolding waited
  time-stays to calm still = search (arith, touched, still-taken)

  -- The same for what calls returned.
  pub after-read : (port value : ℕ) (after : State) (touch : Touch) → touch ≡ read_touches (target_of m.level port) (read port m).0
      → (value, after) ≡ read port m → Stays touch before after
  after-read port value after touch t e =
      let stays = read-stays (target_of m.level port) port in
      rw (t, ← e) (rw (← e) at stays)

  pub after-write : (port value : ℕ) (after : State) (touch : Touch) → touch ≡ write_touches (target_of m.level port) port value → after ≡ write port value m
      → Stays touch before after
  after-write port value after touch t e = rw (t, e) (write-stays (target_of m.level port) port value)

  pub after-ack : (value : ℕ) (pair : PicPair) (touch : Touch) → touch ≡ ack_touches before.lines → (value, pair) ≡ acked m.pair
      → Stays touch before (record m { pair = pair })
  unfolding ack_touches
  after-ack value pair touch t e =
      let stays = ack-stays (has before.lines 2) refl in
      rw t (rw (← e) at stays)

  pub after-time : (to : ℕ) (act : Act) (after : State) (calm : Bool) → (act, after) ≡ waited to m
      → (calm ≡ true → pit_out 0 to m.pit ≡ pit_out 0 m.moment m.pit) → Stays (time_touches calm) before after
  after-time to act after calm e still = let stays = time-stays to calm still in rw (← e) at stays

-- ---- accesses after which no line has changed

-- What is so after it.
pub record Holds (known : Kept) (after : State) : Type 0 where
  pub sound : IsSound after
  pub kept : IsKept known after

module _ (m : State) (s : IsSound m) where
  before : Before
  before = record { lines = lines_of m.pair; int = int_of m.pair }

  is-before : IsBefore before m
  unfolding before
  is-before = record { lines = refl; int = refl }

  -- The board after an access that touched nothing that drives a line.
  module _ (touch : Touch) (after : State) (nothing : is_nothing touch ≡ true) (stays : Stays touch before after) (h : HasDevices after) where
    same-settled : settled (wires_of m) false after ≡ after
    unfolding is_untouched wires_of
    same-settled = untouched-settled (wires_of m) before false touch after stays (rw (nothing, (is-before).lines) (grind (arith, nat_tests)))

    still-sound : IsSound after
    still-sound = rw same-settled at (settled-sound (wires_of m) false after (wires_of-are m) h)

  -- A read.
  module _ (port value : ℕ) (after : State) (touched : read_touches (target_of m.level port) value ≡ Untouched) (e : (value, after) ≡ read port m) where
    read-devices : HasDevices after
    read-devices = let found = read_at-kept m s.devices (target_of m.level port) port in rw (← e) at found

    read-leaves : Stays Untouched before after
    read-leaves =
        let same : value ≡ (read port m).0 = ap (λ done. done.0) e in
        after-read m s before is-before port value after Untouched (sym touched ∙ ap (read_touches (target_of m.level port)) same) e

    read-int : int_of m.pair ≡ int_of after.pair
    read-int = sym (is-before).int ∙ (read-leaves).int refl

    pub read-holds : (kept : Kept) → IsKept kept m → Holds kept after
    read-holds kept k = search (arith, still-sound, read-leaves, read-devices, read-int, calm-read)

    pub read-step : (event : Event) (seen : State) (kept : Kept) → IsKept kept m → event ≡ Read port → m ≡ seen
        → (saying (Some value) kept.int, after) ≡ step event seen
    unfolding step acted after_act wires_after
    read-step event seen kept k is view = rw (is, ← view, ← e, same-settled Untouched after refl read-leaves read-devices, k.int, read-int) refl

  -- A byte that waits to be sent.
  module _ (value : ℕ) (after : State) (e : after ≡ write 0x3f8 value m) (line : line_of m.moment after.serial ≡ line_of m.moment m.serial)
      (h : HasDevices after) where
    is-serial : after ≡ record m { serial = written 0 value m.moment m.serial }
    unfolding written_at
    is-serial = cc (ports_are.register m.level 0 (omega arith))

    queue-stays : Stays Untouched before after
    unfolding before
    queue-stays = search (arith, is-serial, pair-taken)

    queue-int : int_of m.pair ≡ int_of after.pair
    queue-int = ap (λ x. int_of x.pair) (sym is-serial)

    pub queue-holds : (kept : Kept) → IsKept kept m → Holds kept after
    queue-holds kept k = search (arith, still-sound, queue-stays, queue-int, is-serial)

    pub queue-step : (event : Event) (port : ℕ) (seen : State) (kept : Kept) → IsKept kept m → event ≡ Write port value → port ≡ 0x3f8 → m ≡ seen
        → (saying None kept.int, after) ≡ step event seen
    unfolding step acted after_act wires_after
    queue-step event port seen kept k is at view = rw (is, at, ← view, ← e, same-settled Untouched after refl queue-stays h, k.int, queue-int) refl

  -- A command to the master.
  module _ (value : ℕ) (after : State) (e : after ≡ write 0x20 value m) (even : has value 4 ≡ false) (h : HasDevices after) (int : Bool)
      (out : int ≡ int_of after.pair) where
    touches : Command ≡ write_touches (target_of m.level 0x20) 0x20 value
    unfolding is_command
    touches = rw (ports_are.pair m.level 0x20 refl, even) refl

    command-leaves : Stays Command before after
    command-leaves = after-write m s before is-before 0x20 value after Command touches e

    pub command-holds : (calm : ℕ) → IsCalm calm m → Holds (record { int = int; calm = calm }) after
    command-holds calm k = search (arith, still-sound, command-leaves, calm-write, touches)

    pub command-step : (event : Event) (port : ℕ) (seen : State) → event ≡ Write port value → port ≡ 0x20 → m ≡ seen
        → (saying None int, after) ≡ step event seen
    unfolding step acted after_act wires_after
    command-step event port seen is at view = rw (is, at, ← view, ← e, same-settled Command after refl command-leaves h, out) refl

-- ---- the accesses themselves

-- The line status.
module _ (m seen : State) (port : ℕ) (view : m ≡ seen) (at : port ≡ 0x3fd) where
  is-status : target_of seen.level port ≡ Register 5
  is-status = rw at (ports_are.register seen.level 5 (omega arith))

  abbrev Status : ℕ → Type 0
  Status value = (value, m.serial) ≡ lsr_read m.serial

  pub status-read : (A : Type 0) → (o : Option ℕ) → MatchOption o A Status → MatchOption o (seen ≡ seen) (λ value. (value, seen) ≡ read port seen)
  unfolding read_at registers_read
  status-read A o e = grind (arith, is-status)

  status-leaves : (value : ℕ) → Status value → leaves_port 5 value ≡ true
  unfolding leaves_port
  status-leaves value e = grind (arith, lsr-overrun)

  pub status-touch : (A : Type 0) → (o : Option ℕ) → MatchOption o A Status → IfSome o (λ value. read_touches (target_of seen.level port) value ≡ Untouched)
  status-touch A o e = grind (arith, is-status, status-leaves)

-- Counter 0.
module _ (m seen : State) (port : ℕ) (view : m ≡ seen) (at : port ≡ 0x40) where
  is-first : target_of seen.level port ≡ Counter 0
  is-first = rw at (ports_are.counter seen.level 0 (omega arith))

  pub first-read : (value : ℕ) (pit : Pit) → (value, pit) ≡ pit_read 0 m.moment m.pit → (value, record m { pit = pit }) ≡ read port seen
  unfolding read_at
  first-read value pit e = rw (is-first, ← view, ← e) refl

  pub first-touch : (value : ℕ) → read_touches (target_of seen.level port) value ≡ Untouched
  first-touch value = rw is-first refl

-- A port without a device.
none_at : (target : Target) (port : ℕ) (m : State) → is_device target ≡ false → (0xff, m) ≡ read_at target port m
unfolding read_at
none_at target port m e = grind arith

pub none-read : (m : State) (port : ℕ) (has : Bool) → has ≡ has_port m.level port → has ≡ false → (0xff, m) ≡ read port m
none-read m port has e none = grind (arith, none_at)

-- A write.
module _ (m seen : State) (value : ℕ) (view : m ≡ seen) where
  pub command-written : (pair : PicPair) → pair ≡ written_pair 0x20 value m.pair → record m { pair = pair } ≡ write 0x20 value seen
  unfolding written_at
  command-written pair e = rw (ports_are.pair seen.level 0x20 refl, ← view, e) refl

  pub queue-written : (serial : Port) → serial ≡ written 0 value m.moment m.serial → record m { serial = serial } ≡ write 0x3f8 value seen
  unfolding written_at
  queue-written serial e = rw (ports_are.register seen.level 0 (omega arith), ← view, e) refl

pub queue-devices : (m : State) → HasDevices m → (value : ℕ) → value < 256 → (serial : Port) (queued : Bool)
    → (queued ≡ true → (now : ℕ) → serial ≡ written 0 value now m.serial) → (queued ≡ false → serial ≡ m.serial) → HasDevices (record m { serial = serial })
queue-devices m h value v serial true q f = rw (q refl m.moment) (serial-written m h 0 value v)
queue-devices m h value v serial false q f = rw (f refl) h
