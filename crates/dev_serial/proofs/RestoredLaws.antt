-- A restored port is sound, and the rules hold of a sound port alone.
use Rattle.dev_serial.proofs.{SavedLaws.runs-same, AlikeLaws.IsStatus, AlikeLaws.lsr-status, Facade.IsTold, Facade.IsByte, Facade.Shift}
use Rattle.dev_serial.proofs.Facade.{◌≡◌, ℕ, true, Ok, ◌≤◌, Bool, List, [], ◌∷◌, length, Option, Some, refl, subst, ◌+◌, ◌<◌}
use Rattle.dev_serial.proofs.Facade.{◌==◌, false, not, ◌&&◌, ◌||◌, cond, arith, ◌%◌, ℤ, leb-true, ltb-true, and_parts, not-true, nat_le}
use Rattle.dev_serial.proofs.Facade.{nat_lt, is_some, judged-ok, first_failing_is_first, hook-ok, Port, port_of, moment_of, shift_of, fifos_of, stored_bytes}
use Rattle.dev_serial.proofs.Facade.{registers_hold, fcr_holds, status_holds, shift_holds, timeout_holds, latch_holds, rules, restored, unused_hold, id_holds}
use Rattle.dev_serial.proofs.Facade.{once_holds, rings_hold, longest_timeout, PortNumbers, first_failing, judged_by, IsFirstFailing, is_empty, IsShort, same}
use Rattle.dev_serial.proofs.Facade.{has, AreBytes, IsShift, IsTimeout, IsSound, HasRegisters, IsReceiver, IsTransmitter, LONGEST_CHARACTER, NEVER, cell_at}
use Rattle.dev_serial.proofs.Facade.{IsLevel, U16, number-lt, IsPortCells, array_at, ring_at, numbers_of, IsSoundAt, RestoredIsSound, DIVISOR, RX_COUNT, RX}
use Rattle.dev_serial.proofs.Facade.{TX_COUNT, TX, RX_DATA, TX_DATA, LAST_MOMENT, lsr_of, SoundMeetsRules, saved, moment_number, due_number, IsHeld}
use Rattle.dev_serial.proofs.SavedLaws.{unused-at, in_arrays, in_rings, bytes-in, stored-empty, stored-short, stored-bytes, byte-at, restored-saved, on}

-- ---- every rule holds for numbers that are restored

-- the rules by which a port is sound
pub record Hold (level now : ℕ) (n : PortNumbers) : Type 0 where
  pub registers : registers_hold n ≡ true
  pub fcr : fcr_holds level n ≡ true
  pub status : status_holds n ≡ true
  pub shifts : shift_holds now n ≡ true
  pub timeouts : timeout_holds level now n ≡ true
  pub latch : latch_holds n ≡ true

pub hold : (level now : ℕ) (n : PortNumbers) (port : Port) → restored level now n ≡ Ok port → Hold level now n × (port_of level n ≡ port)
unfolding restored
hold level now n port e =
    let all = judged-ok (rules level now n) (port_of level n) port e in
    let from4 = all.0.1.1.1 in
    (record { registers = all.0.0; fcr = all.0.1.0; status = from4.0; shifts = from4.1.0; timeouts = from4.1.1.0; latch = from4.1.1.1.0 }, all.1)

-- ---- the result of a restore, by the rules in code

pub restored_by : (level now : ℕ) (n : PortNumbers) (port : Port) (answer : Option ℕ) (a b d e f g h i j k : Bool)
    → a ≡ registers_hold n → b ≡ fcr_holds level n → d ≡ unused_hold n → e ≡ status_holds n → f ≡ shift_holds now n → g ≡ timeout_holds level now n
    → h ≡ latch_holds n → i ≡ id_holds level now n → j ≡ once_holds n → k ≡ rings_hold n → port ≡ port_of level n
    → answer ≡ first_failing (a ∷ b ∷ d ∷ e ∷ f ∷ g ∷ h ∷ i ∷ j ∷ k ∷ []) → judged_by answer port ≡ restored level now n
unfolding restored
restored_by level now n port answer a b d e f g h i j k qa qb qd qe qf qg qh qi qj qk p q = rw (q, p, qa, qb, qd, qe, qf, qg, qh, qi, qj, qk)

-- the rule that fails is one of them
pub rule_within : (rules : List Bool) (rule : ℕ) → first_failing rules ≡ Some rule → (1 ≤ rule) × (rule ≤ length rules)
rule_within rules rule e = let first : IsFirstFailing rules rule = rw e at (first_failing_is_first rules) in first.within

-- ---- each part of a restored port is sound

pub is_on : (fcr : ℕ) → is_some (fifos_of fcr) ≡ not (fcr == 0)
is_on fcr = grind arith

pub level-on : (level fcr : ℕ) → ((fcr == 0) || (nat_le 2 level && (fcr % 64 == 1))) ≡ true → is_some (fifos_of fcr) ≡ true → 2 ≤ level
level-on level fcr h n = grind (arith, and_parts, is_on)

pub short : (off is_held : Bool) (byte : ℕ) (bytes : List ℕ) → length bytes ≤ 16 → IsShort (not off) (cond off (cond is_held (byte ∷ []) []) bytes)
short off is_held byte bytes h = record { short = grind arith; one = λ e. grind arith }

pub are_bytes : (off is_held : Bool) (byte : ℕ) (bytes : List ℕ) → byte < 256 → AreBytes bytes → AreBytes (cond off (cond is_held (byte ∷ []) []) bytes)
are_bytes off is_held byte bytes b h = grind arith

runs_at : (has_timeout off is_held : Bool) (byte : ℕ) (bytes : List ℕ)
    → (has_timeout && (not off && not (is_empty bytes))) ≡ (has_timeout && (not off && not (is_empty (cond off (cond is_held (byte ∷ []) []) bytes))))
runs_at has_timeout off is_held byte bytes = grind arith

pub timeout : (has_timeout off is_held unused : Bool) (byte : ℕ) (bytes : List ℕ) (now t : ℕ) → is_empty bytes ≡ unused → cond (has_timeout && (not off && not unused)) (not (t == NEVER) && nat_le t (now + longest_timeout)) (t == NEVER) ≡ true → IsTimeout now (has_timeout && (not off && not (is_empty (cond off (cond is_held (byte ∷ []) []) bytes)))) (moment_of t)
timeout has_timeout off is_held unused byte bytes now t e h =
    rw (← runs_at has_timeout off is_held byte bytes, e) (grind (arith, and_parts, not-true, leb-true))

module _ (now tsr due : ℕ) (empty : Bool) where
  pub shift : (idle : Bool) → (same idle (due == NEVER) && cond idle (empty && (tsr == 0)) (nat_lt now due && nat_le due (now + LONGEST_CHARACTER))) ≡ true
      → tsr < 256 → IsShift now (shift_of tsr due)
  shift idle h b = grind (arith, and_parts, not-true, ltb-true, leb-true)

  pub idle-empty : (idle : Bool) → (same idle (due == NEVER) && cond idle (empty && (tsr == 0)) (nat_lt now due && nat_le due (now + LONGEST_CHARACTER))) ≡ true → is_some (shift_of tsr due) ≡ false → empty ≡ true
  idle-empty idle h n = grind (arith, and_parts)

-- ---- the whole port

-- numbers in their kinds' ranges
record HasRanges (n : PortNumbers) : Type 0 where
  divisor : n.divisor < 65536
  lcr : n.lcr < 256
  scr : n.scr < 256
  rbr : n.rbr < 256
  thr : n.thr < 256
  tsr : n.tsr < 256
  rx : AreBytes (stored_bytes n.rx n.rx_ring)
  tx : AreBytes (stored_bytes n.tx n.tx_ring)

implied : (a b : Bool) → (not a || b) ≡ true → a ≡ true → b ≡ true
implied a b h e = grind arith

module _ (level now : ℕ) (n : PortNumbers) (is_level : IsLevel level) (ranges : HasRanges n) (rules : Hold level now n) where
  registers : HasRegisters level n.divisor n.ier n.lcr n.mcr n.scr (is_some (fifos_of n.fcr))
  unfolding registers_hold fcr_holds
  registers = grind (arith, level-on)

  receiver : IsReceiver now level (is_some (fifos_of n.fcr)) (port_of level n).receiver
  unfolding port_of timeout_holds
  receiver = search (arith, is_on, has, stored-short, are_bytes, stored-empty)

  none_waits : has n.lsr 5 ≡ true → is_empty (port_of level n).transmitter.waiting ≡ true
  unfolding port_of status_holds
  none_waits = grind (arith, has, stored-empty, same)

  transmitter : IsTransmitter now (is_some (fifos_of n.fcr)) (port_of level n).transmitter (port_of level n).thr_empty
  unfolding port_of shift_holds latch_holds
  transmitter = rw (is_on n.fcr) (record {
    short = short (n.fcr == 0) (not (has n.lsr 5)) n.thr (stored_bytes n.tx n.tx_ring) (stored-short n.tx n.tx_ring);
    bytes = are_bytes (n.fcr == 0) (not (has n.lsr 5)) n.thr (stored_bytes n.tx n.tx_ring) ranges.thr ranges.tx;
    shift = shift now n.tsr n.tx_due (has n.lsr 5) (has n.lsr 6) rules.shifts ranges.tsr;
    idle = λ e. none_waits (idle-empty now n.tsr n.tx_due (has n.lsr 5) (has n.lsr 6) rules.shifts e);
    latched = λ e. none_waits (implied _ _ (and_parts _ _ rules.latch).1 e);
  })

  sound : IsSound now (port_of level n)
  unfolding port_of
  sound = record { registers = registers; receiver = receiver; transmitter = transmitter }

-- the ranges of cells
module _ (cells : List ℤ) (is : IsPortCells cells) where
  ranges-of : HasRanges (numbers_of cells)
  unfolding numbers_of
  ranges-of =
      let divisor = number-lt U16 (cell_at cells DIVISOR) (is.of_kinds.in_range DIVISOR (omega arith)) in
      let rx = stored-bytes (array_at cells RX_COUNT) (ring_at cells RX_DATA) (bytes-in cells RX (in_arrays cells RX 16 is.of_kinds (omega arith) (omega arith)))
      (bytes-in cells RX_DATA (in_rings cells RX_DATA 16 is.of_kinds (omega arith) (omega arith))) in
      let tx = stored-bytes (array_at cells TX_COUNT) (ring_at cells TX_DATA) (bytes-in cells TX (in_arrays cells TX 16 is.of_kinds (omega arith) (omega arith)))
      (bytes-in cells TX_DATA (in_rings cells TX_DATA 16 is.of_kinds (omega arith) (omega arith))) in
      search (arith, byte-at cells is.of_kinds)

pub restored_is_sound : RestoredIsSound
unfolding port_of
restored_is_sound numbers cells port can e =
    let h = hold numbers.level numbers.moment (numbers_of cells) port (hook-ok _ port e) in
    subst (IsSoundAt numbers.level numbers.moment) h.1 (record {
      sound = sound numbers.level numbers.moment (numbers_of cells) can.pass.is_level (ranges-of cells can.port_cells) h.0;
      own_level = refl;
    })

-- ---- a port is sound exactly if a stream can describe it and the rules hold for what is saved

is-byte : (now : ℕ) (shift : Option Shift) → IsShift now shift → IsByte shift
is-byte now shift s = grind arith

held : (now : ℕ) (port : Port) → now ≤ LAST_MOMENT → IsSound now port → IsHeld port
held now port h s = grind (arith, is-byte)

shift-from : (now : ℕ) (shift : Option Shift) (idle empty five : Bool) → idle ≡ (empty && not (is_some shift)) → IsByte shift
    → (same idle (due_number shift == NEVER) && cond idle five (nat_lt now (due_number shift) && nat_le (due_number shift) (now + LONGEST_CHARACTER))) ≡ true
    → IsShift now shift
shift-from now shift idle empty five e b h = grind arith

idle-from : (shift : Option Shift) (idle empty rest : Bool) → idle ≡ (empty && not (is_some shift)) → (same idle (due_number shift == NEVER) && rest) ≡ true
    → is_some shift ≡ false → empty ≡ true
idle-from shift idle empty rest e h n = grind (arith, and_parts)

timeout-from : (now : ℕ) (runs : Bool) (timeout : Option ℕ) → IsTold timeout → cond runs (not (moment_number timeout == NEVER) && nat_le (moment_number timeout) (now + longest_timeout)) (moment_number timeout == NEVER) ≡ true → IsTimeout now runs timeout
timeout-from now runs timeout t h = grind arith

module _ (now : ℕ) (port : Port) (is : IsHeld port) (rules : Hold port.level now (saved 4 now port)) where
  abbrev lsr : IsStatus (lsr_of port) (not (is_empty port.receiver.held)) port.receiver.overrun (is_empty port.transmitter.waiting)
      (is_empty port.transmitter.waiting && not (is_some port.transmitter.shift))
  lsr = lsr-status port

  port-registers : HasRegisters port.level port.divisor port.ier port.lcr port.mcr port.scr (is_some port.fifos)
  unfolding registers_hold fcr_holds saved
  port-registers = grind (arith, on)

  port-timeout : IsTimeout now (nat_le 3 port.level && (is_some port.fifos && not (is_empty port.receiver.held))) port.receiver.timeout
  unfolding timeout_holds saved
  port-timeout =
      timeout-from now (nat_le 3 port.level && (is_some port.fifos && not (is_empty port.receiver.held))) port.receiver.timeout is.timeout
      (rw (unused-at 4 port.fifos port.receiver.held, runs-same port.fifos port.receiver.held) at rules.timeouts)

  port-shift : IsShift now port.transmitter.shift
  unfolding shift_holds saved
  port-shift = shift-from now port.transmitter.shift (has (lsr_of port) 6) (is_empty port.transmitter.waiting) _ lsr.idle_bit is.shift rules.shifts

  idle : is_some port.transmitter.shift ≡ false → is_empty port.transmitter.waiting ≡ true
  unfolding shift_holds saved
  idle = idle-from port.transmitter.shift (has (lsr_of port) 6) (is_empty port.transmitter.waiting) _ lsr.idle_bit rules.shifts

  port-sound : IsSound now port
  port-sound = search (port-registers, port-timeout, port-shift, idle)

pub sound_meets_rules : SoundMeetsRules
sound_meets_rules now port early = (
  λ s. let r = restored-saved 4 now port early s in (held now port early s, (r.0, r.1)),
  λ h. port-sound now port h.0 (hold port.level now (saved 4 now port) h.1.0 h.1.1).0,
)
