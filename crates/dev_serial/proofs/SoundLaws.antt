-- Each step of a part keeps it sound, also a byte that waits while the shift register is busy.
use Rattle.dev_serial.proofs.{SendingLaws.bytes_of-timetable, SendingLaws.fewer, WaitLaws.stays_empty}
use Rattle.dev_serial.proofs.Facade
use Facade.{◌≡◌, ℕ, ◌+◌, ◌*◌, ◌<◌, ◌≤◌, Bool, true, false, not, ◌&&◌, cond, List, ◌∷◌, ◌++◌, length, Option, Some, None}
use Facade.{refl, arith, length-append, ◌⊎◌, mul-le-mul, nat_tests, ne_eqb, leb-true, nat_le, max, is_some, is_empty, has, bits_where, character_time}
use Facade.{character_bits, ReceiverState, TransmitterState, IsShort, [], received, taken_at, emptied, longest_timeout, LongestCharacter, AreBytes, IsTimeout}
use Facade.{IsReceiver, IsShift, IsTransmitter, queued, loaded, timetable, departures, gone, staying, holding, arrived, run_until, gone_by, Mode, Shift}
use Facade.{LONGEST_CHARACTER, ◌||◌, thr_written, written, Port, queues, interrupt, line_of}

-- ---- each step of a part

pub not_empty : (byte : ℕ) (bytes : List ℕ) → is_empty (byte ∷ bytes) ≡ false
not_empty byte bytes = grind arith

pub AreBytes-push : (bytes : List ℕ) (byte : ℕ) → AreBytes bytes → byte < 256 → AreBytes (bytes ++ byte ∷ [])
AreBytes-push [] byte h b = (b, tt)
AreBytes-push (x ∷ bytes) byte h b = (h.0, AreBytes-push bytes byte h.1 b)

pushed-full : (bytes : List ℕ) (byte : ℕ) → is_empty (bytes ++ byte ∷ []) ≡ false
pushed-full [] byte = refl
pushed-full (x ∷ bytes) byte = not_empty x (bytes ++ byte ∷ [])

many-full : (bytes : List ℕ) → 16 ≤ length bytes → is_empty bytes ≡ false
many-full bytes h = ne_eqb (length bytes) 0 (λ e. omega arith)

bit-one : (b : Bool) → bits_where b 1 ≤ 1
bit-one b = grind arith

pub character-longest : (divisor lcr : ℕ) → divisor < 65536 → character_time divisor lcr ≤ LONGEST_CHARACTER
unfolding character_time
character-longest divisor lcr h =
    let bits : character_bits lcr ≤ 12 = omega (arith, bit-one (has lcr 3), bit-one (has lcr 2)) in
    let most : max divisor 1 ≤ 65535 = omega arith in
    let product : character_bits lcr * max divisor 1 ≤ 12 * 65535 = mul-le-mul bits most in
    omega arith

pub longest_character : LongestCharacter
unfolding character_time
longest_character = record { reached = refl; most = λ divisor lcr h. character-longest divisor lcr h }

-- a moment that a character after now starts anew
abbrev pub mode_at : ℕ → Bool → Bool → Bool → Mode
mode_at character on has_timeout looped = record { character = character; has_fifos = on; times_out = has_timeout && on; is_looped = looped }

module _ (now at character byte : ℕ) (looped : Bool) (receiver : ReceiverState) (early : at ≤ now) (quick : character ≤ LONGEST_CHARACTER) where
  in_time : at + 4 * character ≤ now + longest_timeout
  in_time = omega arith

  received-bytes : (on has_timeout : Bool) → byte < 256 → AreBytes receiver.held
      → AreBytes (received (mode_at character on has_timeout looped) byte at receiver).held
  unfolding received
  received-bytes on has_timeout b s = grind (arith, nat_tests, AreBytes-push)

  received-timeout : (on has_timeout : Bool) → IsTimeout now (has_timeout && (on && not (is_empty receiver.held))) receiver.timeout → IsTimeout now (has_timeout && (on && not (is_empty (received (mode_at character on has_timeout looped) byte at receiver).held))) (received (mode_at character on has_timeout looped) byte at receiver).timeout
  unfolding received
  received-timeout on has_timeout s = search (arith, nat_tests, pushed-full, many-full, in_time)

  pub received-sound : (level : ℕ) (on : Bool) → byte < 256 → IsReceiver now level on receiver
      → IsReceiver now level on (received (mode_at character on (nat_le 3 level) looped) byte at receiver)
  unfolding received
  received-sound level on b s = search (arith, nat_tests, length-append, received-bytes, received-timeout)

-- the first byte leaves
module _ (now at character : ℕ) (looped : Bool) (early : at ≤ now) (quick : character ≤ LONGEST_CHARACTER) where
  pub taken-held : (level : ℕ) (on : Bool) (held : List ℕ) (receiver : ReceiverState) → receiver.held ≡ held → IsReceiver now level on receiver
      → IsReceiver now level on (taken_at (mode_at character on (nat_le 3 level) looped) at held receiver).1
  unfolding taken_at
  taken-held level on held receiver e s = grind (arith, nat_tests)

-- the receiver without its bytes, with FIFOs or not
pub emptied-sound : (now level : ℕ) (on : Bool) (receiver : ReceiverState) → IsReceiver now level on (emptied receiver)
emptied-sound now level on receiver = search (arith, nat_tests)

-- a byte is written
queued-short : (on : Bool) (byte : ℕ) (waiting : List ℕ) → IsShort on waiting → IsShort on (queued on byte waiting)
unfolding queued
queued-short on byte waiting s = search (arith, nat_tests, length-append)

queued-bytes : (on : Bool) (byte : ℕ) (waiting : List ℕ) → byte < 256 → AreBytes waiting → AreBytes (queued on byte waiting)
unfolding queued
queued-bytes on byte waiting b s = grind (arith, nat_tests, AreBytes-push)

loaded-sound : (now due : ℕ) (on : Bool) (shift : Option Shift) (waiting : List ℕ) → now < due → due ≤ now + LONGEST_CHARACTER → IsShort on waiting
    → AreBytes waiting → IsShift now shift → IsTransmitter now on (loaded due shift waiting) (is_empty (loaded due shift waiting).waiting)
unfolding loaded
loaded-sound now due on (Some shift) waiting l h s b t = record { short = s; bytes = b; shift = t; idle = λ e. cc; latched = λ e. e }
loaded-sound now due on None [] l h s b t = record { short = s; bytes = b; shift = tt; idle = λ e. refl; latched = λ e. e }
loaded-sound now due on None (byte ∷ rest) l h s b t = search arith

pub thr-sound : (now character byte : ℕ) (on latch : Bool) (transmitter : TransmitterState) → 1 ≤ character → character ≤ LONGEST_CHARACTER → byte < 256 → IsTransmitter now on transmitter latch → IsTransmitter now on (loaded (now + character) transmitter.shift (queued on byte transmitter.waiting)) (is_empty (loaded (now + character) transmitter.shift (queued on byte transmitter.waiting)).waiting)
thr-sound now character byte on latch transmitter p q b s =
    loaded-sound now (now + character) on transmitter.shift (queued on byte transmitter.waiting) (omega arith) (omega arith)
    (queued-short on byte transmitter.waiting s.short) (queued-bytes on byte transmitter.waiting b s.bytes) s.shift

-- another latch
pub latched-sound : (now : ℕ) (on first second : Bool) (transmitter : TransmitterState) → (second ≡ true → (first ≡ true) ⊎ (is_empty transmitter.waiting ≡ true)) → IsTransmitter now on transmitter first → IsTransmitter now on transmitter second
latched-sound now on first second transmitter h s = grind arith

-- no byte waits any more, with FIFOs or not
pub cleared-sound : (now : ℕ) (on other latch new_latch : Bool) (transmitter : TransmitterState) → IsTransmitter now on transmitter latch
    → IsTransmitter now other (record { waiting = []; shift = transmitter.shift }) new_latch
cleared-sound now on other latch new_latch transmitter s = search arith

-- ---- the passing of time

-- the bytes that a transmitter holds after a moment
record HoldsSound (to : ℕ) (transmitter : TransmitterState) : Type 0 where
  shift : IsShift to transmitter.shift
  bytes : AreBytes transmitter.waiting
  idle : is_some transmitter.shift ≡ false → is_empty transmitter.waiting ≡ true

holding-sound : (character to due : ℕ) (bytes : List ℕ) → character ≤ LONGEST_CHARACTER → due ≤ to + LONGEST_CHARACTER → AreBytes bytes
    → HoldsSound to (holding (staying to (timetable character due bytes)))
unfolding timetable staying holding
holding-sound character to due [] q h b = record { shift = tt; bytes = tt; idle = λ _. refl }
holding-sound character to due (byte ∷ bytes) q h b =
    let later = λ (l : due ≤ to). holding-sound character to (due + character) bytes q (omega arith) b.1 in
    search (arith, nat_tests, bytes_of-timetable, leb-true)

run-sound : (character now to : ℕ) (shift : Option Shift) (waiting : List ℕ) → character ≤ LONGEST_CHARACTER → now ≤ to → IsShift now shift → AreBytes waiting
    → (is_some shift ≡ false → is_empty waiting ≡ true) → HoldsSound to (run_until character to shift waiting)
unfolding run_until departures
run-sound character now to shift waiting q l s b i = search (arith, holding-sound)

latched : (end before latch : Bool) → (latch ≡ true → end ≡ true) → cond (end && not before) true latch ≡ true → end ≡ true
latched end before latch h e = grind arith

pub advance-transmitter : (character now to : ℕ) (on latch : Bool) (transmitter : TransmitterState) → character ≤ LONGEST_CHARACTER → now ≤ to → IsTransmitter now on transmitter latch → IsTransmitter to on (run_until character to transmitter.shift transmitter.waiting) (cond (is_empty (run_until character to transmitter.shift transmitter.waiting).waiting && not (is_empty transmitter.waiting)) true latch)
advance-transmitter character now to on latch transmitter q l s =
    let few = fewer character to transmitter.shift transmitter.waiting in
    let holds = run-sound character now to transmitter.shift transmitter.waiting q l s.shift s.bytes s.idle in
    search (arith, latched, stays_empty)

-- the bytes that leave are bytes, and left by the moment
AreGone : ℕ → List Shift → Type 0
AreGone to [] = Unit {0}
AreGone to (shift ∷ later) = (shift.due ≤ to) × (shift.byte < 256) × AreGone to later

gone-are : (character to due : ℕ) (bytes : List ℕ) → AreBytes bytes → AreGone to (gone to (timetable character due bytes))
unfolding timetable gone AreGone
gone-are character to due [] b = tt
gone-are character to due (byte ∷ bytes) b = grind (arith, nat_tests, gone-are character to (due + character) bytes b.1)

gone_by-are : (character now to : ℕ) (shift : Option Shift) (waiting : List ℕ) → IsShift now shift → AreBytes waiting
    → AreGone to (gone_by character to shift waiting)
unfolding departures gone AreGone
gone_by-are character now to shift waiting s b = grind (arith, gone-are)

arrived-sound : (character to level : ℕ) (on looped : Bool) (shifts : List Shift) (receiver : ReceiverState) → character ≤ LONGEST_CHARACTER
    → AreGone to shifts → IsReceiver to level on receiver → IsReceiver to level on (arrived (mode_at character on (nat_le 3 level) looped) shifts receiver)
unfolding arrived AreGone
arrived-sound character to level on looped [] receiver q g s = s
arrived-sound character to level on looped (shift ∷ later) receiver q g s =
    arrived-sound character to level on looped later _ q g.2 (received-sound to shift.due character shift.byte looped receiver g.0 q level on g.1 s)

later-receiver : (now to level : ℕ) (on : Bool) (receiver : ReceiverState) → now ≤ to → IsReceiver now level on receiver → IsReceiver to level on receiver
later-receiver now to level on receiver l s = search arith

pub advance-receiver : (character now to level : ℕ) (on looped : Bool) (shift : Option Shift) (waiting : List ℕ) (receiver : ReceiverState) → character ≤ LONGEST_CHARACTER → now ≤ to → IsShift now shift → AreBytes waiting → IsReceiver now level on receiver → IsReceiver to level on (cond looped (arrived (mode_at character on (nat_le 3 level) looped) (gone_by character to shift waiting) receiver) receiver)
advance-receiver character now to level on true shift waiting receiver q l h b s =
    arrived-sound character to level on true _ receiver q (gone_by-are character now to shift waiting h b) (later-receiver now to level on receiver l s)
advance-receiver character now to level on false shift waiting receiver q l h b s = later-receiver now to level on receiver l s

-- ---- a byte that is written while the shift register is busy

-- a byte waits then
queued-filled : (has_fifos : Bool) (byte : ℕ) (waiting : List ℕ) → is_empty (queued has_fifos byte waiting) ≡ false
unfolding queued
queued-filled has_fifos byte waiting = grind (arith, nat_tests, length-append)

loaded-busy : (due : ℕ) (shift : Option Shift) (waiting : List ℕ) → is_some shift ≡ true
    → loaded due shift waiting ≡ record { waiting = waiting; shift = shift }
unfolding loaded
loaded-busy due shift waiting busy = grind arith

-- what holds if a byte only waits
parts : (divisor latch busy : Bool) → not (divisor || latch || not busy) ≡ true → (divisor ≡ false) × (latch ≡ false) × (busy ≡ true)
parts divisor latch busy e = grind arith

-- the port after the write
pub queue-written : (byte now : ℕ) (port : Port) → queues port ≡ true
    → record port { transmitter = record port.transmitter { waiting = queued (is_some port.fifos) byte port.transmitter.waiting } } ≡ written 0 byte now port
unfolding queues written thr_written
queue-written byte now port e =
    let q = parts (has port.lcr 7) port.thr_empty (is_some port.transmitter.shift) e in
    let waiting = queued (is_some port.fifos) byte port.transmitter.waiting in
    let filled : is_empty waiting ≡ false = queued-filled (is_some port.fifos) byte port.transmitter.waiting in
    rw (q.0, loaded-busy _ port.transmitter.shift waiting q.2, filled, q.1)

-- the transmitter alone drives no line
pub queue-line : (now : ℕ) (transmitter : TransmitterState) (port : Port) → line_of now (record port { transmitter = transmitter }) ≡ line_of now port
unfolding line_of interrupt
queue-line now transmitter port = refl

-- the same by what a call saw and returned
pub queued-by : (byte now : ℕ) (port seen : Port) (transmitter : TransmitterState) (has_fifos : Bool) → port ≡ seen
    → queues seen ≡ true → has_fifos ≡ is_some port.fifos → transmitter ≡ record port.transmitter { waiting = queued has_fifos byte port.transmitter.waiting }
    → record port { transmitter = transmitter } ≡ written 0 byte now seen
queued-by byte now port seen transmitter has_fifos view q fifos e = grind (arith, queue-written, written)
