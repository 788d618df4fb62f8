-- Registers as the data sheet has them, the divisor latch, loop mode, and bytes that come in while
-- there is room.
use Rattle.dev_serial.proofs.Facade
use Facade.{refl, NumbersAre, ◌≡◌, ℕ, Bool, true, false, not, List, [], ◌∷◌, ◌++◌, Option, Some, None, sym, ◌∙◌, arith, is_some}
use Facade.{is_empty, switch_of, fcr_cleared, fcr_written, nat_tests, receiver_cleared, transmitter_cleared, read_of, thr_written, ier_written, written}
use Facade.{came_in, advanced, has, Port, asks, interrupt, is_pending, line_of, IsFirstAsking, IdentifiesFirst, SomeAsks, LineTellsAsking, HasNoBytes}
use Facade.{SwitchClearsBoth, IsResetBy, ResetsByBits, StaysOff, IsSwitched, WritesSwitch, Interrupt, NonePending, Trigger, ReadsKeepLevel, WritesKeepLevel}
use Facade.{BytesInKeepLevel, AdvancesKeepLevel, cond_both, first_asking, priorities, All-cons, All-nil, LoopsModem, ◌+◌, ◌*◌, ◌%◌, ◌<◌, bit_or}
use Facade.{bits_where, msr_of, ReachesDivisor, ◌≤◌, length, append_assoc, append-nil, common_steps, room_of, received, all_came, RoomIsHeld}

-- ---- the numbers are the constants' by their definition

pub numbers_are : NumbersAre
numbers_are = record { fifo = refl; sent = refl; character = refl; never = refl; fifos = refl; timeout = refl; rings = refl }

-- ---- the identified interrupt, the effects of the FIFO control register, and the level, which each call keeps

module _ (now : ℕ) (port : Port) where
  abbrev Silent : Interrupt → Type 0
  Silent interrupt = asks now port interrupt ≡ false

  abbrev Pending : Interrupt → Type 0
  Pending interrupt = is_pending interrupt ≡ true

  -- of any list, with NonePending after it
  first : (list : List Interrupt) → IsFirstAsking now port (list ++ NonePending ∷ []) (first_asking now port list)
  first [] = record { itself = refl; higher = []; lower = []; order = refl; silent = All-nil Silent }
  first (one ∷ list) =
      cond_both (asks now port one) _ _ (IsFirstAsking now port (one ∷ (list ++ NonePending ∷ [])))
      (λ asked. record { itself = asked; higher = []; lower = list ++ NonePending ∷ []; order = refl; silent = All-nil Silent })
      (λ silent.
      let rest = first list in
      record {
        itself = rest.itself;
        higher = one ∷ rest.higher;
        lower = rest.lower;
        order = rw (rest.order);
        silent = All-cons Silent one rest.higher silent rest.silent;
      })

  line : (line_of now port ≡ true → SomeAsks now port) × (SomeAsks now port → line_of now port ≡ true)
  unfolding line_of interrupt
  line = (λ h. (interrupt now port, h, (first priorities).itself), λ s. grind arith)

pub identifies_first : IdentifiesFirst
unfolding interrupt
identifies_first now port = first now port priorities

pub line_tells_asking : LineTellsAsking
line_tells_asking now port = line now port

-- the FIFO control register
switched_to : (value : ℕ) → is_some (switch_of value) ≡ has value 0
switched_to value = grind (arith, has, is_some)

module _ (value : ℕ) (port : Port) where
  both : (before after : Option Trigger) → is_some after ≡ not (is_some before) → HasNoBytes (record (fcr_cleared before after value port) { fifos = after })
  unfolding fcr_cleared
  both before after e = grind arith

  reset : (before after : Option Trigger) → is_some before ≡ true → is_some after ≡ true
      → IsResetBy value port (record (fcr_cleared before after value port) { fifos = after })
  unfolding fcr_cleared
  reset (Some before) (Some after) b a = grind arith
  reset _ _ b a = cc

  off : (before after : Option Trigger) → port.fifos ≡ before → before ≡ None → is_some after ≡ false
      → record (fcr_cleared before after value port) { fifos = after } ≡ port
  unfolding fcr_cleared
  off before after e b a = grind arith

  left : (second first : Bool) (fifos : Option Trigger) → fifos ≡ switch_of value
      → IsSwitched value port (record (transmitter_cleared second (receiver_cleared first port)) { fifos = fifos })
  left second first fifos e = grind (arith, is_empty)

  switched : (before after : Option Trigger) → after ≡ switch_of value → IsSwitched value port (record (fcr_cleared before after value port) { fifos = after })
  unfolding fcr_cleared
  switched before after e = grind (arith, left, has)

pub switch_clears_both : SwitchClearsBoth
unfolding fcr_written
switch_clears_both value port e = both value port port.fifos (switch_of value) (switched_to value ∙ e)

pub resets_by_bits : ResetsByBits
unfolding fcr_written
resets_by_bits value port b a = reset value port port.fifos (switch_of value) b (switched_to value ∙ a)

pub stays_off : StaysOff
unfolding fcr_written
stays_off value port b a = off value port port.fifos (switch_of value) refl b (switched_to value ∙ a)

pub writes_switch : WritesSwitch
unfolding fcr_written
writes_switch value port = switched value port port.fifos (switch_of value) refl

-- ---- each call keeps the level

module _ (port : Port) where
  -- clearing by the FIFO control register changes neither the level nor the divisor
  abbrev Stays : Port → Type 0
  Stays after = (after.level ≡ port.level) × (after.divisor ≡ port.divisor)

  pub switch_stays : (value : ℕ) (before after : Option Trigger) → Stays (fcr_cleared before after value port)
  unfolding fcr_cleared
  switch_stays value before after = grind arith

pub reads_keep_level : ReadsKeepLevel
unfolding read_of
reads_keep_level offset now port = grind (arith, nat_tests)

pub writes_keep_level : WritesKeepLevel
unfolding written thr_written ier_written fcr_written
writes_keep_level offset value now port = let stays = switch_stays port value port.fifos (switch_of value) in grind (arith, nat_tests)

pub bytes_in_keep_level : BytesInKeepLevel
unfolding came_in
bytes_in_keep_level byte now port = grind (arith, nat_tests)

pub advances_keep_level : AdvancesKeepLevel
unfolding advanced
advances_keep_level to port = refl

-- ---- the divisor latch

both_written : (low high now later : ℕ) (port : Port) → low < 256 → has port.lcr 7 ≡ true
    → written 1 high later (written 0 low now port) ≡ record port { divisor = 256 * high + low }
unfolding written
both_written low high now later port byte set = grind arith

hidden : (offset value now : ℕ) (port : Port) → has port.lcr 7 ≡ false → (written offset value now port).divisor ≡ port.divisor
unfolding written thr_written ier_written fcr_written
hidden offset value now port clear = let stays = switch_stays port value port.fifos (switch_of value) in grind (arith, nat_tests)

pub reaches_divisor : ReachesDivisor
unfolding read_of
reaches_divisor = record { low = λ now port set. rw set; high = λ now port set. rw set; both = both_written; hidden = hidden }

-- ---- the modem status in loop mode

-- the status by the four outputs, request to send, data terminal ready, OUT1 and OUT2
abbrev status_by : (rts dtr out1 out2 : Bool) → ℕ
status_by rts dtr out1 out2 = bit_or (bit_or (bit_or (bits_where rts 0x10) (bits_where dtr 0x20)) (bits_where out1 0x40)) (bits_where out2 0x80)

record HasBits (rts dtr out1 out2 : Bool) (msr : ℕ) : Type 0 where
  cts : has msr 4 ≡ rts
  dsr : has msr 5 ≡ dtr
  ri : has msr 6 ≡ out1
  dcd : has msr 7 ≡ out2
  changes : msr % 16 ≡ 0

pub loops_modem : LoopsModem
unfolding read_of msr_of
loops_modem = search (arith, has)

-- ---- bytes that come in while there is room

-- a byte for which there is room
record Held (byte : ℕ) (old new : Port) : Type 0 where
  held : new.receiver.held ≡ old.receiver.held ++ byte ∷ []
  overrun : new.receiver.overrun ≡ old.receiver.overrun
  room : room_of new + 1 ≡ room_of old

one_held : (now byte : ℕ) (port : Port) → 1 ≤ room_of port → Held byte port (came_in byte now port)
unfolding came_in received
one_held now byte port h = search (arith, common_steps)

-- the port after all bytes came
record AreHeld (bytes : List ℕ) (port after : Port) : Type 0 where
  held : after.receiver.held ≡ port.receiver.held ++ bytes
  overrun : after.receiver.overrun ≡ port.receiver.overrun

all_held : (now : ℕ) (bytes : List ℕ) (port : Port) → length bytes ≤ room_of port → AreHeld bytes port (all_came now bytes port)
all_held now [] port h = record { held = sym (append-nil port.receiver.held); overrun = refl }
all_held now (byte ∷ bytes) port h =
    let one = one_held now byte port (omega arith) in
    let rest = all_held now bytes (came_in byte now port) (omega arith) in
    record { held = rest.held ∙ rw (one.held, append_assoc); overrun = rest.overrun ∙ one.overrun }

pub room_is_held : RoomIsHeld
unfolding came_in received
room_is_held = search (arith, all_held, common_steps)
