-- Ports that are alike answer each call alike.
use Rattle.dev_serial.proofs.Facade
use Facade.{arith, ◌≡◌, ℕ, ℤ, Bool, true, not, ◌&&◌, cond, refl, pos, negsuc, ◌||◌, Option, ◌∙◌, int_eq, bit_and, bit_or, is_some}
use Facade.{is_empty, lsr_of, iir_of, read_of, thr_written, ier_written, switch_of, fcr_cleared, fcr_written, receiver_cleared, transmitter_cleared, written}
use Facade.{came_in, advanced, has, bits_where, ipending_of, latch_of, saved, Port, id_number, is_thr_empty, interrupt, line_of, Interrupt, LineStatus}
use Facade.{ReceivedData, CharacterTimeout, ThrEmpty, NonePending, AlikeItself, AlikeBack, AlikeOn, AnswersAlike, ReadsAlike, nat_tests, WritesAlike}
use Facade.{BytesInAlike, AdvancesAlike, SavesAlike, LinesAlike, Alike, Trigger}

-- ---- the line status and the saved latch, as tables of truth

abbrev pub status_of : Bool → Bool → Bool → Bool → ℕ
status_of ready overrun empty idle = bit_or (bit_or (bit_or (bits_where ready 0x01) (bits_where overrun 0x02)) (bits_where empty 0x20)) (bits_where idle 0x40)

-- a line status shows these four
pub record IsStatus (lsr : ℕ) (ready overrun empty idle : Bool) : Type 0 where
  pub ready_bit : has lsr 0 ≡ ready
  pub overrun_bit : has lsr 1 ≡ overrun
  pub empty_bit : has lsr 5 ≡ empty
  pub idle_bit : has lsr 6 ≡ idle
  pub mask : bit_and lsr 0x63 ≡ lsr

pub status : (ready overrun empty idle : Bool) → IsStatus (status_of ready overrun empty idle) ready overrun empty idle
status ready overrun empty idle = search arith

-- the line status of a port
pub lsr-status : (port : Port) → IsStatus (lsr_of port) (not (is_empty port.receiver.held)) port.receiver.overrun (is_empty port.transmitter.waiting) (is_empty port.transmitter.waiting && not (is_some port.transmitter.shift))
unfolding lsr_of
lsr-status port = status _ _ _ _

-- the identification if these three come first, with the enabled bit and the latch
abbrev pub identified : Bool → Bool → Bool → Bool → Bool → Interrupt
identified status ready timeout enabled latch =
    cond status LineStatus (cond ready ReceivedData (cond timeout CharacterTimeout (cond (enabled && latch) ThrEmpty NonePending)))

abbrev pub ipending_at : Bool → Bool → Bool → Bool → Bool → ℤ
ipending_at status ready timeout enabled latch = ipending_of enabled latch (is_thr_empty (identified status ready timeout enabled latch))

-- the latch that is restored of what is saved
abbrev pub latch_back : Bool → Bool → Bool → Bool → Bool → Bool
latch_back status ready timeout enabled latch =
    latch_of (id_number (identified status ready timeout enabled latch)) (ipending_at status ready timeout enabled latch)

pub record IsLatchBack (status ready timeout enabled latch : Bool) : Type 0 where
  pub same_id : identified status ready timeout enabled (latch_back status ready timeout enabled latch) ≡ identified status ready timeout enabled latch
  pub while_enabled : enabled ≡ true → latch_back status ready timeout enabled latch ≡ latch
  pub was_set : latch_back status ready timeout enabled latch ≡ true → latch ≡ true
  pub known : (int_eq (ipending_at status ready timeout enabled latch) (negsuc 0) || (int_eq (ipending_at status ready timeout enabled latch) (pos 0) || int_eq (ipending_at status ready timeout enabled latch) (pos 1))) ≡ true

pub latch_comes_back : (status ready timeout enabled latch : Bool) → IsLatchBack status ready timeout enabled latch
latch_comes_back status ready timeout enabled latch = search arith

-- ---- calls

-- the other port is the first with another latch
module _ (port : Port) (latch : Bool) (h : has port.ier 1 ≡ true → latch ≡ port.thr_empty) where
  abbrev other : Port
  other = record port { thr_empty = latch }

  alike : Alike port other
  alike = record { same = refl; enabled = h }

  same_interrupt : (now : ℕ) → interrupt now other ≡ interrupt now port
  unfolding interrupt
  same_interrupt now = grind arith

  same_line : (now : ℕ) → line_of now other ≡ line_of now port
  unfolding line_of
  same_line now = rw (same_interrupt now)

  same_saved : (set now : ℕ) → saved set now other ≡ saved set now port
  unfolding saved lsr_of
  same_saved set now = grind (arith, same_interrupt, has)

  read-alike : (offset now : ℕ) → AnswersAlike (read_of offset now port) (read_of offset now other)
  unfolding read_of lsr_of iir_of
  read-alike offset now = search (arith, nat_tests, same_interrupt)

  ier-alike : (value : ℕ) → Alike (ier_written value port) (ier_written value other)
  unfolding ier_written
  ier-alike value = search (arith, has, is_empty)

  cleared-alike : (clears_sent clears_held : Bool) (fifos : Option Trigger) → Alike (record (transmitter_cleared clears_sent (receiver_cleared clears_held port)) { fifos = fifos }) (record (transmitter_cleared clears_sent (receiver_cleared clears_held other)) { fifos = fifos })
  cleared-alike clears_sent clears_held fifos = search arith

  switched-alike : (value : ℕ) (before after : Option Trigger)
      → Alike (record (fcr_cleared before after value port) { fifos = after }) (record (fcr_cleared before after value other) { fifos = after })
  unfolding fcr_cleared
  switched-alike value before after = grind (arith, cleared-alike, has)

  fcr-alike : (value : ℕ) → Alike (fcr_written value port) (fcr_written value other)
  unfolding fcr_written
  fcr-alike value = switched-alike value port.fifos (switch_of value)

  write-alike : (offset value now : ℕ) → Alike (written offset value now port) (written offset value now other)
  unfolding written thr_written
  write-alike offset value now = search (arith, nat_tests, ier-alike, fcr-alike)

  advance-alike : (to : ℕ) → AnswersAlike (advanced to port) (advanced to other)
  unfolding advanced
  advance-alike to = record { value = refl; alike = record { same = refl; enabled = λ e. rw (h e) } }

pub reads_alike : ReadsAlike
reads_alike offset now port other a = rw a.same (read-alike port other.thr_empty a.enabled offset now)

pub writes_alike : WritesAlike
writes_alike offset value now port other a = rw a.same (write-alike port other.thr_empty a.enabled offset value now)

pub bytes_in_alike : BytesInAlike
unfolding came_in
bytes_in_alike byte now port other a = rw a.same (search (arith, nat_tests))

pub advances_alike : AdvancesAlike
advances_alike to port other a = rw a.same (advance-alike port other.thr_empty a.enabled to)

pub saves_alike : SavesAlike
saves_alike set now port other a = rw a.same (same_saved port other.thr_empty a.enabled set now)

pub lines_alike : LinesAlike
lines_alike now port other a = rw a.same (same_line port other.thr_empty a.enabled now)

-- to be alike is an equivalence
pub alike_itself : AlikeItself
alike_itself port = record { same = refl; enabled = λ e. refl }

pub alike_back : AlikeBack
alike_back port other a = search arith

pub alike_on : AlikeOn
alike_on port _ third a b = record { same = cc; enabled = λ e. b.enabled (rw (a.same) (e)) ∙ a.enabled e }
