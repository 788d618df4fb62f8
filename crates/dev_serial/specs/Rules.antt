-- The rules for restored numbers, each with its number (docs/devices.md lists them).
use Rattle.std.specs.Prelude.{ℕ, pos, negsuc, ◌+◌, ◌*◌, ◌%◌, ◌==◌, Bool, nat_le, nat_lt, ◌&&◌, ◌||◌, not, if◌then◌else◌, bit_and, List, [], ◌∷◌, Result}
use Rattle.std.specs.Ordering.{int_eq}
use Rattle.dev_base.specs.Rules.{judged}
use Rattle.dev_base.specs.Bits.{has, same}
use Rattle.dev_serial.specs.Port.{Port, interrupt, id_number}
use Rattle.dev_serial.specs.PortNumbers.{latch_of, port_of}
use Rattle.dev_serial.specs.Stored.{ring_holds}
use Rattle.dev_serial.specs.declared.levels.TheConstants.{FIFOS_SINCE, TIMEOUT_SINCE}
use Rattle.dev_serial.specs.declared.numbers.PortNumbers.{PortNumbers}
use Rattle.dev_serial.specs.declared.stored.Counted.{Counted}
use Rattle.dev_serial.specs.declared.stored.Ring.{Ring}
use Rattle.dev_serial.specs.declared.mode.TheConstants.{LONGEST_CHARACTER}
use Rattle.dev_serial.specs.declared.numbers.TheConstants.{NEVER}

-- The length of the longest timeout: four of the longest characters.
abbrev pub longest_timeout : ℕ
longest_timeout = 4 * LONGEST_CHARACTER

-- Whether a direction's count and number are both 0.
abbrev pub is_unused : Counted → Ring → Bool
is_unused array ring = (array.count == 0) && (ring.number == 0)

-- Whether a direction's count or number is 0.
abbrev pub is_stored_once : Counted → Ring → Bool
is_stored_once array ring = (array.count == 0) || (ring.number == 0)

-- Rule 1: ier is at most 15, mcr at most 31, and lsr has no other bits than 0, 1, 5 and 6.
unfoldable pub registers_hold : PortNumbers → Bool
registers_hold n = nat_le n.ier 15 && (nat_le n.mcr 31 && (bit_and n.lsr 0x63 == n.lsr))

-- Rule 2: fcr is 0; or the level has FIFOs, bit 0 is set, and bits 5 to 1 are clear.
unfoldable pub fcr_holds : ℕ → PortNumbers → Bool
fcr_holds level n = (n.fcr == 0) || (nat_le FIFOS_SINCE level && (n.fcr % 64 == 1))

-- Rule 3: with FIFOs off both counts and both numbers are 0; with FIFOs on rbr and thr are 0.
unfoldable pub unused_hold : PortNumbers → Bool
unused_hold n =
    if n.fcr == 0 then is_unused n.rx n.rx_ring && is_unused n.tx n.tx_ring else (n.rbr == 0) && (n.thr == 0)

-- Rule 4: with FIFOs off, rbr is 0 if lsr bit 0 is clear, and thr is 0 if bit 5 is set. With FIFOs
-- on, bit 0 is set exactly if rx_count or rx_number isn't 0, and bit 5 exactly if tx_count and
-- tx_number are 0.
unfoldable pub status_holds : PortNumbers → Bool
status_holds n =
    if n.fcr == 0 then (has n.lsr 0 || (n.rbr == 0)) && (not (has n.lsr 5) || (n.thr == 0))
    else same (has n.lsr 0) (not (is_unused n.rx n.rx_ring)) && same (has n.lsr 5) (is_unused n.tx n.tx_ring)

-- Rule 5: lsr bit 6 is set exactly if tx_due is never. Then bit 5 is set and tsr is 0. Any other
-- tx_due is after now, by at most the longest character.
unfoldable pub shift_holds : ℕ → PortNumbers → Bool
shift_holds now n =
    same (has n.lsr 6) (n.tx_due == NEVER)
    && (if has n.lsr 6 then has n.lsr 5 && (n.tsr == 0) else nat_lt now n.tx_due && nat_le n.tx_due (now + LONGEST_CHARACTER))

-- Rule 6: below the level of the timeout, timeout_at is never. From that level on it is another
-- number exactly if FIFOs are on and rx_count or rx_number isn't 0. It is then at most four of the
-- longest characters after now.
unfoldable pub timeout_holds : ℕ → ℕ → PortNumbers → Bool
timeout_holds level now n =
    if nat_le TIMEOUT_SINCE level && (not (n.fcr == 0) && not (is_unused n.rx n.rx_ring))
    then not (n.timeout_at == NEVER) && nat_le n.timeout_at (now + longest_timeout)
    else n.timeout_at == NEVER

-- Rule 7: thr_ipending is -1, 0 or 1. If the restored latch is set, lsr bit 5 is set.
unfoldable pub latch_holds : PortNumbers → Bool
latch_holds n =
    (int_eq n.thr_ipending (negsuc 0) || (int_eq n.thr_ipending (pos 0) || int_eq n.thr_ipending (pos 1)))
    && (not (latch_of n.iir n.thr_ipending) || has n.lsr 5)

-- Rule 8: iir is the identification of the restored port.
unfoldable pub id_holds : ℕ → ℕ → PortNumbers → Bool
id_holds level now n = n.iir == id_number (interrupt now (port_of level n))

-- Rule 9: in each direction the count or the number is 0.
unfoldable pub once_holds : PortNumbers → Bool
once_holds n = is_stored_once n.rx n.rx_ring && is_stored_once n.tx n.tx_ring

-- Rule 10: in each direction head is at most 15 and number at most 16, head is 0 if number is 0,
-- and the elements that aren't held are 0.
unfoldable pub rings_hold : PortNumbers → Bool
rings_hold n = ring_holds n.rx_ring && ring_holds n.tx_ring

-- The rules in their order.
abbrev pub rules : ℕ → ℕ → PortNumbers → List Bool
rules level now n =
    registers_hold n ∷ fcr_holds level n ∷ unused_hold n ∷ status_holds n ∷ shift_holds now n ∷ timeout_holds level now n
    ∷ latch_holds n ∷ id_holds level now n ∷ once_holds n ∷ rings_hold n ∷ []

-- The port of these numbers, or the number of the first rule that fails.
unfoldable pub restored : ℕ → ℕ → PortNumbers → Result Port ℕ
restored level now n = judged (rules level now n) (port_of level n)
