-- The laws of the identification, of the FIFO control register, of the divisor latch and of the
-- modem status in loop mode. Their terms are those of the NS16550A data sheet.
use Rattle.std.specs.Prelude.{◌≡◌, ℕ, ◌+◌, ◌*◌, ◌/◌, ◌%◌, ◌<◌, ◌↔◌, true, false, ◌&&◌, not, if◌then◌else◌, List, [], ◌∷◌, ◌++◌, All, None, is_some}
use Rattle.dev_serial.specs.Access.{is_empty, switch_of, fcr_written, msr_of, read_of, written}
use Rattle.dev_base.specs.Bits.{has}
use Rattle.dev_serial.specs.Port.{Port, asks, interrupt, is_pending, line_of, priorities}
use Rattle.dev_serial.specs.declared.interrupt.Interrupt.{Interrupt}
use Rattle.dev_serial.specs.declared.interrupt.Interrupt.TheVariants.{NonePending}

-- Of the interrupts of a list, `identified` is requested, and none before it is.
pub record IsFirstAsking (now : ℕ) (port : Port) (list : List Interrupt) (identified : Interrupt) : Type 0 where
  pub itself : asks now port identified ≡ true
  pub higher : List Interrupt
  pub lower : List Interrupt
  pub order : list ≡ higher ++ identified ∷ lower
  pub silent : All (λ other. asks now port other ≡ false) higher

-- The identified interrupt is requested, and none of higher priority is; NonePending is the last.
abbrev pub IdentifiesFirst : Type 0
IdentifiesFirst = (now : ℕ) (port : Port) → IsFirstAsking now port (priorities ++ NonePending ∷ []) (interrupt now port)

-- Some interrupt is requested.
abbrev pub SomeAsks : ℕ → Port → Type 0
SomeAsks now port = (some : Interrupt) × (is_pending some ≡ true) × (asks now port some ≡ true)

-- The interrupt line is high exactly if some interrupt is requested.
abbrev pub LineTellsAsking : Type 0
LineTellsAsking = (now : ℕ) (port : Port) → (line_of now port ≡ true) ↔ SomeAsks now port

-- Both lists are empty, and no timeout runs.
pub record HasNoBytes (port : Port) : Type 0 where
  pub held : port.receiver.held ≡ []
  pub timeout : port.receiver.timeout ≡ None
  pub waiting : port.transmitter.waiting ≡ []

-- If bit 0 changes the switch, both lists are cleared ("FIFO Control Register").
abbrev pub SwitchClearsBoth : Type 0
SwitchClearsBoth = (value : ℕ) (port : Port) → has value 0 ≡ not (is_some port.fifos)
    → HasNoBytes (fcr_written value port)

-- Bit 1 clears the receive list and its timeout, and bit 2 clears the transmit list.
pub record IsResetBy (value : ℕ) (before after : Port) : Type 0 where
  pub held : after.receiver.held ≡ (if has value 1 then [] else before.receiver.held)
  pub timeout : after.receiver.timeout ≡ (if has value 1 then None else before.receiver.timeout)
  pub waiting : after.transmitter.waiting ≡ (if has value 2 then [] else before.transmitter.waiting)

-- While FIFOs stay on, bits 1 and 2 clear one list each.
abbrev pub ResetsByBits : Type 0
ResetsByBits =
    (value : ℕ) (port : Port) → is_some port.fifos ≡ true → has value 0 ≡ true
    → IsResetBy value port (fcr_written value port)

-- While FIFOs stay off, a write changes nothing.
abbrev pub StaysOff : Type 0
StaysOff = (value : ℕ) (port : Port) → port.fifos ≡ None → has value 0 ≡ false
    → fcr_written value port ≡ port

-- The write sets the switch and the trigger. It sets the latch if it clears bytes that waited. The
-- shift register and the overrun flag stay.
pub record IsSwitched (value : ℕ) (before after : Port) : Type 0 where
  pub fifos : after.fifos ≡ switch_of value
  pub shift : after.transmitter.shift ≡ before.transmitter.shift
  pub overrun : after.receiver.overrun ≡ before.receiver.overrun
  pub latch : after.thr_empty
      ≡ (if not (is_empty before.transmitter.waiting) && is_empty after.transmitter.waiting then true
      else before.thr_empty)

-- Each write of the FIFO Control Register has this effect.
abbrev pub WritesSwitch : Type 0
WritesSwitch = (value : ℕ) (port : Port) → IsSwitched value port (fcr_written value port)

-- While bit 7 of the line control register is set, offsets 0 and 1 are the divisor's low and high
-- byte. A read returns the byte and changes nothing; a write of both sets the divisor and nothing
-- else. While the bit is clear, no write changes the divisor.
pub record ReachesDivisor : Type 0 where
  pub low : (now : ℕ) (port : Port) → has port.lcr 7 ≡ true
      → read_of 0 now port ≡ (port.divisor % 256, port)
  pub high : (now : ℕ) (port : Port) → has port.lcr 7 ≡ true
      → read_of 1 now port ≡ (port.divisor / 256, port)
  pub both : (low high now later : ℕ) (port : Port) → low < 256 → has port.lcr 7 ≡ true
      → written 1 high later (written 0 low now port) ≡ record port { divisor = 256 * high + low }
  pub hidden : (offset value now : ℕ) (port : Port) → has port.lcr 7 ≡ false
      → (written offset value now port).divisor ≡ port.divisor

-- In loop mode the modem status shows the modem control's outputs: clear to send is request to
-- send, data set ready is data terminal ready, ring indicator is OUT1, and carrier detect is OUT2.
-- The bits for changes are 0.
pub record IsLooped (mcr msr : ℕ) : Type 0 where
  pub cts : has msr 4 ≡ has mcr 1
  pub dsr : has msr 5 ≡ has mcr 0
  pub ri : has msr 6 ≡ has mcr 2
  pub dcd : has msr 7 ≡ has mcr 3
  pub changes : msr % 16 ≡ 0

-- A read of the modem status returns these bits in loop mode, and never changes the port.
pub record LoopsModem : Type 0 where
  pub read : (now : ℕ) (port : Port) → read_of 6 now port ≡ (msr_of port.mcr, port)
  pub looped : (mcr : ℕ) → has mcr 4 ≡ true → IsLooped mcr (msr_of mcr)
