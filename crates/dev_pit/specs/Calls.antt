-- The calls that change a chip, and what each does to a counter.
use Rattle.std.specs.Prelude.{ℕ, ◌+◌, ◌<◌, ◌==◌, Bool, true, false, not, ◌&&◌, is_some}
use Rattle.dev_pit.specs.Control.{control_word}
use Rattle.dev_pit.specs.Pit.{IsPort, counter_of, pit_read, pit_written}
use Rattle.dev_pit.specs.declared.control.ControlWord.{ControlWord}
use Rattle.dev_pit.specs.declared.control.ControlWord.TheVariants.{LatchCount, SetMode, ReadBack}
use Rattle.dev_pit.specs.declared.counter.Counter.{Counter}
use Rattle.dev_pit.specs.declared.mode.Access.{Access}
use Rattle.dev_pit.specs.declared.mode.Access.TheVariants.{LowByte, HighByte, LowThenHigh}
use Rattle.dev_pit.specs.declared.pit.Pit.{Pit}

-- `Call` is a read from a counter (its number), or a write to a port (port, then byte).
pub data Call : Type 0 where
  reads : ℕ → Call
  writes : ℕ → ℕ → Call

-- `IsCall call`: the counter is 0 to 2, or the port is one of the chip's and the byte is below 256.
abbrev pub IsCall : Call → Type 0
IsCall (reads counter) = counter < 3
IsCall (writes port value) = IsPort port × (value < 256)

-- `called call now pit` is the chip after `call` at the moment `now`.
unfoldable pub called : Call → ℕ → Pit → Pit
called (reads counter) now pit = (pit_read counter now pit).1
called (writes port value) now pit = pit_written port value now pit

-- `sets_mode_of k word` tells whether the control word sets the mode of counter `k` (8254 data
-- sheet, "Control Word Format").
abbrev pub sets_mode_of : ℕ → ControlWord → Bool
sets_mode_of k (LatchCount counter) = false
sets_mode_of k (SetMode counter access mode bcd) = counter == k
sets_mode_of k (ReadBack count status first second third) = false

-- `programs k call` tells whether `call` sets the mode of counter `k`.
unfoldable pub programs : ℕ → Call → Bool
programs k (reads counter) = false
programs k (writes port value) = (port == 0x43) && sets_mode_of k (control_word value)

-- `completes access counter` tells whether the next written byte completes a count.
abbrev pub completes : Access → Counter → Bool
completes LowByte counter = true
completes HighByte counter = true
completes LowThenHigh counter = is_some counter.held_low

-- `loads k call pit` tells whether `call` loads counter `k`.
unfoldable pub loads : ℕ → Call → Pit → Bool
loads k (reads counter) pit = false
loads k (writes port value) pit = (port == 0x40 + k) && completes (counter_of k pit).access (counter_of k pit)

-- `is_last access counter` tells whether the next byte to be read of a count is its last.
abbrev pub is_last : Access → Counter → Bool
is_last LowByte counter = true
is_last HighByte counter = true
is_last LowThenHigh counter = counter.read_high

-- `reads_latch k call pit` tells whether `call` reads the last byte of counter `k`'s latched count.
-- A latched status is read first.
unfoldable pub reads_latch : ℕ → Call → Pit → Bool
reads_latch k (reads counter) pit = (counter == k) && (not (is_some (counter_of k pit).status) && is_last (counter_of k pit).access (counter_of k pit))
reads_latch k (writes port value) pit = false
