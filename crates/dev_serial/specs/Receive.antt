-- The receiver's steps.
use Rattle.std.specs.Prelude.{ℕ, ◌+◌, ◌*◌, ◌==◌, true, false, nat_lt, if◌then◌else◌, List, [], ◌∷◌, ◌++◌, length, Some, None}
use Rattle.dev_serial.specs.declared.fifo.TheConstants.{FIFO_BYTES}
use Rattle.dev_serial.specs.Parts.{ReceiverState}
use Rattle.dev_serial.specs.declared.mode.Mode.{Mode}

-- The moment of the timeout that a character at the moment `at` starts anew: four characters later.
abbrev pub timeout_after : Mode → ℕ → ℕ
timeout_after mode at = at + 4 * mode.character

-- The receiver after `byte` arrives at the moment `at`. Without FIFOs the byte replaces one that is
-- held; with FIFOs it is lost if sixteen are held. Either sets the overrun flag.
unfoldable pub received : Mode → ℕ → ℕ → ReceiverState → ReceiverState
received mode byte at receiver =
    if mode.has_fifos then (
    let timeout = if mode.times_out then Some (timeout_after mode at) else receiver.timeout in
    if nat_lt (length receiver.held) FIFO_BYTES then record receiver { held = receiver.held ++ byte ∷ []; timeout = timeout }
    else record receiver { overrun = true; timeout = timeout }
    ) else (
    if length receiver.held == 0 then record receiver { held = byte ∷ [] } else record receiver { held = byte ∷ []; overrun = true }
    )

-- The oldest byte of the list and the receiver without it. If there is none, the byte is 0.
unfoldable pub taken_at : Mode → ℕ → List ℕ → ReceiverState → ℕ × ReceiverState
taken_at mode at [] receiver = (0, receiver)
taken_at mode at (byte ∷ rest) receiver =
    (byte, record receiver { held = rest; timeout = (if mode.times_out then (if length rest == 0 then None else Some (timeout_after mode at)) else receiver.timeout) })

-- The oldest byte held and the receiver without it.
abbrev pub taken : Mode → ℕ → ReceiverState → ℕ × ReceiverState
taken mode at receiver = taken_at mode at receiver.held receiver

-- The receiver without its bytes and its timeout.
abbrev pub emptied : ReceiverState → ReceiverState
emptied receiver = record receiver { held = []; timeout = None }

-- The receiver with the overrun flag clear.
abbrev pub without_overrun : ReceiverState → ReceiverState
without_overrun receiver = record receiver { overrun = false }
