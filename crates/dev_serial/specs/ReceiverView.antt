-- A receiver as contracts see it.
use Rattle.dev_serial.specs.Parts.{ReceiverState}
use Rattle.dev_serial.specs.declared.receiver.Receiver.TheInside.{Inside}

-- The state of a receiver.
abbrev pub receiver_view : Inside → ReceiverState
receiver_view r = record { held = r.held.items; overrun = r.overrun; timeout = r.timeout }
