-- A transmitter as contracts see it.
use Rattle.dev_serial.specs.Parts.{TransmitterState}
use Rattle.dev_serial.specs.declared.transmitter.Transmitter.TheInside.{Inside}

-- The state of a transmitter.
abbrev pub transmitter_view : Inside → TransmitterState
transmitter_view t = record { waiting = t.waiting.items; shift = t.shift }
