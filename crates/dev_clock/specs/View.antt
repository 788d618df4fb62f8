-- What contracts see of a clock board's devices.
use Rattle.dev_clock.specs.State.{ClockState}
use Rattle.dev_clock.specs.declared.devices.ClockDevices.TheInside.{Inside}

-- The state of the devices.
abbrev pub clock_view : Inside → ClockState
clock_view d = record { clock = d.clock; board = d.board }
