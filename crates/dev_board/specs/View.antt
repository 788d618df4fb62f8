-- What contracts see of a board's devices.
use Rattle.dev_board.specs.Kept.{IsKept}
use Rattle.dev_board.specs.Sound.{IsSound}
use Rattle.dev_board.specs.State.{State}
use Rattle.dev_board.specs.declared.devices.Devices.TheInside.{Inside}
use Rattle.dev_board.specs.declared.parts.Parts.TheInside.{Inside as InsideParts}

-- The state of the parts.
abbrev pub parts_view : InsideParts → State
parts_view d = record { level = d.level; moment = d.moment; pair = d.pair; pit = d.pit; serial = d.serial }

-- The state of the devices is that of their parts.
abbrev pub devices_view : Inside → State
devices_view d = d.parts

-- `HoldsAlways d`: the devices are sound, and what is kept is so of them.
pub record HoldsAlways (d : Inside) : Type 0 where
  pub sound : IsSound (devices_view d)
  pub kept : IsKept d.kept (devices_view d)
