-- The families of the kinds of boards.
use Rattle.dev_board.specs.{Sound.IsSound, State.State}
use Rattle.dev_clock.specs.{Sound.IsSound as IsSoundClock, State.ClockState}
use Rattle.vms_board.specs.{Clock.clock, Family.Family, Isa.isa}
use Rattle.vms_commands.specs.declared.kinds.BoardKind.{BoardKind}
use Rattle.vms_commands.specs.declared.kinds.BoardKind.TheVariants.{Isa, Clock}

-- The states of the boards of a kind.
abbrev pub StateOf : BoardKind → Type 0
StateOf Isa = State
StateOf Clock = ClockState

-- The family of a kind.
abbrev pub family_of : (kind : BoardKind) → Family (StateOf kind)
family_of Isa = isa
family_of Clock = clock

-- The sound boards of a kind.
abbrev pub IsSoundOf : (kind : BoardKind) → StateOf kind → Type 0
IsSoundOf Isa = IsSound
IsSoundOf Clock = IsSoundClock
