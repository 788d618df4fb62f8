-- What `check` says about the clock sets.
use Rattle.std.specs.Prelude.{List, [], ◌∷◌, ℕ, Option, codes}
use Rattle.vms_commands.specs.Outcomes.{done}
use Rattle.vms_io.specs.Shelves.{Held}
use Rattle.vms_cli.specs.Answers.{HasOutcome}
use Rattle.vms_cli.specs.Commands.CheckCommand.{compatible_text}
use Rattle.vms_cli.specs.Commands.{asked_of}

-- Whatever the input and the shelf hold, known or unknown, the outcome of `check @c1 @c2` is that they are
-- compatible.
abbrev pub ClockSetsLaw : Type 0
ClockSetsLaw = (input : Option (List ℕ)) (held : Option Held)
    → HasOutcome (asked_of (codes "check" ∷ codes "@c1" ∷ codes "@c2" ∷ [])) input held (done compatible_text held 0)
