-- How a command ends that reads no input, makes a text from the shelf's contents and writes it.
use Rattle.std.specs.Prelude.{◌≡◌, ◌<◌, ◌^◌, ℕ, List, Option}
use Rattle.vms_io.specs.Told.{Intake, Outlet, Stock}
use Rattle.vms_commands.specs.declared.ending.Ending.{Ending}
use Rattle.vms_commands.specs.Endings.{EndsAs}
use Rattle.vms_commands.specs.Outcomes.{Outcome}
use Rattle.vms_commands.specs.Steps.{Step, HasText}

-- For any input: what the ending says about the outcome that the step determines.
abbrev pub TextContent : Step (List ℕ) → (out out' : Outlet) (shelf shelf' : Stock) → Option Ending → Type 0
TextContent step out out' shelf shelf' ending =
    (input : Intake) (o : Outcome) → input.given < 2 ^ 64 → HasText shelf.held step o
    → EndsAs input input out out' shelf shelf' ending o
