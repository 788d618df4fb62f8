-- What follows for a stream that `convert` writes.
use Rattle.std.specs.Prelude.{◌≡◌, ℕ, List, length, Option, Some}
use Rattle.dev_base.specs.Levels.{IsLevel}
use Rattle.dev_base.specs.declared.limits.TheConstants.{NEWEST}
use Rattle.vms_io.specs.Shelves.{Held}
use Rattle.vms_spec.specs.Images.{Image}
use Rattle.vms_spec.specs.Sets.{Set}
use Rattle.vms_spec.specs.Values.{values_text}
use Rattle.vms_stream.specs.Streams.{Takes}
use Rattle.vms_convert.specs.Converted.{recast_each}
use Rattle.vms_convert.specs.Lost.{numbers_in}
use Rattle.vms_commands.specs.Fetching.{word_set}
use Rattle.vms_commands.specs.Outcomes.{done}
use Rattle.vms_commands.specs.SetWords.{BoardOf, SetOf, SetWord, Shipped}
use Rattle.vms_commands.specs.Steps.{Gives}
use Rattle.vms_commands.specs.declared.kinds.BoardKind.TheVariants.{Isa}
use Rattle.vms_cli.specs.AnalyzeLaws.{PrintsAlike}
use Rattle.vms_cli.specs.Answers.{HasOutcome}
use Rattle.vms_cli.specs.Commands.{Convert, Load, Show}
use Rattle.vms_cli.specs.Commands.ConvertCommand.{newest}

-- If `convert` writes a stream, `show` with the set of its word and `analyze` print the same text for it.
abbrev pub ConvertThenAnalyzeLaw : Type 0
ConvertThenAnalyzeLaw = (word : SetWord) (input stream : List ℕ) (held : Option Held) (n : ℕ)
    → HasOutcome (Some (Convert word)) (Some input) held (done stream held n) → PrintsAlike word stream held

-- The stream that was written is one of the newest set too, with the machine and the cells of the input's. Only the
-- bytes of FIFOs are in counted arrays, if the set keeps them so. `show` with the newest set prints it so, and
-- `convert` with the set gives the same bytes again.
pub record StandsFor (word : SetWord) (input stream : List ℕ) (held : Option Held) (n : ℕ) : Type 0 where
  pub to : Set
  pub there : word_set held word ≡ Gives to
  pub machine : Option (List ℕ)
  pub images : List Image
  pub takes : Takes newest newest.machines input n machine images
  pub loaded : List Image
  pub loads : Takes newest newest.machines stream (length stream) machine loaded
  pub cells : numbers_in loaded ≡ recast_each to newest.devices (numbers_in images)
  pub shown : HasOutcome (Some (Show (Shipped (SetOf Isa NEWEST)))) (Some stream) held (done (values_text newest machine loaded) held (length stream))
  pub again : HasOutcome (Some (Convert word)) (Some stream) held (done stream held (length stream))

-- This is so if `convert` writes a stream.
abbrev pub ConvertAgainLaw : Type 0
ConvertAgainLaw = (word : SetWord) (input stream : List ℕ) (held : Option Held) (n : ℕ)
    → HasOutcome (Some (Convert word)) (Some input) held (done stream held n) → StandsFor word input stream held n

-- Suppose that `convert` writes a stream, and that `load` on a board isa-1 to isa-4 has a trace for the input. Then
-- it has the same trace for the stream, and reads all of it.
abbrev pub ConvertThenLoadLaw : Type 0
ConvertThenLoadLaw = (word : SetWord) (level : ℕ) (input stream script trace : List ℕ) (held : Option Held) (n k : ℕ) → IsLevel level
    → HasOutcome (Some (Convert word)) (Some input) held (done stream held n)
    → HasOutcome (Some (Load (BoardOf Isa level) script)) (Some input) held (done trace held k)
    → HasOutcome (Some (Load (BoardOf Isa level) script)) (Some stream) held (done trace held (length stream))
