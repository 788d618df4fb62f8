-- What `analyze` prints for streams that are written with their description.
use Rattle.std.specs.Prelude.{◌≡◌, ℕ, true, List, length, Option, Some, IfSome}
use Rattle.vms_io.specs.Shelves.{Held}
use Rattle.vms_spec.specs.Images.{Image}
use Rattle.vms_spec.specs.Sets.{Set}
use Rattle.vms_spec.specs.Streams.{AreReady, is_one_of}
use Rattle.vms_commands.specs.Fetching.{word_set}
use Rattle.vms_commands.specs.Outcomes.{done}
use Rattle.vms_commands.specs.SetWords.{BoardWord, BoardOf, ShippedSet, SetOf, SetWord, Shipped}
use Rattle.vms_commands.specs.Steps.{Gives}
use Rattle.vms_cli.specs.Answers.{HasOutcome}
use Rattle.vms_cli.specs.Commands.{Show, Analyze, Pack, Save, asked_of}
use Rattle.vms_cli.specs.Commands.PackCommand.{described_stream}

-- If `pack` makes a stream from the text under a name, `analyze` prints that text for the stream and reads all of
-- it.
abbrev pub PackThenAnalyzeLaw : Type 0
PackThenAnalyzeLaw = (word : SetWord) (name text stream : List ℕ) (input : Option (List ℕ)) (map : Held) → map name ≡ Some text
    → HasOutcome (Some (Pack word name)) input (Some map) (done stream (Some map) 0)
    → HasOutcome (Some Analyze) (Some stream) (Some map) (done text (Some map) (length stream))

-- Take a stream that was written under a set, with a machine of the set or none and with its description. If `show`
-- with the set prints a text for it, `analyze` prints that text too.
abbrev pub ShowThenAnalyzeLaw : Type 0
ShowThenAnalyzeLaw = (word : SetWord) (set : Set) (machine : Option (List ℕ)) (images : List Image) (text : List ℕ) (held : Option Held)
    → word_set held word ≡ Gives set → AreReady set images → IfSome machine (λ m. is_one_of set.machines m ≡ true)
    → (n : ℕ) → HasOutcome (Some (Show word)) (Some (described_stream set machine images)) held (done text held n)
    → HasOutcome (Some Analyze) (Some (described_stream set machine images)) held (done text held n)

-- `show` with a set and `analyze` print one text for a stream, and read all of it.
pub record PrintsAlike (word : SetWord) (stream : List ℕ) (held : Option Held) : Type 0 where
  pub text : List ℕ
  pub shown : HasOutcome (Some (Show word)) (Some stream) held (done text held (length stream))
  pub listed : HasOutcome (Some Analyze) (Some stream) held (done text held (length stream))

-- The set with this number of the board's kind.
abbrev pub set_on : BoardWord → ℕ → ShippedSet
set_on (BoardOf kind number) set = SetOf kind set

-- If `save` writes a stream, `show` with the set of its words and `analyze` print the same text for it.
abbrev pub SaveThenAnalyzeLaw : Type 0
SaveThenAnalyzeLaw = (words : List (List ℕ)) (board : BoardWord) (set : ℕ) (script stream : List ℕ) (input : Option (List ℕ)) (held : Option Held)
    → asked_of words ≡ Some (Save board set script)
    → HasOutcome (Some (Save board set script)) input held (done stream held 0)
    → PrintsAlike (Shipped (set_on board set)) stream held
