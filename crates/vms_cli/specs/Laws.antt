-- What follows for all calls, and for packing and showing one after the other.
use Rattle.std.specs.Prelude.{◌≡◌, ◌⊎◌, ℕ, ◌+◌, ◌<◌, ◌≤◌, max, true, List, length, Option, Some, None, IfSome, IsSomeAnd}
use Rattle.vms_io.specs.Causes.{KeepsPromise, Rose}
use Rattle.vms_io.specs.Shelves.{Held, HoldsAll}
use Rattle.vms_io.specs.Told.{Outlet}
use Rattle.vms_spec.specs.Images.{Image}
use Rattle.vms_kinds.specs.Bytes.{IsBytes}
use Rattle.vms_spec.specs.Streams.{AreReady, is_one_of, written}
use Rattle.vms_cli.specs.Answers.{HasOutcome, Answers}
use Rattle.vms_cli.specs.Commands.{Asked, Show, Pack, Check, asked_of, entry_of}
use Rattle.vms_commands.specs.Outcomes.{Outcome, DoesOrStops, done, text_of, Outside}
use Rattle.vms_commands.specs.Fetching.{longest_file, named_sets, word_set}
use Rattle.vms_commands.specs.SetWords.{SetWord}
use Rattle.vms_commands.specs.Steps.{Gives, Both}
use Rattle.vms_cli.specs.Commands.PackCommand.{described_stream}
use Rattle.vms_cli.specs.Upgrade.{IsWritten, shown_newer}
use Rattle.vms_spec.specs.Sets.{Set}

-- ---- outcomes

-- There is an outcome of which this holds, and no other.
pub record HasOne (Holds : Outcome → Type 0) : Type 0 where
  pub outcome : Outcome
  pub is : Holds outcome
  pub only : (other : Outcome) → Holds other → other ≡ outcome

-- A call has an outcome, and no other.
abbrev pub HasOneOutcome : Option Asked → List ℕ → Held → Type 0
HasOneOutcome asked input held = HasOne (λ o. HasOutcome asked (Some input) (Some held) o)

-- What arguments can name: existing boards, and for `save` a set of the board's kind at or above it.
abbrev pub CanBeAsked : Option Asked → Type 0
CanBeAsked None = Unit {0}
CanBeAsked (Some asked) = (entry_of asked).words

-- This is so for all arguments.
abbrev pub AskedLaw : Type 0
AskedLaw = (words : List (List ℕ)) → CanBeAsked (asked_of words)

-- This is so whatever the arguments, the input's bytes and the shelf's bytes are. The laws `octets` say that an
-- input and a shelf hold bytes.
abbrev pub OutcomeLaw : Type 0
OutcomeLaw = (words : List (List ℕ)) (input : List ℕ) (held : Held) → IsBytes input → HoldsAll held
    → HasOneOutcome (asked_of words) input held

-- ---- completeness

-- What a command needs to succeed. Its own file in `specs/Commands` says it.
abbrev pub CanBeDone : Option Asked → Option (List ℕ) → Option Held → Type 0
CanBeDone None input held = ⊥
CanBeDone (Some asked) input held = (entry_of asked).needs input held

-- No object counts a failure in the call.
pub record NoneRises (old new : Outside) : Type 0 where
  pub input : Rose old.input.faults new.input.faults → ⊥
  pub out : Rose old.out.faults new.out.faults → ⊥
  pub notes : Rose old.notes.faults new.notes.faults → ⊥
  pub shelf : Rose old.shelf.faults new.shelf.faults → ⊥

-- If everything that a command needs is there and no object counts a failure, the command succeeds, or memory runs
-- out.
abbrev pub CompleteLaw : Type 0
CompleteLaw = (words : List (List ℕ)) (status : ℕ) (old new : Outside) → CanBeDone (asked_of words) old.input.left old.shelf.held
    → NoneRises old new → Answers words status old new → (status ≡ 0) ⊎ (status ≡ 10)

-- A sink that promises no failure while it has room for `bytes` more.
abbrev pub HasRoom : Outlet → ℕ → Type 0
HasRoom sink bytes = IsSomeAnd sink.promise (λ room. IsSomeAnd sink.written (λ old. length old + bytes < room))

-- No object lists failing calls, and there is room: on standard output for the outcome's text, on standard error
-- for its line or that of a failure.
pub record IsAmple (old : Outside) (o : Outcome) : Type 0 where
  pub input : old.input.promise ≡ true
  pub out : HasRoom old.out (length (text_of o.parts))
  pub notes : HasRoom old.notes (max 14 (length o.note))
  pub shelf : old.shelf.promise ≡ true

-- Each object keeps its promise, as the laws of the traits say.
pub record PromisesKept (now : Outside) : Type 0 where
  pub input : now.input.promise ≡ true → now.input.faults ≡ 0
  pub out : KeepsPromise now.out.promise now.out.written now.out.faults
  pub notes : KeepsPromise now.notes.promise now.notes.written now.notes.faults
  pub shelf : now.shelf.promise ≡ true → now.shelf.faults ≡ 0

-- Whatever the outcome is, no object counts a failure if nothing can fail.
abbrev pub AmpleLaw : Type 0
AmpleLaw = (words : List (List ℕ)) (status : ℕ) (old new : Outside) (o : Outcome)
    → HasOutcome (asked_of words) old.input.left old.shelf.held o → IsAmple old o
    → PromisesKept new → Answers words status old new → NoneRises old new

-- ---- check, and then show

-- Suppose that `check` of two words succeeded, that `show` is called with the second one and a shelf that holds the
-- same, and that the input is a stream of the first one's set. Then `show` prints the values text of the carried
-- images and reads all of the stream, or it stops early.
abbrev pub CheckThenShowLaw : Type 0
CheckThenShowLaw = (one other : List (List ℕ)) (old new : SetWord) (sets : Both Set) (a b c d : Outside) (status : ℕ)
    → asked_of one ≡ Some (Check old new) → asked_of other ≡ Some (Show new) → named_sets a.shelf.held old new ≡ Gives sets
    → Answers one 0 a b → c.shelf.held ≡ a.shelf.held → Answers other status c d
    → (machine text : Option (List ℕ)) (images : List Image) → IsWritten sets.old machine text images
    → c.input.left ≡ Some (written sets.old machine images text) → DoesOrStops status c d (shown_newer sets.old sets.new machine text images c)

-- ---- round trips

-- If `pack` makes a stream from the text under a name, `show` prints that text for the stream and reads all of it.
abbrev pub PackThenShowLaw : Type 0
PackThenShowLaw = (word : SetWord) (name text stream : List ℕ) (input : Option (List ℕ)) (map : Held) → map name ≡ Some text
    → HasOutcome (Some (Pack word name)) input (Some map) (done stream (Some map) 0)
    → HasOutcome (Some (Show word)) (Some stream) (Some map) (done text (Some map) (length stream))

-- If `show` prints a text for a stream that was written with its machine and its description, and the text isn't
-- too long, `pack` makes that stream from the text.
abbrev pub ShowThenPackLaw : Type 0
ShowThenPackLaw = (word : SetWord) (set : Set) (machine : Option (List ℕ)) (images : List Image) (name text : List ℕ) (input : Option (List ℕ)) (map : Held)
    → word_set (Some map) word ≡ Gives set → AreReady set images → IfSome machine (λ m. is_one_of set.machines m ≡ true)
    → map name ≡ Some text → length text ≤ longest_file
    → (n : ℕ) → HasOutcome (Some (Show word)) (Some (described_stream set machine images)) (Some map) (done text (Some map) n)
    → HasOutcome (Some (Pack word name)) input (Some map) (done (described_stream set machine images) (Some map) 0)
