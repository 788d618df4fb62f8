-- The command `counter`: its outcome.
use Rattle.std.specs.Prelude.{◌≡◌, ℕ, Bool, List, [], ◌∷◌, ◌++◌, Option, codes}
use Rattle.vms_io.specs.Shelves.{Held}
use Rattle.vms_spec.specs.Sets.{Set}
use Rattle.vms_spec.specs.Values.{values_text}
use Rattle.vms_counter_laws.specs.Counters.{Answer, AreCompatible, NoState, State, Counters}
use Rattle.vms_counter_laws.specs.Computed.{computed}
use Rattle.vms_commands.specs.Courses.{Course, text_course}
use Rattle.vms_commands.specs.Fetching.{named_sets}
use Rattle.vms_commands.specs.Lines.{refused_line}
use Rattle.vms_commands.specs.SetLines.{mismatch_line}
use Rattle.vms_commands.specs.Outcomes.{Outcome, done}
use Rattle.vms_commands.specs.SetWords.{SetWord}
use Rattle.vms_commands.specs.Steps.{Step, Gives, Both, HasBy}
use Rattle.vms_board_commands.specs.Runs.{unread_task}
use Rattle.vms_cli.specs.Commands.CheckCommand.{asks_shelf, compatible_text}
use Rattle.vms_cli.specs.Entry.{Entry, plain_entry}

-- The text if no state is found.
abbrev pub no_state : List ℕ
no_state = codes "no state" ++ 10 ∷ []

-- The text of an answer: the rule that fails, if one does; then that no state shows it, or where the newer set
-- refuses a state's stream, and the state as the older set's values.
abbrev pub counter_text : Set → Set → Answer → List ℕ
counter_text old new AreCompatible = compatible_text
counter_text old new (NoState m) = mismatch_line m ++ no_state
counter_text old new (State m machine images r) =
    (mismatch_line m ++ refused_line new r.place r.section r.reason) ++ values_text old machine images

-- The answer to two sets is printed. No input is read, and the shelf holds the same.
pub data Tells (held : Option Held) (sets : Both Set) : Outcome → Type 0 where
  Answers : (answer : Answer) → Counters sets.old sets.new answer → Tells held sets (done (counter_text sets.old sets.new answer) held 0)

-- The outcome for the sets that a step gives: the answer, or the end of that step.
abbrev pub CountersBy : Step (Both Set) → Option Held → Outcome → Type 0
CountersBy step held o = HasBy (Tells held) step o

-- The same for the steps that the code takes, with the answer as it is computed.
abbrev pub counted : Both Set → Step (List ℕ)
counted sets = Gives (counter_text sets.old sets.new (computed sets.old sets.new))

-- The course of `counter`. `asks` is whether the shelf is used.
abbrev pub counter_course : (asks : Bool) → Course
counter_course asks = text_course (0 ∷ 6 ∷ 10 ∷ []) [] asks

-- The command `counter OLD NEW`. It needs two sets.
abbrev pub counter_entry : (old new : SetWord) → Entry
counter_entry old new =
    plain_entry (unread_task (λ held o. CountersBy (named_sets held old new) held o) (counter_course (asks_shelf old new)))
    (λ input held. (sets : Both Set) × (named_sets held old new ≡ Gives sets))
