-- The command `check`: its outcome.
use Rattle.std.specs.Prelude.{◌≡◌, ℕ, Bool, ◌||◌, List, [], ◌∷◌, ◌++◌, Option, Some, None, codes}
use Rattle.vms_io.specs.Shelves.{Held}
use Rattle.vms_spec.specs.Sets.{Set}
use Rattle.vms_check.specs.Comparing.{first_mismatch, Compatible}
use Rattle.vms_check.specs.declared.mismatch.Mismatch.{Mismatch}
use Rattle.vms_commands.specs.SetWords.{SetWord}
use Rattle.vms_commands.specs.Courses.{Course, text_course}
use Rattle.vms_commands.specs.Fetching.{named_sets, is_on_shelf}
use Rattle.vms_commands.specs.SetLines.{mismatch_line}
use Rattle.vms_commands.specs.Steps.{Step, Untold, Gives, Ends, next, Both}
use Rattle.vms_board_commands.specs.Runs.{text_task}
use Rattle.vms_cli.specs.Entry.{Entry, plain_entry}

-- The text of compatible sets.
abbrev pub compatible_text : List ℕ
compatible_text = codes "compatible" ++ 10 ∷ []

-- The text of a comparison, or its line.
abbrev pub verdict : Option Mismatch → Step (List ℕ)
verdict None = Gives compatible_text
verdict (Some mismatch) = Ends 4 (mismatch_line mismatch)

-- The text of two sets' comparison, or the line of the first rule that fails.
abbrev pub compared : Both Set → Step (List ℕ)
compared sets = verdict (first_mismatch sets.old sets.new)

-- Both sets are fetched, then both are parsed, then they are compared.
abbrev pub checked : Option Held → (old new : SetWord) → Step (List ℕ)
checked held old new = next (named_sets held old new) compared

-- If they are known, the words name two sets that are compatible.
abbrev pub AreCompatible : Step (Both Set) → Type 0
AreCompatible Untold = Unit {0}
AreCompatible (Gives sets) = Compatible sets.old sets.new
AreCompatible (Ends status line) = ⊥

-- Whether one of the two sets is on the shelf.
abbrev pub asks_shelf : (old new : SetWord) → Bool
asks_shelf old new = is_on_shelf old || is_on_shelf new

-- The course of `check`. `asks` is whether the shelf is used.
abbrev pub check_course : (asks : Bool) → Course
check_course asks = text_course (0 ∷ 4 ∷ 6 ∷ 10 ∷ []) [] asks

-- The command `check OLD NEW`. It needs two compatible sets.
abbrev pub check_entry : (old new : SetWord) → Entry
check_entry old new =
    plain_entry (text_task (λ held. checked held old new) (check_course (asks_shelf old new)))
    (λ input held. (sets : Both Set) × (named_sets held old new ≡ Gives sets) × Compatible sets.old sets.new)
