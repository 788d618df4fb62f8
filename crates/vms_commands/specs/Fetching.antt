-- Sets that arguments name: shipped ones, and description files on the shelf.
use Rattle.std.specs.Prelude.{ℕ, Bool, true, false, nat_le, if◌then◌else◌, List, length, Option, Some, None}
use Rattle.vms_io.specs.Shelves.{Held}
use Rattle.vms_spec.specs.Sets.{Set}
use Rattle.vms_descfile.specs.Files.{Said, Parts, Syntax, Shape, IllFormed, file_said}
use Rattle.vms_commands.specs.declared.fetching.TheConstants.{LONGEST_FILE}
use Rattle.vms_commands.specs.SetWords.{ShippedSet, shipped, SetWord, Shipped, OnShelf}
use Rattle.vms_commands.specs.Lines.{not_there_line, too_large_line}
use Rattle.vms_commands.specs.SetLines.{syntax_line, shape_line, rule_line}
use Rattle.vms_commands.specs.Steps.{Step, Untold, Gives, Ends, next, Both, both}

-- The size limit of every file except scripts, in bytes.
abbrev pub longest_file : ℕ
longest_file = LONGEST_FILE

-- `text_under most name text` is the step that gives the text under `name`, if there is one of at most `most`
-- bytes.
abbrev pub text_under : ℕ → List ℕ → Option (List ℕ) → Step (List ℕ)
text_under most name None = Ends 8 (not_there_line name)
text_under most name (Some text) =
    if nat_le (length text) most then Gives text else Ends 9 (too_large_line name)

-- `fetched most held name` is the step that fetches `name` from a shelf with the contents `held`.
abbrev pub fetched : ℕ → Option Held → List ℕ → Step (List ℕ)
fetched most None name = Untold
fetched most (Some map) name = text_under most name (map name)

-- A set as an argument names it: a shipped one, or a name with its text.
pub data SetText : Type 0 where
  Number : ShippedSet → SetText
  Text : (name text : List ℕ) → SetText

-- The step that fetches the set which an argument names.
abbrev pub fetched_set : Option Held → SetWord → Step SetText
fetched_set held (Shipped s) = Gives (Number s)
fetched_set held (OnShelf name) = next (fetched longest_file held name) (λ text. Gives (Text name text))

-- The set in a description file, or the file's first fault.
abbrev pub said_set : List ℕ → Said → Step Set
said_set name (Parts set) = Gives set
said_set name Syntax = Ends 3 (syntax_line name)
said_set name (Shape path) = Ends 3 (shape_line name path)
said_set name (IllFormed fault) = Ends 3 (rule_line name fault.rule fault.place)

-- The step that parses a fetched set.
abbrev pub set_in : SetText → Step Set
set_in (Number s) = Gives (shipped s)
set_in (Text name text) = said_set name (file_said text)

-- The step to one set: it is fetched, then parsed.
abbrev pub word_set : Option Held → SetWord → Step Set
word_set held word = next (fetched_set held word) set_in

-- The step that parses two fetched sets, the older first.
abbrev pub sets_in : Both SetText → Step (Both Set)
sets_in texts = both (set_in texts.old) (set_in texts.new)

-- The step to two sets: both are fetched before the first is parsed.
abbrev pub named_sets : Option Held → (old new : SetWord) → Step (Both Set)
named_sets held old new = next (both (fetched_set held old) (fetched_set held new)) sets_in

-- ---- whether the shelf is used

-- Whether an argument names a file on the shelf.
abbrev pub is_on_shelf : SetWord → Bool
is_on_shelf (Shipped s) = false
is_on_shelf (OnShelf name) = true

-- Whether a fetched set is a file's text.
abbrev pub is_text : SetText → Bool
is_text (Number s) = false
is_text (Text name text) = true
