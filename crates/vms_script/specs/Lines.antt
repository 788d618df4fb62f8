-- A line of a script, and how it is read. docs/scripts.md lists the lines.
use Rattle.std.specs.Prelude.{ℕ, ◌&&◌, nat_le, if◌then◌else◌, Bool, List, drop, codes, Option, Some, None, Result, Ok, Err, ℤ, pos, negsuc}
use Rattle.std.specs.Str.{bytes_eq}
use Rattle.dev_base.specs.declared.limits.TheConstants.{NEWEST}
use Rattle.dev_board.specs.declared.event.Event.{Event}
use Rattle.dev_board.specs.declared.event.Event.TheVariants as events
use Rattle.dev_board.specs.Wires.{is_wire}
use Rattle.vms_spec.specs.Spelling.{begins_with, number_spelled}
use Rattle.vms_script.specs.Names.{is_shelf_name}
use Rattle.vms_script.specs.Words.{first_word, byte_spelled, port_spelled, level_spelled}
use Rattle.vms_script.specs.declared.line.ScriptReason.{ScriptReason}
use Rattle.vms_script.specs.declared.line.ScriptReason.TheVariants as reasons
use Rattle.vms_script.specs.declared.number.TheConstants.{LONGEST_WAIT}

-- A line: an event; or, in a session, the board's stream stored under a set and a name, or a stream loaded by its
-- name.
pub data ScriptLine : Type 0 where
  Happens : Event → ScriptLine
  Saves : ℕ → List ℕ → ScriptLine
  Restores : List ℕ → ScriptLine

-- What a line says, or why it is refused.
abbrev pub Read : Type 0
Read = Result ScriptLine ScriptReason

-- A part of a line has its form, or the line has none.
abbrev pub or_form : {A : Type 0} → Option A → (A → Read) → Read
or_form None next = Err reasons.Form
or_form (Some a) next = next a

-- A number that is spelled right is in the range, or the line isn't.
abbrev pub or_range : (ℕ → Bool) → (ℕ → ScriptLine) → ℤ → Read
or_range holds line (pos n) = if holds n then Ok (line n) else Err reasons.Range
or_range holds line (negsuc n) = Err reasons.Range

-- A text is a number in the range, or the line is refused.
abbrev pub number_in : (ℕ → Bool) → (ℕ → ScriptLine) → List ℕ → Read
number_in holds line text = or_form (number_spelled text) (or_range holds line)

-- The set with this number is at or above the board, and at most the newest.
abbrev pub is_set_of : (newest board set : ℕ) → Bool
is_set_of newest board set = nat_le board set && nat_le set newest

-- A number of nanoseconds that one line may wait.
abbrev pub is_wait : ℕ → Bool
is_wait ns = nat_le ns LONGEST_WAIT

-- The line `in PPPP`, by its rest after the first word.
abbrev pub in_line : List ℕ → Read
in_line port = or_form (port_spelled port) (λ p. Ok (Happens (events.Read p)))

-- The line `byte VV`, by its rest.
abbrev pub byte_line : List ℕ → Read
byte_line value = or_form (byte_spelled value) (λ v. Ok (Happens (events.Byte v)))

-- The line `wait N`, by its rest.
abbrev pub wait_line : List ℕ → Read
wait_line number = number_in is_wait (λ ns. Happens (events.Wait ns)) number

-- The line `out PPPP VV`, by its second word and the rest after it.
abbrev pub out_line : List ℕ × Option (List ℕ) → Read
out_line (port, rest) =
    or_form (port_spelled port) (λ p. or_form rest (λ value.
    or_form (byte_spelled value) (λ v. Ok (Happens (events.Write p v)))))

-- The line `wire N 0` or `wire N 1`, by its second word and the rest after it.
abbrev pub wire_line : List ℕ × Option (List ℕ) → Read
wire_line (number, rest) =
    or_form rest (λ level. or_form (level_spelled level) (λ up.
    number_in is_wire (λ input. Happens (events.Wire input up)) number))

-- The number in the word of a set, which is `@` and a number.
abbrev pub set_spelled : List ℕ → Option (List ℕ)
set_spelled word = if begins_with (codes "@") word then Some (drop 1 word) else None

-- A name for the shelf.
abbrev pub name_spelled : List ℕ → Option (List ℕ)
name_spelled name = if is_shelf_name name then Some name else None

-- The line `save @N NAME`, by its second word and the rest after it.
abbrev pub save_line : ℕ → List ℕ × Option (List ℕ) → Read
save_line level (word, rest) =
    or_form rest (λ text. or_form (name_spelled text) (λ name. or_form (set_spelled word) (λ number.
    number_in (is_set_of NEWEST level) (λ set. Saves set name) number)))

-- The line `restore NAME`, by its rest.
abbrev pub restore_line : List ℕ → Read
restore_line text = or_form (name_spelled text) (λ name. Ok (Restores name))

-- The two lines that only a session on a board of a level has.
abbrev pub session_line : ℕ → List ℕ → List ℕ → Read
session_line level word rest =
    if bytes_eq word (codes "save") then save_line level (first_word rest)
    else if bytes_eq word (codes "restore") then restore_line rest
    else Err reasons.Form

-- The same, if there is a session.
abbrev pub play_line : Option ℕ → List ℕ → List ℕ → Read
play_line None word rest = Err reasons.Form
play_line (Some level) word rest = session_line level word rest

-- A line by its first word and its rest.
abbrev pub line_of_words : Option ℕ → List ℕ → List ℕ → Read
line_of_words play word rest =
    if bytes_eq word (codes "in") then in_line rest
    else if bytes_eq word (codes "out") then out_line (first_word rest)
    else if bytes_eq word (codes "byte") then byte_line rest
    else if bytes_eq word (codes "wait") then wait_line rest
    else if bytes_eq word (codes "wire") then wire_line (first_word rest)
    else play_line play word rest

-- A line by its first word and its rest, if it has one. `ack` is the only line of a single word.
abbrev pub line_split : Option ℕ → List ℕ × Option (List ℕ) → Read
line_split play (word, None) =
    if bytes_eq word (codes "ack") then Ok (Happens events.Ack) else Err reasons.Form
line_split play (word, Some rest) = line_of_words play word rest

-- A line without its line feed, in a script; of a session on a board of the level, if one is given.
abbrev pub line_read : Option ℕ → List ℕ → Read
line_read play line = line_split play (first_word line)
