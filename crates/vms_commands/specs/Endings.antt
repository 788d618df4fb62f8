-- How a command ends, before its line is written to standard error.
use Rattle.std.specs.Prelude.{◌≡◌, ◌⊎◌, ℕ, Bool, true, List, [], Result, Ok, Err, string_bytes, Option, Some, None}
use Rattle.std.specs.Io.KnownBytes.{Appends, Keeps}
use Rattle.vms_io.specs.Causes.{Rose, AppendsPrefix}
use Rattle.vms_io.specs.Told.{Intake, Outlet, Stock}
use Rattle.vms_io.specs.Writing.{Puts, Stops}
use Rattle.vms_commands.specs.declared.ending.Ending.{Ending}
use Rattle.vms_commands.specs.declared.ending.Ending.TheVariants.{Refused, BadWords, BadText, NotCompatible, ReadFault, WriteFault, ShelfFault, NotThere, TooLarge, NoMemory, WouldLose}
use Rattle.vms_commands.specs.Lines.{bad_words, read_fault, write_fault, shelf_fault, out_of_memory}
use Rattle.vms_commands.specs.Outcomes.{Outcome, text_of, held_after, TakesBytes, ComesTo, ComesToFault}

-- `ending_of work` is the ending of a command whose work returned `work`, None on success.
abbrev pub ending_of : {T : Type 0} → Result T Ending → Option Ending
ending_of (Ok t) = None
ending_of (Err ending) = Some ending

-- The status of an ending, 0 on success.
abbrev pub status_of : Option Ending → ℕ
status_of None = 0
status_of (Some (Refused line)) = 1
status_of (Some BadWords) = 2
status_of (Some (BadText line)) = 3
status_of (Some (NotCompatible line)) = 4
status_of (Some ReadFault) = 5
status_of (Some WriteFault) = 6
status_of (Some ShelfFault) = 7
status_of (Some (NotThere line)) = 8
status_of (Some (TooLarge line)) = 9
status_of (Some NoMemory) = 10
status_of (Some (WouldLose line)) = 11

-- The line of an ending, with its line feed; empty on success.
abbrev pub line_of : Option Ending → List ℕ
line_of None = []
line_of (Some (Refused line)) = line.items
line_of (Some BadWords) = bad_words
line_of (Some (BadText line)) = string_bytes line
line_of (Some (NotCompatible line)) = string_bytes line
line_of (Some ReadFault) = read_fault
line_of (Some WriteFault) = write_fault
line_of (Some ShelfFault) = shelf_fault
line_of (Some (NotThere line)) = string_bytes line
line_of (Some (TooLarge line)) = string_bytes line
line_of (Some NoMemory) = out_of_memory
line_of (Some (WouldLose line)) = line.items

-- The line has been written and the status returned; or a prefix has been written and status 6 returned. On success
-- nothing is written.
abbrev pub Tells : Outlet → Outlet → Option Ending → ℕ → Type 0
Tells notes notes' None result = (result ≡ 0) × (notes' ≡ notes)
Tells notes notes' ending result =
    ((result ≡ status_of ending) × Appends notes.written notes'.written (line_of ending))
    ⊎ ((result ≡ 6) × Rose notes.faults notes'.faults × AppendsPrefix notes.written notes'.written (line_of ending))

-- The outcome has this status and this line, has no part, and its number of input bytes has been read.
pub record EndsWith (status : ℕ) (line : List ℕ) (input input' : Intake) (o : Outcome) : Type 0 where
  pub status_is : o.status ≡ status
  pub parts : o.parts ≡ []
  pub note : o.note ≡ line
  pub taken : TakesBytes input input' o.taken

-- The outcome has been carried out.
pub record DoneAs (input input' : Intake) (out out' : Outlet) (shelf shelf' : Stock) (o : Outcome) : Type 0 where
  pub status_is : o.status ≡ 0
  pub text : Appends out.written out'.written (text_of o.parts)
  pub note : o.note ≡ []
  pub held : shelf'.held ≡ held_after shelf.held o.parts
  pub taken : TakesBytes input input' o.taken

-- What an ending says about the outcome: it has been carried out, or it ended with this status, or how far the call
-- got.
abbrev pub EndsAs : (input input' : Intake) (out out' : Outlet) (shelf shelf' : Stock) → Option Ending → Outcome → Type 0
EndsAs input input' out out' shelf shelf' None o = DoneAs input input' out out' shelf shelf' o
EndsAs input input' out out' shelf shelf' (Some (Refused line)) o = EndsWith 1 line.items input input' o
EndsAs input input' out out' shelf shelf' (Some BadWords) o = EndsWith 2 bad_words input input' o
EndsAs input input' out out' shelf shelf' (Some (BadText line)) o = EndsWith 3 (string_bytes line) input input' o
EndsAs input input' out out' shelf shelf' (Some (NotCompatible line)) o = EndsWith 4 (string_bytes line) input input' o
EndsAs input input' out out' shelf shelf' (Some ReadFault) o = ComesTo out out' shelf shelf' o.parts
EndsAs input input' out out' shelf shelf' (Some WriteFault) o = ComesTo out out' shelf shelf' o.parts
EndsAs input input' out out' shelf shelf' (Some ShelfFault) o = ComesToFault out out' shelf shelf' o.parts
EndsAs input input' out out' shelf shelf' (Some (NotThere line)) o = EndsWith 8 (string_bytes line) input input' o
EndsAs input input' out out' shelf shelf' (Some (TooLarge line)) o = EndsWith 9 (string_bytes line) input input' o
EndsAs input input' out out' shelf shelf' (Some NoMemory) o = ComesTo out out' shelf shelf' o.parts
EndsAs input input' out out' shelf shelf' (Some (WouldLose line)) o = EndsWith 11 line.items input input' o

-- ---- the cause of an ending, also where the contents are unknown

-- For every command: a failure comes only if its object has counted one. If the command ends with a status of its own, only the
-- input is touched.
abbrev pub Caused : (input input' : Intake) (out out' : Outlet) (shelf shelf' : Stock) → Option Ending → Type 0
Caused input input' out out' shelf shelf' None = Unit {0}
Caused input input' out out' shelf shelf' (Some ReadFault) =
    Rose input.faults input'.faults × Keeps out.written out'.written
Caused input input' out out' shelf shelf' (Some WriteFault) = Rose out.faults out'.faults
Caused input input' out out' shelf shelf' (Some ShelfFault) = Rose shelf.faults shelf'.faults
Caused input input' out out' shelf shelf' (Some NoMemory) = Unit {0}
Caused input input' out out' shelf shelf' ending =
    Keeps out.written out'.written × (shelf'.held ≡ shelf.held)

-- Why the set that an argument names wasn't obtained. `asks` is whether the argument names a file.
abbrev pub SetCause : Bool → (shelf shelf' : Stock) → Option Ending → Type 0
SetCause asks shelf shelf' (Some (BadText line)) = asks ≡ true
SetCause asks shelf shelf' (Some ShelfFault) = (asks ≡ true) × Rose shelf.faults shelf'.faults
SetCause asks shelf shelf' (Some (NotThere line)) = asks ≡ true
SetCause asks shelf shelf' (Some (TooLarge line)) = asks ≡ true
SetCause asks shelf shelf' (Some NoMemory) = Unit {0}
SetCause asks shelf shelf' ending = ⊥

-- For commands that write one text once it is known: nothing has been written, unless the command succeeded or
-- standard output failed.
abbrev pub Quiet : Outlet → Outlet → Option Ending → Type 0
Quiet out out' None = Unit {0}
Quiet out out' (Some WriteFault) = Unit {0}
Quiet out out' ending = Keeps out.written out'.written

-- ---- what writing a text guarantees

-- The text has been written, or a prefix of it if standard output failed.
abbrev pub WritesAs : List ℕ → Outlet → Outlet → Option Ending → Type 0
WritesAs text out out' None = Puts out out' text
WritesAs text out out' (Some WriteFault) = Stops out out' text
WritesAs text out out' _ = ⊥
