-- How lines of a session end on a board, a sink and a shelf.
use Rattle.std.specs.Prelude.{◌≡◌, ◌⊎◌, ℕ, List, take, Result, Ok, Err}
use Rattle.std.specs.Io.KnownBytes.{Appends}
use Rattle.dev_board.specs.State.{State}
use Rattle.vms_io.specs.Causes.{Rose}
use Rattle.vms_io.specs.Shelves.{Held}
use Rattle.vms_io.specs.Shelving.{Reaches}
use Rattle.vms_io.specs.Told.{Outlet, Stock}
use Rattle.vms_io.specs.Writing.{Puts, Serves, Stops}
use Rattle.vms_commands.specs.Outcomes.{Part, text_of, held_after, ComesTo, FailsToStore}
use Rattle.vms_session.specs.Session.{Session}
use Rattle.vms_session.specs.declared.line.PlayFault.{PlayFault}
use Rattle.vms_session.specs.declared.line.PlayFault.TheVariants as faults

-- A board and what a shelf holds.
abbrev pub session_of : State → Held → Session
session_of board held = record { board = board; held = held }

-- The first k parts are done, each with all of its text, and nothing of the next one is.
pub record DoesSome (out out' : Outlet) (shelf shelf' : Stock) (parts : List Part) : Type 0 where
  pub done : ℕ
  pub text : Appends out.written out'.written (text_of (take done parts))
  pub held : shelf'.held ≡ held_after shelf.held (take done parts)

-- How lines end that have these parts and leave this session, or a line with its one part: all is done, or some of
-- the parts. After a write fault a prefix of the next text may follow theirs. Only after a shelf fault a name may
-- be unknown: that of a store that failed.
abbrev pub LinesEnd : List Part → Session → (out out' : Outlet) (shelf shelf' : Stock) → State → Result Unit PlayFault → Type 0
LinesEnd parts new out out' shelf shelf' board (Ok u) =
    Appends out.written out'.written (text_of parts) × (shelf'.held ≡ held_after shelf.held parts) × (board ≡ new.board)
LinesEnd parts new out out' shelf shelf' board (Err faults.WriteFault) = ComesTo out out' shelf shelf' parts
LinesEnd parts new out out' shelf shelf' board (Err faults.ShelfFault) = DoesSome out out' shelf shelf' parts ⊎ FailsToStore out out' shelf shelf' parts
LinesEnd parts new out out' shelf shelf' board (Err faults.NoMemory) = DoesSome out out' shelf shelf' parts

-- A write fault comes only if the sink has counted a failure, and a shelf fault only if the shelf has.
abbrev pub HasPlayCause : (out out' : Outlet) (shelf shelf' : Stock) → Result Unit PlayFault → Type 0
HasPlayCause out out' shelf shelf' (Ok u) = Unit {0}
HasPlayCause out out' shelf shelf' (Err faults.WriteFault) = Rose out.faults out'.faults
HasPlayCause out out' shelf shelf' (Err faults.ShelfFault) = Rose shelf.faults shelf'.faults
HasPlayCause out out' shelf shelf' (Err faults.NoMemory) = Unit {0}

-- What lines do to a sink and a shelf, however they end: no recorded failure is lost, the promises stay, and each
-- fault has its cause.
pub record Goes (out out' : Outlet) (shelf shelf' : Stock) (result : Result Unit PlayFault) : Type 0 where
  pub serves : Serves out out'
  pub reaches : Reaches shelf shelf'
  pub cause : HasPlayCause out out' shelf shelf' result

-- A text has been written, or a prefix of it before a write fault.
abbrev pub WritesText : List ℕ → Outlet → Outlet → Result Unit PlayFault → Type 0
WritesText text out out' (Ok u) = Puts out out' text
WritesText text out out' (Err faults.WriteFault) = Stops out out' text
WritesText text out out' (Err faults.ShelfFault) = ⊥
WritesText text out out' (Err faults.NoMemory) = ⊥
