-- What a call has to do, and how far it got: the frame that all commands share.
use Rattle.std.specs.Prelude.{◌≡◌, ◌⊎◌, ℕ, zero, suc, ◌+◌, ◌≤◌, List, [], ◌∷◌, ◌++◌, take, drop, Option, Some, None, IfSome}
use Rattle.std.specs.Io.KnownBytes.{Appends, Keeps}
use Rattle.vms_io.specs.Causes.{Rose, AppendsPrefix, capped}
use Rattle.vms_io.specs.Shelves.{Held, IfToldBoth, KeepsOthers}
use Rattle.vms_io.specs.Told.{Intake, Outlet, Stock}
use Rattle.vms_commands.specs.Lines.{read_fault, write_fault, shelf_fault, out_of_memory}

-- One part of what a command does. `held` is what the shelf holds once the part is done; then `text` is written to
-- standard output.
-- `stores` is the name under which the part stores, if it stores.
pub record Part : Type 0 where
  pub text : List ℕ
  pub held : Option Held
  pub stores : Option (List ℕ)

-- What a command does: the status, the parts in order, the line for standard error, and the number of input bytes
-- that are read. A script that is played has a part for each line that it plays. Every other command has one part, or
-- none if it ends with a failure.
pub record Outcome : Type 0 where
  pub status : ℕ
  pub parts : List Part
  pub note : List ℕ
  pub taken : ℕ

-- The outcome of a command that succeeds with a text, where the shelf holds `held` and `taken` bytes are read.
abbrev pub done : List ℕ → Option Held → ℕ → Outcome
done text held taken = record { status = 0; parts = record { text = text; held = held; stores = None } ∷ []; note = []; taken = taken }

-- The outcome of a command that ends with a status and its line, where `taken` bytes are read.
abbrev pub ended : ℕ → List ℕ → ℕ → Outcome
ended status note taken = record { status = status; parts = []; note = note; taken = taken }

-- The texts of all parts, one after the other.
abbrev pub text_of : List Part → List ℕ
text_of [] = []
text_of (part ∷ parts) = part.text ++ text_of parts

-- What the shelf holds after all parts.
abbrev pub held_after : Option Held → List Part → Option Held
held_after held [] = held
held_after held (part ∷ parts) = held_after part.held parts

-- `text_begun parts k n` is the text of the first `k` parts, of which the last is cut to `n` bytes.
abbrev pub text_begun : List Part → ℕ → ℕ → List ℕ
text_begun parts zero n = []
text_begun [] (suc k) n = []
text_begun (part ∷ parts) (suc zero) n = take n part.text
text_begun (part ∷ parts) (suc (suc k)) n = part.text ++ text_begun parts (suc k) n

-- What contracts know of the outside at one moment: input, standard output, standard error and the shelf.
pub record Outside : Type 0 where
  pub input : Intake
  pub out : Outlet
  pub notes : Outlet
  pub shelf : Stock

-- `n` bytes of the input have been read.
pub record TakesBytes (old new : Intake) (n : ℕ) : Type 0 where
  pub left : IfSome old.left (λ bytes. new.left ≡ Some (drop n bytes))
  pub given : new.given ≡ capped (old.given + n)

-- The call carries out the outcome: its status, its text, its line, what the shelf holds and the bytes that were
-- read.
pub record Does (status : ℕ) (old new : Outside) (o : Outcome) : Type 0 where
  pub same : status ≡ o.status
  pub text : Appends old.out.written new.out.written (text_of o.parts)
  pub note : Appends old.notes.written new.notes.written o.note
  pub shelf : new.shelf.held ≡ held_after old.shelf.held o.parts
  pub taken : TakesBytes old.input new.input o.taken

-- ---- how far a call gets

-- The first `begun` parts were begun. The shelf is as after these. The texts of all but the last of them have been written, and a
-- prefix of the last one's. If none was begun, the shelf is as before and standard output is untouched.
pub record ComesTo (out out' : Outlet) (shelf shelf' : Stock) (parts : List Part) : Type 0 where
  pub begun : ℕ
  pub bytes : ℕ
  pub text : Appends out.written out'.written (text_begun parts begun bytes)
  pub held : shelf'.held ≡ held_after shelf.held (take begun parts)

-- The name under which the first of these parts stores, if it stores.
abbrev pub stored_next : List Part → Option (List ℕ)
stored_next [] = None
stored_next (part ∷ parts) = part.stores

-- What is held under this name is unknown now, and everything else stays.
abbrev pub HoldsBut : Option (List ℕ) → Option Held → Option Held → Type 0
HoldsBut None want held = ⊥
HoldsBut (Some name) want held = IfToldBoth want held (λ a b. KeepsOthers a b name)

-- The first `done` parts are done, and the store of the next one failed. Only what its name holds may be unknown.
pub record FailsToStore (out out' : Outlet) (shelf shelf' : Stock) (parts : List Part) : Type 0 where
  pub done : ℕ
  pub text : Appends out.written out'.written (text_of (take done parts))
  pub rose : Rose shelf.faults shelf'.faults
  pub held : HoldsBut (stored_next (drop done parts)) (held_after shelf.held (take done parts)) shelf'.held

-- How far a call got if the shelf failed: at a store, or elsewhere, where the shelf is as after the parts that were
-- begun.
abbrev pub ComesToFault : (out out' : Outlet) (shelf shelf' : Stock) (parts : List Part) → Type 0
ComesToFault out out' shelf shelf' parts = ComesTo out out' shelf shelf' parts ⊎ FailsToStore out out' shelf shelf' parts

-- A prefix of the outcome's line, or of a failure's line, has been written to standard error.
abbrev pub HasPart : List ℕ → Option (List ℕ) → Option (List ℕ) → Type 0
HasPart note old new =
    AppendsPrefix old new note ⊎ AppendsPrefix old new read_fault ⊎ AppendsPrefix old new write_fault ⊎ AppendsPrefix old new shelf_fault
    ⊎ AppendsPrefix old new out_of_memory

-- ---- why a call may stop early; each reason but a lack of memory only if its object has counted a failure

-- The input failed: status 5, its line, and nothing has been written.
abbrev pub ReadFault : ℕ → Outside → Outside → Type 0
ReadFault status old new =
    (status ≡ 5) × Rose old.input.faults new.input.faults × Keeps old.out.written new.out.written
    × Appends old.notes.written new.notes.written read_fault

-- Standard output failed: status 6 and its line.
abbrev pub OutFault : ℕ → Outside → Outside → Type 0
OutFault status old new =
    (status ≡ 6) × Rose old.out.faults new.out.faults × Appends old.notes.written new.notes.written write_fault

-- Standard error failed: status 6.
abbrev pub NotesFault : ℕ → Outside → Outside → Type 0
NotesFault status old new = (status ≡ 6) × Rose old.notes.faults new.notes.faults

-- The shelf failed: status 7 and its line.
abbrev pub ShelfFault : ℕ → Outside → Outside → Type 0
ShelfFault status old new =
    (status ≡ 7) × Rose old.shelf.faults new.shelf.faults × Appends old.notes.written new.notes.written shelf_fault

-- Memory ran out: status 10 and its line.
abbrev pub WantsMemory : ℕ → Outside → Outside → Type 0
WantsMemory status old new = (status ≡ 10) × Appends old.notes.written new.notes.written out_of_memory

-- The shelf failed, and its line has been written, or a prefix of it if standard error failed.
abbrev pub TellsShelfFault : ℕ → Outside → Outside → Type 0
TellsShelfFault status old new =
    ShelfFault status old new ⊎ (NotesFault status old new × AppendsPrefix old.notes.written new.notes.written shelf_fault)

-- The call stops before the outcome is done, or can't write how it ended. Only after a failure of the shelf may a
-- name be unknown.
pub record Stops (status : ℕ) (old new : Outside) (o : Outcome) : Type 0 where
  pub why : ReadFault status old new ⊎ OutFault status old new
      ⊎ (NotesFault status old new × HasPart o.note old.notes.written new.notes.written)
      ⊎ ShelfFault status old new ⊎ WantsMemory status old new
  pub come : ComesTo old.out new.out old.shelf new.shelf o.parts
      ⊎ (TellsShelfFault status old new × FailsToStore old.out new.out old.shelf new.shelf o.parts)

-- The call carries out the outcome, or stops before it is done.
abbrev pub DoesOrStops : ℕ → Outside → Outside → Outcome → Type 0
DoesOrStops status old new o = Does status old new o ⊎ Stops status old new o
