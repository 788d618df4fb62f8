-- How the steps of the code end, compared with the steps of the specification.
use Rattle.std.specs.Prelude.{◌≡◌, ℕ, Bool, true, false, List, Result, Ok, Err, string_bytes, Option, Some, None}
use Rattle.std.specs.Io.KnownBytes.{Appends}
use Rattle.vms_io.specs.Causes.{Rose, AppendsPrefix}
use Rattle.vms_io.specs.Shelving.{Looks}
use Rattle.vms_io.specs.Told.{Outlet, Stock}
use Rattle.vms_commands.specs.declared.ending.Ending.{Ending}
use Rattle.vms_commands.specs.declared.ending.Ending.TheVariants.{BadText, NotCompatible, WriteFault, ShelfFault, NotThere, TooLarge, NoMemory}
use Rattle.vms_commands.specs.declared.fetching.SetText.{SetText as Fetched}
use Rattle.vms_commands.specs.declared.fetching.SetText.TheVariants as fetched
use Rattle.vms_commands.specs.Endings.{SetCause}
use Rattle.vms_commands.specs.Asks.{shipped_asked}
use Rattle.vms_commands.specs.Fetching.{SetText, Number, Text}
use Rattle.vms_commands.specs.Steps.{Step, Untold, Gives, Ends}

-- The fetched set that the code's value means.
abbrev pub text_of : Fetched → SetText
text_of (fetched.Shipped set) = Number (shipped_asked set)
text_of (fetched.Text name text) = Text name.now text.items

-- The shelf failed or memory ran out: both may come at any step.
abbrev pub IsFree : Option Ending → Type 0
IsFree (Some ShelfFault) = Unit {0}
IsFree (Some NoMemory) = Unit {0}
IsFree ending = ⊥

-- The ending has this status and this line, or is one that may come at any step.
abbrev pub EndedAs : ℕ → List ℕ → Option Ending → Type 0
EndedAs status line (Some (BadText text)) = (status ≡ 3) × (line ≡ string_bytes text)
EndedAs status line (Some (NotCompatible text)) = (status ≡ 4) × (line ≡ string_bytes text)
EndedAs status line (Some (NotThere text)) = (status ≡ 8) × (line ≡ string_bytes text)
EndedAs status line (Some (TooLarge text)) = (status ≡ 9) × (line ≡ string_bytes text)
EndedAs status line ending = IsFree ending

-- `StepAs m step result` says that `result` is what `step` gives, where `m` is the meaning of a returned value.
abbrev pub StepAs : {A T : Type 0} → (T → A) → Step A → Result T Ending → Type 0
StepAs m Untold result = Unit {0}
StepAs m (Gives a) (Ok t) = m t ≡ a
StepAs m (Gives a) (Err ending) = IsFree (Some ending)
StepAs m (Ends status line) (Ok t) = ⊥
StepAs m (Ends status line) (Err ending) = EndedAs status line (Some ending)

-- The text has been written to standard output, or a prefix of it if that failed, or nothing if the command ended
-- earlier.
abbrev pub WrittenAs : List ℕ → Outlet → Outlet → Option Ending → Type 0
WrittenAs text out out' None = Appends out.written out'.written text
WrittenAs text out out' (Some WriteFault) = AppendsPrefix out.written out'.written text
WrittenAs text out out' ending = IsFree ending

-- A command that writes the text which a step gives has ended as that step says.
abbrev pub TextEnds : Step (List ℕ) → Outlet → Outlet → Option Ending → Type 0
TextEnds Untold out out' ending = Unit {0}
TextEnds (Gives text) out out' ending = WrittenAs text out out' ending
TextEnds (Ends status line) out out' ending = EndedAs status line ending

-- ---- causes, also where the contents are unknown

-- The shelf was used and holds the same as before; and if the command ended, `Cause` holds.
pub record Asks {T : Type 0} (Cause : Stock → Stock → Result T Ending → Type 0) (shelf shelf' : Stock) (result : Result T Ending) : Type 0 where
  pub looks : Looks shelf shelf'
  pub cause : Cause shelf shelf' result

-- The same for a step that uses the shelf only if `asks`; if not, the shelf is untouched.
pub record AsksIf {T : Type 0} (Cause : Bool → Stock → Stock → Result T Ending → Type 0) (asks : Bool) (shelf shelf' : Stock) (result : Result T Ending) : Type 0 where
  pub looks : Looks shelf shelf'
  pub unasked : asks ≡ false → shelf' ≡ shelf
  pub cause : Cause asks shelf shelf' result

-- Why a fetch failed.
abbrev pub FetchCause : {T : Type 0} → Stock → Stock → Result T Ending → Type 0
FetchCause shelf shelf' (Ok t) = Unit {0}
FetchCause shelf shelf' (Err ShelfFault) = Rose shelf.faults shelf'.faults
FetchCause shelf shelf' (Err (NotThere line)) = Unit {0}
FetchCause shelf shelf' (Err (TooLarge line)) = Unit {0}
FetchCause shelf shelf' (Err NoMemory) = Unit {0}
FetchCause shelf shelf' (Err ending) = ⊥

-- Why fetching the set of an argument failed. `asks` is whether the argument names a file.
abbrev pub WordCause : {T : Type 0} → Bool → Stock → Stock → Result T Ending → Type 0
WordCause asks shelf shelf' (Ok t) = Unit {0}
WordCause asks shelf shelf' (Err ending) = (asks ≡ true) × FetchCause {T = ℕ} shelf shelf' (Err ending)

-- Why parsing a set failed. `asks` is whether it comes from a file.
abbrev pub ReadCause : {T : Type 0} → Bool → Result T Ending → Type 0
ReadCause asks (Ok t) = Unit {0}
ReadCause asks (Err (BadText line)) = asks ≡ true
ReadCause asks (Err NoMemory) = Unit {0}
ReadCause asks (Err ending) = ⊥

-- Why the set of an argument wasn't obtained. `asks` is whether the argument names a file.
abbrev pub HadCause : {T : Type 0} → Bool → Stock → Stock → Result T Ending → Type 0
HadCause asks shelf shelf' (Ok t) = Unit {0}
HadCause asks shelf shelf' (Err ending) = SetCause asks shelf shelf' (Some ending)
