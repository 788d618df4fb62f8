-- The command `convert`: its outcome, and what it sees of its input.
use Rattle.std.specs.Prelude.{◌≡◌, ℕ, ◌+◌, ◌<◌, ◌≤◌, Bool, List, [], ◌∷◌, ◌++◌, length, Option, Some, None, IsSomeAnd, Result, Ok, Err, codes, string_bytes}
use Rattle.std.specs.declared.alloc.Global.{Global}
use Rattle.std.specs.declared.string.String.{String}
use Rattle.arrayvec.specs.ArrayVec.{ArrayVec}
use Rattle.dev_base.specs.declared.limits.TheConstants.{NEWEST}
use Rattle.vms_io.specs.Memory.{Store}
use Rattle.vms_io.specs.Shelves.{Held}
use Rattle.vms_io.specs.Told.{Intake, Outlet}
use Rattle.vms_spec.specs.declared.Reason.{Reason}
use Rattle.vms_spec.specs.Good.{IsFit}
use Rattle.vms_spec.specs.Images.{Image}
use Rattle.vms_spec.specs.Sets.{Set}
use Rattle.vms_spec.specs.Layout.{device_cells}
use Rattle.vms_desc.specs.Described.{device_at}
use Rattle.vms_desc.specs.Formed.{shipped_set}
use Rattle.vms_elements.specs.Parts.{cell_name}
use Rattle.vms_stream.specs.Faults.{Fault}
use Rattle.vms_stream.specs.Streams.{Takes}
use Rattle.vms_frames.specs.declared.fault.Refusal.{Refusal}
use Rattle.vms_load.specs.Staging.{most_given}
use Rattle.vms_check.specs.Comparing.{Compatible, first_mismatch}
use Rattle.vms_check.specs.declared.mismatch.Mismatch.{Mismatch}
use Rattle.vms_convert.specs.Calls.{IsStreamFor, LosesFirst}
use Rattle.vms_convert.specs.declared.fault.ConvertFault.{ConvertFault}
use Rattle.vms_convert.specs.declared.fault.ConvertFault.TheVariants as faults
use Rattle.vms_commands.specs.Courses.{Course, text_course}
use Rattle.vms_commands.specs.Fetching.{is_on_shelf, word_set}
use Rattle.vms_commands.specs.Lines.{refused_line, section_text}
use Rattle.vms_commands.specs.Outcomes.{Outcome, done, ended}
use Rattle.vms_commands.specs.SetLines.{mismatch_line}
use Rattle.vms_commands.specs.SetWords.{SetOf, SetWord, Shipped, OnShelf}
use Rattle.vms_commands.specs.Steps.{Step, Gives, Ends, next}
use Rattle.vms_commands.specs.declared.ending.Ending.{Ending}
use Rattle.vms_commands.specs.declared.kinds.BoardKind.TheVariants.{Isa}
use Rattle.vms_commands.specs.declared.ending.Ending.TheVariants as endings
use Rattle.vms_board_commands.specs.Seen.{WithGiven}
use Rattle.vms_board_commands.specs.Runs.{ReadsBy, RunsBehind, read_task}
use Rattle.vms_cli.specs.Entry.{Entry, plain_entry}

-- A set that `convert` takes: a shipped one of the boards isa-1 to isa-4, or a file on the shelf.
abbrev pub convertible : Option SetWord → Option SetWord
convertible (Some (Shipped (SetOf Isa number))) = Some (Shipped (SetOf Isa number))
convertible (Some (OnShelf name)) = Some (OnShelf name)
convertible _ = None

-- The set whose streams are read.
abbrev pub newest : Set
newest = shipped_set NEWEST

-- The set, if the newest set reads what it writes, or the line of the first rule that fails.
abbrev pub agreed : Set → Option Mismatch → Step Set
agreed to None = Gives to
agreed to (Some mismatch) = Ends 4 (mismatch_line mismatch)

-- The same, by comparing the set with the newest one.
abbrev pub agrees : Set → Step Set
agrees to = agreed to (first_mismatch to newest)

-- The set is fetched and parsed, and then compared.
abbrev pub target : Option Held → SetWord → Step Set
target held word = next (word_set held word) agrees

-- The text of what would be lost: a cell by its path, or a device without cells, or the machine.
abbrev pub lost_text : Set → (section cell : Option ℕ) → List ℕ
lost_text set (Some k) (Some c) = cell_name set (device_at set k) c
lost_text set (Some k) None = codes "-"
lost_text set None cell = codes "machine"

-- The room for a path, before one is written.
abbrev pub no_path : Store
no_path = record { bytes = []; room = 64; failing = []; calls = 0; faults = 0 }

-- The line that names what would be lost, in a device or in none.
abbrev pub line_of : Set → Option ℕ → List ℕ → List ℕ
line_of set section what = codes "would lose " ++ (section_text set section ++ (codes " " ++ (what ++ 10 ∷ [])))

-- The line of what would be lost.
abbrev pub lost_line : Set → (section cell : Option ℕ) → List ℕ
lost_line set section cell = line_of set section (lost_text set section cell)

-- The outcome under a set: the stream of what the input has as one of the newest set, or what would be lost first;
-- or where and why the input is refused, up to the end of the offending unit. The shelf holds the same as before.
pub data Converts (to : Set) (input : List ℕ) (held : Option Held) : Outcome → Type 0 where
  Rewrites : (taken : ℕ) (machine : Option (List ℕ)) (images : List Image) (bytes : List ℕ)
      → Takes newest newest.machines input taken machine images → IsStreamFor to newest machine images bytes
      → Converts to input held (done bytes held taken)
  WouldLose : (taken : ℕ) (machine : Option (List ℕ)) (images : List Image) (section cell : Option ℕ)
      → Takes newest newest.machines input taken machine images → LosesFirst to newest machine images section cell
      → Converts to input held (ended 11 (lost_line newest section cell) taken)
  Refuses : (place : ℕ) (section : Option ℕ) (reason : Reason) (size : ℕ) → Fault newest newest.machines input place section reason size
      → Converts to input held (ended 1 (refused_line newest place section reason) (place + size))

-- The outcome under the set that a step gives, or the end of that step, before any input is read.
abbrev pub ConvertsBy : Step Set → Option (List ℕ) → Option Held → Outcome → Type 0
ConvertsBy step input held o = ReadsBy Converts step input held o

-- The most bytes that the input gives: those of a stream of the newest set, and none if there is no set.
abbrev pub ConvertGives : Step Set → Intake → Intake → Type 0
ConvertGives (Ends status line) input input' = input' ≡ input
ConvertGives step input input' = input'.given ≤ input.given + most_given newest

-- The outcome under a set that is well formed and whose streams the newest set reads.
abbrev pub ConvertsWell : Option Held → Set → List ℕ → Outcome → Type 0
ConvertsWell held to bytes o = IsFit to × Compatible to newest × Converts to bytes held o

-- The outcome of these bytes under the set that the step gave, or may have given if it is unknown.
abbrev pub ConvertsWith : Step Set → Option Held → List ℕ → Outcome → Type 0
ConvertsWith step held = WithGiven step (ConvertsWell held)

-- The course of `convert`, which allocates all memory and then reads. `asks` is whether the shelf is used.
abbrev pub convert_course : (asks : Bool) → Course
convert_course asks = text_course (0 ∷ 1 ∷ 4 ∷ 5 ∷ 6 ∷ 10 ∷ 11 ∷ []) (0 ∷ 1 ∷ 5 ∷ 6 ∷ 11 ∷ []) asks

-- A word names a set whose streams the newest set reads. A stream of the newest set is at the front of the input, and
-- nothing of it would be lost.
abbrev pub CanBeConverted : SetWord → Option (List ℕ) → Option Held → Type 0
CanBeConverted word input held =
    (to : Set) × (word_set held word ≡ Gives to) × Compatible to newest × IsSomeAnd input (λ bytes. (taken : ℕ) × (machine : Option (List ℕ))
    × (images : List Image) × Takes newest newest.machines bytes taken machine images
    × ((section cell : Option ℕ) → LosesFirst to newest machine images section cell → ⊥))

-- The command `convert SET`.
abbrev pub convert_entry : SetWord → Entry
convert_entry word =
    plain_entry (read_task (λ held. target held word) Converts ConvertsWell ConvertGives (convert_course (is_on_shelf word))) (CanBeConverted word)

-- ---- how it ends, and why, also where the contents are unknown

-- A device of the newest set, and a cell of it.
abbrev pub IsInNewest : (section cell : Option ℕ) → Type 0
IsInNewest (Some k) (Some c) = (k < length newest.devices) × (c < length (device_cells newest (device_at newest k)))
IsInNewest section cell = Unit {0}

-- A loss names a device and a cell of the newest set.
abbrev pub NamesCell : Result (Unit {0}) ConvertFault → Type 0
NamesCell (Err (faults.WouldLose section cell)) = IsInNewest section cell
NamesCell answer = Unit {0}

-- The ending for each result of the call.
pub data EndsLike : Result (Unit {0}) ConvertFault → Option Ending → Type 0 where
  IsDone : (u : Unit {0}) → EndsLike (Ok u) None
  IsMismatch : (mismatch : Mismatch) (line : String Global) → string_bytes line ≡ mismatch_line mismatch
      → EndsLike (Err (faults.NotCompatible mismatch)) (Some (endings.NotCompatible line))
  IsRefused : (r : Refusal) (line : ArrayVec ℕ) → line.items ≡ refused_line newest r.at r.section r.reason
      → EndsLike (Err (faults.Refused r)) (Some (endings.Refused line))
  IsLost : (section cell : Option ℕ) (line : ArrayVec ℕ) → line.items ≡ lost_line newest section cell
      → EndsLike (Err (faults.WouldLose section cell)) (Some (endings.WouldLose line))
  FailsReading : EndsLike (Err faults.ReadFault) (Some endings.ReadFault)
  FailsWriting : EndsLike (Err faults.WriteFault) (Some endings.WriteFault)
  LacksMemory : EndsLike (Err faults.NoMemory) (Some endings.NoMemory)
  -- the sets are compared before the input is read, and only their line needs memory
  LacksLine : (mismatch : Mismatch) → EndsLike (Err (faults.NotCompatible mismatch)) (Some endings.NoMemory)

-- What the command guarantees once the set is known.
pub record ConvertsStream (to : Set) (i i' : Intake) (o o' : Outlet) (e : Option Ending) : Type 0 where
  pub runs : RunsBehind (ConvertsBy (agrees to)) (ConvertsWith (agrees to)) convert_course i i' o o' e
  pub given : ConvertGives (agrees to) i i'
