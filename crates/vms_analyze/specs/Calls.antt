-- What the calls return, beside the listing.
use Rattle.std.specs.Prelude.{◌≡◌, ℕ, ◌+◌, ◌≤◌, List, length, Result, Ok, Err, Vec}
use Rattle.std.specs.Global.{Global}
use Rattle.std.specs.Io.KnownBytes.{IsAtEnd}
use Rattle.vms_io.specs.Reading.{Takes, Breaks, On, Last, Reads}
use Rattle.vms_io.specs.Told.{Intake, Outlet}
use Rattle.vms_io.specs.Writing.{Puts, Stops}
use Rattle.vms_analyze.specs.declared.fault.AnalyzeFault.{AnalyzeFault}
use Rattle.vms_analyze.specs.declared.fault.AnalyzeFault.TheVariants as faults
use Rattle.vms_analyze.specs.declared.fault.AnalyzeReason.TheVariants as reasons
use Rattle.vms_analyze.specs.Listing.{Listing, Text, Refused, Lists, longest_input}

-- ---- of bytes

-- The result is this listing, unless memory runs out.
abbrev pub ShowsAs : Listing → Result (Vec ℕ Global) AnalyzeFault → Type 0
ShowsAs listing (Ok text) = listing ≡ Text text.items
ShowsAs listing (Err (faults.Refused at reason)) = listing ≡ Refused at reason
ShowsAs listing (Err faults.NoMemory) = Unit {0}
ShowsAs listing (Err fault) = ⊥

-- The result is the listing of these bytes, unless memory runs out.
abbrev pub ListsAs : List ℕ → Result (Vec ℕ Global) AnalyzeFault → Type 0
ListsAs input (Ok text) = Lists input (Text text.items)
ListsAs input (Err (faults.Refused at reason)) = Lists input (Refused at reason)
ListsAs input (Err faults.NoMemory) = Unit {0}
ListsAs input (Err fault) = ⊥

-- ---- of the rest of a source

-- The rest of the source was taken, and has this listing.
pub record IsListed (old new : Intake) (listing : Listing) : Type 0 where
  pub reads : Reads Last old new (λ n. n ≤ longest_input) (λ input more. Lists input listing)
  pub end : IsAtEnd new.left

-- The bytes taken are so many that the input has this listing, whatever follows them.
pub record IsTooMuch (old new : Intake) (listing : Listing) : Type 0 where
  pub reads : Reads On old new (λ n. n ≡ longest_input + 1) (λ input more. Lists input listing)

-- Some bytes were taken, at most one more than the longest input.
pub record TakesFew (old new : Intake) : Type 0 where
  pub bytes : List ℕ
  pub takes : Takes old new bytes
  pub few : length bytes ≤ longest_input + 1

-- The result is the text of the listing, or its reason and offset; or a read failed, or memory ran out.
abbrev pub ListsTaken : Intake → Intake → Result (Vec ℕ Global) AnalyzeFault → Type 0
ListsTaken old new (Ok text) = IsListed old new (Text text.items)
ListsTaken old new (Err (faults.Refused at reasons.TooLong)) = IsTooMuch old new (Refused at reasons.TooLong)
ListsTaken old new (Err (faults.Refused at reason)) = IsListed old new (Refused at reason)
ListsTaken old new (Err faults.ReadFault) = Breaks old new (longest_input + 1)
ListsTaken old new (Err faults.WriteFault) = ⊥
ListsTaken old new (Err faults.NoMemory) = TakesFew old new

-- ---- over a source and a sink

-- The text that the input lists was written, or a beginning of it before a write that failed.
pub record WritesListed (old new : Intake) (Writes : List ℕ → Type 0) : Type 0 where
  pub text : List ℕ
  pub listed : IsListed old new (Text text)
  pub written : Writes text

-- The listing fails, and nothing was written.
abbrev pub Refuses : Intake → Intake → Outlet → Outlet → AnalyzeFault → Type 0
Refuses old new out out' fault = ListsTaken old new (Err fault) × (out' ≡ out)

-- What `analyze` does with its source and sink.
abbrev pub Analyzes : Intake → Intake → Outlet → Outlet → Result (Unit {0}) AnalyzeFault → Type 0
Analyzes old new out out' (Ok x) = WritesListed old new (λ text. Puts out out' text)
Analyzes old new out out' (Err (faults.Refused at reason)) = Refuses old new out out' (faults.Refused at reason)
Analyzes old new out out' (Err faults.ReadFault) = Refuses old new out out' faults.ReadFault
Analyzes old new out out' (Err faults.WriteFault) = WritesListed old new (λ text. Stops out out' text)
Analyzes old new out out' (Err faults.NoMemory) = Refuses old new out out' faults.NoMemory
