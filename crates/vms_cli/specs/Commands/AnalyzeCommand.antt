-- The command `analyze`: its outcome, and how it ends.
use Rattle.std.specs.Prelude.{◌≡◌, ℕ, ◌+◌, ◌≤◌, min, false, List, [], ◌∷◌, ◌++◌, length, Option, IsSomeAnd, Result, Ok, Err, codes, Some, None}
use Rattle.std.specs.Fmt.{decimal}
use Rattle.arrayvec.specs.ArrayVec.{ArrayVec}
use Rattle.vms_io.specs.Shelves.{Held}
use Rattle.vms_analyze.specs.Listing.{Listing, Text, Refused, Lists, longest_input}
use Rattle.vms_analyze.specs.declared.fault.AnalyzeFault.{AnalyzeFault}
use Rattle.vms_analyze.specs.declared.fault.AnalyzeFault.TheVariants as faults
use Rattle.vms_analyze.specs.declared.fault.AnalyzeReason.{AnalyzeReason}
use Rattle.vms_analyze.specs.declared.fault.AnalyzeReason.TheVariants as reasons
use Rattle.vms_commands.specs.Courses.{Course, text_course}
use Rattle.vms_commands.specs.Outcomes.{Outcome, done, ended}
use Rattle.vms_commands.specs.declared.ending.Ending.{Ending}
use Rattle.vms_commands.specs.declared.ending.Ending.TheVariants as endings
use Rattle.vms_cli.specs.Entry.{Entry, plain_entry}

-- The word for the reason why an input can't be listed.
abbrev pub analyze_reason_name : AnalyzeReason → List ℕ
analyze_reason_name reasons.TooLong = codes "TooLong"
analyze_reason_name reasons.NoDescription = codes "NoDescription"
analyze_reason_name reasons.Shape = codes "Shape"
analyze_reason_name reasons.Mismatch = codes "Mismatch"

-- The line of an input that can't be listed. It names no device.
abbrev pub unlisted_line : ℕ → AnalyzeReason → List ℕ
unlisted_line at reason =
    codes "refused at " ++ (decimal at ++ (codes " in -: " ++ (analyze_reason_name reason ++ 10 ∷ [])))

-- The number of input bytes that are read: all, or one more than an input may have.
abbrev pub bytes_taken : List ℕ → ℕ
bytes_taken input = min (length input) (longest_input + 1)

-- The outcome of a listing: its text, or the line of its refusal.
abbrev pub listing_outcome : Listing → List ℕ → Option Held → Outcome
listing_outcome (Text text) input held = done text held (bytes_taken input)
listing_outcome (Refused at reason) input held = ended 1 (unlisted_line at reason) (bytes_taken input)

-- The outcome is that of the listing of the input. The shelf holds the same as before.
pub record IsListing (held : Option Held) (input : List ℕ) (o : Outcome) : Type 0 where
  pub listing : Listing
  pub lists : Lists input listing
  pub is : o ≡ listing_outcome listing input held

-- ---- how it ends, and why, also where the contents are unknown

-- The ending of each answer of the call.
pub data EndsLike : Result (Unit {0}) AnalyzeFault → Option Ending → Type 0 where
  IsDone : (u : Unit {0}) → EndsLike (Ok u) None
  IsRefused : (at : ℕ) (reason : AnalyzeReason) (line : ArrayVec ℕ) → line.items ≡ unlisted_line at reason
      → EndsLike (Err (faults.Refused at reason)) (Some (endings.Refused line))
  FailsReading : EndsLike (Err faults.ReadFault) (Some endings.ReadFault)
  FailsWriting : EndsLike (Err faults.WriteFault) (Some endings.WriteFault)
  LacksMemory : EndsLike (Err faults.NoMemory) (Some endings.NoMemory)

-- The number of bytes that are read is within the limit.
abbrev pub GivesListed : (before now : ℕ) → Type 0
GivesListed before now = now ≤ before + (longest_input + 1)

-- The course of `analyze`, which allocates while it reads.
abbrev pub analyze_course : Course
analyze_course = text_course (0 ∷ 1 ∷ 5 ∷ 6 ∷ 10 ∷ []) (0 ∷ 1 ∷ 5 ∷ 6 ∷ 10 ∷ []) false

-- The command `analyze`. It needs an input that has a listing.
abbrev pub analyze_entry : Entry
analyze_entry =
    plain_entry (record {
      has = λ input held o. IsSomeAnd input (λ bytes. IsListing held bytes o);
      sees = λ held bytes o. IsListing held bytes o;
      gives = λ held i i'. GivesListed i.given i'.given;
      course = analyze_course;
    }) (λ input held. IsSomeAnd input (λ bytes. (text : List ℕ) × Lists bytes (Text text)))
