-- What is read of a source: the rest of it, at most the longest input, and one more byte if there are more.
use Rattle.std.specs.Prelude.{◌≡◌, ℕ, ◌+◌, ◌<◌, ◌≤◌, Bool, true, false, List, ◌++◌, length, Result, Ok, Err, Vec}
use Rattle.std.specs.Global.{Global}
use Rattle.std.specs.Io.KnownBytes.{IsAtEnd}
use Rattle.vms_io.specs.Reading.{Takes, Breaks}
use Rattle.vms_io.specs.Told.{Intake}
use Rattle.vms_analyze.specs.Listing.{longest_input}
use Rattle.vms_analyze.specs.Calls.{TakesFew}
use Rattle.vms_analyze.specs.declared.input.NoInput.{NoInput}
use Rattle.vms_analyze.specs.declared.input.NoInput.TheVariants as none

-- These are all bytes of the rest.
pub record IsWhole (old new : Intake) (input : List ℕ) : Type 0 where
  pub few : length input ≤ longest_input
  pub takes : Takes old new input
  pub end : IsAtEnd new.left

-- There are more bytes than the longest input.
pub record HasMore (old new : Intake) : Type 0 where
  pub front : List ℕ
  pub long : length front ≡ longest_input + 1
  pub takes : Takes old new front

-- These bytes were taken and appended to `was`: `room` of them, or fewer at the end.
pub record Appended (old new : Intake) (was now : List ℕ) (room : ℕ) (done : Bool) : Type 0 where
  pub bytes : List ℕ
  pub takes : Takes old new bytes
  pub items : now ≡ was ++ bytes
  pub few : length bytes ≤ room
  pub all : done ≡ false → length bytes ≡ room
  pub short : done ≡ true → length bytes < room
  pub end : done ≡ true → IsAtEnd new.left

-- Some bytes were taken, at most `room`.
pub record TakesSome (old new : Intake) (room : ℕ) : Type 0 where
  pub bytes : List ℕ
  pub takes : Takes old new bytes
  pub few : length bytes ≤ room

-- What reading a piece does.
abbrev pub TakesPiece : Intake → Intake → List ℕ → List ℕ → ℕ → Result Bool NoInput → Type 0
TakesPiece old new was now room (Ok done) = Appended old new was now room done
TakesPiece old new was now room (Err none.TooLong) = ⊥
TakesPiece old new was now room (Err none.ReadFault) = Breaks old new room
TakesPiece old new was now room (Err none.NoMemory) = TakesSome old new room

-- What reading the whole input does.
abbrev pub TakesInput : Intake → Intake → Result (Vec ℕ Global) NoInput → Type 0
TakesInput old new (Ok input) = IsWhole old new input.items
TakesInput old new (Err none.TooLong) = HasMore old new
TakesInput old new (Err none.ReadFault) = Breaks old new (longest_input + 1)
TakesInput old new (Err none.NoMemory) = TakesFew old new
