-- How a run of the program ends, once the call is made and its texts are flushed.
use Rattle.std.specs.Prelude.{◌≡◌, ◌⊎◌, ℕ, false, List, [], Option, None}
use Rattle.std.specs.Io.KnownBytes.{Keeps}
use Rattle.vms_io.specs.Ahead.{ahead}
use Rattle.vms_io.specs.Causes.{AppendsPrefix}
use Rattle.vms_io.specs.Gathered.{KeepsFront}
use Rattle.vms_io.specs.Told.{Stock}
use Rattle.vms_commands.specs.Lines.{write_fault}
use Rattle.vms_commands.specs.Outcomes.{Outside}
use Rattle.vms_cli.specs.Answers.{Answers}

-- The outside of the call: what the reader has left, what the writers have, no failure so far, and this shelf.
abbrev pub outside : (left out notes : Option (List ℕ)) → Stock → Outside
outside left out notes shelf = record {
  input = record { left = ahead left []; given = 0; faults = 0; promise = false };
  out = record { written = out; faults = 0; promise = None };
  notes = record { written = notes; faults = 0; promise = None };
  shelf = shelf;
}

-- Standard error has a prefix of the call's line, and then `write fault`, or a prefix of both.
pub record TellsLate (line notes : Option (List ℕ)) : Type 0 where
  pub first : Option (List ℕ)
  pub whole : Option (List ℕ)
  pub cut : KeepsFront line first
  pub told : AppendsPrefix first whole write_fault
  pub flushed : KeepsFront whole notes

-- The line is flushed, or standard error failed after a prefix of it.
abbrev pub NotesEnd : (answered : ℕ) (line : Option (List ℕ)) (status : ℕ) (notes : Option (List ℕ)) → Type 0
NotesEnd answered line status notes = ((status ≡ answered) × Keeps line notes) ⊎ ((status ≡ 6) × KeepsFront line notes)

-- What the writers have at the end, and the status. It depends on the status that the call returned, its text and
-- its line. Standard output took everything, and standard error too, or that failed at the flush; or standard
-- output failed, and standard error has `write fault` in place of the line.
pub data Ends (answered : ℕ) (text line : Option (List ℕ)) (status : ℕ) (out notes : Option (List ℕ)) : Type 0 where
  OutFlushed : Keeps text out → NotesEnd answered line status notes → Ends answered text line status out notes
  OutLate : status ≡ 6 → KeepsFront text out → TellsLate line notes → Ends answered text line status out notes

-- The call is made, and then its texts are flushed.
pub record Ran (words : List (List ℕ)) (old : Outside) (status : ℕ) (out notes : Option (List ℕ)) : Type 0 where
  pub answered : ℕ
  pub after : Outside
  pub answers : Answers words answered old after
  pub ends : Ends answered after.out.written after.notes.written status out notes
