-- What is read of subsections.
use Rattle.std.specs.Prelude.{◌≡◌, ℕ, suc, true, if◌then◌else◌, List, [], ◌++◌, length, slice_set, Option, Some, None, Result, Ok, Err, codes}
use Rattle.std.specs.Str.{bytes_eq}
use Rattle.std.specs.Fmt.{decimal}
use Rattle.vms_spec.specs.declared.ValuesReason.TheVariants as reasons
use Rattle.vms_spec.specs.Sets.{Sub, Set}
use Rattle.vms_image.specs.Typed.{Typed}
use Rattle.vms_spec.specs.Spelling.{first_line}
use Rattle.vms_spec.specs.ValuesReading.{BadLine, Standing, Read, ReadSubs, readers, read_desc, next_line, rest_of, sub_line, sub_said}
use Rattle.vms_values.specs.declared.cursor.Lines.{Lines}
use Rattle.vms_values.specs.declared.fault.LineFault.{LineFault}
use Rattle.vms_values.specs.declared.fault.LineFault.TheVariants as faults
use Rattle.vms_values.specs.declared.taken.Taken.{Taken}
use Rattle.vms_values.specs.Reading.{IsBad}
use Rattle.vms_values.specs.Taken.{place_of}

-- What a line says about a subsection: its version, a dash, or nothing.
abbrev pub line_said : Sub → List ℕ → Option (Option ℕ)
line_said s line =
    if bytes_eq line (sub_line s (codes "v" ++ decimal s.desc.version)) then Some (Some s.desc.version)
    else if bytes_eq line (sub_line s (codes "-")) then Some None
    else None

-- The line of a subsection was read, or it is refused.
abbrev pub SubPassed : Option (Option ℕ) → Lines → Lines → Result (Option ℕ) LineFault → Type 0
SubPassed (Some came) old new (Ok o) = (o ≡ came) × (new.line ≡ suc old.line) × (new.rest.now ≡ rest_of (first_line old.rest.now))
SubPassed None old new (Err e) = IsBad (record { line = old.line; reason = reasons.Form }) e
SubPassed came old new result = ⊥

-- Whether a subsection came, and the reading's state after it.
abbrev pub with_came : Option ℕ → Read → Result (Option ℕ × Standing) BadLine
with_came o (Ok p) = Ok (o, p)
with_came o (Err b) = Err b

-- The same, by what its line says.
abbrev pub said_read : Set → Sub → ℕ → Standing → Option (Option ℕ) → Result (Option ℕ × Standing) BadLine
said_read set s at p None = Err (record { line = p.line; reason = reasons.Form })
said_read set s at p (Some o) = with_came o (read_desc (readers set) s.desc s.desc.version [] true at (next_line p))

-- What is read of a subsection whose cells begin at `at`.
abbrev pub sub_read : Set → Sub → ℕ → Standing → Result (Option ℕ × Standing) BadLine
sub_read set s at p = said_read set s at p (sub_said s (first_line p.rest))

-- An image of the same device at the same version.
pub record IsAlike (old new : Typed) : Type 0 where
  pub version : new.version ≡ old.version
  pub subs : length new.came ≡ length old.came
  pub cells : length new.numbers ≡ length old.numbers
  pub kinds : new.kinds ≡ old.kinds

-- The subsection is read and marked as it came, or it is refused.
abbrev pub SubReached : Result (Option ℕ × Standing) BadLine → ℕ → Taken → Taken → Result (Unit {0}) LineFault → Type 0
SubReached (Ok (o, q)) j old new (Ok u) =
    (q ≡ place_of new) × (new.image.came ≡ slice_set old.image.came j o) × IsAlike old.image new.image
SubReached (Err b) j old new (Err e) = IsBad b e
SubReached read j old new result = ⊥

-- All are read, with their line numbers, or one is refused. Memory may run out in any case.
abbrev pub SubsReached : Result ReadSubs BadLine → Taken → Taken → List ℕ → Result (Unit {0}) LineFault → Type 0
SubsReached read old new lines (Err faults.NoMemory) = Unit {0}
SubsReached (Ok r) old new lines (Ok u) =
    (r.place ≡ place_of new) × (r.came ≡ new.image.came) × (r.lines ≡ lines) × IsAlike old.image new.image
SubsReached (Err b) old new lines (Err (faults.Bad line reason)) = IsBad b (faults.Bad line reason)
SubsReached read old new lines result = ⊥
