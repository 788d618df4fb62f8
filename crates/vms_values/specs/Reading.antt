-- What a call reads, compared with the definition's reading.
use Rattle.std.specs.Prelude.{◌≡◌, ℕ, suc, ◌<◌, Bool, true, false, List, length, map, Option, Result, Ok, Err, ℤ}
use Rattle.std.specs.Option.{ForSome}
use Rattle.vms_spec.specs.declared.ValuesReason.TheVariants as reasons
use Rattle.vms_spec.specs.Sets.{Set}
use Rattle.vms_spec.specs.Images.{Image}
use Rattle.vms_spec.specs.Spelling.{first_line}
use Rattle.vms_spec.specs.ValuesReading.{BadLine, Standing, Read, ValuesRead, Values, Bad, rest_of}
use Rattle.vms_elements.specs.Reading.{IsText, Refused}
use Rattle.vms_image.specs.Typed.{state_of}
use Rattle.vms_values.specs.Printing.{machine_of}
use Rattle.vms_values.specs.declared.fault.LineFault.{LineFault}
use Rattle.vms_values.specs.declared.fault.LineFault.TheVariants as faults
use Rattle.vms_values.specs.declared.fault.ValuesFault.{ValuesFault}
use Rattle.vms_values.specs.declared.fault.ValuesFault.TheVariants as outer
use Rattle.vms_values.specs.declared.fault.Values.{Values as Given}
use Rattle.vms_values.specs.declared.cursor.Lines.{Lines}

-- The state of a reading: the numbers so far, and the rest of the text.
abbrev pub standing : List ℤ → Lines → Standing
standing numbers lines = record { numbers = numbers; line = lines.line; rest = lines.rest.now }

-- The text is refused at that line and for that reason.
abbrev pub IsBad : BadLine → LineFault → Type 0
IsBad b (faults.Bad line reason) = (line ≡ b.line) × (reason ≡ b.reason)
IsBad b faults.NoMemory = ⊥

-- The reading reaches that state, or is refused.
abbrev pub Reaches : Read → Standing → Result (Unit {0}) LineFault → Type 0
Reaches (Ok p) now (Ok u) = p ≡ now
Reaches (Err b) now (Err e) = IsBad b e
Reaches read now result = ⊥

-- The required line was read, or it is refused.
abbrev pub Passed : Bool → Lines → Lines → Result (Unit {0}) LineFault → Type 0
Passed true old new (Ok u) = (new.line ≡ suc old.line) × (new.rest.now ≡ rest_of (first_line old.rest.now))
Passed false old new (Err e) = IsBad (record { line = old.line; reason = reasons.Form }) e
Passed is_there old new result = ⊥

-- The values are images in these states, with this machine.
abbrev pub AreValues : Set → Option (List ℕ) → List Image → Given → Type 0
AreValues set machine images v = (map state_of v.images.items ≡ images) × (machine_of set v.machine ≡ machine) × ForSome v.machine (λ m. m < length set.machines)

-- The values, or the bad line. Memory may run out in any case.
abbrev pub ReadsBy : Set → ValuesRead → Result Given LineFault → Type 0
ReadsBy set read (Err faults.NoMemory) = Unit {0}
ReadsBy set (Values machine images) (Ok v) = AreValues set machine images v
ReadsBy set (Bad line reason) (Err (faults.Bad l r)) = (l ≡ line) × (r ≡ reason)
ReadsBy set read result = ⊥

-- The same, for every text.
abbrev pub ReadsAs : Set → ValuesRead → Result Given ValuesFault → Type 0
ReadsAs set read (Ok v) = ReadsBy set read (Ok v)
ReadsAs set read (Err (outer.Bad line reason)) = ReadsBy set read (Err (faults.Bad line reason))
ReadsAs set read (Err outer.NoMemory) = Unit {0}

-- What the text means, by the lines and elements of the set: the values whose text it is, which may be
-- written, or its first bad line.
abbrev pub MeansAs : Set → List ℕ → Result Given ValuesFault → Type 0
MeansAs set text (Ok v) = IsText set text (machine_of set v.machine) (map state_of v.images.items)
MeansAs set text (Err (outer.Bad line reason)) = Refused set text line reason
MeansAs set text (Err outer.NoMemory) = Unit {0}
