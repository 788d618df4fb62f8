-- What a byte written to the control port means.
use Rattle.std.specs.Prelude.{ℕ, ◌/◌, ◌%◌, ◌<◌, ◌==◌, not, if◌then◌else◌}
use Rattle.dev_base.specs.Bits.{has}
use Rattle.dev_pit.specs.Mode.{mode_of, access_of}
use Rattle.dev_pit.specs.declared.control.ControlWord.{ControlWord}
use Rattle.dev_pit.specs.declared.control.ControlWord.TheVariants.{LatchCount, SetMode, ReadBack}

-- `control_word value` is the meaning of the byte (8254 data sheet, "Control Word Format", "Counter
-- Latch Command" and "Read-Back Command").
-- Bits 7 and 6 choose a counter; if they are 3, the byte is a read-back command. In a read-back
-- command a clear bit 5 requests counts and a clear bit 4 statuses.
-- Otherwise bits 5 and 4 are RW; if they are 0, the byte is a counter latch command.
unfoldable pub control_word : ℕ → ControlWord
control_word value =
    let counter = value / 64 in
    let access = value / 16 % 4 in
    if counter == 3 then ReadBack (not (has value 5)) (not (has value 4)) (has value 1) (has value 2) (has value 3)
    else (if access == 0 then LatchCount counter else SetMode counter (access_of access) (mode_of (value / 2 % 8)) (has value 0))

-- `IsWord word`: a counter that the control word names is 0 to 2.
abbrev pub IsWord : ControlWord → Type 0
IsWord (LatchCount counter) = counter < 3
IsWord (SetMode counter access mode bcd) = counter < 3
IsWord (ReadBack count status first second third) = Unit {0}
