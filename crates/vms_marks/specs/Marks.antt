-- The marks that begin a unit of a stream, and their bytes (docs/format.md, "Units, offsets and
-- refusals").
use Rattle.std.specs.Prelude.{ℕ, ◌==◌, if◌then◌else◌, Option, Some, None}
use Rattle.vms_marks.specs.declared.mark.Mark.{Mark}
use Rattle.vms_marks.specs.declared.mark.Mark.TheVariants.{End, Start, Part, SectionEnd, Full, Sub, Description, Configuration, Command, Footer}

-- the byte of a mark
abbrev pub byte_of : Mark → ℕ
byte_of End = 0x00
byte_of Start = 0x01
byte_of Part = 0x02
byte_of SectionEnd = 0x03
byte_of Full = 0x04
byte_of Sub = 0x05
byte_of Description = 0x06
byte_of Configuration = 0x07
byte_of Command = 0x08
byte_of Footer = 0x7e

-- the mark whose byte this is, if there is one
abbrev pub mark_of : ℕ → Option Mark
mark_of byte =
    if byte == 0x00 then Some End
    else if byte == 0x01 then Some Start
    else if byte == 0x02 then Some Part
    else if byte == 0x03 then Some SectionEnd
    else if byte == 0x04 then Some Full
    else if byte == 0x05 then Some Sub
    else if byte == 0x06 then Some Description
    else if byte == 0x07 then Some Configuration
    else if byte == 0x08 then Some Command
    else if byte == 0x7e then Some Footer
    else None
