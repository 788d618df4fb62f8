-- The commands of OCW2.
use Rattle.std.specs.Prelude.{ℕ, ◌<◌, ◌/◌, ◌%◌, ◌==◌, true, false, if◌then◌else◌}
use Rattle.dev_pic.specs.declared.ocw2.Ocw2.{Ocw2}
use Rattle.dev_pic.specs.declared.ocw2.Ocw2.TheVariants.{NonSpecificEoi, RotateOnNonSpecificEoi, SpecificEoi, RotateOnSpecificEoi, RotateInAutomaticEoi, SetPriority, NoOperation}

-- `command_of value` is the command of bits 7 to 5, for the input of bits 2 to 0 (8259A data sheet,
-- "Operation Control Word 2 (OCW2)").
abbrev pub command_of : ℕ → Ocw2
command_of value =
    let bits = value / 32 in
    let input = value % 8 in
    if bits == 0b001 then NonSpecificEoi
    else (if bits == 0b101 then RotateOnNonSpecificEoi
    else (if bits == 0b011 then SpecificEoi input
    else (if bits == 0b111 then RotateOnSpecificEoi input
    else (if bits == 0b100 then RotateInAutomaticEoi true
    else (if bits == 0b000 then RotateInAutomaticEoi false
    else (if bits == 0b110 then SetPriority input
    else NoOperation))))))

-- `HasInput command`: the input that the command names, if it names one, is 0 to 7.
abbrev pub HasInput : Ocw2 → Type 0
HasInput (SpecificEoi input) = input < 8
HasInput (RotateOnSpecificEoi input) = input < 8
HasInput (SetPriority input) = input < 8
HasInput _ = Unit {0}
