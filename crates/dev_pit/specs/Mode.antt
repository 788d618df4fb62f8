-- The numbers of modes and of accesses (8254 data sheet, "Control Word Format").
use Rattle.std.specs.Prelude.{ℕ, ◌==◌, if◌then◌else◌}
use Rattle.dev_pit.specs.declared.mode.Mode.{Mode}
use Rattle.dev_pit.specs.declared.mode.Mode.TheVariants.{TerminalCount, OneShot, RateGenerator, SquareWave, SoftwareStrobe, HardwareStrobe}
use Rattle.dev_pit.specs.declared.mode.Access.{Access}
use Rattle.dev_pit.specs.declared.mode.Access.TheVariants.{LowByte, HighByte, LowThenHigh}

-- `mode_number mode` is the number of the mode, 0 to 5.
abbrev pub mode_number : Mode → ℕ
mode_number TerminalCount = 0
mode_number OneShot = 1
mode_number RateGenerator = 2
mode_number SquareWave = 3
mode_number SoftwareStrobe = 4
mode_number HardwareStrobe = 5

-- `mode_of bits` is the mode of the three mode bits; 6 means mode 2, and 7 means mode 3.
abbrev pub mode_of : ℕ → Mode
mode_of bits =
    if bits == 0 then TerminalCount else (if bits == 1 then OneShot else (if bits == 2 then RateGenerator else (if bits == 3 then SquareWave
    else (if bits == 4 then SoftwareStrobe else (if bits == 6 then RateGenerator else (if bits == 7 then SquareWave else HardwareStrobe))))))

-- `access_number access` is the value of the two bits RW.
abbrev pub access_number : Access → ℕ
access_number LowByte = 1
access_number HighByte = 2
access_number LowThenHigh = 3

-- `access_of bits` is the access of the two bits RW if they aren't both 0.
abbrev pub access_of : ℕ → Access
access_of bits = if bits == 1 then LowByte else (if bits == 2 then HighByte else LowThenHigh)
