-- The serial port's list.
use Rattle.std.specs.Prelude.{ℕ, List, map}
use Rattle.vms_fields.specs.Fields.{Row, place_of}
use Rattle.vms_fields.specs.declared.serial.TheConstants.{SERIAL}

-- The rows of the serial port's list.
abbrev pub serial_rows : List Row
serial_rows = map (λ row. record { name = row.0.now; former = map (λ n. n.now) row.1.now; shape = row.2 }) SERIAL

-- The index of the first cell of the field `name` in the newest set.
abbrev pub place_of_serial : List ℕ → ℕ
place_of_serial name = place_of serial_rows name
