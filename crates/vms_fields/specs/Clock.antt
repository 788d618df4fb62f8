-- The clock chip's list.
use Rattle.std.specs.Prelude.{ℕ, List, map}
use Rattle.vms_fields.specs.Fields.{Row, place_of}
use Rattle.vms_fields.specs.declared.clock.TheConstants.{MC146818}

-- The rows of the clock chip's list.
abbrev pub mc146818_rows : List Row
mc146818_rows = map (λ row. record { name = row.0.now; former = map (λ n. n.now) row.1.now; shape = row.2 }) MC146818

-- The index of the first cell of the field `name` in the newest clock set.
abbrev pub place_of_clock : List ℕ → ℕ
place_of_clock name = place_of mc146818_rows name
