-- The interrupt controller's list.
use Rattle.std.specs.Prelude.{ℕ, List, map}
use Rattle.vms_fields.specs.Fields.{Row, place_of}
use Rattle.vms_fields.specs.declared.pic.TheConstants.{I8259}

-- The rows of an interrupt controller.
abbrev pub i8259_rows : List Row
i8259_rows = map (λ row. record { name = row.0.now; former = map (λ n. n.now) row.1.now; shape = row.2 }) I8259

-- The index of the cell of the field `name` in the newest set.
abbrev pub place_of_pic : List ℕ → ℕ
place_of_pic name = place_of i8259_rows name
