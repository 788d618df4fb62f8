-- The cells of the chip, which are the cells of its list of fields.
use Rattle.std.specs.Prelude.{ℕ, ℤ, pos, List, [], ◌∷◌, map, codes}
use Rattle.vms_fields.specs.Clock.{mc146818_rows}
use Rattle.vms_fields.specs.Fields.{Named, kinds_under, cells_under}
use Rattle.vms_kinds.specs.declared.Kind.{Kind}
use Rattle.dev_base.specs.Cells.{flag_number}
use Rattle.dev_base.specs.Tables.{Origin, carried_by, origins_under}
use Rattle.vms_rtc.specs.declared.rtc.Rtc.{Rtc}

-- The numbers of each field, by its name.
abbrev pub named : Rtc → Named
named chip =
    (codes "index", pos chip.index ∷ [])
    ∷ (codes "cmos", map pos chip.cmos)
    ∷ (codes "nmi_mask", pos (flag_number chip.nmi_mask) ∷ [])
    ∷ (codes "pf", pos (flag_number chip.pf) ∷ []) ∷ []

-- The kinds of the cells of clock set `set`.
abbrev pub kinds : ℕ → List Kind
kinds set = kinds_under mc146818_rows set

-- `saved_cells set chip` are the cells that clock set `set` saves for `chip`.
unfoldable pub saved_cells : ℕ → Rtc → List ℤ
saved_cells set chip = cells_under mc146818_rows set (named chip)

-- For each cell of the newest clock set, its index in clock set `set`, or its default.
abbrev pub origins : ℕ → List Origin
origins set = origins_under mc146818_rows set

-- The cells of clock set `set` in the order of the newest one.
abbrev pub carried : ℕ → List ℤ → List ℤ
carried set cells = carried_by (origins set) cells
