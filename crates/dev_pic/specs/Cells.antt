-- The cells that a chip is saved in: those of its list of fields, each by the field's name.
use Rattle.std.specs.Prelude.{ℕ, ℤ, pos, ◌%◌, ◌==◌, Bool, ◌&&◌, ◌||◌, nat_le, not, if◌then◌else◌, List, [], ◌∷◌, bit_and, Result, codes}
use Rattle.vms_fields.specs.Fields.{Named, kinds_under, cells_under}
use Rattle.vms_fields.specs.Pic.{i8259_rows, place_of_pic}
use Rattle.vms_fields.specs.declared.pic.TheConstants.{CELLS}
use Rattle.vms_kinds.specs.declared.Kind.{Kind}
use Rattle.dev_base.specs.Cells.{cell_at, number_at, flag_at, flag_number, AreOf}
use Rattle.dev_base.specs.Rules.{judged}
use Rattle.dev_base.specs.Tables.{Origin, carried_by, origins_under}
use Rattle.dev_base.specs.declared.limits.TheConstants.{NEWEST}
use Rattle.dev_pic.specs.Chip.{elcr_mask, level_inputs}
use Rattle.dev_pic.specs.declared.chip.Chip.{Chip}
use Rattle.dev_pic.specs.declared.chip.InitState.{InitState}
use Rattle.dev_pic.specs.declared.chip.InitState.TheVariants.{Ready, Icw2, Icw3, Icw4}
use Rattle.dev_pic.specs.declared.chip.Role.{Role}
use Rattle.dev_pic.specs.declared.levels.TheConstants.{ELCR_SINCE, LTIM_SINCE}

-- `kinds set` is the list of the kinds of a chip's cells in the set.
abbrev pub kinds : ℕ → List Kind
kinds set = kinds_under i8259_rows set

-- The number of cells of a chip in the newest set.
abbrev pub cell_count : ℕ
cell_count = CELLS

-- `IsChipCells cells`: the cells are those of a chip in the newest set, each in its kind's range.
abbrev pub IsChipCells : List ℤ → Type 0
IsChipCells = AreOf (kinds NEWEST)

-- `number_in list name` is the number that the cell of the field `name` holds, in cells of the newest set.
abbrev pub number_in : List ℤ → List ℕ → ℕ
number_in list name = number_at list (place_of_pic name)

-- `cell_in list name` is that number with its sign.
abbrev pub cell_in : List ℤ → List ℕ → ℤ
cell_in list name = cell_at list (place_of_pic name)

-- `flag_in list name` is the truth value that the cell holds.
abbrev pub flag_in : List ℤ → List ℕ → Bool
flag_in list name = flag_at list (place_of_pic name)

-- `state_number state` is the number of a state of the initialization, 0 to 3.
abbrev pub state_number : InitState → ℕ
state_number Ready = 0
state_number Icw2 = 1
state_number Icw3 = 2
state_number Icw4 = 3

-- `state_of number` is the state with this number. Numbers above 3 are refused earlier, by rule 1.
abbrev pub state_of : ℕ → InitState
state_of number =
    if number == 0 then Ready else (if number == 1 then Icw2 else (if number == 2 then Icw3 else Icw4))

-- `named chip` is the list of the fields by name, each with its numbers.
abbrev pub named : Chip → Named
named chip =
    (codes "irr", pos chip.irr ∷ [])
    ∷ (codes "isr", pos chip.isr ∷ [])
    ∷ (codes "imr", pos chip.imr ∷ [])
    ∷ (codes "lines", pos chip.lines ∷ [])
    ∷ (codes "lowest", pos chip.lowest ∷ [])
    ∷ (codes "base", pos chip.base ∷ [])
    ∷ (codes "init_state", pos (state_number chip.init_state) ∷ [])
    ∷ (codes "icw4", pos (flag_number chip.icw4) ∷ [])
    ∷ (codes "single", pos (flag_number chip.single) ∷ [])
    ∷ (codes "read_isr", pos (flag_number chip.read_isr) ∷ [])
    ∷ (codes "poll", pos (flag_number chip.poll) ∷ [])
    ∷ (codes "special_mask", pos (flag_number chip.special_mask) ∷ [])
    ∷ (codes "auto_eoi", pos (flag_number chip.auto_eoi) ∷ [])
    ∷ (codes "rotate", pos (flag_number chip.rotate) ∷ [])
    ∷ (codes "nested", pos (flag_number chip.nested) ∷ [])
    ∷ (codes "elcr", pos chip.elcr ∷ [])
    ∷ (codes "ltim", pos (flag_number chip.ltim) ∷ []) ∷ []

-- `saved_cells set chip` is the list of the cells that the chip is saved in under the set.
unfoldable pub saved_cells : ℕ → Chip → List ℤ
saved_cells set chip = cells_under i8259_rows set (named chip)

-- `origins set` says, for each cell of the newest set, where it is in `set`, or its default if it
-- is absent there.
abbrev pub origins : ℕ → List Origin
origins set = origins_under i8259_rows set

-- `carried set list` is the list of the cells of the newest set that the cells `list`, of `set`,
-- are carried to.
abbrev pub carried : ℕ → List ℤ → List ℤ
carried set list = carried_by (origins set) list

-- `chip_of list` is the chip that the cells of the newest set describe.
unfoldable pub chip_of : List ℤ → Chip
chip_of list = record {
  irr = number_in list (codes "irr");
  isr = number_in list (codes "isr");
  imr = number_in list (codes "imr");
  lines = number_in list (codes "lines");
  lowest = number_in list (codes "lowest");
  base = number_in list (codes "base");
  init_state = state_of (number_in list (codes "init_state"));
  icw4 = flag_in list (codes "icw4");
  single = flag_in list (codes "single");
  read_isr = flag_in list (codes "read_isr");
  poll = flag_in list (codes "poll");
  special_mask = flag_in list (codes "special_mask");
  auto_eoi = flag_in list (codes "auto_eoi");
  rotate = flag_in list (codes "rotate");
  nested = flag_in list (codes "nested");
  elcr = number_in list (codes "elcr");
  ltim = flag_in list (codes "ltim");
}

-- The rule 1: `lowest` is an input, `init_state` a state, and `base` has bits 2 to 0 clear.
unfoldable pub registers_hold : ℕ → ℕ → ℕ → Bool
registers_hold lowest state base = nat_le lowest 7 && (nat_le state 3 && (base % 8 == 0))

-- The rule 2: `elcr` has only inputs whose bit can be set, and none at a level without edge/level
-- registers.
unfoldable pub levels_hold : ℕ → Role → ℕ → Bool
levels_hold level role elcr =
    if nat_le ELCR_SINCE level then bit_and elcr (elcr_mask role) == elcr else elcr == 0

-- The rule 3: the requests of level inputs are their lines.
unfoldable pub requests_hold : ℕ → ℕ → ℕ → Bool
requests_hold irr lines levels = bit_and irr levels == bit_and lines levels

-- The rule 4: the level mode is off at a level without it.
unfoldable pub mode_holds : ℕ → Bool → Bool
mode_holds level ltim = nat_le LTIM_SINCE level || not ltim

-- `rules level role list` is the list of the rules' outcomes for cells of the newest set, in order.
abbrev pub rules : ℕ → Role → List ℤ → List Bool
rules level role list =
    registers_hold (number_in list (codes "lowest")) (number_in list (codes "init_state")) (number_in list (codes "base"))
    ∷ levels_hold level role (number_in list (codes "elcr"))
    ∷ requests_hold (number_in list (codes "irr")) (number_in list (codes "lines")) (level_inputs (flag_in list (codes "ltim")) (number_in list (codes "elcr")))
    ∷ mode_holds level (flag_in list (codes "ltim"))
    ∷ []

-- `restored level role list` is the chip that the cells describe, or the number of the first rule
-- that fails.
abbrev pub restored : ℕ → Role → List ℤ → Result Chip ℕ
restored level role list = judged (rules level role list) (chip_of list)
