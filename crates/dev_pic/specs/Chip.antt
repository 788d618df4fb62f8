-- The steps of one 8259A.
use Rattle.std.specs.Prelude.{ℕ, ◌+◌, ◌-◌, ◌%◌, Bool, true, false, ◌&&◌, nat_le, if◌then◌else◌, Option, Some, None, bit_and, bit_or}
use Rattle.dev_base.specs.Bits.{has}
use Rattle.dev_pic.specs.Bits.{but_not, with_input, without_input}
use Rattle.dev_pic.specs.Ocw2.{command_of}
use Rattle.dev_pic.specs.Winner.{winner_of, highest_of}
use Rattle.dev_pic.specs.declared.chip.Chip.{Chip}
use Rattle.dev_pic.specs.declared.chip.InitState.{InitState}
use Rattle.dev_pic.specs.declared.chip.InitState.TheVariants.{Ready, Icw2, Icw3, Icw4}
use Rattle.dev_pic.specs.declared.chip.Role.{Role}
use Rattle.dev_pic.specs.declared.chip.Role.TheVariants.{Master, Slave}
use Rattle.dev_pic.specs.declared.levels.TheConstants.{LTIM_SINCE}
use Rattle.dev_pic.specs.declared.ocw2.Ocw2.{Ocw2}
use Rattle.dev_pic.specs.declared.ocw2.Ocw2.TheVariants.{NonSpecificEoi, RotateOnNonSpecificEoi, SpecificEoi, RotateOnSpecificEoi, RotateInAutomaticEoi, SetPriority, NoOperation}

-- The master's input that is connected to the slave's interrupt output.
abbrev pub cascade_input : ℕ
cascade_input = 2

-- `elcr_mask role` is the set of the inputs whose ELCR bit can be set.
abbrev pub elcr_mask : Role → ℕ
elcr_mask Master = 0xf8
elcr_mask Slave = 0xde

-- `level_inputs ltim elcr` is the set of the level inputs: those of ELCR, or all in the level mode.
-- The others are edge inputs (8259A data sheet, ICW1, LTIM).
unfoldable pub level_inputs : Bool → ℕ → ℕ
level_inputs ltim elcr = if ltim then 0xff else elcr

-- `level_inputs_of chip` is the set of the chip's level inputs.
abbrev pub level_inputs_of : Chip → ℕ
level_inputs_of chip = level_inputs chip.ltim chip.elcr

-- `requests_of chip` is the set of its requests: `irr` without `imr` (8259A data sheet, "Interrupt
-- Mask Register (IMR)").
abbrev pub requests_of : Chip → ℕ
requests_of chip = but_not chip.irr chip.imr

-- `in_service_of chip` is what counts as in service for an end of interrupt: `isr`, and in special
-- mask mode `isr` without `imr` (8259A data sheet, "Special Mask Mode").
abbrev pub in_service_of : Chip → ℕ
in_service_of chip = if chip.special_mask then but_not chip.isr chip.imr else chip.isr

-- `served_of role chip` is what counts as in service for a request. On the master in special fully
-- nested mode the cascade input doesn't count.
unfoldable pub served_of : Role → Chip → ℕ
served_of Master chip =
    if chip.nested then without_input (in_service_of chip) cascade_input else in_service_of chip
served_of Slave chip = in_service_of chip

-- `winner_at role chip` is the input that is served next, if there is one (8259A data sheet,
-- "Priority Resolver").
unfoldable pub winner_at : Role → Chip → Option ℕ
winner_at role chip = winner_of chip.lowest (requests_of chip) (served_of role chip)

-- `serving winner chip` is the chip after the service of an input begins. With automatic EOI it
-- ends at once (8259A data sheet, "Automatic End of Interrupt (AEOI) Mode").
abbrev pub serving : ℕ → Chip → Chip
serving winner chip =
    if chip.auto_eoi then (if chip.rotate then record chip { lowest = winner } else chip)
    else record chip { isr = with_input chip.isr winner }

-- `taken winner chip` is the chip after the winner is taken. An edge input's request ends; a level
-- input's stays.
unfoldable pub taken : ℕ → Chip → Chip
taken winner chip =
    let after = serving winner chip in
    if has (level_inputs_of chip) winner then after else record after { irr = without_input chip.irr winner }

-- `rising inputs edges chip` is the set of the inputs that rise: those of `edges`, and those that
-- are high now and were low.
abbrev pub rising : ℕ → ℕ → Chip → ℕ
rising inputs edges chip = bit_or (but_not inputs chip.lines) edges

-- `settled inputs edges chip` is the chip after its lines are updated (8259A data sheet, "Edge and
-- Level Triggered Modes"). Edge inputs keep their requests, and the rising ones are requested too.
-- The requests of level inputs are their lines.
unfoldable pub settled : ℕ → ℕ → Chip → Chip
settled inputs edges chip =
    record chip {
      irr = bit_or (but_not (bit_or chip.irr (rising inputs edges chip)) (level_inputs_of chip)) (bit_and inputs (level_inputs_of chip));
      lines = inputs;
    }

-- `ended input chip` is the chip after the service of the input ends, if there is one (8259A data
-- sheet, "End of Interrupt (EOI)").
unfoldable pub ended : Option ℕ → Chip → Chip
ended None chip = chip
ended (Some input) chip = record chip { isr = without_input chip.isr input }

-- `ended_lowest input chip` is the same, and the input gets the lowest priority (8259A data sheet,
-- "Automatic Rotation").
unfoldable pub ended_lowest : Option ℕ → Chip → Chip
ended_lowest None chip = chip
ended_lowest (Some input) chip = record chip { isr = without_input chip.isr input; lowest = input }

-- `highest_served chip` is the input of highest priority in service, if there is one.
abbrev pub highest_served : Chip → Option ℕ
highest_served chip = highest_of chip.lowest (in_service_of chip)

-- `commanded command chip` is the chip after a command of OCW2.
unfoldable pub commanded : Ocw2 → Chip → Chip
commanded NonSpecificEoi chip = ended (highest_served chip) chip
commanded RotateOnNonSpecificEoi chip = ended_lowest (highest_served chip) chip
commanded (SpecificEoi input) chip = ended (Some input) chip
commanded (RotateOnSpecificEoi input) chip = ended_lowest (Some input) chip
commanded (RotateInAutomaticEoi rotate) chip = record chip { rotate = rotate }
commanded (SetPriority input) chip = record chip { lowest = input }
commanded NoOperation chip = chip

-- `ltim_after level value chip` is the level mode after ICW1, whose bit 3 has no effect at levels
-- without it.
abbrev pub ltim_after : ℕ → ℕ → Chip → Bool
ltim_after level value chip = if nat_le LTIM_SINCE level then has value 3 else chip.ltim

-- `started level value chip` is the chip after ICW1. Only level inputs, in the level mode that ICW1
-- sets, stay requested.
unfoldable pub started : ℕ → ℕ → Chip → Chip
started level value chip =
    let announced = has value 0 in
    record chip {
      ltim = ltim_after level value chip;
      imr = 0;
      isr = 0;
      irr = bit_and chip.irr (level_inputs (ltim_after level value chip) chip.elcr);
      lowest = 7;
      read_isr = false;
      poll = false;
      special_mask = false;
      rotate = false;
      icw4 = announced;
      single = has value 1;
      init_state = Icw2;
      auto_eoi = announced && chip.auto_eoi;
      nested = announced && chip.nested;
    }

-- `selected value chip` is the chip after OCW3.
unfoldable pub selected : ℕ → Chip → Chip
selected value chip =
    record chip {
      special_mask = (if has value 6 then has value 5 else chip.special_mask);
      poll = (if has value 2 then true else chip.poll);
      read_isr = (if has value 1 then has value 0 else chip.read_isr);
    }

-- `written_even level value chip` is the chip after a write to its even port (A0 low).
unfoldable pub written_even : ℕ → ℕ → Chip → Chip
written_even level value chip =
    if has value 4 then started level value chip
    else (if has value 3 then selected value chip
    else commanded (command_of value) chip)

-- `after_icw3 chip` says which word comes after ICW3, or after ICW2 if there is no ICW3.
abbrev pub after_icw3 : Chip → InitState
after_icw3 chip = if chip.icw4 then Icw4 else Ready

-- `written_odd_in state value chip` is the chip after a write to its odd port (A0 high) in a state
-- of the initialization.
unfoldable pub written_odd_in : InitState → ℕ → Chip → Chip
written_odd_in Ready value chip = record chip { imr = value }
written_odd_in Icw2 value chip =
    record chip {
      base = value - value % 8;
      init_state = (if chip.single then after_icw3 chip else Icw3);
    }
written_odd_in Icw3 value chip = record chip { init_state = after_icw3 chip }
written_odd_in Icw4 value chip =
    record chip { auto_eoi = has value 1; nested = has value 4; init_state = Ready }

-- `written_odd value chip` is the same in the chip's own state.
abbrev pub written_odd : ℕ → Chip → Chip
written_odd value chip = written_odd_in chip.init_state value chip

-- `elcr_written role value chip` is the chip after a write to its edge/level register.
unfoldable pub elcr_written : Role → ℕ → Chip → Chip
elcr_written role value chip = record chip { elcr = bit_and value (elcr_mask role) }

-- `polled_by winner chip` is the byte that a poll returns, and the chip after it (8259A data sheet,
-- "Poll Command").
unfoldable pub polled_by : Option ℕ → Chip → ℕ × Chip
polled_by None chip = (0, record chip { poll = false })
polled_by (Some winner) chip = (0x80 + winner, taken winner (record chip { poll = false }))

-- `shown is_odd chip` is the register that a port shows (8259A data sheet, "Reading the 8259A
-- Status").
abbrev pub shown : Bool → Chip → ℕ
shown is_odd chip = if is_odd then chip.imr else (if chip.read_isr then chip.isr else chip.irr)

-- `read_of role is_odd chip` is the byte that a read of a port returns, and the chip after it.
unfoldable pub read_of : Role → Bool → Chip → ℕ × Chip
read_of role is_odd chip =
    if chip.poll then polled_by (winner_at role chip) chip else (shown is_odd chip, chip)

-- `vector_of chip input` is the vector of an input. The sum stays below 256 if `base` has bits 2 to
-- 0 clear.
abbrev pub vector_of : Chip → ℕ → ℕ
vector_of chip input = (chip.base + input) % 256

-- `answered winner chip` is the vector of an acknowledge of the winner, or of none, and the chip
-- after it (8259A data sheet, "Interrupt Sequence").
unfoldable pub answered : Option ℕ → Chip → ℕ × Chip
answered None chip = (vector_of chip 7, chip)
answered (Some winner) chip = (vector_of chip winner, taken winner chip)

-- `cascaded master` is the master after its cascade input is taken; its remembered line counts as
-- low.
unfoldable pub cascaded : Chip → Chip
cascaded master =
    let after = taken cascade_input master in
    record after { lines = without_input after.lines cascade_input }
