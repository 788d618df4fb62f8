-- The steps of the pair.
use Rattle.std.specs.Prelude.{ℕ, ◌+◌, ◌*◌, ◌/◌, ◌%◌, ◌==◌, Bool, true, false, ◌||◌, ◌&&◌, nat_le, if◌then◌else◌, Option, Some, None, bit_or, is_some}
use Rattle.dev_pic.specs.Bits.{without_input}
use Rattle.dev_pic.specs.Chip.{cascade_input, winner_at, settled, written_even, written_odd, elcr_written, read_of, answered, cascaded}
use Rattle.dev_pic.specs.declared.chip.Chip.{Chip}
use Rattle.dev_pic.specs.declared.chip.InitState.TheVariants.{Ready}
use Rattle.dev_pic.specs.declared.chip.Role.TheVariants.{Master, Slave}
use Rattle.dev_pic.specs.declared.levels.TheConstants.{ELCR_SINCE}
use Rattle.dev_pic.specs.declared.pair.PicPair.{PicPair}

-- The chip at power on.
unfoldable pub chip_on : Chip
chip_on = record {
  irr = 0;
  isr = 0;
  imr = 0;
  lines = 0;
  lowest = 7;
  base = 0;
  init_state = Ready;
  icw4 = false;
  single = false;
  read_isr = false;
  poll = false;
  special_mask = false;
  auto_eoi = false;
  rotate = false;
  nested = false;
  elcr = 0;
  ltim = false;
}

-- `power_on level` is the pair at power on.
unfoldable pub power_on : ℕ → PicPair
power_on level = record { level = level; master = chip_on; slave = chip_on }

-- `is_port level port` tells whether the port is one of a pair of this level.
abbrev pub is_port : ℕ → ℕ → Bool
is_port level port =
    (port == 0x20) || (port == 0x21) || (port == 0xa0) || (port == 0xa1) || (nat_le ELCR_SINCE level && ((port == 0x4d0) || (port == 0x4d1)))

-- `slave_int_of pair` is the slave's interrupt output: high if it has a winner.
unfoldable pub slave_int_of : PicPair → Bool
slave_int_of pair = is_some (winner_at Slave pair.slave)

-- `int_of pair` is the master's interrupt output: high if it has a winner.
unfoldable pub int_of : PicPair → Bool
int_of pair = is_some (winner_at Master pair.master)

-- `lines_of pair` is the remembered lines: bits 8 to 15 are the slave's, bits 0 to 7 the master's.
unfoldable pub lines_of : PicPair → ℕ
lines_of pair = pair.slave.lines * 256 + pair.master.lines

-- `from_master pair answer` is what the master returns and becomes, as an answer of the pair.
abbrev pub from_master : PicPair → ℕ × Chip → ℕ × PicPair
from_master pair answer = (answer.0, record pair { master = answer.1 })

-- `from_slave pair answer` is the same for the slave.
abbrev pub from_slave : PicPair → ℕ × Chip → ℕ × PicPair
from_slave pair answer = (answer.0, record pair { slave = answer.1 })

-- `acked_by_slave pair` is the vector of an acknowledge if the slave's output is the master's
-- winner, and the pair after it.
abbrev pub acked_by_slave : PicPair → ℕ × PicPair
acked_by_slave pair =
    from_slave (record pair { master = cascaded pair.master }) (answered (winner_at Slave pair.slave) pair.slave)

-- `acked_for winner pair` is the vector of an acknowledge for a winner of the master, or for none,
-- and the pair after it.
unfoldable pub acked_for : Option ℕ → PicPair → ℕ × PicPair
acked_for None pair = from_master pair (answered None pair.master)
acked_for (Some winner) pair =
    if winner == cascade_input then acked_by_slave pair
    else from_master pair (answered (Some winner) pair.master)

-- `acked pair` is the same for the master's own winner (8259A data sheet, "Interrupt Sequence").
abbrev pub acked : PicPair → ℕ × PicPair
acked pair = acked_for (winner_at Master pair.master) pair

-- `with_cascade is_high inputs` is the set of the master's inputs with the cascade input high or
-- low.
abbrev pub with_cascade : Bool → ℕ → ℕ
with_cascade is_high inputs =
    bit_or (without_input inputs cascade_input) (if is_high then 4 else 0)

-- `settled_pair inputs edges pair` is the pair after its lines are updated, the slave's first. In
-- both numbers bits 8 to 15 are the slave's, bits 0 to 7 the master's.
unfoldable pub settled_pair : ℕ → ℕ → PicPair → PicPair
settled_pair inputs edges pair =
    let after = record pair { slave = settled (inputs / 256) (edges / 256) pair.slave } in
    record after {
      master = settled (with_cascade (slave_int_of after) (inputs % 256)) (without_input (edges % 256) cascade_input) pair.master;
    }

-- `read_pair port pair` is the byte that a read of the port returns, and the pair after it.
unfoldable pub read_pair : ℕ → PicPair → ℕ × PicPair
read_pair port pair =
    if port == 0x20 then from_master pair (read_of Master false pair.master)
    else (if port == 0x21 then from_master pair (read_of Master true pair.master)
    else (if port == 0xa0 then from_slave pair (read_of Slave false pair.slave)
    else (if port == 0xa1 then from_slave pair (read_of Slave true pair.slave)
    else (if port == 0x4d0 then (pair.master.elcr, pair)
    else (pair.slave.elcr, pair)))))

-- `written_pair port value pair` is the pair after a write to the port.
unfoldable pub written_pair : ℕ → ℕ → PicPair → PicPair
written_pair port value pair =
    if port == 0x20 then record pair { master = written_even pair.level value pair.master }
    else (if port == 0x21 then record pair { master = written_odd value pair.master }
    else (if port == 0xa0 then record pair { slave = written_even pair.level value pair.slave }
    else (if port == 0xa1 then record pair { slave = written_odd value pair.slave }
    else (if port == 0x4d0 then record pair { master = elcr_written Master value pair.master }
    else record pair { slave = elcr_written Slave value pair.slave }))))
