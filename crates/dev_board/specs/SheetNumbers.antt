-- The numbers of the board. Definitions cite them as the constants that the code uses. This law
-- gives their values.
use Rattle.std.specs.Prelude.{◌≡◌}
use Rattle.dev_board.specs.declared.misfit.TheConstants.{TIMER_DEVICE, MASTER_DEVICE, PIT_DEVICE, SERIAL_DEVICE}
use Rattle.dev_board.specs.declared.wires.TheConstants.{WIRES, TIMER, SERIAL, DRIVEN}

-- Each constant has its value.
pub record NumbersAre : Type 0 where
  -- A bit for each input of the pair, the slave's in bits 8 to 15: the wires, what OUT of counter 0
  -- and the serial port's line drive, and all but the master's input 2.
  pub wires : WIRES ≡ 0xffea
  pub timer_input : TIMER ≡ 0x0001
  pub serial_input : SERIAL ≡ 0x0010
  pub driven : DRIVEN ≡ 0xfffb
  -- The places of the devices among those of a set, which a refusal names.
  pub timer : TIMER_DEVICE ≡ 0
  pub master : MASTER_DEVICE ≡ 1
  pub pit : PIT_DEVICE ≡ 3
  pub serial : SERIAL_DEVICE ≡ 4
