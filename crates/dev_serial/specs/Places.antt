-- The index of each field's first cell in the newest set. Definitions cite the constants that the
-- code uses; this file gives their values.
use Rattle.std.specs.Prelude.{◌≡◌}
use Rattle.vms_fields.specs.declared.serial.TheConstants.{DIVISOR, IER, IIR, LCR, MCR, LSR, SCR, RBR, THR, TSR, TX_DUE, FCR, THR_IPENDING, RX_COUNT, TX_COUNT, TIMEOUT_AT, RX_DATA, RX_NUMBER, TX_DATA, TX_NUMBER}
use Rattle.dev_serial.specs.declared.stored.TheConstants.{ARRAY_CELLS, RING_CELLS}

-- The number of cells of a counted array and of a ring, the index of each field's first cell, and that of the number of
-- bytes in each ring.
pub record PlacesAre : Type 0 where
  pub array_cells : ARRAY_CELLS ≡ 17
  pub ring_cells : RING_CELLS ≡ 18
  pub divisor : DIVISOR ≡ 0
  pub ier : IER ≡ 1
  pub iir : IIR ≡ 2
  pub lcr : LCR ≡ 3
  pub mcr : MCR ≡ 4
  pub lsr : LSR ≡ 5
  pub scr : SCR ≡ 6
  pub rbr : RBR ≡ 7
  pub thr : THR ≡ 8
  pub tsr : TSR ≡ 9
  pub tx_due : TX_DUE ≡ 10
  pub fcr : FCR ≡ 11
  pub thr_ipending : THR_IPENDING ≡ 12
  pub rx_count : RX_COUNT ≡ 13
  pub tx_count : TX_COUNT ≡ 30
  pub timeout_at : TIMEOUT_AT ≡ 47
  pub rx_data : RX_DATA ≡ 48
  pub rx_number : RX_NUMBER ≡ 65
  pub tx_data : TX_DATA ≡ 66
  pub tx_number : TX_NUMBER ≡ 83
