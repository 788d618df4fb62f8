-- The cells of a port in each set (docs/devices.md lists them).
use Rattle.std.specs.Prelude.{◌≡◌, ℕ, ℤ, pos, ◌+◌, ◌<◌, ◌≤◌, List, [], ◌∷◌, ◌++◌, map, take, codes}
use Rattle.vms_fields.specs.Fields.{Named, kinds_under, cells_under}
use Rattle.vms_fields.specs.Serial.{serial_rows, place_of_serial}
use Rattle.vms_fields.specs.declared.serial.TheConstants.{RX_COUNT, TX_COUNT}
use Rattle.vms_kinds.specs.Codes.{InRange}
use Rattle.vms_kinds.specs.declared.Kind.{Kind}
use Rattle.vms_kinds.specs.declared.Kind.TheVariants.{U8}
use Rattle.dev_base.specs.Cells.{cell_at, number_at, AreOf, firsts}
use Rattle.dev_base.specs.Tables.{Origin, carried_by, origins_under}
use Rattle.dev_base.specs.declared.limits.TheConstants.{NEWEST}
use Rattle.dev_serial.specs.declared.fifo.TheConstants.{FIFO_BYTES}
use Rattle.dev_serial.specs.declared.numbers.PortNumbers.{PortNumbers}
use Rattle.dev_serial.specs.declared.stored.Counted.{Counted}
use Rattle.dev_serial.specs.declared.stored.Ring.{Ring}

-- The cells of a counted array: its count and its sixteen elements.
unfoldable pub array_cells : Counted → List ℤ
array_cells array = pos array.count ∷ map pos array.bytes

-- The cells of a ring: its sixteen elements, its head and its number.
unfoldable pub ring_cells : Ring → List ℤ
ring_cells ring = map pos ring.elements ++ pos ring.head ∷ pos ring.number ∷ []

-- The fields of the port by name, each with its numbers.
abbrev pub named : PortNumbers → Named
named n =
    (codes "divisor", pos n.divisor ∷ [])
    ∷ (codes "ier", pos n.ier ∷ [])
    ∷ (codes "iir", pos n.iir ∷ [])
    ∷ (codes "lcr", pos n.lcr ∷ [])
    ∷ (codes "mcr", pos n.mcr ∷ [])
    ∷ (codes "lsr", pos n.lsr ∷ [])
    ∷ (codes "scr", pos n.scr ∷ [])
    ∷ (codes "rbr", pos n.rbr ∷ [])
    ∷ (codes "thr", pos n.thr ∷ [])
    ∷ (codes "tsr", pos n.tsr ∷ [])
    ∷ (codes "tx_due", pos n.tx_due ∷ [])
    ∷ (codes "fcr", pos n.fcr ∷ [])
    ∷ (codes "thr_ipending", n.thr_ipending ∷ [])
    ∷ (codes "rx_count", pos n.rx.count ∷ [])
    ∷ (codes "rx", map pos n.rx.bytes)
    ∷ (codes "tx_count", pos n.tx.count ∷ [])
    ∷ (codes "tx", map pos n.tx.bytes)
    ∷ (codes "timeout_at", pos n.timeout_at ∷ [])
    ∷ (codes "rx_data", map pos n.rx_ring.elements)
    ∷ (codes "rx_head", pos n.rx_ring.head ∷ [])
    ∷ (codes "rx_number", pos n.rx_ring.number ∷ [])
    ∷ (codes "tx_data", map pos n.tx_ring.elements)
    ∷ (codes "tx_head", pos n.tx_ring.head ∷ [])
    ∷ (codes "tx_number", pos n.tx_ring.number ∷ []) ∷ []

-- The cells of set `set`.
unfoldable pub cells_of : ℕ → PortNumbers → List ℤ
cells_of set n = cells_under serial_rows set (named n)

-- The cells of the fields before the FIFO control, which every set has.
unfoldable pub field_cells : PortNumbers → List ℤ
field_cells n = take 11 (cells_under serial_rows NEWEST (named n))

-- The kinds of the cells of set `set`.
abbrev pub kinds : ℕ → List Kind
kinds set = kinds_under serial_rows set

-- The kinds of these cells.
abbrev pub field_kinds : List Kind
field_kinds = take 11 (kinds NEWEST)

-- For each cell of the newest set, the index of the same cell in set `set`, or its default.
abbrev pub origins : ℕ → List Origin
origins set = origins_under serial_rows set

-- The cells of set `set` in the order of the newest set, with defaults for the others.
unfoldable pub carried : ℕ → List ℤ → List ℤ
carried set cells = carried_by (origins set) cells

-- The `count` cells at index `place` and after are bytes.
abbrev pub AreBytesIn : List ℤ → ℕ → ℕ → Type 0
AreBytesIn cells place count = (k : ℕ) → place ≤ k → k < place + count → InRange U8 (cell_at cells k)

-- The sixteen numbers at index `place` and after.
abbrev pub bytes_at : List ℤ → ℕ → List ℕ
bytes_at cells place = firsts FIFO_BYTES (λ i. number_at cells (place + i))

-- The counted array whose count is the cell at index `place`.
abbrev pub array_at : List ℤ → ℕ → Counted
array_at cells place = record { count = number_at cells place; bytes = bytes_at cells (place + 1) }

-- The ring whose first element is the cell at index `place`.
abbrev pub ring_at : List ℤ → ℕ → Ring
ring_at cells place = record {
  elements = bytes_at cells place;
  head = number_at cells (place + FIFO_BYTES);
  number = number_at cells (place + 17);
}

-- The number in the cell of the field `name`, in cells of the newest set.
abbrev pub number_in : List ℤ → List ℕ → ℕ
number_in cells name = number_at cells (place_of_serial name)

unfoldable pub numbers_of : List ℤ → PortNumbers
numbers_of cells = record {
  divisor = number_in cells (codes "divisor");
  ier = number_in cells (codes "ier");
  iir = number_in cells (codes "iir");
  lcr = number_in cells (codes "lcr");
  mcr = number_in cells (codes "mcr");
  lsr = number_in cells (codes "lsr");
  scr = number_in cells (codes "scr");
  rbr = number_in cells (codes "rbr");
  thr = number_in cells (codes "thr");
  tsr = number_in cells (codes "tsr");
  tx_due = number_in cells (codes "tx_due");
  fcr = number_in cells (codes "fcr");
  thr_ipending = cell_at cells (place_of_serial (codes "thr_ipending"));
  rx = array_at cells (place_of_serial (codes "rx_count"));
  tx = array_at cells (place_of_serial (codes "tx_count"));
  timeout_at = number_in cells (codes "timeout_at");
  rx_ring = ring_at cells (place_of_serial (codes "rx_data"));
  tx_ring = ring_at cells (place_of_serial (codes "tx_data"));
}

-- The array whose count is at index `place`: at most sixteen elements, and 0 after the counted
-- ones.
pub record IsArray (cells : List ℤ) (place : ℕ) : Type 0 where
  pub fits : number_at cells place ≤ FIFO_BYTES
  pub zeros : (i : ℕ) → number_at cells place ≤ i → i < FIFO_BYTES → cell_at cells (place + 1 + i) ≡ pos 0

-- Cells of the newest set: each is of its kind, and both arrays agree with their counts.
pub record IsPortCells (cells : List ℤ) : Type 0 where
  pub of_kinds : AreOf (kinds NEWEST) cells
  pub rx : IsArray cells RX_COUNT
  pub tx : IsArray cells TX_COUNT
