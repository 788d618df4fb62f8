-- The cells that the chip is saved in: three structs `pit_channel`, then the latched statuses. They
-- are those of the chip's list of fields, each by the field's name.
use Rattle.std.specs.Prelude.{◌≡◌, ℕ, ℤ, pos, ◌+◌, ◌*◌, ◌<◌, false, List, [], ◌∷◌, ◌++◌, length, codes}
use Rattle.vms_fields.specs.Fields.{Named, kinds_under, cells_under}
use Rattle.vms_fields.specs.Pit.{channel_rows, status_rows, i8254_rows, place_of_channel, place_of_status}
use Rattle.vms_fields.specs.declared.pit.TheConstants.{CELLS, CHANNEL_CELLS}
use Rattle.vms_kinds.specs.Codes.{InRange}
use Rattle.vms_kinds.specs.declared.Kind.{Kind}
use Rattle.vms_kinds.specs.declared.Kind.TheVariants as kinds
use Rattle.dev_base.specs.Cells.{cell_at, number_at, flag_at, flag_number, kind_at, AreOf}
use Rattle.dev_base.specs.Tables.{Origin, carried_by, origins_under}
use Rattle.dev_base.specs.declared.limits.TheConstants.{NEWEST}
use Rattle.dev_pit.specs.Channel.{channel_of}
use Rattle.dev_pit.specs.Pit.{counter_of}
use Rattle.dev_pit.specs.declared.channel.Channel.{Channel}
use Rattle.dev_pit.specs.declared.pit.Pit.{Pit}

-- The kinds of the cells of one channel.
abbrev pub channel_kinds : List Kind
channel_kinds = kinds_under channel_rows NEWEST

-- `kinds_of set` is the list of the kinds of a chip's cells in the set.
abbrev pub kinds_of : ℕ → List Kind
kinds_of set = kinds_under i8254_rows set

-- `named channel` is the list of the channel's fields by name, each with its number.
abbrev pub named : Channel → Named
named channel =
    (codes "count", pos channel.count ∷ [])
    ∷ (codes "mode", pos channel.mode ∷ [])
    ∷ (codes "rw", pos channel.rw ∷ [])
    ∷ (codes "bcd", pos (flag_number channel.bcd) ∷ [])
    ∷ (codes "loaded", pos (flag_number channel.loaded) ∷ [])
    ∷ (codes "load_time", pos channel.load_time ∷ [])
    ∷ (codes "read_high", pos (flag_number channel.read_high) ∷ [])
    ∷ (codes "wlow_held", pos (flag_number channel.wlow_held) ∷ [])
    ∷ (codes "wlow", pos channel.wlow ∷ [])
    ∷ (codes "latched", pos (flag_number channel.latched) ∷ [])
    ∷ (codes "latch", pos channel.latch ∷ []) ∷ []

-- `named_statuses first second third` is the list of the chip's own fields by name, each with the
-- numbers of three channels.
abbrev pub named_statuses : Channel → Channel → Channel → Named
named_statuses first second third =
    (codes "status_latched", pos (flag_number first.status_latched) ∷ pos (flag_number second.status_latched) ∷ pos (flag_number third.status_latched) ∷ [])
    ∷ (codes "status", pos first.status ∷ pos second.status ∷ pos third.status ∷ []) ∷ []

-- `channel_cells channel` is the list of the cells of one channel, in the order of its description.
unfoldable pub channel_cells : Channel → List ℤ
channel_cells channel = cells_under channel_rows NEWEST (named channel)

-- `status_cells set first second third` is the list of the cells of the latched statuses of three
-- channels in the set.
unfoldable pub status_cells : ℕ → Channel → Channel → Channel → List ℤ
status_cells set first second third = cells_under status_rows set (named_statuses first second third)

-- `three_cells set first second third` is the list of the cells of three channels in the set.
unfoldable pub three_cells : ℕ → Channel → Channel → Channel → List ℤ
three_cells set first second third =
    channel_cells first ++ channel_cells second ++ channel_cells third ++ status_cells set first second third

-- `channel_in k pit` is the channel of counter `k`.
abbrev pub channel_in : ℕ → Pit → Channel
channel_in k pit = channel_of (counter_of k pit)

-- `pit_cells set pit` is the list of the cells that the chip is saved in under the set.
unfoldable pub pit_cells : ℕ → Pit → List ℤ
pit_cells set pit = three_cells set (channel_in 0 pit) (channel_in 1 pit) (channel_in 2 pit)

-- `origins set` says, for each cell of the newest set, where it is in `set`, or its default if it
-- is absent there.
abbrev pub origins : ℕ → List Origin
origins set = origins_under i8254_rows set

-- `carried set cells` is the list of the cells of the newest set that `cells`, of `set`, are
-- carried to.
abbrev pub carried : ℕ → List ℤ → List ℤ
carried set cells = carried_by (origins set) cells

-- `channel_place k` is the place of the first cell of channel `k`.
abbrev pub channel_place : ℕ → ℕ
channel_place k = CHANNEL_CELLS * k

-- `field_place k name` is the place of the cell of the field `name` of channel `k`.
abbrev pub field_place : ℕ → List ℕ → ℕ
field_place k name = channel_place k + place_of_channel name

-- `latched_place k` is the place of the flag of channel `k`'s latched status.
abbrev pub latched_place : ℕ → ℕ
latched_place k = place_of_status (codes "status_latched") + k

-- `status_place k` is the place of channel `k`'s latched status.
abbrev pub status_place : ℕ → ℕ
status_place k = place_of_status (codes "status") + k

-- `channel_at k cells` is channel `k`, 0 to 2, with its status, in cells of the newest set.
unfoldable pub channel_at : ℕ → List ℤ → Channel
channel_at k cells = record {
  count = number_at cells (field_place k (codes "count"));
  mode = number_at cells (field_place k (codes "mode"));
  rw = number_at cells (field_place k (codes "rw"));
  bcd = flag_at cells (field_place k (codes "bcd"));
  loaded = flag_at cells (field_place k (codes "loaded"));
  load_time = number_at cells (field_place k (codes "load_time"));
  read_high = flag_at cells (field_place k (codes "read_high"));
  wlow_held = flag_at cells (field_place k (codes "wlow_held"));
  wlow = number_at cells (field_place k (codes "wlow"));
  latched = flag_at cells (field_place k (codes "latched"));
  latch = number_at cells (field_place k (codes "latch"));
  status_latched = flag_at cells (latched_place k);
  status = number_at cells (status_place k);
}

-- `IsChannelAt k cells`: each cell of channel `k` and of its status is in its kind's range.
pub record IsChannelAt (k : ℕ) (cells : List ℤ) : Type 0 where
  pub within : (k < 3) × (length cells ≡ CELLS)
  pub channel : (place : ℕ) → place < CHANNEL_CELLS
      → InRange (kind_at channel_kinds place) (cell_at cells (channel_place k + place))
  pub latched : InRange kinds.Bool (cell_at cells (latched_place k))
  pub status : InRange kinds.U8 (cell_at cells (status_place k))

-- `HasDefault flag name cells`: in each channel the number of the field `name` is 0, its default, if
-- the field `flag` is clear, since the number is then absent.
abbrev pub HasDefault : List ℕ → List ℕ → List ℤ → Type 0
HasDefault flag name cells =
    (k : ℕ) → k < 3 → flag_at cells (field_place k flag) ≡ false
    → number_at cells (field_place k name) ≡ 0

-- `AreCellsOf set cells`: the cells are normal cells of the set. There are as many as the set has,
-- each in its kind's range; `wlow` and `latch` of a channel are at their defaults if they are
-- absent.
pub record AreCellsOf (set : ℕ) (cells : List ℤ) : Type 0 where
  pub of_kinds : AreOf (kinds_of set) cells
  pub wlow : HasDefault (codes "wlow_held") (codes "wlow") cells
  pub latch : HasDefault (codes "latched") (codes "latch") cells

-- `IsPitCells cells`: the cells are normal cells of the newest set.
abbrev pub IsPitCells : List ℤ → Type 0
IsPitCells = AreCellsOf NEWEST
