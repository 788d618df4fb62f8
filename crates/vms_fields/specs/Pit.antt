-- The timer chip's lists.
use Rattle.std.specs.Prelude.{ℕ, List, ◌++◌, map}
use Rattle.vms_fields.specs.Fields.{Row, place_of}
use Rattle.vms_fields.specs.declared.pit.TheConstants.{PIT_CHANNEL, I8254}

-- The rows of one counter.
abbrev pub channel_rows : List Row
channel_rows = map (λ row. record { name = row.0.now; former = map (λ n. n.now) row.1.now; shape = row.2 }) PIT_CHANNEL

-- The rows of the chip itself: the latched statuses.
abbrev pub status_rows : List Row
status_rows = map (λ row. record { name = row.0.now; former = map (λ n. n.now) row.1.now; shape = row.2 }) I8254

-- The rows of all cells: those of the three counters, and after them the chip's own.
abbrev pub i8254_rows : List Row
i8254_rows = channel_rows ++ channel_rows ++ channel_rows ++ status_rows

-- The index of the cell of the field `name` among the cells of a counter.
abbrev pub place_of_channel : List ℕ → ℕ
place_of_channel name = place_of channel_rows name

-- The index of the first cell of the chip's own field `name` in the newest set.
abbrev pub place_of_status : List ℕ → ℕ
place_of_status name = place_of i8254_rows name
