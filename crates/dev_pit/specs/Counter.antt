-- The steps of one counter (8254 data sheet, "Write Operations" and "Read Operations").
use Rattle.std.specs.Prelude.{ℕ, ◌+◌, ◌*◌, ◌/◌, ◌%◌, ◌≤◌, Bool, true, false, Option, Some, None, if◌then◌else◌}
use Rattle.dev_base.specs.Cells.{flag_number}
use Rattle.dev_pit.specs.Count.{ticks, live_at, out_at, out_unloaded, rises}
use Rattle.dev_pit.specs.Mode.{mode_number, access_number}
use Rattle.dev_pit.specs.declared.counter.Counter.{Counter}
use Rattle.dev_pit.specs.declared.mode.Mode.{Mode}
use Rattle.dev_pit.specs.declared.mode.Mode.TheVariants.{TerminalCount}
use Rattle.dev_pit.specs.declared.mode.Access.{Access}
use Rattle.dev_pit.specs.declared.mode.Access.TheVariants.{LowByte, HighByte, LowThenHigh}

-- `LoadedBy now load`: the moment of the load, if there is one, isn't after `now`.
abbrev pub LoadedBy : ℕ → Option ℕ → Type 0
LoadedBy now None = Unit {0}
LoadedBy now (Some load) = load ≤ now

-- `live_since load mode count now` is the live count; a counter that isn't loaded shows the written
-- count.
abbrev pub live_since : Option ℕ → Mode → ℕ → ℕ → ℕ
live_since None mode count now = count
live_since (Some load) mode count now = live_at mode count (ticks load now)

-- `live_of counter now` is the counter's live count at `now`.
unfoldable pub live_of : Counter → ℕ → ℕ
live_of counter now = live_since counter.loaded_at counter.mode counter.count now

-- `out_since load mode count now` is OUT, true if it is high.
abbrev pub out_since : Option ℕ → Mode → ℕ → ℕ → Bool
out_since None mode count now = out_unloaded mode
out_since (Some load) mode count now = out_at mode count (ticks load now)

-- `out_of counter now` is the counter's OUT at `now`.
unfoldable pub out_of : Counter → ℕ → Bool
out_of counter now = out_since counter.loaded_at counter.mode counter.count now

-- `edge_since load mode count from to` tells whether OUT has a rising edge after the moment `from`
-- and not after `to`.
abbrev pub edge_since : Option ℕ → Mode → ℕ → ℕ → ℕ → Bool
edge_since None mode count from to = false
edge_since (Some load) mode count from to = rises mode count (ticks load from) (ticks load to)

-- `edge_of counter from to` tells the same of the counter.
unfoldable pub edge_of : Counter → ℕ → ℕ → Bool
edge_of counter from to = edge_since counter.loaded_at counter.mode counter.count from to

-- `status_of counter now` is the status byte (8254 data sheet, "Status Byte"). OUT is in bit 7, 0
-- in bit 6, RW in bits 5 and 4, the mode in bits 3 to 1, BCD in bit 0.
unfoldable pub status_of : Counter → ℕ → ℕ
status_of counter now = 128 * flag_number (out_of counter now) + 16 * access_number counter.access + 2 * mode_number counter.mode + flag_number counter.bcd

-- The counter at power on: RW is 3, all else is 0 or false.
unfoldable pub powered_on : Counter
powered_on = record {
  count = 0;
  mode = TerminalCount;
  access = LowThenHigh;
  bcd = false;
  loaded_at = None;
  read_high = false;
  held_low = None;
  latch = None;
  status = None;
}

-- `held_or held value` is the number that is held, or `value` if none is.
abbrev pub held_or : Option ℕ → ℕ → ℕ
held_or None value = value
held_or (Some held) value = held

-- `latched now counter` is the counter after its live count is latched, unless one is latched
-- already.
unfoldable pub latched : ℕ → Counter → Counter
latched now counter = record counter { latch = Some (held_or counter.latch (live_of counter now)) }

-- `status_latched now counter` is the counter after its status is latched, unless one is latched
-- already.
unfoldable pub status_latched : ℕ → Counter → Counter
status_latched now counter = record counter { status = Some (held_or counter.status (status_of counter now)) }

-- `read_back count status now counter`: the count is latched if `count` is set, and the status if
-- `status` is (8254 data sheet, "Read-Back Command").
unfoldable pub read_back : Bool → Bool → ℕ → Counter → Counter
read_back count status now counter =
    let counted = if count then latched now counter else counter in
    if status then status_latched now counted else counted

-- `programmed access mode bcd counter` is the counter after its mode is set. The written count
-- stays; all that was loaded, held or latched is cleared.
unfoldable pub programmed : Access → Mode → Bool → Counter → Counter
programmed access mode bcd counter = record powered_on { count = counter.count; mode = mode; access = access; bcd = bcd }

-- `loaded count now counter` is the counter after `count` is loaded at `now`.
unfoldable pub loaded : ℕ → ℕ → Counter → Counter
loaded count now counter = record counter { count = count; loaded_at = Some now }

-- `written_low_first held value now counter` is the counter after a byte of a count of two bytes,
-- whose first byte is `held`, if it was written already.
abbrev pub written_low_first : Option ℕ → ℕ → ℕ → Counter → Counter
written_low_first None value now counter = record counter { held_low = Some value }
written_low_first (Some low) value now counter = loaded (256 * value + low) now (record counter { held_low = None })

-- `written_by access value now counter` is the counter after a byte of a count is written.
abbrev pub written_by : Access → ℕ → ℕ → Counter → Counter
written_by LowByte value now counter = loaded value now counter
written_by HighByte value now counter = loaded (256 * value) now counter
written_by LowThenHigh value now counter = written_low_first counter.held_low value now counter

-- `written value now counter` is the same with the counter's own access.
unfoldable pub written : ℕ → ℕ → Counter → Counter
written value now counter = written_by counter.access value now counter

-- `counted_by access count counter` is the byte of `count` that is read next, and the counter after
-- it.
abbrev pub counted_by : Access → ℕ → Counter → ℕ × Counter
counted_by LowByte count counter = (count % 256, record counter { latch = None })
counted_by HighByte count counter = (count / 256, record counter { latch = None })
counted_by LowThenHigh count counter =
    if counter.read_high then (count / 256, record counter { read_high = false; latch = None }) else (count % 256, record counter { read_high = true })

-- `counted_of count counter` is the same with the counter's own access.
unfoldable pub counted_of : ℕ → Counter → ℕ × Counter
counted_of count counter = counted_by counter.access count counter

-- `read_by status now counter` is the byte that is read, and the counter after it. A latched status
-- comes first and is cleared. Else it is a byte of the latched count, or of the live count if none
-- is latched.
abbrev pub read_by : Option ℕ → ℕ → Counter → ℕ × Counter
read_by None now counter = counted_of (held_or counter.latch (live_of counter now)) counter
read_by (Some status) now counter = (status, record counter { status = None })

-- `read_of now counter` is the same with the counter's own status.
unfoldable pub read_of : ℕ → Counter → ℕ × Counter
read_of now counter = read_by counter.status now counter
