-- A counter in the form in which a stream carries its fields, and the rules of these fields.
use Rattle.std.specs.Prelude.{ℕ, ◌==◌, Bool, true, false, not, ◌&&◌, ◌||◌, nat_le, Option, Some, None, is_some}
use Rattle.dev_pit.specs.Counter.{held_or}
use Rattle.dev_pit.specs.Mode.{mode_number, mode_of, access_number, access_of}
use Rattle.dev_pit.specs.declared.channel.Channel.{Channel}
use Rattle.dev_pit.specs.declared.counter.Counter.{Counter}
use Rattle.dev_pit.specs.declared.limits.TheConstants.{READ_BACK_LEVEL}

-- `held_if held number` is the number if the flag `held` is set, else none.
abbrev pub held_if : Bool → ℕ → Option ℕ
held_if false number = None
held_if true number = Some number

-- `channel_of counter` has the fields of the counter; a number that isn't held is 0.
unfoldable pub channel_of : Counter → Channel
channel_of counter = record {
  count = counter.count;
  mode = mode_number counter.mode;
  rw = access_number counter.access;
  bcd = counter.bcd;
  loaded = is_some counter.loaded_at;
  load_time = held_or counter.loaded_at 0;
  read_high = counter.read_high;
  wlow_held = is_some counter.held_low;
  wlow = held_or counter.held_low 0;
  latched = is_some counter.latch;
  latch = held_or counter.latch 0;
  status_latched = is_some counter.status;
  status = held_or counter.status 0;
}

-- `counter_from channel` is the counter that has these fields.
unfoldable pub counter_from : Channel → Counter
counter_from channel = record {
  count = channel.count;
  mode = mode_of channel.mode;
  access = access_of channel.rw;
  bcd = channel.bcd;
  loaded_at = held_if channel.loaded channel.load_time;
  read_high = channel.read_high;
  held_low = held_if channel.wlow_held channel.wlow;
  latch = held_if channel.latched channel.latch;
  status = held_if channel.status_latched channel.status;
}

-- The rule 1: `mode` is at most 5, and `rw` is 1, 2 or 3.
unfoldable pub registers_hold : Channel → Bool
registers_hold channel = nat_le channel.mode 5 && (nat_le 1 channel.rw && nat_le channel.rw 3)

-- The rule 2 at `now`: `load_time` is at most `now`, and is 0 if the counter isn't loaded.
unfoldable pub moment_holds : ℕ → Channel → Bool
moment_holds now channel = nat_le channel.load_time now && (channel.loaded || (channel.load_time == 0))

-- The rule 3 at `level`: a status that isn't latched is 0, and an 8253 has none latched.
unfoldable pub status_holds : ℕ → Channel → Bool
status_holds level channel = (channel.status_latched || (channel.status == 0)) && (nat_le READ_BACK_LEVEL level || not channel.status_latched)

-- The rule 4: `read_high` and `wlow_held` are set only if `rw` is 3.
unfoldable pub toggles_hold : Channel → Bool
toggles_hold channel = (channel.rw == 3) || (not channel.read_high && not channel.wlow_held)
