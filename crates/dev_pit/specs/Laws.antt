-- The laws of the chip that contracts name.
use Rattle.std.specs.Prelude.{◌≡◌, ℕ, ◌+◌, ◌-◌, ◌*◌, ◌/◌, ◌%◌, ◌<◌, ◌≤◌, Bool, true, false, ◌&&◌, ◌||◌, Some, None, Ok, List, ℤ, length, ◌↔◌}
use Rattle.vms_hooks.specs.Numbers.{Numbers}
use Rattle.dev_base.specs.Bits.{has}
use Rattle.dev_base.specs.Levels.{IsLevel, MayRestore}
use Rattle.dev_base.specs.Rules.{first_failing}
use Rattle.dev_base.specs.declared.limits.TheConstants.{NEWEST, LAST_MOMENT}
use Rattle.dev_pit.specs.Calls.{Call, IsCall, called, programs, loads, reads_latch}
use Rattle.dev_pit.specs.Cells.{pit_cells, carried, AreCellsOf, IsPitCells}
use Rattle.dev_pit.specs.Channel.{status_holds}
use Rattle.dev_pit.specs.Count.{ticks, out_at}
use Rattle.dev_pit.specs.Counter.{edge_of, out_of, status_of}
use Rattle.dev_pit.specs.GoesOn.{GoesOn}
use Rattle.dev_pit.specs.Mode.{mode_number, access_number}
use Rattle.dev_pit.specs.Pit.{IsLoadedBy, asked_back, controlled, counter_of, new_pit, pit_read, pit_written, pit_out}
use Rattle.dev_pit.specs.Saved.{CanSave, CanRestore, rules, hook_restored}
use Rattle.dev_pit.specs.Sound.{IsSoundPit}
use Rattle.dev_pit.specs.declared.channel.Channel.{Channel}
use Rattle.dev_pit.specs.declared.control.ControlWord.TheVariants.{ReadBack}
use Rattle.dev_pit.specs.declared.counter.Counter.{Counter}
use Rattle.dev_pit.specs.declared.mode.Mode.TheVariants.{TerminalCount}
use Rattle.dev_pit.specs.declared.pit.Pit.{Pit}

-- Ticks never go back.
abbrev pub TicksGoOn : Type 0
TicksGoOn = (load now later : ℕ) → now ≤ later → ticks load now ≤ ticks load later

-- Each second has 1,193,182 ticks, whenever the count was loaded.
abbrev pub SecondsHaveTicks : Type 0
SecondsHaveTicks = (load seconds : ℕ) → ticks load (load + seconds * 1000000000) ≡ seconds * 1193182

-- A span has an edge exactly if one of its two parts has one.
abbrev pub EdgeInParts : Type 0
EdgeInParts = (counter : Counter) (from between to : ℕ) → from ≤ between → between ≤ to
    → edge_of counter from to ≡ (edge_of counter from between || edge_of counter between to)

-- `TurnsHigh counter from to`: the counter is loaded, and OUT is high at some tick after the moment
-- `from` and not after `to`, and low at the tick before.
pub record TurnsHigh (counter : Counter) (from to : ℕ) : Type 0 where
  pub load : ℕ
  pub is_loaded : counter.loaded_at ≡ Some load
  pub tick : ℕ
  pub after : ticks load from < tick
  pub not_after : tick ≤ ticks load to
  pub low : out_at counter.mode counter.count (tick - 1) ≡ false
  pub high : out_at counter.mode counter.count tick ≡ true

-- A span has an edge exactly if OUT turns high at a tick of the span.
abbrev pub EdgeTurnsHigh : Type 0
EdgeTurnsHigh = (counter : Counter) (from to : ℕ)
    → (edge_of counter from to ≡ true → TurnsHigh counter from to)
    × (TurnsHigh counter from to → edge_of counter from to ≡ true)

-- A call that neither programs nor loads a counter leaves it counting as before.
abbrev pub CountingGoesOn : Type 0
CountingGoesOn = (k now : ℕ) (call : Call) (pit : Pit) → k < 3 → IsCall call
    → programs k call ≡ false → loads k call pit ≡ false
    → GoesOn (counter_of k pit) (counter_of k (called call now pit))

-- In mode 0, OUT that is high stays high as time passes, and through every call that neither
-- programs nor loads the counter (8254 data sheet, "Mode 0").
pub record TerminalCountStays : Type 0 where
  pub in_time : (k now later : ℕ) (pit : Pit) → (counter_of k pit).mode ≡ TerminalCount
      → now ≤ later → pit_out k now pit ≡ true → pit_out k later pit ≡ true
  pub in_calls : (k now later moment : ℕ) (call : Call) (pit : Pit) → k < 3 → IsCall call
      → programs k call ≡ false → loads k call pit ≡ false → (counter_of k pit).mode ≡ TerminalCount
      → now ≤ later → pit_out k now pit ≡ true → pit_out k later (called call moment pit) ≡ true

-- `TellsStatus counter now status`: the byte is the status of the counter (8254 data sheet, "Status
-- Byte"). OUT is in bit 7, RW in bits 5 and 4, the mode in bits 3 to 1, BCD in bit 0. Bit 6 is
-- clear, since a written count is in force at once.
pub record TellsStatus (counter : Counter) (now status : ℕ) : Type 0 where
  pub out : has status 7 ≡ out_of counter now
  pub null : has status 6 ≡ false
  pub access : status / 16 % 4 ≡ access_number counter.access
  pub mode : status / 2 % 8 ≡ mode_number counter.mode
  pub bcd : has status 0 ≡ counter.bcd

-- The status byte of every counter holds its four parts.
pub record StatusTells : Type 0 where
  pub tells : (counter : Counter) (now : ℕ) → TellsStatus counter now (status_of counter now)

-- A latched count stays through every call that neither reads its last byte nor programs the
-- counter. What is read of it is the same at any moment.
pub record LatchStays : Type 0 where
  pub in_calls : (k now held : ℕ) (call : Call) (pit : Pit) → k < 3 → IsCall call
      → programs k call ≡ false → reads_latch k call pit ≡ false
      → (counter_of k pit).latch ≡ Some held
      → (counter_of k (called call now pit)).latch ≡ Some held
  pub in_time : (k now later held : ℕ) (pit : Pit) → (counter_of k pit).latch ≡ Some held
      → pit_read k now pit ≡ pit_read k later pit

-- The read-back command by level. At level 1, on an 8253, it does nothing, and no status may be
-- latched. From level 2 on, on an 8254, it latches in the chosen counters, one after the other.
pub record ReadBackByLevel : Type 0 where
  pub none : (count status first second third : Bool) (now : ℕ) (pit : Pit) → pit.level ≡ 1
      → controlled (ReadBack count status first second third) now pit ≡ pit
  pub asks : (count status first second third : Bool) (now : ℕ) (pit : Pit) → 2 ≤ pit.level
      → controlled (ReadBack count status first second third) now pit
      ≡ asked_back (count && third) (status && third) 2 now (asked_back (count && second) (status && second) 1 now (asked_back (count && first) (status && first) 0 now pit))
  pub rule : (channel : Channel) → status_holds 1 channel ≡ true → channel.status_latched ≡ false

-- A chip at power on is sound; time, every read and every write keep it sound. No counter of a
-- sound chip was loaded after the chip's moment.
pub record SoundStays : Type 0 where
  pub power_on : (level now : ℕ) → IsLevel level → now ≤ LAST_MOMENT
      → IsSoundPit now (new_pit level)
  pub in_time : (now later : ℕ) (pit : Pit) → now ≤ later → later ≤ LAST_MOMENT → IsSoundPit now pit
      → IsSoundPit later pit
  pub in_reads : (k now : ℕ) (pit : Pit) → IsSoundPit now pit
      → IsSoundPit now (pit_read k now pit).1
  pub in_writes : (port value now : ℕ) (pit : Pit) → value < 256 → IsSoundPit now pit
      → IsSoundPit now (pit_written port value now pit)
  pub loaded : (now : ℕ) (pit : Pit) → IsSoundPit now pit → IsLoadedBy now pit

-- No call changes the level.
pub record StepsKeepLevel : Type 0 where
  pub power_on : (level : ℕ) → (new_pit level).level ≡ level
  pub read : (k now : ℕ) (pit : Pit) → (pit_read k now pit).1.level ≡ pit.level
  pub write : (port value now : ℕ) (pit : Pit) → (pit_written port value now pit).level ≡ pit.level

-- A chip of three counters is sound exactly if its cells in the newest set are normal and break no
-- rule.
pub record SoundMeetsRules : Type 0 where
  pub pit : (now : ℕ) (pit : Pit) → IsLevel pit.level → now ≤ LAST_MOMENT → length pit.counters ≡ 3
      → IsSoundPit now pit
      ↔ (IsPitCells (pit_cells NEWEST pit)
      × (first_failing (rules pit.level now (pit_cells NEWEST pit)) ≡ None))

-- A sound chip is saved in normal cells of the set.
pub record SavedAreCells : Type 0 where
  pub of_set : (numbers : Numbers) (pit : Pit) → CanSave numbers pit → IsSoundPit numbers.moment pit
      → AreCellsOf numbers.set (pit_cells numbers.set pit)

-- The cells saved of a sound chip, carried to the newest set, can be restored at that moment and
-- give an equal chip.
pub record SavedIsRestored : Type 0 where
  pub pit : (numbers back : Numbers) (pit : Pit) → CanSave numbers pit
      → IsSoundPit numbers.moment pit → MayRestore back → back.level ≡ pit.level
      → back.moment ≡ numbers.moment
      → CanRestore back (carried numbers.set (pit_cells numbers.set pit))
      × (hook_restored back (carried numbers.set (pit_cells numbers.set pit)) ≡ Ok pit)

-- A restored chip is sound and has the level of the restore.
pub record RestoredIsSound : Type 0 where
  pub pit : (numbers : Numbers) (cells : List ℤ) (pit : Pit) → CanRestore numbers cells
      → hook_restored numbers cells ≡ Ok pit → IsSoundPit numbers.moment pit
      × (pit.level ≡ numbers.level)
