-- The search for the first moment at which a board shows something.
use Rattle.std.specs.Prelude.{◌≡◌, ℕ, ◌+◌, ◌*◌, ◌≤◌, true, length, Option, Some, None}
use Rattle.dev_base.specs.declared.limits.TheConstants.{LAST_MOMENT}
use Rattle.dev_serial.specs.Access.{advanced}
use Rattle.dev_serial.specs.Port.{Port, line_of}
use Rattle.dev_serial.specs.declared.shift.Shift.{Shift}
use Rattle.vms_rtc.specs.Chip.{passed}
use Rattle.dev_due.specs.Boards.{character_of, devices_of, shows_at}
use Rattle.dev_due.specs.declared.boards.Board.{Board}
use Rattle.dev_due.specs.declared.boards.Board.TheVariants.{Isa, Clock}

-- a moment that the board has, and at which it shows something
pub record Shown (board : Board) (at : ℕ) : Type 0 where
  pub from : (devices_of board).moment ≤ at
  pub last : at ≤ LAST_MOMENT
  pub shows : shows_at board at ≡ true

-- a moment was found that isn't after this one
abbrev pub IsBy : ℕ → Option ℕ → Type 0
IsBy at None = ⊥
IsBy at (Some found) = found ≤ at

-- what was found shows something
abbrev pub IsShown : Board → Option ℕ → Type 0
IsShown board None = Unit {0}
IsShown board (Some found) = Shown board found

-- what was found before is found still, or an earlier moment
pub record Finds (board : Board) (old new : Option ℕ) : Type 0 where
  pub kept : (at : ℕ) → IsBy at old → IsBy at new
  pub shown : IsShown board old → IsShown board new

-- a moment was tried: if it shows something, it was found, or one before it
pub record Tried (board : Board) (at : ℕ) (found : Option ℕ) : Type 0 where
  pub by : Shown board at → IsBy at found

-- ---- segments of time

-- at both moments the port has the same line, and the same bytes left
pub record SameLine (port : Port) (at to : ℕ) : Type 0 where
  pub line : line_of at (advanced at port).1 ≡ line_of to (advanced to port).1
  pub sent : (advanced at port).0 ≡ (advanced to port).0

-- at both moments the clock chip, if there is one, is the same
abbrev pub SameClock : Board → (at to : ℕ) → Type 0
SameClock (Isa devices) at to = Unit {0}
SameClock (Clock devices) at to =
    passed devices.now.board.moment at devices.now.clock
    ≡ passed devices.now.board.moment to devices.now.clock

-- from the base to a later moment all stays but OUT of the counters
pub record IsSegment (board : Board) (base to : ℕ) : Type 0 where
  pub from : (devices_of board).moment ≤ base
  pub upto : base ≤ to
  pub last : to ≤ LAST_MOMENT
  pub line : (at : ℕ) → base ≤ at → at ≤ to → SameLine (devices_of board).serial at to
  pub clock : (at : ℕ) → base ≤ at → at ≤ to → SameClock board at to

-- a base was tried: all that shows something in its segments was found
pub record Found (board : Board) (base : ℕ) (found : Option ℕ) : Type 0 where
  pub by : (to : ℕ) → IsSegment board base to → shows_at board to ≡ true → IsBy to found

abbrev pub FoundAt : Board → Option ℕ → Option ℕ → Type 0
FoundAt board None found = Unit {0}
FoundAt board (Some base) found = Found board base found

-- the moment at which a byte leaves the shift register was tried, and that at which a timeout that
-- begins then ends
pub record FoundSend (board : Board) (sent : ℕ) (found : Option ℕ) : Type 0 where
  pub tried : Tried board sent found
  pub leaves : Found board sent found
  pub ends : Found board (sent + 4 * character_of board) found

-- the same of each byte in the shift register and behind it
abbrev pub FoundSends : Board → Option Shift → Option ℕ → Type 0
FoundSends board None found = Unit {0}
FoundSends board (Some shift) found =
    (k : ℕ) → k ≤ length (devices_of board).serial.transmitter.waiting
    → FoundSend board (shift.due + k * character_of board) found
