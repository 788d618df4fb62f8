-- When a wait first shows something.
use Rattle.std.specs.Prelude.{◌≡◌, ◌<◌, ◌==◌, ◌||◌, ℕ, Bool, true, false, not, length, Option, Some, None}
use Rattle.dev_base.specs.Bits.{same}
use Rattle.dev_board.specs.declared.event.Answer.{Answer}
use Rattle.dev_board.specs.declared.event.Event.{Event}
use Rattle.dev_board.specs.declared.event.Event.TheVariants.{Wait}

-- an answer shows something: its interrupt output isn't the one before, or bytes left
abbrev pub is_shown : Answer → (before : Bool) → Bool
is_shown answer before = not (same answer.int before) || not (length answer.sent.items == 0)

-- of what goes on by steps, and has an interrupt output
module _ {S : Type 0} (step : Event → S → Answer × S) (int : S → Bool) where
  -- a wait of so many nanoseconds shows something
  abbrev pub shows : S → ℕ → Bool
  shows m ns = is_shown (step (Wait ns) m).0 (int m)

  -- the least wait that shows something, or no wait does. Each is one wait from m: in loop mode the
  -- output may rise and fall within one, so that two waits show what one of their sum doesn't
  abbrev pub IsDue : S → Option ℕ → Type 0
  IsDue m None = (ns : ℕ) → shows m ns ≡ false
  IsDue m (Some due) = (shows m due ≡ true) × ((ns : ℕ) → ns < due → shows m ns ≡ false)

  -- it is next due at one wait at most
  abbrev pub OneIsDue : Type 0
  OneIsDue =
      (m : S) (first second : Option ℕ) → IsDue m first → IsDue m second → first ≡ second
