-- What happens to streams on a shelf.
use Rattle.std.specs.Prelude.{◌≡◌, ℕ, List, length, Result, Ok, Err}
use Rattle.arrayvec.specs.ArrayVec.{ArrayVec}
use Rattle.dev_board.specs.State.{State}
use Rattle.vms_io.specs.Causes.{Rose}
use Rattle.vms_io.specs.Shelving.{Looks, Spoils, Stores}
use Rattle.vms_io.specs.Told.{Stock}
use Rattle.vms_session.specs.Session.{Session}
use Rattle.vms_session.specs.declared.line.PlayFault.{PlayFault}
use Rattle.vms_session.specs.declared.line.PlayFault.TheVariants as faults

-- The name holds the stream, in place of what it held, and the result is the stream's length; or the store failed;
-- or nothing was stored.
abbrev pub SavesUnder : (name stream : List ℕ) (shelf shelf' : Stock) → Result ℕ PlayFault → Type 0
SavesUnder name stream shelf shelf' (Ok n) = (n ≡ length stream) × Stores shelf shelf' name stream
SavesUnder name stream shelf shelf' (Err faults.WriteFault) = ⊥
SavesUnder name stream shelf shelf' (Err faults.ShelfFault) = Spoils shelf shelf' name
SavesUnder name stream shelf shelf' (Err faults.NoMemory) = Looks shelf shelf'

-- A line of this text, and the board of this session.
abbrev pub LoadsAs : List ℕ → Session → State → Result (ArrayVec ℕ) PlayFault → Type 0
LoadsAs text new board (Ok line) = (line.items ≡ text) × (board ≡ new.board)
LoadsAs text new board (Err fault) = Unit {0}

-- The shelf holds the same as before. Only the shelf can fail, and only if it has counted a failure.
abbrev pub LooksUp : {T : Type 0} → (shelf shelf' : Stock) → Result T PlayFault → Type 0
LooksUp shelf shelf' (Ok t) = Looks shelf shelf'
LooksUp shelf shelf' (Err faults.WriteFault) = ⊥
LooksUp shelf shelf' (Err faults.ShelfFault) = Looks shelf shelf' × Rose shelf.faults shelf'.faults
LooksUp shelf shelf' (Err faults.NoMemory) = Looks shelf shelf'
