-- The meaning of bytes for a restore.
use Rattle.std.specs.Prelude.{◌≡◌, ◌⊎◌, ℕ, List, [], ◌∷◌, Option, Some, Ok, Err}
use Rattle.dev_board.specs.declared.misfit.Misfit.{Misfit}
use Rattle.dev_board.specs.declared.misfit.Misfit.TheVariants as misfits
use Rattle.vms_spec.specs.Images.{Image}
use Rattle.vms_spec.specs.declared.Reason.{Reason}
use Rattle.vms_spec.specs.declared.Reason.TheVariants as reasons
use Rattle.vms_stream.specs.Faults.{Fault}
use Rattle.vms_stream.specs.Streams.{Takes}
use Rattle.vms_board.specs.Family.{Family, lists_in}

-- The outcome of a restore: a board and the length of its stream; or an offset, a device or none,
-- and a reason.
pub data Restore (S : Type 0) : Type 0 where
  Back : S → ℕ → Restore S
  Refused : ℕ → Option ℕ → Reason → Restore S

-- The device of a misfit, which is also named if the lines disagree.
abbrev pub misfit_section : Misfit → Option ℕ
misfit_section (misfits.Unsound device rule) = Some device
misfit_section (misfits.LinesDisagree device) = Some device

-- The reason of a misfit.
abbrev pub misfit_reason : Misfit → Reason
misfit_reason (misfits.Unsound device rule) = reasons.Unsound rule
misfit_reason (misfits.LinesDisagree device) = reasons.LinesDisagree

module _ {S : Type 0} (f : Family S) where
  -- The bytes begin with a stream of the newest set that names the machine with this number or
  -- none.
  abbrev pub TakesBoard : ℕ → List ℕ → ℕ → List Image → Type 0
  TakesBoard number bytes taken images =
      (machine : Option (List ℕ)) × Takes (f.set f.newest) (f.machine number ∷ []) bytes taken machine images

  -- The bytes have a fault with this offset, device and reason.
  abbrev pub IsFaultAt : ℕ → List ℕ → ℕ → Option ℕ → Reason → Type 0
  IsFaultAt number bytes place section reason =
      (size : ℕ) × Fault (f.set f.newest) (f.machine number ∷ []) bytes place section reason size

  -- The bytes begin with a stream whose images no board has. The offset `place` is the length of
  -- the stream.
  pub record IsMisfitAt (number : ℕ) (bytes : List ℕ) (place : ℕ) (section : Option ℕ) (reason : Reason) : Type 0 where
    pub images : List Image
    pub taken : TakesBoard number bytes place images
    pub misfit : Misfit
    pub fails : f.restored number (lists_in images) ≡ Err misfit
    pub section_is : section ≡ misfit_section misfit
    pub reason_is : reason ≡ misfit_reason misfit

  -- The outcome of restoring a board with this number from these bytes.
  abbrev pub Restores : ℕ → List ℕ → Restore S → Type 0
  Restores number bytes (Back m taken) =
      (images : List Image) × TakesBoard number bytes taken images × (f.restored number (lists_in images) ≡ Ok m)
  Restores number bytes (Refused place section reason) =
      IsFaultAt number bytes place section reason ⊎ IsMisfitAt number bytes place section reason
