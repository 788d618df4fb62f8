-- What a call does to its shelf, whether or not the contents are known.
use Rattle.std.specs.Prelude.{◌≡◌, ℕ, ◌≤◌, List}
use Rattle.vms_io.specs.Causes.{Rose}
use Rattle.vms_io.specs.Shelves.{IfToldBoth, KeepsOthers, PutsUnder}
use Rattle.vms_io.specs.Told.{Stock}

-- the count of faults hasn't fallen, and the promise is unchanged
pub record Reaches (old new : Stock) : Type 0 where
  pub later : old.faults ≤ new.faults
  pub promise : new.promise ≡ old.promise

-- the same, and the contents are unchanged
pub record Looks (old new : Stock) : Type 0 where
  pub held : new.held ≡ old.held
  pub later : old.faults ≤ new.faults
  pub promise : new.promise ≡ old.promise

-- these bytes are stored under this name, in place of what was there
pub record Stores (old new : Stock) (name bytes : List ℕ) : Type 0 where
  pub told : IfToldBoth old.held new.held (λ was now. PutsUnder was now name bytes)
  pub later : old.faults ≤ new.faults
  pub promise : new.promise ≡ old.promise

-- a store failed: what is stored under its name is unknown, and all other names are unchanged
pub record Spoils (old new : Stock) (name : List ℕ) : Type 0 where
  pub told : IfToldBoth old.held new.held (λ was now. KeepsOthers was now name)
  pub later : old.faults ≤ new.faults
  pub promise : new.promise ≡ old.promise
  pub rose : Rose old.faults new.faults
