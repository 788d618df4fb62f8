-- What a call does to a shelf whose contents are known.
use Rattle.std.specs.Prelude.{◌≡◌, ◌≢◌, ℕ, ◌+◌, ◌<◌, ◌≤◌, List, length, Result, Err, Option, Some, None}
use Rattle.vms_kinds.specs.Bytes.{IsBytes}
use Rattle.vms_io.specs.Causes.{Rose, capped}
use Rattle.vms_io.specs.declared.shelf.FetchFault.{FetchFault}
use Rattle.vms_io.specs.declared.shelf.FetchFault.TheVariants as fetch
use Rattle.vms_io.specs.declared.shelf.StoreFault.{StoreFault}
use Rattle.vms_io.specs.declared.shelf.StoreFault.TheVariants as store

-- the bytes under each name, if there are any
abbrev pub Held : Type 0
Held = List ℕ → Option (List ℕ)

-- there is nothing, or what there is consists of bytes
abbrev pub HoldsBytes : Option (List ℕ) → Type 0
HoldsBytes None = Unit {0}
HoldsBytes (Some bytes) = IsBytes bytes

-- the same under each name
abbrev pub HoldsAll : Held → Type 0
HoldsAll held = (name : List ℕ) → HoldsBytes (held name)

-- why a fetch is refused: nothing is stored under the name, or more bytes than the limit; the other
-- faults may come in any case
abbrev pub FetchRefuses : Option (List ℕ) → ℕ → FetchFault → Type 0
FetchRefuses held limit fetch.NotThere = held ≡ None
FetchRefuses None limit fetch.TooLarge = ⊥
FetchRefuses (Some bytes) limit fetch.TooLarge = limit < length bytes
FetchRefuses held limit fetch.Failed = Unit {0}
FetchRefuses held limit fetch.NoMemory = Unit {0}

-- what is stored under other names is unchanged
abbrev pub KeepsOthers : Held → Held → List ℕ → Type 0
KeepsOthers old new name = (other : List ℕ) → other ≢ name → new other ≡ old other

-- these bytes are stored under this name, and all other names are unchanged
pub record PutsUnder (old new : Held) (name bytes : List ℕ) : Type 0 where
  pub there : new name ≡ Some bytes
  pub others : KeepsOthers old new name

-- the contents before and after are in this relation if they are known; known contents stay known
abbrev pub IfToldBoth : Option Held → Option Held → (Held → Held → Type 0) → Type 0
IfToldBoth None new relation = Unit {0}
IfToldBoth (Some old) None relation = ⊥
IfToldBoth (Some old) (Some new) relation = relation old new

-- the count of faults hasn't fallen, and if a fetch failed it has risen
abbrev pub HasFetchCause : {T : Type 0} → ℕ → ℕ → Result T FetchFault → Type 0
HasFetchCause before now (Err fetch.Failed) = (before ≤ now) × Rose before now
HasFetchCause before now _ = before ≤ now

-- the same of a store
abbrev pub HasStoreCause : {T : Type 0} → ℕ → ℕ → Result T StoreFault → Type 0
HasStoreCause before now (Err store.Failed) = (before ≤ now) × Rose before now
HasStoreCause before now _ = before ≤ now

-- the count rises by one if a fetch failed, up to its greatest value, and otherwise stays
abbrev pub CountsFetches : {T : Type 0} → ℕ → ℕ → Result T FetchFault → Type 0
CountsFetches before now (Err fetch.Failed) = now ≡ capped (before + 1)
CountsFetches before now _ = now ≡ before

-- the same of a store
abbrev pub CountsStores : {T : Type 0} → ℕ → ℕ → Result T StoreFault → Type 0
CountsStores before now (Err store.Failed) = now ≡ capped (before + 1)
CountsStores before now _ = now ≡ before
