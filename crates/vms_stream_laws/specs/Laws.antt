-- The laws of fronts.
use Rattle.std.specs.Prelude.{◌≡◌, ℕ, true, List, [], ◌∷◌, Option}
use Rattle.vms_kinds.specs.Bytes.{IsBytes}
use Rattle.vms_spec.specs.declared.Reason.{Reason}
use Rattle.vms_spec.specs.Heads.{FitsHeads}
use Rattle.vms_spec.specs.Sets.{Set}
use Rattle.vms_spec.specs.Units.{Piece, spelled}
use Rattle.vms_spec.specs.WellFormed.{WellFormed}
use Rattle.vms_stream.specs.Dues.{holds}
use Rattle.vms_stream.specs.Faults.{Fault, Front}
use Rattle.vms_stream.specs.StreamLaws.{GoesOn}
use Rattle.vms_stream_laws.specs.Unruled.{unruled}

-- `Begins set names u`: some stream of the set, without its validations, begins with the units `u`.
pub record Begins (set : Set) (names : List (List ℕ)) (u : List Piece) : Type 0 where
  pub input : List ℕ
  pub octets : IsBytes input
  pub goes_on : GoesOn (unruled set) names input u

-- `HoldsBefore set u`: each validation holds of the descriptions whose fields end before the last unit of
-- `u`.
abbrev pub HoldsBefore : Set → List Piece → Type 0
HoldsBefore set [] = Unit {0}
HoldsBefore set (x ∷ u) = HoldsBefore set u × (holds set u ≡ true)

-- Units without a fault begin a stream so. Units that do, and before whose last the validations hold, are
-- without a fault.
pub record IsBeginning (set : Set) (names : List (List ℕ)) (u : List Piece) : Type 0 where
  pub begins : Front set names u → Begins set names u
  pub before : Front set names u → HoldsBefore set u
  pub front : Begins set names u → HoldsBefore set u → Front set names u

-- This holds of all units, for every well-formed set.
abbrev pub BeginningLaw : Type 0
BeginningLaw = (set : Set) (names : List (List ℕ)) → WellFormed set → FitsHeads set → (u : List Piece) → IsBytes (spelled u) → IsBeginning set names u

-- The units before a fault begin a stream so.
abbrev pub RefusedLaw : Type 0
RefusedLaw = (set : Set) (names : List (List ℕ)) → WellFormed set → FitsHeads set
    → (input : List ℕ) (place : ℕ) (section : Option ℕ) (reason : Reason) (size : ℕ) → IsBytes input
    → (fault : Fault set names input place section reason size) → Begins set names fault.units
