-- What a call of a cursor returns: the unit at the front of the input, and the rows that the unit alone
-- decides.
use Rattle.std.specs.Prelude.{ℕ, List, Option, Some, None}
use Rattle.vms_spec.specs.declared.Reason.{Reason}
use Rattle.vms_spec.specs.Units.{Piece}
use Rattle.vms_stream.specs.SoFar.{Known}
use Rattle.vms_stream.specs.Dues.{Due}
use Rattle.vms_stream.specs.Table.{first_row, alone}
use Rattle.vms_stream.specs.Finding.{Found, Whole, Cut, unit_at}

-- What a call of a cursor returns: a whole unit of some bytes that no row of its own takes; an invalid unit
-- with its size and reason; or that the input ends.
pub data Seen : Type 0 where
  Good : Piece → ℕ → Seen
  Bad : ℕ → Reason → Seen
  Short : Seen

-- `seen_by o x n` is the result for the unit `x` of `n` bytes, if `o` is the row that takes it.
abbrev pub seen_by : Option (Option ℕ × Reason) → Piece → ℕ → Seen
seen_by None x n = Good x n
seen_by (Some (section, reason)) x n = Bad n reason

-- `seen_in d k found` is the result for what is found, by the rows of `alone`.
abbrev pub seen_in : Due → Known → Found → Seen
seen_in d k (Whole x n) = seen_by (first_row (alone d k x)) x n
seen_in d k Cut = Short

-- `seen d k rest` is the result for the front of `rest`, if `d` is due and `k` is known.
abbrev pub seen : Due → Known → List ℕ → Seen
seen d k rest = seen_in d k (unit_at d rest)
