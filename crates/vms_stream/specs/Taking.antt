-- What is taken of a unit, by the result of a cursor's call.
use Rattle.std.specs.Prelude.{List, [], length, slice_set, None, ℤ}
use Rattle.vms_spec.specs.declared.Reason.TheVariants as reasons
use Rattle.vms_spec.specs.Taking.{Progress, Taken, refuse, on}
use Rattle.vms_spec.specs.Units.{Piece, Number}
use Rattle.vms_stream.specs.Seen.{Seen, Good, Bad, Short}
use Rattle.vms_stream.specs.SoFar.{Known, no_image}

-- What is known before any unit.
abbrev pub nothing_known : Known
nothing_known = record { came = []; section = None; id = 0; image = no_image }

-- `put x numbers` is `numbers` after the unit `x`: a number goes into its cell.
abbrev pub put : Piece → List ℤ → List ℤ
put (Number c kind z) numbers = slice_set numbers c z
put _ numbers = numbers

-- `taken_by p seen` is the progress after a call that returned `seen`.
abbrev pub taken_by : Progress → Seen → Taken
taken_by p (Good x n) = on n (put x p.numbers) p
taken_by p (Bad n reason) = refuse p reason n
taken_by p Short = refuse p reasons.Truncated (length p.rest)
