use Rattle.vms_convert.proofs.Facade.{◌≡◌, ℕ, ◌<◌, get_or, pos}
use Rattle.vms_convert.proofs.carrying.first_difference.Given as goal

abbrev pub invariant-loop-cell : goal.invariant-loop-cell
invariant-loop-cell l = (b : ℕ) → b < l.cell → get_or l.wanted.numbers b (pos 0) ≡ get_or l.there.numbers b (pos 0)
