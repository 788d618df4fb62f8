use Rattle.vms_write.proofs.Facade.{◌≡◌, ◌-◌, [], formed, settle}
use Rattle.vms_write.proofs.fine.are_default.Given as goal

abbrev pub invariant-loop-cell : goal.invariant-loop-cell
invariant-loop-cell l = settle [] (formed l.defaults) l.image.numbers l.cell (l.end - l.cell) ≡ settle [] (formed l.defaults) l.image.numbers l.first (l.end - l.first)
