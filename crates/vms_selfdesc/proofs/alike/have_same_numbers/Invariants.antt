use Rattle.vms_selfdesc.proofs.Facade.{◌≡◌, take}
use Rattle.vms_selfdesc.proofs.alike.have_same_numbers.Given as goal

-- the numbers before the cell are the same
abbrev pub invariant-loop-cell : goal.invariant-loop-cell
invariant-loop-cell l = take l.cell l.first.numbers ≡ take l.cell l.second.numbers
