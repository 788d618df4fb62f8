use Rattle.vms_selfdesc.proofs.Facade.{◌≡◌, take}
use Rattle.vms_selfdesc.proofs.alike.have_same_subs.Given as goal

-- the subsections before this one came alike
abbrev pub invariant-loop-sub : goal.invariant-loop-sub
invariant-loop-sub l = take l.sub l.pair.first.now.came ≡ take l.sub l.pair.second.now.came
