use Rattle.vms_rtc.proofs.Facade.{◌≡◌, ℕ, ◌<◌, get_or, length, register_in}
use Rattle.vms_rtc.proofs.cells.registers_at.Given as goal

abbrev pub invariant-loop-k : goal.invariant-loop-k
invariant-loop-k l = record {
  len : length l.cmos ≡ 64;
  set : (i : ℕ) → i < l.k → get_or l.cmos i 0 ≡ register_in l.cells.items i;
}
