use Rattle.dev_serial.proofs.Facade.{◌≡◌, true, take, range_with_len, list_all, is_held_or_zero}
use Rattle.dev_serial.proofs.stored.Ring.is_zero_outside.Given as goal

abbrev pub invariant-loop-place : goal.invariant-loop-place
invariant-loop-place l = list_all (is_held_or_zero l.self) (take l.place (range_with_len 0 16)) ≡ true
