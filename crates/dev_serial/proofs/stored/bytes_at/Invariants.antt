use Rattle.dev_serial.proofs.Facade.{◌≡◌, ℕ, ◌+◌, ◌<◌, get_or, length, number_at}
use Rattle.dev_serial.proofs.stored.bytes_at.Given as goal

abbrev pub invariant-loop-i : goal.invariant-loop-i
invariant-loop-i l = record {
  len : length l.bytes ≡ 16;
  set : (i : ℕ) → i < l.i → get_or l.bytes i 0 ≡ number_at l.cells.items (l.place + i);
}
