use Rattle.dev_serial.proofs.Facade.{◌≡◌, ◌+◌, ◌%◌, length, firsts, byte_of}
use Rattle.dev_serial.proofs.stored.Ring.list.Given as goal

abbrev pub invariant-loop-i : goal.invariant-loop-i
invariant-loop-i l = record {
  items : l.list.items ≡ firsts l.i (λ i. byte_of l.self.elements ((l.self.head + i) % 16));
  count : length l.list.items ≡ l.i;
}
