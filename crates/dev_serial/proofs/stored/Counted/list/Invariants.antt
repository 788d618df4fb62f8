use Rattle.dev_serial.proofs.Facade.{◌≡◌, length, firsts, byte_of}
use Rattle.dev_serial.proofs.stored.Counted.list.Given as goal

abbrev pub invariant-loop-i : goal.invariant-loop-i
invariant-loop-i l = record { items : l.list.items ≡ firsts l.i (byte_of l.self.bytes); count : length l.list.items ≡ l.i }
