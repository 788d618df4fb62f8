use Rattle.dev_serial.proofs.Facade.{◌≡◌, length, take, pos, map}
use Rattle.dev_serial.proofs.stored.Ring.cells.Given as goal

abbrev pub invariant-loop-byte : goal.invariant-loop-byte
invariant-loop-byte l = record {
  items : l.cells.items ≡ map pos (take l.byte-index l.self.elements);
  count : length l.cells.items ≡ l.byte-index;
}
