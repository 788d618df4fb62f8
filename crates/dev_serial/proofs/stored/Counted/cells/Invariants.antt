use Rattle.dev_serial.proofs.Facade.{◌≡◌, ◌∷◌, ◌+◌, length, take, pos, map}
use Rattle.dev_serial.proofs.stored.Counted.cells.Given as goal

abbrev pub invariant-loop-byte : goal.invariant-loop-byte
invariant-loop-byte l = record {
  items : l.cells.items ≡ pos l.self.count ∷ map pos (take l.byte-index l.self.bytes);
  count : length l.cells.items ≡ l.byte-index + 1;
}
