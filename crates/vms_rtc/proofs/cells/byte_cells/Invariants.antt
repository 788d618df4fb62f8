use Rattle.vms_rtc.proofs.Facade.{◌≡◌, ◌∷◌, ◌+◌, length, take, pos, map}
use Rattle.vms_rtc.proofs.cells.byte_cells.Given as goal

abbrev pub invariant-loop-byte : goal.invariant-loop-byte
invariant-loop-byte l = record {
  items : l.cells.items ≡ pos l.index ∷ map pos (take l.byte-index l.cmos);
  count : length l.cells.items ≡ l.byte-index + 1;
}
