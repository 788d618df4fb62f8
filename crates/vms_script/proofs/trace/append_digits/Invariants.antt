use Rattle.vms_script.proofs.Facade.{◌≡◌, ◌+◌, ◌*◌, ◌++◌, length, drop, bytes_text}
use Rattle.vms_script.proofs.trace.append_digits.Given as goal

abbrev pub invariant-loop-byte : goal.invariant-loop-byte
invariant-loop-byte l = record {
  count : length l.line.items ≡ length l.fn.line.items + 2 * l.byte-index;
  items : l.line.items ++ bytes_text (drop l.byte-index l.bytes) ≡ l.fn.line.items ++ bytes_text l.bytes;
}
