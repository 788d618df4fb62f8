use Rattle.dev_serial.proofs.Facade.{◌≡◌, ◌≤◌, ◌+◌, ◌++◌, length, Some, IsShort, departures, gone, staying, on_line, looped_in}
use Rattle.dev_serial.proofs.transmitter.send_due.Given as goal

abbrev pub invariant-bytes : goal.invariant-bytes
invariant-bytes l = record {
  few : length l.waiting.items ≤ length l.fn.waiting.items;
  few_held : IsShort l.mode.has_fifos l.receiver.held;
  room : length l.line.items + length l.waiting.items ≤ 16;
  left : staying l.to (departures l.mode.character (Some l.fn.first) l.fn.waiting.items) ≡ staying l.to
      (departures l.mode.character (Some l.shift) l.waiting.items);
  line : on_line l.mode (gone l.to (departures l.mode.character (Some l.fn.first) l.fn.waiting.items)) ≡ l.line.items ++ on_line l.mode
      (gone l.to (departures l.mode.character (Some l.shift) l.waiting.items));
  looped : looped_in l.mode (gone l.to (departures l.mode.character (Some l.fn.first) l.fn.waiting.items)) l.fn.receiver ≡ looped_in l.mode
      (gone l.to (departures l.mode.character (Some l.shift) l.waiting.items)) l.receiver;
}

abbrev pub decreases-bytes : goal.decreases-bytes
decreases-bytes l = length l.waiting.items
