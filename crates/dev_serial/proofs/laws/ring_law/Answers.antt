use Rattle.dev_serial.proofs.SavedLaws.{lists_come_back, holds_what_it_gives}
use Rattle.dev_serial.proofs.laws.ring_law.Goals as goal

pub returns : goal.returns
returns c = record { back = lists_come_back; held = holds_what_it_gives }
