use Rattle.dev_serial.proofs.SendingLaws.{sends_in_order, replaces_one, leaves_for_line}
use Rattle.dev_serial.proofs.laws.sending_law.Goals as goal

pub returns : goal.returns
returns c = record { in_order = sends_in_order; replaced = replaces_one; for_line = leaves_for_line }
