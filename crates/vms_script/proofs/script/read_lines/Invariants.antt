use Rattle.vms_script.proofs.Facade.{◌≡◌, ◌+◌, ◌*◌, ◌≤◌, length, map, text_read}
use Rattle.vms_script.proofs.ScriptLemmas.{after_lines}
use Rattle.vms_script.proofs.script.read_lines.Given as goal

abbrev pub invariant-loop-next : goal.invariant-loop-next
invariant-loop-next g l = record {
  counted : 2 * l.number + length l.rest ≤ 4294967297;
  reads : after_lines (map g.L.Kept.said l.lines.items) (text_read l.play l.number l.rest) ≡ text_read l.play 1 l.text;
}

abbrev pub decreases-loop-next : goal.decreases-loop-next
decreases-loop-next g l = length l.rest
