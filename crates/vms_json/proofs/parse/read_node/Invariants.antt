use Rattle.vms_json.proofs.{Facade.length, Facade.MatchBool, Facade.IsUnder, Facade.IsWhole, FrameLaws.said_by}
use Rattle.vms_json.proofs.parse.read_node.Given as goal

abbrev pub invariant-loop-is_done : goal.invariant-loop-is_done
invariant-loop-is_done l = MatchBool l.is_done (IsWhole (said_by l.text) l.laid l.reader) (IsUnder (said_by l.text) l.laid l.reader)

abbrev pub decreases-loop-is_done : goal.decreases-loop-is_done
decreases-loop-is_done l = length l.reader
