use Rattle.vms_json.proofs.Facade.{◌≤◌, List, length, Option, Token, Data, AreBelow, HasEnded}
use Rattle.vms_json.proofs.parse.go_on.Given as goal

abbrev pub invariant-loop-laid : goal.invariant-loop-laid
invariant-loop-laid l = record {
  below : AreBelow l.laid.begun.items (length l.laid.rows.items);
  ended : (said : Option (Data × List Token)) → HasEnded said l.fn.laid l.fn.reader → HasEnded said l.laid l.reader;
  fewer : length l.reader ≤ length l.fn.reader;
}

abbrev pub decreases-loop-laid : goal.decreases-loop-laid
decreases-loop-laid l = length l.reader
