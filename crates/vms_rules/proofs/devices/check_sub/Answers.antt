use Rattle.std.proofs.Common.{arith}
use Rattle.vms_rules.proofs.{Facade.get_map_at, WalkLaws.stops_by, WalkLaws.first_stops, WalkLaws.judged_after}
use Rattle.vms_rules.proofs.devices.check_sub.Goals as goal

pub sub_rules-requires-clause-new : goal.sub_rules-requires-clause-new
sub_rules-requires-clause-new c = c.requires.new

pub returns-in_err-lowest : goal.returns-in_err-lowest
returns-in_err-lowest c = grind (arith, stops_by, first_stops)

pub returns : goal.returns
returns c = search (arith, judged_after, get_map_at)
