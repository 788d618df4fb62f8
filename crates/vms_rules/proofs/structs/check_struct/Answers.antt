use Rattle.std.proofs.Common.{rules}
use Rattle.vms_rules.proofs.{Facade.get_map_at, WalkLaws.stops_by, WalkLaws.first_stops, WalkLaws.judged_after}
use Rattle.vms_rules.proofs.structs.check_struct.Goals as goal

pub returns-in_err-lowest : goal.returns-in_err-lowest
returns-in_err-lowest c = search (rules, stops_by, first_stops)

pub returns : goal.returns
returns c = search (rules, judged_after, get_map_at)
