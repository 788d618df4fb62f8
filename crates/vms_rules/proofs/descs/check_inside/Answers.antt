use Rattle.std.proofs.Common.{arith}
use Rattle.vms_rules.proofs.WalkLaws.{stops_by, first_stops}
use Rattle.vms_rules.proofs.descs.check_inside.Goals as goal

pub returns-in_err-check_fields : goal.returns-in_err-check_fields
returns-in_err-check_fields c = grind (arith, stops_by, first_stops)
