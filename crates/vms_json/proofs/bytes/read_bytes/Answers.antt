use Rattle.vms_json.proofs.Facade.{arith}
use Rattle.vms_json.proofs.KeyLaws.{has_none, if_read}
use Rattle.vms_json.proofs.bytes.read_bytes.Goals as goal

pub returns-in-Ok-clause-ok : goal.returns-in-Ok-clause-ok
returns-in-Ok-clause-ok c = grind (arith, if_read)

pub returns-in-Err-clause-err : goal.returns-in-Err-clause-err
returns-in-Err-clause-err c e = has_none c.args.bytes.now (λ utf8. absurd (c.in-Err.ensures.cases.0 utf8))
