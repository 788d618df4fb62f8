use Rattle.vms_json.proofs.{Facade.◌∙◌, KeyLaws.any_is}
use Rattle.vms_json.proofs.keys.is_one_of.Goals as goal

pub returns : goal.returns
returns c = c.is_among.ensures ∙ any_is c.args.key.now c.args.keys.now
