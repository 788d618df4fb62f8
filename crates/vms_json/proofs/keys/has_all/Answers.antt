use Rattle.vms_json.proofs.{Facade.◌∙◌, Facade.view, KeyLaws.all_has}
use Rattle.vms_json.proofs.keys.has_all.Goals as goal

pub returns : goal.returns
returns c = c.has_each.ensures ∙ all_has (view c.args.value.now) c.args.keys.now
