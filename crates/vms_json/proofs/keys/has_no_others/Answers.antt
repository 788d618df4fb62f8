use Rattle.vms_json.proofs.Facade.{rules, refl, no_members}
use Rattle.vms_json.proofs.KeyLaws.{others_stay, key_more}
use Rattle.vms_json.proofs.keys.has_no_others.Goals as goal

pub loop-key-init : goal.loop-key-init
loop-key-init c = (no_members, refl, refl)

pub returns-then-not-is_one_of-2 : goal.returns-then-not-is_one_of-2
returns-then-not-is_one_of-2 c = search (rules, others_stay, key_more)

pub loop-key-preserved : goal.loop-key-preserved
loop-key-preserved c = search (rules, key_more)
