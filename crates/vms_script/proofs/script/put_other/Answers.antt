use Rattle.vms_script.proofs.{Facade.rules, Facade.on_ok_weaker, ScriptLemmas.other_says, ScriptLemmas.words_long}
use Rattle.vms_script.proofs.script.put_other.Goals as goal

pub returns-in-Some-clause-long : goal.returns-in-Some-clause-long
returns-in-Some-clause-long g c =
    on_ok_weaker c.put_words.result (λ put. words_long c.args.text.now c.in-Some.rest.now (search rules)) c.put_words.ensures.put

pub returns-in-None-clause-refused : goal.returns-in-None-clause-refused
returns-in-None-clause-refused g c = other_says c.args.play c.args.text.now c.requires.other (search rules)
