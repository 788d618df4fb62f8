use Rattle.vms_script.proofs.Facade.{◌≡◌, true, sym, ◌∙◌, IsUtf8-from_ascii, is_shelf_name}
use Rattle.vms_script.proofs.ScriptLemmas.{name_ascii}
use Rattle.vms_script.proofs.name.name_of.Goals as goal

pub returns-in-Err : goal.returns-in-Err
returns-in-Err c =
    let named : is_shelf_name c.args.text.now ≡ true = sym c.is_shelf_name.ensures ∙ c.if-not-is_shelf_name.false in
    absurd (c.in-Err.ensures.cases.0 (IsUtf8-from_ascii c.args.text.now (name_ascii c.args.text.now named)))
