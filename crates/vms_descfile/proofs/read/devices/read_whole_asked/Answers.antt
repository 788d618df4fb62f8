use Rattle.vms_descfile.proofs.Facade.{whole_seen, Some, sym, subst, ap, ◌∙◌, view, Answers, whole_in}
use Rattle.vms_descfile.proofs.WalkLaws.{names_looked_up, whole_unasked}
use Rattle.vms_descfile.proofs.read.devices.read_whole_asked.Goals as goal

pub returns-in_ok-names : goal.returns-in_ok-names
returns-in_ok-names c =
    subst (λ n. Answers whole_seen (whole_in c.args.asks n (view c.args.value.now)) c.read_whole.result)
    (names_looked_up c.args.asks _ _ _ c.is_asked.ensures c.if-is_asked.true (ap Some c.in_ok-names.ensures)) c.read_whole.ensures

pub returns-else-is_asked : goal.returns-else-is_asked
returns-else-is_asked c =
    rw (whole_unasked c.args.asks (view c.args.value.now) (sym c.is_asked.ensures ∙ c.if-is_asked.false)) at c.read_whole-else-is_asked.ensures
