use Rattle.vms_descfile.proofs.Facade.{Some, sym, subst, ap, ◌∙◌, view, Answers, struct_in}
use Rattle.vms_descfile.proofs.WalkLaws.{names_looked_up, struct_unasked}
use Rattle.vms_parts.specs.Views.{desc_of as desc_seen}
use Rattle.vms_descfile.proofs.read.descs.read_asked.Goals as goal

pub returns-in_ok-names : goal.returns-in_ok-names
returns-in_ok-names c =
    subst (λ n. Answers desc_seen (struct_in n (view c.args.value.now)) c.read_struct.result)
    (names_looked_up c.args.asks _ _ _ c.is_asked.ensures c.if-is_asked.true (ap Some c.in_ok-names.ensures)) c.read_struct.ensures

pub returns-else-is_asked : goal.returns-else-is_asked
returns-else-is_asked c =
    rw (struct_unasked c.args.asks (view c.args.value.now) (sym c.is_asked.ensures ∙ c.if-is_asked.false)) at c.read_struct-else-is_asked.ensures
