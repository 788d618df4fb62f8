use Rattle.vms_json.proofs.Facade.{◌≡◌, ◌∷◌, sym, ap, ◌∙◌, arith}
use Rattle.vms_json.specs.declared.node.Row.TheVariants as rows
use Rattle.vms_json.proofs.LaidLaws.{a_member_left, key_is, no_member_at, no_member_left}
use Rattle.vms_json.proofs.node.Members.next.Goals as goal

pub returns-in_default-clause-value : goal.returns-in_default-clause-value
returns-in_default-clause-value c found = no_member_left c.args.self.now.rows.now found (grind arith)

pub returns-in_default-key-clause-value : goal.returns-in_default-key-clause-value
returns-in_default-key-clause-value c found = no_member_at _ c.in-Some.rows.now _ _ (grind arith) (sym c.in_default-key.ensures)

pub returns-clause-value : goal.returns-clause-value
returns-clause-value c found =
    let cut = c.cut-parted.ensures in
    let at : c.args.self.now.rows.now ≡ c.in-Some.row.now ∷ c.in-Some.rows.now = grind arith in
    let named : c.in-Some.row.now ≡ rows.Key c.in-Some-key.key = key_is c.in-Some.row.now c.in-Some-key.key (sym c.in-Some-key.ensures) in
    a_member_left _ c.in-Some.rows.now c.cut-parted.result.first.now c.cut-parted.result.rest.now _ found
    (at ∙ ap (λ r. r ∷ c.in-Some.rows.now) named) cut.first cut.rest
