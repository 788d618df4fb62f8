use Rattle.vms_descfile.proofs.Facade.{◌≡◌, ◌-◌, sym, ap, arith, Err, view, good, under, at, scope_seen, form_of, test_within, two_of, key_of}
use Rattle.vms_descfile.proofs.{Facade.joined, Facade.both, Facade.pair_seen, ShownLaws.by_form, ShownLaws.refused_next}
use Rattle.vms_descfile.specs.declared.read.cells.Form.TheVariants as forms
use Rattle.vms_descfile.specs.declared.read.cells.Leaf.TheVariants as leaves
use Rattle.vms_descfile.proofs.read.tests.+read_test.Goals as goal

pub returns-in-Some : goal.returns-in-Some
returns-in-Some t c =
    let scope = scope_seen c.args.scope in
    by_form c.args.depth scope (view c.args.value.now) (forms.Leaf leaves.Own) c.read_own_cell.result (omega arith) (sym (ap form_of c.in-Some.ensures))
    (rw c.in-Some.ensures c.read_own_cell.ensures)

pub returns-in-Leaf : goal.returns-in-Leaf
returns-in-Leaf t c =
    by_form _ _ _ _ _ (omega arith) c.in-Leaf.ensures c.read_leaf.ensures

pub returns-in-Some-get : goal.returns-in-Some-get
returns-in-Some-get t c =
    let scope = scope_seen c.args.scope in
    by_form c.args.depth scope (view c.args.value.now) forms.Not c.negated.result (omega arith) c.in-Not.ensures
    (rw (← c.in-Some-get.ensures) (c.negated.ensures ((test_within (c.args.depth - 1) scope) (view c.in-Some-get.inner)) c.read_test.ensures))

pub returns-in-None : goal.returns-in-None
returns-in-None t c =
    by_form c.args.depth (scope_seen c.args.scope) (view c.args.value.now) forms.Not (Err c.here-in-None.result) (omega arith) c.in-Not.ensures
    (rw (← c.in-None.ensures, c.here-in-None.ensures))

pub returns-in-Ok : goal.returns-in-Ok
returns-in-Ok t c =
    let scope = scope_seen c.args.scope in
    let d = view c.args.value.now in
    let join = c.in-Two.join in
    let inner = test_within (c.args.depth - 1) scope in
    let pair = pair_seen (c.in-Ok.first, c.in-Ok.second) in
    let two : at two_of (key_of join) d ≡ good pair = cc (c.key.ensures, c.in-Ok.ensures) in
    by_form c.args.depth scope d (forms.Two join) c.both.result (omega arith) c.in-Two.ensures
    (rw two (c.both.ensures (inner pair.first) (inner pair.second) c.read_test-first.ensures c.read_test-second.ensures))

pub returns-in-Err : goal.returns-in-Err
returns-in-Err t c =
    let join = c.in-Two.join in
    let inner = test_within (c.args.depth - 1) (scope_seen c.args.scope) in
    by_form c.args.depth (scope_seen c.args.scope) (view c.args.value.now) (forms.Two join) (Err c.in-Err.fault) (omega arith) c.in-Two.ensures
    (refused_next (at two_of (key_of join) (view c.args.value.now)) (λ p. under (key_of join) (both (joined join) (inner p.first) (inner p.second)))
    c.in-Err.fault (rw c.key.ensures at c.in-Err.ensures))
