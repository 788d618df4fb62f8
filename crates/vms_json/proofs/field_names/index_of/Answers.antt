use Rattle.vms_json.proofs.Facade.{◌++◌, [], ◌∷◌, refl, arith, rules, length-append}
use Rattle.vms_json.proofs.KeyLaws.{one_named, names_on, names_end}
use Rattle.vms_json.proofs.field_names.index_of.Goals as goal

pub loop-field-init : goal.loop-field-init
loop-field-init c = ([], (search rules), refl, refl, omega arith)

pub loop-field-preserved : goal.loop-field-preserved
loop-field-preserved c =
    let l = c.loop-field.invariant in
    let name = c.name_of.result.now in (
      l.0 ++ name ∷ [],
      record {
        first = λ q. rw (one_named l.0 name q c.loop-field.i l.3, ← l.1.first q) (c.in_ok-put_first.ensures q);
      },
      names_on _ l.2 c.in-Some.ensures.value c.name_of.ensures,
      omega (arith, length-append l.0 (name ∷ [])),
      omega (arith, l.4, c.in-Some.ensures.fewer),
    )

pub returns : goal.returns
returns c =
    let l = c.loop-field.invariant in
    rw (names_end l.0 l.2 c.in_default.ensures.value) at l.1
