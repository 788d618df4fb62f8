use Rattle.vms_analyze.proofs.Facade.{arith, rules, ap, map, sym, ◌∙◌, items_left, each}
use Rattle.vms_analyze.proofs.One.{before, before_none, goes_on, stops, ends}
use Rattle.vms_analyze.proofs.each.each.Goals as goal

pub loop-item-init : goal.loop-item-init
loop-item-init g c = grind (arith, before_none)

pub returns-in-Err : goal.returns-in-Err
returns-in-Err g c = search (rules, stops)

pub loop-item-preserved : goal.loop-item-preserved
loop-item-preserved g c =
    let says = g.T.Reads.says in
    let l = c.loop-item in
    let rest = items_left c.next.new.self in
    goes_on g.T.Reads.means says _ _ _ _ _ _
    l.invariant c.in-Some.ensures.value c.in-Ok.ensures ∙ ap (λ v. before (map g.T.Reads.means v) (each says rest)) (sym c.in_ok-push-in-Ok.ensures.items)

pub returns : goal.returns
returns g c = search (rules, ends)
