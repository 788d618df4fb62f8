use Rattle.vms_json.proofs.Facade.{rules, arith, map}
use Rattle.vms_json.proofs.KeyLaws.{before_none, goes_on, stops, ends}
use Rattle.vms_json.proofs.lists.read_each.Goals as goal

pub loop-item-init : goal.loop-item-init
loop-item-init g c = grind (arith, before_none)

pub returns-in-Err : goal.returns-in-Err
returns-in-Err g c = search (rules, stops)

pub loop-item-preserved : goal.loop-item-preserved
loop-item-preserved g c =
    let l = c.loop-item in (
      rw c.in_ok-put-in-Ok.ensures.put
          (goes_on g.R.Reads.means (g.R.Reads.says c.args.reader.now) _ _ _ _ l.invariant.0 c.in-Some.ensures.value c.in-Ok.ensures),
      omega (arith, l.invariant.1, c.in-Some.ensures.fewer),
    )

pub returns : goal.returns
returns g c =
    let l = c.loop-item in
    ends (g.R.Reads.says c.args.reader.now) l.i (map g.R.Reads.means l.list.items) l.invariant.0 c.in_default.ensures.value
