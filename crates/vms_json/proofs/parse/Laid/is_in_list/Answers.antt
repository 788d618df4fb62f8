use Rattle.vms_json.proofs.Facade.{◌≡◌, ◌-◌, length, ◌∙◌, arith, slice_get, get_or_default, Some, ◌<◌}
use Rattle.vms_json.proofs.{DueLaws.at_last, DueLaws.below_at, DueLaws.one_place, parse.Laid.is_in_list.Goals.In-Some}
use Rattle.vms_json.proofs.parse.Laid.is_in_list.Goals as goal

-- where the innermost begins, below the end of the rows
last : (c : In-Some) → Some c.in-Some.at.now ≡ slice_get c.args.self.now.begun.items (length c.args.self.now.begun.items - 1)
last c = rw c.deref.ensures.value at c.in-Some.ensures.value

there : (c : In-Some) → c.in-Some.at.now < length c.args.self.now.rows.items
there c = grind (arith, below_at)

pub index-requires : goal.index-requires
index-requires c = omega (arith, there (goal.at.index-requires c).In-Some)

pub returns-in-Some-clause-some : goal.returns-in-Some-clause-some
returns-in-Some-clause-some c places at none told =
    let place = (goal.at.returns-in-Some-clause-some c).In-Some in
    let same : c.in-Some.at.now ≡ at = one_place c.in-Some.at.now at (rw told at (last place) ∙ at_last places at) in
    rw (c.is_list.ensures, c.index.ensures, get_or_default c.args.self.now.rows.items c.in-Some.at.now c.index.result.now none (there place), same)
