use Rattle.vms_convert.proofs.Facade.{Some, None, ◌∙◌, ap, fit_of, described, has, loads, name_of, Set, first_cell_at}
use Rattle.vms_convert.proofs.Answered.{ComesBack, cell_first, device_first, invalid_by, machine_last, writable_back}
use Rattle.vms_convert.proofs.losing.judge.Goals.{Start}
use Rattle.vms_convert.proofs.losing.judge.Goals as goal

came : (c : Start) → ComesBack (described c.args.to.now) (loads c.args.loader.now) (has c.args.loader.now) c.args.images.now c.args.lost
came c = record {
  fit = fit_of (described c.args.to.now) c.args.to.now.well_formed c.args.to.now.heads;
  newest = c.requires.newest;
  compatible = c.requires.compatible;
  kept = c.requires.kept;
  returned = c.requires.returned;
}

pub returns-in-Some : goal.returns-in-Some
returns-in-Some c = cell_first _ _ _ _ _ (came (goal.at.returns-in-Some c).Start) (name_of (loads c.args.loader.now) c.args.machine) c.in-Some.lost c.in-Some.is

pub first_invalid-requires : goal.first_invalid-requires
first_invalid-requires c = writable_back _ _ _ _ _ (came (goal.at.first_invalid-requires c).Start)

pub returns-in-Some-first_invalid : goal.returns-in-Some-first_invalid
returns-in-Some-first_invalid c =
    let to = described c.args.to.now in
    let new = loads c.args.loader.now in
    let k = c.in-Some-first_invalid.device in
    rw (c.first_cell.ensures ∙ ap (λ (s : Set). first_cell_at s k) c.set-in-Some-first_invalid.ensures)
    (device_first _ _ _ _ _ (came (goal.at.returns-in-Some-first_invalid c).Start) (name_of new c.args.machine) c.in_default.is k
    (invalid_by to new c.args.images.now _ (Some k) c.first_invalid.result c.set.ensures c.first_invalid.ensures c.in-Some-first_invalid.is))

pub returns : goal.returns
returns c =
    machine_last _ _ _ _ _ (came (goal.at.returns c).Start) _ c.in_default.is
    (invalid_by (described c.args.to.now) (loads c.args.loader.now) c.args.images.now _ None c.first_invalid.result c.set.ensures c.first_invalid.ensures
    c.in_default-first_invalid.is)
    c.machine_under.result (rw (← c.set-2.ensures) c.machine_under.ensures)
