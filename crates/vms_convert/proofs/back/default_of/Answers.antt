use Rattle.vms_convert.proofs.Facade
use Facade.{w128, rules, ◌∙◌, ap, length, get_or, pos, arith, to_z-of_z, length-map, no_cell, device_cells, Held, described, device_at}
use Rattle.std.proofs.lemmas.List.{get_or-map}
use Rattle.vms_convert.proofs.back.default_of.Goals as goal

pub get-requires : goal.get-requires
get-requires c =
    let cells = device_cells (described c.args.set.now) (device_at (described c.args.set.now) c.args.device) in
    omega (arith, ap (λ (h : Held). length h.numbers) c.defaults.ensures.defaults, length-map cells (λ x. x.default))

pub returns : goal.returns
returns c =
    rw (to_z-of_z w128 c.get.result (search rules))
    (c.get.ensures.number ∙ ap (λ (h : Held). get_or h.numbers c.args.cell (pos 0)) c.defaults.ensures.defaults ∙ get_or-map
    (λ x. x.default) (device_cells (described c.args.set.now) (device_at (described c.args.set.now) c.args.device)) c.args.cell no_cell (pos 0) c.requires.cell)
