use Rattle.vms_walk.proofs.Facade.{rules, ap, sym, ◌∙◌, if◌then◌else◌, elements_of, own_numbers, described, present_of}
use Rattle.vms_walk.proofs.Spots.{own_is, present_then}
use Rattle.vms_parts.specs.Views.{field_of}
use Rattle.vms_walk.proofs.fields.present.Goals as goal

pub is_present-requires : goal.is_present-requires
is_present-requires g c = search rules

pub count_of-requires : goal.count_of-requires
count_of-requires g c = search rules

pub returns-then-is_present : goal.returns-then-is_present
returns-then-is_present g c =
    present_then (described c.args.set.now) c.args.spot (g.C.Cells.numbers c.args.cells.now)
    (field_of c.args.field.now) c.is_present.result c.count_of.result c.is_present.ensures c.if-is_present.true c.count_of.ensures

pub returns-else-is_present : goal.returns-else-is_present
returns-else-is_present g c =
    let set = described c.args.set.now in
    let n = g.C.Cells.numbers c.args.cells.now in
    let f = field_of c.args.field.now in
    let own = own_numbers set c.args.spot.part n c.args.spot.base in
    ap (λ x. if x then elements_of f.count own else 0) (sym c.if-is_present.false ∙ c.is_present.ensures)
    ∙ ap (λ o. present_of f c.args.spot.version o) (own_is set c.args.spot n)
