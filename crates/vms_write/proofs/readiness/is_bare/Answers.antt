use Rattle.vms_write.proofs.Facade.{rules, forms_of, ◌≡◌, arith, ◌+◌, ◌-◌, own_cell_count, described, device_at, sub_at, sub_inside}
use Rattle.vms_write.proofs.Sections.{formed_defaults, formed_long}
use Rattle.vms_write.proofs.readiness.is_bare.Goals as goal

pub overflow_add-end : goal.overflow_add-end
overflow_add-end c =
    omega (arith, sub_inside (described c.args.set.now) c.args.device c.args.sub c.requires.is_sub)

pub are_default-requires : goal.are_default-requires
are_default-requires c = search (rules, formed_long, sub_inside)

pub returns : goal.returns
returns c =
    let set = described c.args.set.now in
    let forms = forms_of set (device_at set c.args.device) in
    let n = c.args.image.now.numbers in
    let count = own_cell_count set (sub_at (device_at set c.args.device) c.args.sub).desc in
    let first = c.first_cell-first.result in
    let exact : (first + c.cells_of.result) - first ≡ count = omega (arith, sub_inside set c.args.device c.args.sub c.requires.is_sub) in
    rw (c.are_default.ensures, formed_defaults set c.args.device c.defaults.result.now c.defaults.ensures.defaults, exact, c.first_cell-first.ensures)
