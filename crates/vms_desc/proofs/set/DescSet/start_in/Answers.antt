use Rattle.vms_desc.proofs.{EvalLaws.place_within, EvalLaws.start_at, Facade.arith, Facade.struct_cells, Facade.described, Facade.desc_at}
use Rattle.vms_desc.proofs.set.DescSet.start_in.Goals as goal

pub returns : goal.returns
returns c =
    let set = described c.args.self.now in
    start_at set (desc_at set c.args.part) (omega (arith, c.requires.few)) _ c.requires.of.starts c.args.base c.args.field c.requires.field.field

pub overflow_add-result : goal.overflow_add-result
overflow_add-result c =
    let set = described c.args.self.now in
    let fields = (desc_at set c.args.part).fields in
    let here = start_at set (desc_at set c.args.part) (omega (arith, c.requires.few)) _ c.requires.of.starts c.args.base c.args.field c.requires.field.field in
    omega (arith, here, place_within (struct_cells set) fields 0 c.args.base fields c.args.field, c.requires.few)
