use Rattle.vms_convert.proofs.Facade.{refl, arith, described, few_fields}
use Rattle.vms_convert.proofs.PartnerSteps.{behind_field, sum_small}
use Rattle.vms_convert.proofs.pairing.behind.Goals as goal

pub overflow_add-result : goal.overflow_add-result
overflow_add-result c = omega (arith, few_fields (described c.args.side.set.now) c.args.side.set.now.well_formed c.args.side.part c.requires.side)

pub overflow_add-result-2 : goal.overflow_add-result-2
overflow_add-result-2 c = omega (arith, sum_small c.args.side c.args.start c.requires.field c.requires.start)

pub returns : goal.returns
returns c = behind_field c.args.side c.args.start _ c.requires.field c.requires.start refl (rw (c.field_cells.ensures))
