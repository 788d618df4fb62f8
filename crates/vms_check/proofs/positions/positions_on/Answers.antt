use Rattle.vms_check.proofs.Facade.{length, ap, arith, length-map, field_of, described, few_fields}
use Rattle.vms_check.proofs.positions.positions_on.Goals as goal

pub positions-requires : goal.positions-requires
positions-requires c =
    let side = c.args.side in
    omega (
      arith,
      length-map c.fields_of.result.now field_of,
      ap length c.fields_of.ensures,
      few_fields
          (described side.set.now) side.set.now.well_formed side.part c.requires,
    )
