use Rattle.vms_check.proofs.Facade.{rules, length, ap, arith, length-map, field_of, described, few_fields}
use Rattle.vms_check.proofs.PairLaws.{skip_absent, first_found}
use Rattle.vms_check.proofs.present.next_present.Goals as goal

pub overflow_cast-result : goal.overflow_cast-result
overflow_cast-result c =
    let side = c.args.side in
    omega (
      arith,
      c.loop-number-test.true,
      length-map c.fields_of-fields.result.now field_of,
      ap length c.fields_of-fields.ensures,
      few_fields
          (described side.set.now) side.set.now.well_formed side.part c.requires.side,
    )

pub returns-then-is_present : goal.returns-then-is_present
returns-then-is_present c = search (rules, first_found)

pub loop-number-preserved : goal.loop-number-preserved
loop-number-preserved c = search (rules, skip_absent)
