use Rattle.vms_descfile.proofs.Facade.{ap, arith, members_view, formula, FitsTest, FitsField}
use Rattle.vms_descfile.proofs.{ObjectLaws.mapped_of, SetLaws.desc_built}
use Rattle.vms_parts.specs.Views.{field_of}
use Rattle.vms_descfile.proofs.write.sets.desc_members.Goals as goal

pub returns-clause-file : goal.returns-clause-file
returns-clause-file c = desc_built _ _ _ _ _ _ _ _ _ _ _ _ c.as_slice-own.ensures c.as_slice.ensures (ap members_view c.new-members.ensures.empty)
    c.in_ok-put_items.ensures.file c.natural_value-minimum.ensures c.in_ok-put_unless.ensures c.as_str.ensures c.in_ok-put_text.ensures
    c.in_ok-put_list.ensures.file c.natural_value.ensures c.in_ok-put.ensures

pub returns-clause-fits : goal.returns-clause-fits
returns-clause-fits c = record {
  version = omega arith;
  minimum = omega arith;
  fields = mapped_of field_of FitsField _ _ c.as_slice-own.ensures c.in_ok-put_items.ensures.fits;
  validate = mapped_of formula FitsTest _ _ c.as_slice.ensures c.in_ok-put_list.ensures.fits;
}
