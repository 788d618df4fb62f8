use Rattle.vms_descfile.proofs.{Facade.FitsSub, ObjectLaws.mapped_of, SetLaws.whole_built}
use Rattle.vms_parts.specs.Views.{sub_of}
use Rattle.vms_descfile.proofs.write.sets.whole_members.Goals as goal

pub returns-clause-file : goal.returns-clause-file
returns-clause-file c = whole_built c.args.device.now _ _ _ _ c.as_slice.ensures c.as_slice-2.ensures c.in_ok-members.ensures.file c.in_ok-put_list.ensures.file

pub returns-clause-fits : goal.returns-clause-fits
returns-clause-fits c = record {
  desc = c.in_ok-members.ensures.fits;
  subs = mapped_of sub_of FitsSub _ _ c.as_slice-2.ensures c.in_ok-put_list.ensures.fits;
}
