use Rattle.vms_descfile.proofs.{Facade.ap, Facade.members_view, Facade.desc_of, Facade.FitsDesc, Facade.FitsDevice, ObjectLaws.mapped_of, SetLaws.set_built}
use Rattle.vms_parts.specs.Views.{device_of}
use Rattle.vms_descfile.proofs.write.sets.set_members.Goals as goal

pub returns-clause-file : goal.returns-clause-file
returns-clause-file c = set_built _ _ _ _ _ _ _ _ c.as_slice-devices.ensures c.as_slice-machines.ensures c.as_slice-structs.ensures (ap members_view c.new-members.ensures.empty)
    c.in_ok-put_items.ensures.file c.in_ok-put_items-2.ensures.file c.in_ok-put_items-3.ensures.file

pub returns-clause-fits : goal.returns-clause-fits
returns-clause-fits c = record {
  structs = mapped_of desc_of FitsDesc _ _ c.as_slice-structs.ensures c.in_ok-put_items-3.ensures.fits;
  devices = mapped_of device_of FitsDevice _ _ c.as_slice-devices.ensures c.in_ok-put_items.ensures.fits;
}
