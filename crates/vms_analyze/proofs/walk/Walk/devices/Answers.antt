use Rattle.vms_analyze.proofs.Facade.{list_all-map, is_good_device, device_of}
use Rattle.vms_analyze.proofs.walk.Walk.devices.Goals as goal

pub each-requires-clause-good : goal.each-requires-clause-good
each-requires-clause-good c = cc (list_all-map is_good_device device_of c.args.devices.now, c.requires.good)
