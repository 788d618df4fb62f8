use Rattle.vms_analyze.proofs.Facade.{arith}
use Rattle.vms_analyze.proofs.{Facade.device_of, Facade.LONGEST_NAME, Shapes.device_parts}
use Rattle.vms_analyze.proofs.Walks.{path_short, head_stops, elements_stop, subs_stop, device_walks}
use Rattle.vms_analyze.proofs.walk.Walk.device.Goals as goal

pub head-requires-clause-short : goal.head-requires-clause-short
head-requires-clause-short c = path_short LONGEST_NAME _ (device_parts (device_of c.args.device.now) c.requires.good).name

pub subs-requires-clause-good : goal.subs-requires-clause-good
subs-requires-clause-good c = rw c.deref-2.ensures.value ((device_parts (device_of c.args.device.now) c.requires.good).subs)

pub returns-in-Err : goal.returns-in-Err
returns-in-Err c = head_stops c.args.device.now _ _ _ c.in-Err.ensures

pub returns-in-Err-elements : goal.returns-in-Err-elements
returns-in-Err-elements c = elements_stop c.args.device.now _ _ c.in_default.ensures (rw c.deref.ensures.value at c.in-Err-elements.ensures)

pub returns-in-Err-subs : goal.returns-in-Err-subs
returns-in-Err-subs c = grind (arith, subs_stop)

pub returns : goal.returns
returns c = grind (arith, device_walks)
