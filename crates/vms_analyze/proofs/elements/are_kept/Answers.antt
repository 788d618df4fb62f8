use Rattle.vms_analyze.proofs.Facade.{list_all-map, is_kept, told_of}
use Rattle.vms_analyze.proofs.elements.are_kept.Goals as goal

pub returns : goal.returns
returns c = cc (c.all_kept.ensures, list_all-map is_kept told_of c.args.elements.now)
