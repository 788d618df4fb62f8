use Rattle.std.proofs.Common.{rules}
use Rattle.vmstate_c.specs.Folders.{held_of}
use Rattle.vmstate_c.proofs.StoredFiles.{held-put, held-other}
use Rattle.vmstate_c.proofs.call.put.Goals as goal

pub returns-in_ok-put : goal.returns-in_ok-put
returns-in_ok-put c = held-put c.args.file.now (held_of c.args.folder.now) (held_of c.put.new.self) c.in-Ok.ensures.cases.1 (search rules)

pub returns-in_default : goal.returns-in_default
returns-in_default c = held-other c.args.file.now (held_of c.args.folder.now) c.in_default.ensures.cases.0
