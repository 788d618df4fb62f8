use Rattle.std.proofs.Common.{rules}
use Rattle.vms_session.proofs.shelf.save.Goals as goal

pub returns-in-Err-Failed-clause-saves : goal.returns-in-Err-Failed-clause-saves
returns-in-Err-Failed-clause-saves g c = search rules
