use Rattle.vms_selfdesc.proofs.Facade.{IsUtf8-string_bytes, IsCharBoundary-from_take}
use Rattle.vms_selfdesc.proofs.path.Path.leave.Goals as goal

pub truncate-requires : goal.truncate-requires
truncate-requires c within =
    (c.requires.within, λ some. (IsCharBoundary-from_take _ _ (IsUtf8-string_bytes c.args.self.now.text) c.requires.within c.requires.text).1)
