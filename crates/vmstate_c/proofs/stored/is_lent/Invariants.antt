use Rattle.std.proofs.Common.{◌≡◌, take}
use Rattle.vmstate_c.specs.Storing.{is_lent}
use Rattle.vmstate_c.proofs.stored.is_lent.Given as goal

abbrev pub invariant-loop-file : goal.invariant-loop-file
invariant-loop-file l = l.is_same ≡ is_lent (take l.file-index l.files) l.name l.bytes
