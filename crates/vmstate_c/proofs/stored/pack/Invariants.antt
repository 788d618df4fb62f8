use Rattle.vmstate_c.proofs.StoredFiles.{Rest, news}
use Rattle.vmstate_c.proofs.stored.pack.Given as goal

abbrev pub invariant-loop-name : goal.invariant-loop-name
invariant-loop-name l = Rest l.lent (news l.lent l.folder.entries.entries) l.name-iterator l.packed.files.items l.packed.bytes.items
