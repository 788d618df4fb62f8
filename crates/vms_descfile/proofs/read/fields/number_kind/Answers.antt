use Rattle.vms_descfile.proofs.ObjectLaws.{kind_told}
use Rattle.vms_descfile.proofs.read.fields.number_kind.Goals as goal

pub returns : goal.returns
returns c = kind_told _ _ _ c.kind_named.ensures.right c.in_ok-word.ensures
