use Rattle.std.proofs.Common.{◌≡◌, subst, []}
use Rattle.vmstate_c.proofs.StoredFiles.{Rest, at_end, is_stored, news}
use Rattle.vmstate_c.proofs.stored.pack.Goals as goal

pub returns : goal.returns
returns c =
    let lent = c.args.lent.now in
    let map = c.args.folder.now.entries in
    let packed = c.loop-name.packed in
    let over : c.loop-name.name-iterator ≡ [] = c.in-None.ensures.steps.0 in
    let ends = at_end lent (news lent map.entries) packed.files.items packed.bytes.items
    (subst (λ es. Rest lent (news lent map.entries) es packed.files.items packed.bytes.items) over c.loop-name.invariant) in
    (news lent map.entries, is_stored lent map c.iter-name-items.ensures.ordered c.iter-name-items.ensures.found, ends.0, ends.1)
