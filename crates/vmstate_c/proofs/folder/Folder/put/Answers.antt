use Rattle.std.proofs.{lemmas.Map.Text.btree_map_updates_text}
use Rattle.vms_io.proofs.PutLemmas.{update_puts}
use Rattle.vmstate_c.proofs.folder.Folder.put.Goals as goal

pub returns-clause-ok : goal.returns-clause-ok
returns-clause-ok c =
    rw (← c.in_ok-name.ensures.ok)
    (update_puts _ _ _ (λ content. content.bytes.items) _ (btree_map_updates_text _ c.args.self.now.entries c.insert.new.self _ c.in_ok-insert.ensures.updates))
