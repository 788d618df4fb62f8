use Rattle.vms_io.proofs.{Facade.btree_map_updates_text, PutLemmas.update_puts}
use Rattle.vms_io.proofs.memory.shelf.MemShelf.put.Goals as goal

pub returns-clause-ok : goal.returns-clause-ok
returns-clause-ok c =
    rw (← c.in_ok-name.ensures.ok)
    (update_puts _ _ _ (λ content. content.bytes.items) _ (btree_map_updates_text _ c.args.self.now.entries c.insert.new.self _ c.in_ok-insert.ensures.updates))
