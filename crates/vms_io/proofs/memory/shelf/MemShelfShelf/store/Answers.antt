use Rattle.vms_io.proofs.Facade.{rules, ◌≡◌, OnErr, held_in, Held}
use Rattle.vms_io.proofs.PutLemmas.{unchanged_others}
use Rattle.vms_io.proofs.memory.shelf.MemShelfShelf.store.Goals as goal

pub returns-clause-others : goal.returns-clause-others
returns-clause-others c =
    let old : Held = held_in c.args.self.now.entries.entries in
    let new : Held = held_in c.put.new.self.entries.entries in
    let same : OnErr c.map_err.result (new ≡ old) = search rules in
    unchanged_others _ _ _ _ same
