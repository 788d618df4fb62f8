use Rattle.std.proofs.Common.{rules, ◌≡◌, OnErr}
use Rattle.vms_io.specs.Shelves.{Held}
use Rattle.vms_io.proofs.PutLemmas.{unchanged_others}
use Rattle.vmstate_c.specs.Folders.{held_of}
use Rattle.vmstate_c.proofs.folder.FolderShelf.store.Goals as goal

pub returns-clause-others : goal.returns-clause-others
returns-clause-others c =
    let old : Held = held_of c.args.self.now in
    let new : Held = held_of c.put.new.self in
    let same : OnErr c.map_err.result (new ≡ old) = search rules in
    unchanged_others c.map_err.result old new c.args.name.now same
