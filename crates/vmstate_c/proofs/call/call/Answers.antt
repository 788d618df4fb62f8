use Rattle.std.proofs.Common.{rules, sym, ap, ℕ, List, Some, ◌∙◌, refl}
use Rattle.vms_io.specs.{Memory.Supply, Memory.is_empty, Memory.empty_is, Supplies.supply}
use Rattle.vmstate_c.proofs.CallLaws.{leaves, input-is, sink-is}
use Rattle.vmstate_c.specs.Folders.{held_of}
use Rattle.vmstate_c.proofs.call.call.Goals as goal

pub returns : goal.returns
returns c =
    leaves c.args.request.now c.vmstate-status.result c.in_ok-words.words (held_of c.in_ok-folder.folder) _ _ _ _ _
    c.into_bytes.result.items c.into_bytes-2.result.items
    c.in_ok-words.ensures c.in_ok-folder.ensures
    (input-is (supply c.new-input.result) _ _ _ c.args.request.now.input.now c.new-input.ensures (search rules) c.new-2.ensures.items)
    (sink-is _ _ c.new-out.ensures.bytes c.new-out.ensures.faults) (sink-is _ _ c.new-notes.ensures.bytes c.new-notes.ensures.faults)
    c.vmstate-status.ensures (ap (λ (l : List ℕ). Some l) (sym c.into_bytes.ensures)) (ap (λ (l : List ℕ). Some l) (sym c.into_bytes-2.ensures))
    refl
    record {
      input = c.vmstate-status.new.input.quiet (empty_is c.vmstate-status.new.input.failing.items (c.vmstate-status.ensures.stands.input.promise ∙ ap (λ (s : Supply). is_empty s.failing) c.new-input.ensures ∙ ap is_empty c.new-2.ensures.items));
      out = c.if-has_failed.ensures;
      notes = c.if-has_failed-2.ensures;
      shelf = refl;
    }
