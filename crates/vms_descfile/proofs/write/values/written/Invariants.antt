use Rattle.vms_descfile.proofs.Facade.{◌≡◌, ◌++◌, ◌<◌, ℕ, Some, map, drop, slice_get}
use Rattle.serde_json.specs.View.{view}
use Rattle.vms_descfile.proofs.write.values.written.Given as goal

abbrev pub invariant-loop-item : goal.invariant-loop-item
invariant-loop-item g l = record {
  file : map (g.W.Writes.file l.writer) l.items ≡ map view l.list.items ++ map (g.W.Writes.file l.writer) (drop l.item-index l.items);
  fits : (k : ℕ) → k < l.item-index → (x : g.row.T.Denot) → slice_get l.items k ≡ Some x → g.W.Writes.fits l.writer x;
}
