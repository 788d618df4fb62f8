use Rattle.vms_descfile.proofs.Facade.{slice_get_within, ◌≡◌, ℕ, Some, map, below_more, arith, slice_get, drop_all, append-nil}
use Rattle.vms_descfile.proofs.ObjectLaws.{listed_on, at_is}
use Rattle.serde_json.specs.View.{view}
use Rattle.vms_descfile.proofs.write.values.written.Goals as goal

pub loop-item-preserved : goal.loop-item-preserved
loop-item-preserved g c =
    let f = g.W.Writes.file c.args.writer.now in
    let xs = c.args.items.now in
    let i = c.loop-item.item-index in
    record {
      file = listed_on f xs i c.item-item.result c.loop-item.list.items c.push.new.list.items c.in_ok-value.value c.loop-item-test.true c.item-item.is
          c.in_ok-value.ensures.file c.in_ok-push.ensures c.loop-item.invariant.file;
      fits = below_more (λ (k : ℕ). (x : g.row.T.Denot) → slice_get xs k ≡ Some x → g.W.Writes.fits c.args.writer.now x) i c.loop-item.invariant.fits
          (λ x there. rw (at_is xs i c.item-item.result x c.item-item.is there) at c.in_ok-value.ensures.fits);
    }

pub returns-clause-file : goal.returns-clause-file
returns-clause-file g c =
    rw (c.loop-item.invariant.file, drop_all c.loop-item.item-index c.args.items.now c.loop-item-test.false, append-nil (map view c.loop-item.list.items))

pub returns-clause-fits : goal.returns-clause-fits
returns-clause-fits g c = λ i x there. c.loop-item.invariant.fits i (omega (arith, slice_get_within c.args.items.now i x there)) x there
