use Rattle.vms_desc.proofs.Facade.{device_of, FitsSub, ◌≡◌, ap, map, ◌∷◌, ◌<◌, length, get_or, arith, ℕ, Some, below_more, [], slice_get}
use Rattle.vms_desc.proofs.{Facade.length-map, Facade.slice_get_within, Facade.sub_of, EvalLaws.at_mapped, EvalLaws.tables_next}
use Rattle.vms_spec.specs.Sets as sets
use Rattle.vms_desc.proofs.table.part_tables.Goals as goal

pub loop-sub-preserved : goal.loop-sub-preserved
loop-sub-preserved c =
    let subs = c.args.device.now.subs in
    let i = c.loop-sub.sub-index in
    let lt : i < length subs = omega (arith, c.loop-sub-test.true, ap length c.as_slice-sub-items.ensures) in
    let is : c.sub-item.result ≡ get_or subs i c.sub-item.result = cc (c.sub-item.is, c.as_slice-sub-items.ensures) in
    record {
      tables =
          rw c.in_ok-push-2.ensures.items
          (tables_next sub_of (λ (s : sets.Sub). s.desc.fields) c.args.sizes.now ((device_of c.args.device.now).desc.fields ∷ []) subs i c.sub-item.result
          c.loop-sub.tables.items _ lt is c.loop-sub.invariant.tables (rw c.as_slice-in-loop-sub.ensures at c.in_ok-table_of-2.ensures));
      heads = below_more (λ (k : ℕ). (s : sets.Sub) → slice_get (map sub_of subs) k ≡ Some s → FitsSub s) i c.loop-sub.invariant.heads
          (λ s e. rw (at_mapped sub_of subs i c.sub-item.result s is e) (record { version = omega arith }));
    }

pub returns-clause-heads : goal.returns-clause-heads
returns-clause-heads c = record {
  instance = omega arith;
  version = omega arith;
  subs = λ j s e. c.loop-sub.invariant.heads j
      (omega (arith, slice_get_within (map sub_of c.args.device.now.subs) j s e, length-map c.args.device.now.subs sub_of, ap length c.as_slice-sub-items.ensures)) s e;
}
