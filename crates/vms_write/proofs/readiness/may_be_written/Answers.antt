use Rattle.vms_write.proofs.Facade.{rules, OnTrue_from, OnFalse_from, OnFalse_at, true, IsReady, described, device_at, IsImageOf, state_of}
use Rattle.vms_write.proofs.readiness.may_be_written.Goals as goal

pub ready-requires-clause-subs : goal.ready-requires-clause-subs
ready-requires-clause-subs c = (c.is_of.ensures.0 c.if-is_of.true).subs

pub ready-requires-clause-cells : goal.ready-requires-clause-cells
ready-requires-clause-cells c = (c.is_of.ensures.0 c.if-is_of.true).cells

pub returns-then-is_of : goal.returns-then-is_of
returns-then-is_of c =
    let set = described c.args.set.now in
    record {
      ready = c.ready.ensures.ready;
      of = OnTrue_from _ _ (λ is. c.is_of.ensures.0 c.if-is_of.true);
      other = OnFalse_from _ (IsImageOf set c.args.device c.args.image.now → IsReady set (device_at set c.args.device) (state_of c.args.image.now) → ⊥)
          (λ is of ready. OnFalse_at {P = IsReady set (device_at set c.args.device) (state_of c.args.image.now) → ⊥} is c.ready.ensures.other ready);
    }

pub returns-else-is_of : goal.returns-else-is_of
returns-else-is_of c = search rules
