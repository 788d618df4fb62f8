use Rattle.vms_cli.proofs.Facade.{◌∙◌, subst, AppendsPrefix, outlet, described, writes_end, ending_passed, ending_of}
use Rattle.vms_cli.proofs.TextCommands.{no_state_is, state_is}
use Rattle.vms_cli.proofs.commands.counter.write_finding.Goals as goal

pub returns-in_ok-text-in-NoState-clause-ends : goal.returns-in_ok-text-in-NoState-clause-ends
returns-in_ok-text-in-NoState-clause-ends g c =
    let out = outlet g.O.Sink c.args.out.now in
    let out' = outlet g.O.Sink c.write_text-in-NoState.new.out in
    let r = ending_of c.write_text-in-NoState.result in
    rw (no_state_is (described c.args.old.now) (described c.args.new.now) c.args.finding.now c.in-NoState.mismatch c.as_bytes.result.now c.in-NoState.is
    (c.as_bytes.ensures.value ∙ c.in_ok-text-in-NoState.ensures)) at (writes_end c.as_bytes.result.now out out' r c.write_text-in-NoState.ensures)

pub returns-in_ok-write_state-in-State-clause-ends : goal.returns-in_ok-write_state-in-State-clause-ends
returns-in_ok-write_state-in-State-clause-ends g c =
    rw (state_is (described c.args.old.now)
    (described c.args.new.now) c.args.finding.now c.in-State.mismatch c.in-State.machine c.in-State.images c.in-State.refusal
    c.deref.result.now c.deref-in-State.result.now c.in-State.is
    (c.deref.ensures.value ∙ c.in_ok-head-in-State.ensures) c.deref-in-State.ensures.value) at c.in_ok-write_state-in-State.ensures.told

pub returns-in_err-write_state-in-State-clause-ends : goal.returns-in_err-write_state-in-State-clause-ends
returns-in_err-write_state-in-State-clause-ends g c =
    let stops = c.in_err-write_state-in-State.ensures in
    rw (ending_passed c.from_residual-in_err-write_state-in-State.result c.from_residual-in_err-write_state-in-State.ensures.1)
    (subst (λ l. AppendsPrefix (outlet g.O.Sink c.args.out.now).written (outlet g.O.Sink c.write_state.new.out).written l)
    (state_is (described c.args.old.now)
    (described c.args.new.now) c.args.finding.now c.in-State.mismatch c.in-State.machine c.in-State.images c.in-State.refusal
    c.deref.result.now c.deref-in-State.result.now c.in-State.is
    (c.deref.ensures.value ∙ c.in_ok-head-in-State.ensures) c.deref-in-State.ensures.value)
    (stops.n, stops.within, stops.puts.told))
