use Rattle.dev_serial.proofs.Facade.{arith, nat_tests, run_until}
use Rattle.dev_serial.proofs.SendingLaws.{stays-left, stays-line, stays-looped, ends-left, ends-line, ends-looped, moves-left, moves-line, moves-looped}
use Rattle.dev_serial.proofs.transmitter.send_due.Goals as goal

pub returns-then-shift-to : goal.returns-then-shift-to
unfolding run_until
returns-then-shift-to c = search (arith, stays-left, stays-line, stays-looped)

pub returns-then-is_empty : goal.returns-then-is_empty
unfolding run_until
returns-then-is_empty c =
    let h = c.if-shift-to.false in
    record {
      left = ends-left c.args.mode _ _ h _ _ c.bytes.invariant.left (grind (arith, nat_tests));
      line = ends-line c.args.mode _ _ h _ _ _ _ c.leave.ensures.line c.bytes.invariant.line (grind (arith, nat_tests));
      looped = ends-looped c.args.mode _ _ h _ _ _ _ c.leave.ensures.looped c.bytes.invariant.looped (grind (arith, nat_tests));
      few_sent = omega arith;
      none_due = tt;
      fewer = c.bytes.invariant.few;
      still_few = c.leave.ensures.still_few;
    }

pub bytes-preserved : goal.bytes-preserved
bytes-preserved c =
    let h = c.if-shift-to.false in
    record {
      few = omega arith;
      few_held = c.leave.ensures.still_few;
      room = omega arith;
      left = moves-left c.args.mode _ _ h _ _ _ _ c.remove.ensures.value c.remove.ensures.items c.bytes.invariant.left (grind (arith, nat_tests));
      line = moves-line c.args.mode _ _ h _ _ _ _ _ _ c.remove.ensures.value c.remove.ensures.items c.leave.ensures.line c.bytes.invariant.line
          (grind (arith, nat_tests));
      looped = moves-looped c.args.mode _ _ h _ _ _ _ _ _ c.remove.ensures.value c.remove.ensures.items c.leave.ensures.looped c.bytes.invariant.looped
          (grind (arith, nat_tests));
    }
