use Rattle.vms_rtc.proofs.Facade.{◌≡◌, arith, length-set, one_set, all_set, register_in}
use Rattle.vms_rtc.proofs.cells.registers_at.Goals as goal

pub loop-k-preserved : goal.loop-k-preserved
loop-k-preserved c = record {
  len = simp length-set c.loop-k.invariant.len;
  set = one_set (register_in c.args.cells.now.items) c.loop-k.cmos c.loop-k.k _
      (omega arith) c.register_at.ensures c.loop-k.invariant.set;
}

pub returns : goal.returns
returns c =
    let e : c.loop-k.k ≡ 64 = omega (arith, c.loop-k.auto.k-end, c.loop-k-test.false) in
    all_set (register_in c.args.cells.now.items) c.loop-k.cmos 64 c.loop-k.invariant.len (rw e at c.loop-k.invariant.set)
