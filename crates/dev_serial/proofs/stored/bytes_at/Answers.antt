use Rattle.dev_serial.proofs.Facade.{◌≡◌, ◌+◌, arith, length-set, number_at, one_set, all_set}
use Rattle.dev_serial.proofs.stored.bytes_at.Goals as goal

pub loop-i-preserved : goal.loop-i-preserved
loop-i-preserved c = record {
  len = simp length-set c.loop-i.invariant.len;
  set = one_set (λ i. number_at c.args.cells.now.items (c.args.place + i)) c.loop-i.bytes c.loop-i.i _
      (omega arith) c.byte_at.ensures c.loop-i.invariant.set;
}

pub returns : goal.returns
returns c =
    let e : c.loop-i.i ≡ 16 = omega (arith, c.loop-i.auto.i-end, c.loop-i-test.false) in
    all_set (λ i. number_at c.args.cells.now.items (c.args.place + i)) c.loop-i.bytes 16 c.loop-i.invariant.len (rw e at c.loop-i.invariant.set)
