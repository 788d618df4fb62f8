use Rattle.dev_serial.proofs.Facade.{◌≡◌, arith, length-set, byte_of, one_set, all_set}
use Rattle.dev_serial.proofs.stored.padded.Goals as goal

pub loop-place-preserved : goal.loop-place-preserved
loop-place-preserved c = record {
  len = simp length-set c.loop-place.invariant.len;
  set = one_set (byte_of c.args.bytes.now) c.loop-place.sixteen c.loop-place.place _
      (omega arith) c.byte_or_zero.ensures c.loop-place.invariant.set;
}

pub returns : goal.returns
returns c =
    let e : c.loop-place.place ≡ 16 = omega (arith, c.loop-place.auto.place-end, c.loop-place-test.false) in
    all_set (byte_of c.args.bytes.now) c.loop-place.sixteen 16 c.loop-place.invariant.len (rw e at c.loop-place.invariant.set)
