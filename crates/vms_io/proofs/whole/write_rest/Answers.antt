use Rattle.vms_io.proofs.{Facade.rules, Facade.arith, Facade.◌∙◌, Facade.take_rest, Filling.written_more}
use Rattle.vms_io.proofs.whole.write_rest.Goals as goal

pub loop-done-preserved : goal.loop-done-preserved
loop-done-preserved g c = record {
  within = search rules;
  puts = record {
    told = written_more _ _ _ _ _ _ c.loop-done.invariant.puts.told (rw (take_rest c.args.piece.now c.loop-done.done) at c.in_ok-done.ensures.bytes);
    later = omega (arith, c.in_ok-done.ensures.cause, c.loop-done.invariant.puts.later);
    promise = c.in_ok-done.ensures.promise ∙ c.loop-done.invariant.puts.promise;
  };
}
