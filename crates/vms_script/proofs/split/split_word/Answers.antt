use Rattle.vms_script.proofs.Facade.{◌≡◌, ◌+◌, ◌-◌, length, take, drop, sym, arith, common_steps}
use Rattle.vms_script.proofs.ScriptLemmas.{found_word, no_blank, none_yet, none_here}
use Rattle.vms_script.proofs.split.split_word.Goals as goal

pub loop-place-init : goal.loop-place-init
loop-place-init c = none_yet 32 c.args.line.now

pub loop-place-preserved : goal.loop-place-preserved
loop-place-preserved c = none_here 32 _ _ c.if-byte-eq32.false c.loop-place.invariant

pub returns-then-byte-eq32-clause-word : goal.returns-then-byte-eq32-clause-word
returns-then-byte-eq32-clause-word c =
    sym (rw (found_word c.args.line.now c.loop-place.place c.loop-place-test.true c.if-byte-eq32.true c.loop-place.invariant))

pub returns-then-byte-eq32-clause-rest : goal.returns-then-byte-eq32-clause-rest
returns-then-byte-eq32-clause-rest c =
    let rest : take (length c.args.line.now - (c.loop-place.place + 1)) (drop (c.loop-place.place + 1) c.args.line.now) ≡ drop (c.loop-place.place + 1) c.args.line.now = grind (arith, common_steps) in
    rw rest (sym (rw (found_word c.args.line.now c.loop-place.place c.loop-place-test.true c.if-byte-eq32.true c.loop-place.invariant)))

pub returns-clause-word : goal.returns-clause-word
returns-clause-word c = sym (rw (no_blank c.args.line.now c.loop-place.place c.loop-place-test.false c.loop-place.invariant))

pub returns-clause-rest : goal.returns-clause-rest
returns-clause-rest c = sym (rw (no_blank c.args.line.now c.loop-place.place c.loop-place-test.false c.loop-place.invariant))
