use Rattle.std.proofs.{lemmas.Grind.common_steps, Common.arith}
use Rattle.vms_words.proofs.LineLaws.{found_line, no_line}
use Rattle.vms_words.proofs.line.next_line.Goals as goal

pub returns-in-Some-clause-first : goal.returns-in-Some-clause-first
returns-in-Some-clause-first c =
    found_line c.args.rest.now c.in-Some.end _ c.in-Some.ensures.0 c.in-Some.ensures.1 (grind (arith, common_steps)) (grind (arith, common_steps))

pub returns-in-None-clause-first : goal.returns-in-None-clause-first
returns-in-None-clause-first c = no_line c.args.rest.now c.in-None.ensures
