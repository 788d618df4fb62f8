use Rattle.vms_script.proofs.Facade.{true, false, rules, first_word}
use Rattle.vms_script.proofs.NumberLemmas.{wire_judged, wire_fails}
use Rattle.vms_script.proofs.event.read_wire.Goals as goal

pub returns-then-names_wire : goal.returns-then-names_wire
returns-then-names_wire c =
    wire_judged (first_word c.args.words.now) c.split_word-split.result.word.now c.in-Some.level.now c.in-Some-level_of.up c.in-Ok.input true
    c.split_word-split.ensures.word (search rules) c.in-Some-level_of.ensures c.in-Ok.ensures c.if-names_wire.ensures.named

pub returns-in-Err : goal.returns-in-Err
returns-in-Err c =
    wire_fails (first_word c.args.words.now) c.split_word-split.result.word.now c.in-Some.level.now c.in-Some-level_of.up c.in-Err.reason
    c.split_word-split.ensures.word (search rules) c.in-Some-level_of.ensures c.in-Err.ensures

pub returns-else-names_wire : goal.returns-else-names_wire
returns-else-names_wire c =
    wire_judged (first_word c.args.words.now) c.split_word-split.result.word.now c.in-Some.level.now c.in-Some-level_of.up c.in-Ok.input false
    c.split_word-split.ensures.word (search rules) c.in-Some-level_of.ensures c.in-Ok.ensures c.if-names_wire.ensures.named
