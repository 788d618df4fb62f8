use Rattle.vms_script.proofs.Facade.{rules, sym, ◌∙◌, map, first_line, line_read, script_read, first_is, first_none}
use Rattle.vms_script.proofs.ScriptLemmas.{line_put, line_stops, text_ends, tail_stops, reads_lines, reads_bad, put_unended, refused, is_some}
use Rattle.vms_script.proofs.script.read_lines.Goals as goal

pub returns-in-Err : goal.returns-in-Err
unfolding script_read
returns-in-Err g c =
    let next = c.in-Some.next in
    refused c.loop-next.lines (λ lines. map g.L.Kept.said lines.items) _ (line_read c.args.play next.text.now) c.loop-next.number c.in-Err.fault
    (λ reason stops. sym c.loop-next.invariant.reads
    ∙ line_stops (map g.L.Kept.said c.loop-next.lines.items) c.args.play c.loop-next.number c.loop-next.rest.now next.text.now next.after.now reason
    (first_is (first_line c.loop-next.rest.now) next c.in-Some.ensures.first) stops)
    c.in-Err.ensures.refused

pub loop-next-preserved : goal.loop-next-preserved
loop-next-preserved g c = search (rules, line_put, first_is)

pub returns-then-is_empty : goal.returns-then-is_empty
unfolding script_read
returns-then-is_empty g c = search (rules, reads_lines, text_ends, first_none)

pub returns-in-Ok-put_line : goal.returns-in-Ok-put_line
unfolding script_read
returns-in-Ok-put_line g c = search (rules, reads_bad, tail_stops, first_none, is_some, put_unended)

pub returns : goal.returns
unfolding script_read
returns g c = search (rules, tail_stops, first_none, is_some)
