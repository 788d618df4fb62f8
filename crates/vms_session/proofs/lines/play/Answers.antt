use Rattle.std.proofs.Common.{rules}
use Rattle.vms_session.proofs.Facade
use Facade.{◌+◌, drop, ◌∙◌, arith, drop_all, outlet, stock, reaches_both, reaches_none, serves_both, serves_none, line_view, lines_view}
use Rattle.vms_session.proofs.CourseLemmas.{lines_next, in_course, course_goes, course_stops, course_ends, goes_since}
use Rattle.vms_session.proofs.lines.play.Goals as goal

pub loop-line-init : goal.loop-line-init
loop-line-init g c = search (rules, in_course, serves_none, reaches_none)

pub play_line-requires-clause-line : goal.play_line-requires-clause-line
play_line-requires-clause-line g c = search (rules, lines_next)

pub loop-line-preserved : goal.loop-line-preserved
loop-line-preserved g c =
    let lines = c.args.lines.now in
    let i = c.loop-line.line-index in
    let split = lines_next lines i c.line-item.result (omega arith) c.line-item.is in
    record {
      level = c.in-Ok.ensures.level ∙ c.loop-line.invariant.level;
      lines = (rw split at c.loop-line.invariant.lines).1;
      sets = c.in-Ok.ensures.sets;
      course = λ held parts new told plays.
          course_goes i _ (lines_view (drop (i + 1) lines)) parts new _ _ _ _ _ _ _ _
          (rw split at (c.loop-line.invariant.course held parts new told plays)) c.in-Ok.ensures.content;
      serves = serves_both c.loop-line.invariant.serves c.in-Ok.ensures.goes.serves;
      reaches = reaches_both c.loop-line.invariant.reaches c.in-Ok.ensures.goes.reaches;
    }

pub returns-in-Err-clause-content : goal.returns-in-Err-clause-content
returns-in-Err-clause-content g c = λ held parts new told plays.
    let lines = c.args.lines.now in
    let i = c.loop-line.line-index in
    let split = lines_next lines i c.line-item.result (omega arith) c.line-item.is in
    course_stops i (line_view c.line-item.result) (lines_view (drop (i + 1) lines)) parts new c.loop-line.board.state c.play_line.new.board.state
    (outlet g.K.Sink c.args.out.now) (outlet g.K.Sink c.loop-line.out) (outlet g.K.Sink c.play_line.new.out)
    (stock g.H.Shelf c.args.shelf.now) (stock g.H.Shelf c.loop-line.shelf) (stock g.H.Shelf c.play_line.new.shelf)
    (rw split at (c.loop-line.invariant.course held parts new told plays)) c.in-Err.fault c.loop-line.invariant.reaches.later c.in-Err.ensures.content

pub returns-in-Err-clause-goes : goal.returns-in-Err-clause-goes
returns-in-Err-clause-goes g c = goes_since c.loop-line.invariant.serves c.loop-line.invariant.reaches c.in-Err.ensures.goes

pub returns-clause-content : goal.returns-clause-content
returns-clause-content g c = λ held parts new told plays.
    let i = c.loop-line.line-index in
    course_ends i parts new c.loop-line.board.state
    (outlet g.K.Sink c.args.out.now) (outlet g.K.Sink c.loop-line.out) (stock g.H.Shelf c.args.shelf.now) (stock g.H.Shelf c.loop-line.shelf)
    (rw (drop_all i c.args.lines.now (omega arith)) at (c.loop-line.invariant.course held parts new told plays))
