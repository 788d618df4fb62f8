use Rattle.vms_session.proofs.{Facade.session_of, CourseLemmas.InCourse}
use Rattle.vms_session.proofs.Facade.{◌≡◌, List, Some, drop, isa, AreOf, Held, Reaches, outlet, stock, Serves, Part, AreLines, lines_view, Session, Plays}
use Rattle.vms_session.proofs.lines.play.Given as goal

abbrev pub invariant-loop-line : goal.invariant-loop-line
invariant-loop-line g l = record {
  level : l.board.state.level ≡ l.fn.board.state.level;
  lines : AreLines (Some l.fn.board.state.level) (lines_view (drop l.line-index l.lines));
  sets : AreOf isa l.sets;
  course : (held : Held) (parts : List Part) (new : Session) → g.H.Shelf.held l.fn.shelf ≡ Some held
      → Plays (lines_view l.lines) (session_of l.fn.board.state held) parts new
      → InCourse l.line-index (lines_view (drop l.line-index l.lines)) parts new l.board.state (outlet g.K.Sink l.fn.out) (outlet g.K.Sink l.out)
      (stock g.H.Shelf l.fn.shelf) (stock g.H.Shelf l.shelf);
  serves : Serves (outlet g.K.Sink l.fn.out) (outlet g.K.Sink l.out);
  reaches : Reaches (stock g.H.Shelf l.fn.shelf) (stock g.H.Shelf l.shelf);
}
