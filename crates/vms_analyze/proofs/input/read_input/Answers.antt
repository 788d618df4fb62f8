use Rattle.vms_analyze.proofs.Facade.{◌≡◌, length, take, rules, arith, sym, takes_none, takes_as, takes_both}
use Rattle.vms_analyze.proofs.One.{piece_ends, piece_few, piece_grows, piece_fails}
use Rattle.vms_analyze.proofs.input.read_input.Goals as goal

pub loop-piece-init : goal.loop-piece-init
loop-piece-init g c = search (rules, takes_as, takes_none, g.met.S.Source.counted)

pub returns-in-Err : goal.returns-in-Err
returns-in-Err g c = search (rules, piece_fails)

pub returns-then-done : goal.returns-then-done
returns-then-done g c =
    let full : length (take c.min-room.result c.loop-piece.piece) ≡ c.min-room.result = search rules in
    piece_ends c.loop-piece.invariant.takes c.in-Ok.ensures c.if-done.true (first_of (omega arith, search rules))

pub loop-piece-preserved : goal.loop-piece-preserved
loop-piece-preserved g c =
    let full : length (take c.min-room.result c.loop-piece.piece) ≡ c.min-room.result = search rules in
    record {
      few = piece_few c.in-Ok.ensures (first_of (omega arith, search rules));
      takes = takes_as (sym c.in-Ok.ensures.items) (takes_both c.loop-piece.invariant.takes c.in-Ok.ensures.takes);
    }

pub loop-piece-smaller : goal.loop-piece-smaller
loop-piece-smaller g c = grind (arith, piece_grows)
