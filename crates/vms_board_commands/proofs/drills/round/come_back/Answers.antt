use Rattle.vms_board_commands.proofs.DrillLaws.{board_back, long_back, never_refused}
use Rattle.vms_board_commands.proofs.Facade.{◌≡◌, length, ap, ◌∙◌, arith, isa, saved_stream, set_of, streams_are_short}
use Rattle.vms_board_commands.proofs.drills.round.come_back.Goals as goal

pub unreachable-requires : goal.unreachable-requires
unreachable-requires c =
    never_refused _ _ _ c.requires.sound (rw c.level.ensures at c.set_of.ensures.may) c.in_ok-stream.ensures.stream _ _ _ c.in-Err.ensures.refused

pub returns-clause-back : goal.returns-clause-back
returns-clause-back c =
    let m = c.args.board.now.state in
    let used = c.set_of.result in
    let stream = c.in_ok-stream.ensures.stream in
    let may = rw c.level.ensures at c.set_of.ensures.may in
    let set : used ≡ set_of m.level c.args.saves = c.set_of.ensures.set ∙ ap (λ l. set_of l c.args.saves) c.level.ensures in
    let back = c.in-Ok.ensures.back in
    let taken = long_back used m _ c.requires.sound may stream _ _ back in
    let long : length c.in_ok-stream.stream.items ≡ length (saved_stream isa used m) = ap length stream in
    record {
      state = cc (board_back used m _ c.requires.sound may stream _ _ back);
      long = omega (arith, c.len-long.ensures, long, ap (λ n. length (saved_stream isa n m)) set);
      taken = omega arith;
      short = omega (arith, streams_are_short.short used m c.requires.sound may);
    }
