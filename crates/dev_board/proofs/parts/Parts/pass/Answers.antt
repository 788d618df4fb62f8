use Rattle.dev_board.proofs.{SoundLaws.calm-wait, QuickLaws.after-time, Facade.◌<◌, Facade.arith, Facade.nat_tests, Facade.settled}
use Rattle.dev_board.proofs.parts.Parts.pass.Goals as goal

pub settle-kept-requires-clause-stays : goal.settle-kept-requires-clause-stays
settle-kept-requires-clause-stays c =
    rw c.time_touches.ensures (after-time c.args.self.now c.requires.sound c.before-before.result c.before-before.ensures
    c.later_by-to.result _ _ _ c.wait-edge.ensures
    (λ e. let early : c.later_by-to.result < c.args.kept.now.calm = grind
    (arith, nat_tests) in (c.requires.kept.calm c.later_by-to.result c.later_by-to.ensures.after early).0))

pub still_calm-kept-requires : goal.still_calm-kept-requires
unfolding settled
still_calm-kept-requires c e =
    let early : c.later_by-to.result < c.args.kept.now.calm = grind (arith, nat_tests) in
    rw c.settle-kept.ensures.state (calm-wait c.args.kept.now.calm c.args.self.now c.requires.kept.calm c.later_by-to.result _ _ c.wait-edge.ensures c.later_by-to.ensures.after early)
