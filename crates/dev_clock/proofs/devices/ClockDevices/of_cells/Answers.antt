use Rattle.dev_clock.proofs.{Facade.Bool, Facade.sym, Facade.ap, Facade.◌∙◌, Facade.NEWEST, Facade.clock_back, SavedLaws.placed, SavedLaws.both-sound}
use Rattle.dev_clock.proofs.devices.ClockDevices.of_cells.Goals as goal

pub returns-in-Ok-clause-sound : goal.returns-in-Ok-clause-sound
returns-in-Ok-clause-sound c =
    let back = ap (λ (line : Bool). clock_back c.args.version line c.args.cells.now.clock.items) (sym c.slave_line-line.ensures) ∙ sym c.restore_clock.ensures ∙ c.in_ok-clock.was in
    both-sound c.args.version c.args.cells.now c.in_ok-clock.clock c.in-Ok.board c.requires.version c.requires.cells back
    (sym c.of_cells.ensures.restored ∙ c.in-Ok.is)

pub invariant_of-result : goal.invariant_of-result
invariant_of-result c = (returns-in-Ok-clause-sound c).devices

pub later-requires : goal.later-requires
later-requires c = placed NEWEST c.args.cells.now.board c.in-Err.misfit (sym c.of_cells.ensures.restored ∙ c.in-Err.is)
