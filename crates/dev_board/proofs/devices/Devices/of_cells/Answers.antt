use Rattle.dev_board.proofs.Facade.{◌∙◌, sym, ap, subst, Ok, timed, IsSound}
use Rattle.std.proofs.Common.{rules}
use Rattle.dev_board.proofs.RestoredLaws.{pit-refused, port-refused, lines-taken, lines-refused, found-devices, found-sound}
use Rattle.dev_board.proofs.devices.Devices.of_cells.Goals as goal

pub returns-in_err-restore_pit-clause-restored : goal.returns-in_err-restore_pit-clause-restored
returns-in_err-restore_pit-clause-restored g c =
    let time = ap timed (sym c.moment_of.ensures) ∙ sym c.timed.ensures.moment ∙ c.in_ok-moment.was in
    let refused = pit-refused c.args.level (g.C.DeviceCells.cells c.args.cells.now) _ time _ (sym c.restore_pair.ensures ∙ c.in_ok-restore_pair.was) _ (sym c.restore_pit.ensures ∙ c.in_err-restore_pit.was) in
    (search rules) ∙ sym refused

pub returns-in_err-restore_serial-clause-restored : goal.returns-in_err-restore_serial-clause-restored
returns-in_err-restore_serial-clause-restored g c =
    let time = ap timed (sym c.moment_of.ensures) ∙ sym c.timed.ensures.moment ∙ c.in_ok-moment.was in
    let refused = port-refused c.args.level (g.C.DeviceCells.cells c.args.cells.now) _ time _ (sym c.restore_pair.ensures ∙ c.in_ok-restore_pair.was) _ _ (sym c.restore_pit.ensures ∙ c.in_ok-restore_pit.was) (sym c.restore_serial.ensures ∙ c.in_err-restore_serial.was) in
    (search rules) ∙ sym refused

pub invariant_of-parts : goal.invariant_of-parts
invariant_of-parts g c =
    let time = ap timed (sym c.moment_of.ensures) ∙ sym c.timed.ensures.moment ∙ c.in_ok-moment.was in
    found-devices c.args.level (g.C.DeviceCells.cells c.args.cells.now) _ time _ (sym c.restore_pair.ensures ∙ c.in_ok-restore_pair.was) _
    (sym c.restore_pit.ensures ∙ c.in_ok-restore_pit.was) _ (sym c.restore_serial.ensures ∙ c.in_ok-restore_serial.was) c.requires.level c.requires.cells

pub returns-then-lines_agree-clause-restored : goal.returns-then-lines_agree-clause-restored
returns-then-lines_agree-clause-restored g c =
    let time = ap timed (sym c.moment_of.ensures) ∙ sym c.timed.ensures.moment ∙ c.in_ok-moment.was in
    ap Ok c.of.ensures ∙ sym (lines-taken c.args.level (g.C.DeviceCells.cells c.args.cells.now) _ time _ (sym c.restore_pair.ensures ∙ c.in_ok-restore_pair.was) _ (sym c.restore_pit.ensures ∙ c.in_ok-restore_pit.was) _ (sym c.restore_serial.ensures ∙ c.in_ok-restore_serial.was) (sym c.lines_agree.ensures ∙ c.if-lines_agree.true))

pub returns-then-lines_agree-clause-sound : goal.returns-then-lines_agree-clause-sound
returns-then-lines_agree-clause-sound g c =
    let time = ap timed (sym c.moment_of.ensures) ∙ sym c.timed.ensures.moment ∙ c.in_ok-moment.was in
    subst IsSound (sym c.of.ensures) (found-sound c.args.level (g.C.DeviceCells.cells c.args.cells.now) _ time _ (sym c.restore_pair.ensures ∙ c.in_ok-restore_pair.was) _ (sym c.restore_pit.ensures ∙ c.in_ok-restore_pit.was) _ (sym c.restore_serial.ensures ∙ c.in_ok-restore_serial.was) c.requires.level c.requires.cells (sym c.lines_agree.ensures ∙ c.if-lines_agree.true))

pub of-requires : goal.of-requires
of-requires g c =
    let time = ap timed (sym c.moment_of.ensures) ∙ sym c.timed.ensures.moment ∙ c.in_ok-moment.was in
    found-sound c.args.level (g.C.DeviceCells.cells c.args.cells.now) _ time _ (sym c.restore_pair.ensures ∙ c.in_ok-restore_pair.was) _ (sym c.restore_pit.ensures ∙ c.in_ok-restore_pit.was) _ (sym c.restore_serial.ensures ∙ c.in_ok-restore_serial.was) c.requires.level c.requires.cells (sym c.lines_agree.ensures ∙ c.if-lines_agree.true)

pub returns-else-lines_agree-clause-restored : goal.returns-else-lines_agree-clause-restored
returns-else-lines_agree-clause-restored g c =
    let time = ap timed (sym c.moment_of.ensures) ∙ sym c.timed.ensures.moment ∙ c.in_ok-moment.was in
    sym (lines-refused c.args.level (g.C.DeviceCells.cells c.args.cells.now) _ time _ (sym c.restore_pair.ensures ∙ c.in_ok-restore_pair.was) _ (sym c.restore_pit.ensures ∙ c.in_ok-restore_pit.was) _ (sym c.restore_serial.ensures ∙ c.in_ok-restore_serial.was) (sym c.lines_agree.ensures ∙ c.if-lines_agree.false))
