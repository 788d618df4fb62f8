use Rattle.std.proofs.Common.{rules}
use Rattle.vms_board.proofs.{save.write_kept.Given.Over, save.write_kept.Goals.After-deref-2, Facade.saved_stream}
use Rattle.vms_board.proofs.Facade.{◌≡◌, map, Some, ap, refl, err_from_is_err_and, slice_get, described, state_of, puts_as, written}
use Rattle.vms_board.proofs.Imaging.{machine_named, machine_below, saved_bytes, saves_some}
use Rattle.vms_board.proofs.save.write_kept.Goals as goal

pub write_stream-requires-clause-machine : goal.write_stream-requires-clause-machine
write_stream-requires-clause-machine g c =
    let m = c.args.devices.now in
    machine_below _ g.met.M.Machine.stands _ _ _ _ _
    c.requires.can.sound refl c.requires.can.may c.machine-machine.ensures c.requires.can.own

-- the bytes written are the board's stream
bytes_are : (g : Over) (c : goal.After-deref-2 g)
    → written (described c.args.own.now) (slice_get (described c.args.own.now).machines c.machine-machine.result) (map state_of c.deref.result.now)
    (Some c.deref-2.result.now)
    ≡ saved_stream g.M.Machine.family c.args.set c.args.devices.now
bytes_are g c =
    let f = g.M.Machine.family in
    let m = c.args.devices.now in
    let kept = c.args.kept.now in
    let named = machine_named _ g.met.M.Machine.stands _ _ _ c.requires.can.sound refl c.requires.can.may in
    saved_bytes _ _ _ _ _ _ _ _ _ _ named c.machine-machine.ensures c.requires.can.own c.requires.images.states refl
    (ap (map state_of) c.deref.ensures.value) c.requires.text c.deref-2.ensures

pub returns-in_err-write_stream : goal.returns-in_err-write_stream
returns-in_err-write_stream g c = search (rules, err_from_is_err_and, saves_some, bytes_are)

pub returns : goal.returns
returns g c = puts_as (bytes_are g (goal.at.returns g c).After-deref-2) c.in_ok-write_stream.ensures
