use Rattle.vms_board.proofs.Facade.{◌<◌, arith, described, length, refl}
use Rattle.std.proofs.Common.{rules}
use Rattle.vms_board.proofs.Imaging.{lists-long, fit_each, made_states, made_of, refilled_made, still_of}
use Rattle.vms_board.proofs.images.refill.Goals as goal

pub cells-cells-requires-clause-device : goal.cells-cells-requires-clause-device
cells-cells-requires-clause-device g c = grind (arith, lists-long)

pub fill-requires-clause-can : goal.fill-requires-clause-can
fill-requires-clause-can g c =
    let ready = rw (← c.requires.can.own) at (g.met.M.Machine.stands.ready c.args.number c.args.machine.now c.requires.can.sound c.requires.can.may) in
    let lt : c.loop-device.device < length (described c.args.set.now).devices = omega (arith, c.loop-device.invariant.long, c.requires.of.one_each) in
    record {
      device = lt;
      fit = rw (c.deref.ensures.0, c.cells-cells.ensures) (fit_each _ _ ready _ lt);
      few = search rules;
    }

pub fill-requires-clause-of : goal.fill-requires-clause-of
fill-requires-clause-of g c = search (rules, still_of)

pub returns : goal.returns
returns g c =
    let ready = rw (← c.requires.can.own) at (g.met.M.Machine.stands.ready c.args.number c.args.machine.now c.requires.can.sound c.requires.can.may) in
    let whole = refilled_made _ _ _ _ _ c.loop-device.invariant c.requires.of (omega arith) in
    let states = made_states _ _ _ _ ready whole refl in
    record { states = rw (← c.requires.can.own) states; of = made_of _ _ _ _ ready whole refl; ready = rw states ready }
