use Rattle.std.proofs.Common.{rules}
use Rattle.vms_board.proofs.{board.MachineBoard.save_bare_by.Given.Over, board.MachineBoard.save_bare_by.Goals.After-deref}
use Rattle.vms_board.proofs.Facade
use Facade.{stream_with, ◌≡◌, map, ◌-◌, ◌∙◌, None, ap, err_from_is_err_and, slice_get, described, state_of, puts_as, written, images_saved}
use Rattle.vms_board.proofs.Imaging.{machine_named, machine_below, bare_bytes, saves_some}
use Rattle.vms_board.proofs.board.MachineBoard.save_bare_by.Goals as goal

pub write_stream-requires-clause-machine : goal.write_stream-requires-clause-machine
write_stream-requires-clause-machine g c =
    machine_below _ g.met.M.Machine.stands _ _ _ _ _
    c.self.invariant.sound (ap (λ b. b.state) c.self.view_is) c.requires.may c.machine-machine.ensures c.requires.own

-- the bytes written are the board's stream without a description
bytes_are : (g : Over) (c : goal.After-deref g)
    → written (described c.args.own.now) (slice_get (described c.args.own.now).machines c.machine-machine.result) (map state_of c.deref.result.now) None
    ≡ stream_with g.M.Machine.family c.args.set c.args.self.now.state None
bytes_are g c =
    let f = g.M.Machine.family in
    let m = c.args.self.now.state in
    let same = ap (λ b. b.state) c.self.view_is in
    let named = machine_named _ g.met.M.Machine.stands _ _ _ c.self.invariant.sound same c.requires.may in
    bare_bytes _ _ _ _ _ _ _ named (c.machine-machine.ensures ∙ ap (λ x. f.number x - 1) same) c.requires.own
    (c.in_ok-images.ensures.states ∙ ap (images_saved f c.args.set) same) (ap (map state_of) c.deref.ensures.value)

pub returns-in_err-write_stream : goal.returns-in_err-write_stream
returns-in_err-write_stream g c = search (rules, err_from_is_err_and, saves_some, bytes_are)

pub returns : goal.returns
returns g c = puts_as (bytes_are g (goal.at.returns g c).After-deref) c.in_ok-write_stream.ensures
