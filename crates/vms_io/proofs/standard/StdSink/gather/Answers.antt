use Rattle.vms_io.proofs.Facade.{◌≡◌, ◌≤◌, ap, rules, arith, take_all, length}
use Rattle.vms_io.proofs.{Filling.take-put_mid_more, Gathering.gathers}
use Rattle.vms_io.proofs.standard.StdSink.gather.Goals as goal

pub returns-clause-bytes : goal.returns-clause-bytes
returns-clause-bytes g c =
    let s = c.args.self.now in
    let n = length c.args.piece.now in
    let room : s.end ≤ length s.gathered = search rules in
    let copied : c.copy_from_slice.new.self ≡ c.args.piece.now = c.copy_from_slice.ensures.after in
    let long : length c.copy_from_slice.new.self ≡ n = ap length copied in
    gathers _ _ _ _ _ _ _ s.order room
    (rw (take-put_mid_more s.end _ n s.gathered c.copy_from_slice.new.self room (omega (arith, long)), take_all n c.copy_from_slice.new.self (omega (arith, long)), copied))
