use Rattle.dev_board.proofs.Facade.{wires_after, parts_view, wires_of, Wire, ◌≡◌, sym, ap, subst, ◌∙◌, int_of, IsCalm, IsSound, State, names_wire}
use Rattle.dev_board.proofs.{Facade.settled, SoundLaws.after-ack, SoundLaws.calm-read, SoundLaws.calm-write}
use Rattle.dev_board.proofs.QuickLaws.{after-ack as ack-stays, after-read, after-write}
use Rattle.dev_board.proofs.WireLaws.{named-bound, wires_of-are, wires_after-are}
use Rattle.dev_board.specs.{Kept.IsKept, declared.kept.Kept.Kept}
use Rattle.dev_board.proofs.parts.Parts.event.Goals as goal

pub settle-kept-requires-clause-stays : goal.settle-kept-requires-clause-stays
settle-kept-requires-clause-stays c =
    after-read c.args.self.now c.requires.sound c.before-before.result c.before-before.ensures c.in-Read.port _ _ _ c.read-value.ensures.touch c.read-value.ensures.step

pub settle-kept-requires-in-Write-clause-stays : goal.settle-kept-requires-in-Write-clause-stays
settle-kept-requires-in-Write-clause-stays c =
    after-write c.args.self.now c.requires.sound c.before-before.result c.before-before.ensures c.in-Write.port c.in-Write.value _ _ c.write-touch.ensures.touch c.write-touch.ensures.step

pub with_wire-wires-requires : goal.with_wire-wires-requires
with_wire-wires-requires c = named-bound c.args.event c.in-Wire.input c.in-Wire.up c.requires.wire c.in-Wire.is

pub settle-kept-requires-in-Wire-clause-wires : goal.settle-kept-requires-in-Wire-clause-wires
unfolding wires_after
settle-kept-requires-in-Wire-clause-wires c =
    rw (c.with_wire-wires.ensures, c.wires-wires.ensures.wires) (wires_after-are (Wire c.in-Wire.input c.in-Wire.up) (wires_of c.args.self.now) (ap names_wire (sym c.in-Wire.is) ∙ c.requires.wire) (wires_of-are c.args.self.now))

pub invariant_of-self : goal.invariant_of-self
invariant_of-self c = after-ack (parts_view c.self.inside) c.self.invariant c.ack-value.result c.ack-value.new.self c.ack-value.ensures

pub settle-kept-requires-in-Ack-clause-stays : goal.settle-kept-requires-in-Ack-clause-stays
settle-kept-requires-in-Ack-clause-stays c =
    ack-stays (parts_view c.self.inside) (subst IsSound (sym c.self.view_is) c.requires.sound) c.before-before.result
    (rw c.self.view_is c.before-before.ensures)
    c.ack-value.result c.ack-value.new.self _ c.ack_touches.ensures c.ack-value.ensures

-- What is known of a board whose lines were updated.
kept-by : (known : Kept) (m n : State) → n ≡ m → known.int ≡ int_of n.pair → IsCalm known.calm m → IsKept known n
kept-by known m n e int calm = record { int = int; calm = rw e calm }

pub returns-in-Read-clause-kept : goal.returns-in-Read-clause-kept
unfolding settled
returns-in-Read-clause-kept c =
    kept-by _ _ _ c.settle-kept.ensures.state c.settle-kept.ensures.int
    (calm-read c.args.kept.now.calm c.args.self.now c.requires.kept.calm c.in-Read.port _ _ c.read-value.ensures.step)

pub returns-in-Write-clause-kept : goal.returns-in-Write-clause-kept
unfolding settled
returns-in-Write-clause-kept c =
    let calm = c.args.kept.now.calm in record {
      int = c.settle-kept-in-Write.ensures.int;
      calm = rw c.calm-kept.ensures (rw c.settle-kept-in-Write.ensures.state (calm-write calm c.args.self.now c.requires.kept.calm c.in-Write.port c.in-Write.value _ _ c.write-touch.ensures.touch c.write-touch.ensures.step));
    }

pub returns-in-Byte-clause-kept : goal.returns-in-Byte-clause-kept
unfolding settled
returns-in-Byte-clause-kept c =
    kept-by _ _ _ c.settle-kept-in-Byte.ensures.state c.settle-kept-in-Byte.ensures.int (rw c.byte_in.ensures c.requires.kept.calm)

pub returns-in-Wire-clause-kept : goal.returns-in-Wire-clause-kept
unfolding settled
returns-in-Wire-clause-kept c = kept-by _ _ _ c.settle-kept-in-Wire.ensures.state c.settle-kept-in-Wire.ensures.int c.requires.kept.calm

pub returns-in-Ack-clause-kept : goal.returns-in-Ack-clause-kept
unfolding settled
returns-in-Ack-clause-kept c =
    kept-by _ _ _ c.settle-kept-in-Ack.ensures.state c.settle-kept-in-Ack.ensures.int
    (subst (IsCalm c.args.kept.now.calm) (sym c.self.view_is) c.requires.kept.calm)
