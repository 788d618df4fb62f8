use Rattle.dev_serial.proofs.Facade.{◌≡◌, ap, ◌∙◌, cells_of, array_for, ring_left, recast_cells, recast_port, PortNumbers, Counted, Ring}
use Rattle.dev_serial.proofs.rings.recast.Goals as goal

abbrev with_stored : PortNumbers → Counted → Ring → Counted → Ring → PortNumbers
with_stored n a r b s = record n { rx = a; rx_ring = r; tx = b; tx_ring = s }

port_is : (n : PortNumbers) (a b : Counted) (r s : Ring) → a ≡ array_for n.rx n.rx_ring → r ≡ ring_left n.rx n.rx_ring → b ≡ array_for n.tx n.tx_ring
    → s ≡ ring_left n.tx n.tx_ring
    → with_stored n a r b s ≡ recast_port n
port_is n a b r s e f g h = cc

pub returns-clause-cells : goal.returns-clause-cells
unfolding recast_cells
returns-clause-cells c =
    let n = c.of_cells-port.result in
    c.cells.ensures.cells
    ∙ ap (cells_of 4) (port_is n c.recast-rx.result.array c.recast-tx.result.array c.recast-rx.result.ring c.recast-tx.result.ring c.recast-rx.ensures.array
    c.recast-rx.ensures.ring c.recast-tx.ensures.array c.recast-tx.ensures.ring)
    ∙ ap (λ m. cells_of 4 (recast_port m)) c.of_cells-port.ensures
