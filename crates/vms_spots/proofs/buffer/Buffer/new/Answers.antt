use Rattle.vms_spots.proofs.{LayoutLaws.laid_again, LayoutLaws.kinds_again, BufferLaws.Holds, BufferLaws.begun, buffer.Buffer.new.Goals.In_ok-bytes}
use Rattle.vms_spots.proofs.Facade.{◌∙◌, List, ap, arith, length, length-map, pos, replicate, Spot, kinds_of, bytes_of}
use Rattle.vms_spots.proofs.buffer.Buffer.new.Goals as goal

pub size-requires-clause-few : goal.size-requires-clause-few
size-requires-clause-few c =
    let spots = c.deref.result.now in
    omega (arith, length-map spots (λ s. s.kind), ap length (kinds_again c.args.kinds.now spots (c.deref.ensures.value ∙ c.in_ok-spots.ensures.spots)))

pub size-requires-clause-laid : goal.size-requires-clause-laid
size-requires-clause-laid c = laid_again c.args.kinds.now c.deref.result.now (c.deref.ensures.value ∙ c.in_ok-spots.ensures.spots)

made : (c : In_ok-bytes)
    → Holds c.in_ok-spots.spots.items (record { kinds = c.args.kinds.now; numbers = replicate (length c.args.kinds.now) (pos 0) }) c.in_ok-bytes.bytes.items
made c =
    begun c.in_ok-spots.spots.items c.in_ok-bytes.bytes.items c.size.result c.requires c.in_ok-spots.ensures.spots
    (c.size.ensures.size ∙ ap (λ (l : List Spot). bytes_of (kinds_of l)) c.deref.ensures.value) (c.in_ok-bytes.ensures.items_if_clones_equal (λ y e. e))

pub invariant_of-result : goal.invariant_of-result
invariant_of-result c = (made (goal.at.invariant_of-result c).In_ok-bytes).held_is

pub returns : goal.returns
returns c = (made (goal.at.returns c).In_ok-bytes).seen_is
