use Rattle.vms_selfdesc.proofs.Facade.{◌≡◌, map, ◌∙◌, length, ap, arith, described, state_of, described_text}
use Rattle.vms_selfdesc.proofs.{Lengths.text_reads, Lengths.text_short, Plain.wrote}
use Rattle.vms_selfdesc.proofs.room.DescriptionRoom.describe.Goals as goal

pub returns : goal.returns
returns c =
    let set = c.args.set.now in
    let states = map state_of c.args.images.now in
    let empty = c.clear.ensures.text in
    let tree = c.write_tree.ensures in
    let short = text_short (described set) states set.well_formed set.heads in
    let whole = tree.text.fits empty.whole (omega (arith, ap length empty.bytes)) in
    let text : c.as_str.result.now ≡ described_text (described set) states = c.as_str.ensures.value ∙ wrote empty tree.text whole in
    (text, (text_reads (described set) states tree.sound _ text, omega (arith, ap length text)))
