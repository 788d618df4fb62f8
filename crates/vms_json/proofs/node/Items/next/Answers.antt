use Rattle.vms_json.proofs.{Facade.arith, LaidLaws.no_items_left, LaidLaws.an_item_left}
use Rattle.vms_json.proofs.node.Items.next.Goals as goal

pub returns-then-is_empty-clause-value : goal.returns-then-is_empty-clause-value
returns-then-is_empty-clause-value c = no_items_left c.args.self.now.rows.now (grind arith)

pub returns-clause-value : goal.returns-clause-value
returns-clause-value c =
    let cut = c.cut-parted.ensures in
    an_item_left c.args.self.now.rows.now c.cut-parted.result.first.now c.cut-parted.result.rest.now (grind arith) cut.first cut.rest
