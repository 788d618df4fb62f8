use Rattle.vms_desc.proofs.Facade.{◌∙◌, option_copied, described, IsParent, formula}
use Rattle.vms_desc.proofs.EvalLaws.{placed, seen, parent_is, truth_same}
use Rattle.vms_desc.proofs.set.DescSet.eval.Goals as goal

pub holds-requires : goal.holds-requires
holds-requires g c =
    let set = described c.args.self.now in
    let numbers = g.C.Cells.numbers c.args.cells.now in
    let parent = option_copied c.as_ref.result in
    let is : IsParent set c.args.desc parent = rw c.as_ref.ensures.value c.parent-parent.ensures in
    record {
      names = placed set c.args.desc c.args.base c.scope-own.result parent (formula c.args.test.now) c.scope-own.ensures is c.requires.placed;
      own = (seen c.scope-own.ensures c.requires.few c.requires.own).inside;
      parent = (parent_is set c.args.desc parent numbers is c.requires.few c.requires.parent).0;
      few = c.requires.few;
    }

pub returns : goal.returns
returns g c =
    let set = described c.args.self.now in
    let parent = option_copied c.as_ref.result in
    let is : IsParent set c.args.desc parent = rw c.as_ref.ensures.value c.parent-parent.ensures in
    let numbers = parent_is set c.args.desc parent (g.C.Cells.numbers c.args.cells.now) is c.requires.few c.requires.parent in
    c.holds.ensures ∙ truth_same c.args.version _ _ _ _ (seen c.scope-own.ensures c.requires.few c.requires.own).number numbers.1 (formula c.args.test.now)
