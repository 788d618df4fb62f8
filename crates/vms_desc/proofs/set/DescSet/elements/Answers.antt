use Rattle.vms_desc.proofs.{AskLaws.field_found, Facade.rules, Facade.◌∙◌, Facade.ap, Facade.described}
use Rattle.vms_desc.specs.Calls.{count_in}
use Rattle.vms_desc.proofs.set.DescSet.elements.Goals as goal

pub count_of-requires : goal.count_of-requires
count_of-requires g c = search (rules, field_found)

pub returns : goal.returns
returns g c =
    c.count_of.ensures ∙ ap (λ f. count_in c.args.self.now c.args.part c.args.base f (g.C.Cells.numbers c.args.cells.now))
    (field_found (described c.args.self.now) c.args.part _ _ c.args.field _ c.desc.ensures c.as_slice.ensures c.requires.field c.index-as_slice-field.is)
