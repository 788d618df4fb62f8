use Rattle.vms_desc.proofs.{EvalLaws.seen, AskLaws.field_counts, Facade.◌∙◌, Facade.field_of, Facade.described}
use Rattle.vms_desc.proofs.set.DescSet.count_of.Goals as goal

pub number_at-requires : goal.number_at-requires
number_at-requires g c =
    let ask = c.requires.ask in
    record {
      asked = field_counts (described c.args.self.now) c.args.self.now.well_formed c.args.part ask.part c.requires.number ask.field
          (field_of c.args.field.now) c.requires.is c.in-Counted.by c.in-Counted.capacity c.in-Counted.is c.scope-own.result c.scope-own.ensures.fields;
      inside = (seen c.scope-own.ensures ask.few ask.own).inside;
      few = ask.few;
    }

pub returns-in-Counted : goal.returns-in-Counted
returns-in-Counted g c =
    let ask = c.requires.ask in
    c.min.ensures ∙ rw (c.number_at.ensures, (seen c.scope-own.ensures ask.few ask.own).number c.in-Counted.by, c.in-Counted.is)
