use Rattle.vms_analyze.proofs.Facade.{rules, ◌≡◌, ◌+◌, length, true, refl, sym, ap, ◌∙◌, begins_with, section_head, left, Walk}
use Rattle.vms_analyze.proofs.Walks.{head_goes, prints_walk}
use Rattle.vms_analyze.proofs.walk.Walk.head.Goals as goal

pub returns : goal.returns
returns c =
    let walk = c.args.self.now in
    let id = c.in-Some.id in
    let name = c.args.name.now in
    let head = section_head id name c.args.instance c.args.version in
    let mid : Walk = record { input = walk.input; place = walk.place + c.len.result; id = id; text = walk.text } in
    let items : c.section_head-spelled.result.items ≡ head = cc (c.section_head-spelled.ensures, c.as_bytes.ensures.value) in
    let begins : begins_with head (left walk) ≡ true =
    ap (λ l. begins_with l (left walk)) (sym (c.as_slice.ensures.value ∙ items)) ∙ sym c.if-not-begins_with.ensures in
    prints_walk c.print_section.result
    (head_goes walk mid c.print_section.new.self name c.args.instance c.args.version begins (search rules) c.requires.inside
    (rw (c.len.ensures.value ∙ ap length items)) refl refl)
    c.print_section.ensures.ok c.print_section.ensures.err
