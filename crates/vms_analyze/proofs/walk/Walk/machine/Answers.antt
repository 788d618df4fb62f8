use Rattle.vms_analyze.proofs.Facade.{◌≡◌, ◌+◌, length, true, refl, sym, ap, ◌∙◌, begins_with, configuration, left, Walk}
use Rattle.vms_analyze.proofs.Walks.{machine_goes, machine_passes, prints_walk}
use Rattle.vms_analyze.proofs.walk.Walk.machine.Goals as goal

pub returns-then-not-has_configuration : goal.returns-then-not-has_configuration
returns-then-not-has_configuration c = machine_passes c.args.self.now c.requires (sym c.if-not-has_configuration.ensures)

pub returns : goal.returns
returns c =
    let walk = c.args.self.now in
    let name = c.in-Some.name.now in
    let mid : Walk = record { input = walk.input; place = walk.place + c.len.result; id = walk.id; text = walk.text } in
    let items : c.configuration-spelled.result.items ≡ configuration name = c.configuration-spelled.ensures in
    let begins : begins_with (configuration name) (left walk) ≡ true =
    ap (λ l. begins_with l (left walk)) (sym (c.as_slice.ensures.value ∙ items)) ∙ sym c.if-not-begins_with.ensures in
    prints_walk c.print_machine.result
    (machine_goes walk mid c.print_machine.new.self name c.in-Some.ensures.good begins refl c.requires
    (rw (c.len.ensures.value ∙ ap length items)) refl refl)
    c.print_machine.ensures.ok c.print_machine.ensures.err
