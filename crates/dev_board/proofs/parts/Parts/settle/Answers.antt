use Rattle.dev_board.proofs.{QuietLaws.quiet-settled, QuietLaws.untouched-settled, SoundLaws.settled-sound}
use Rattle.dev_board.proofs.Facade.{sym, ap, subst, ◌∙◌, State, IsSound, settled, inputs_of, parts_view}
use Rattle.dev_board.proofs.parts.Parts.settle.Goals as goal

pub returns-clause-sound : goal.returns-clause-sound
unfolding settled
returns-clause-sound c =
    let inputs = c.inputs-inputs.ensures ∙ ap (λ (m : State). inputs_of c.args.wires m) (sym c.self.view_is) in
    rw (c.take.ensures, inputs, c.bits_where.ensures) (settled-sound c.args.wires c.args.edge (parts_view c.self.inside) c.requires.wires c.self.invariant)

pub invariant_of-self : goal.invariant_of-self
invariant_of-self c = (returns-clause-sound c).devices

pub returns-then-is_quiet-clause-state : goal.returns-then-is_quiet-clause-state
returns-then-is_quiet-clause-state c =
    sym (quiet-settled c.args.wires c.inputs-inputs.result c.args.before c.args.edge c.args.touch c.args.self.now c.requires.stays c.inputs-inputs.ensures
    (sym c.is_quiet.ensures ∙ c.if-is_quiet.true))

pub returns-then-is_quiet-clause-sound : goal.returns-then-is_quiet-clause-sound
returns-then-is_quiet-clause-sound c =
    subst IsSound (ap (settled c.args.wires c.args.edge) c.self.view_is ∙ sym (returns-then-is_quiet-clause-state c))
    (settled-sound c.args.wires c.args.edge (parts_view c.self.inside) c.requires.wires c.self.invariant)

pub returns-then-is_untouched-clause-state : goal.returns-then-is_untouched-clause-state
returns-then-is_untouched-clause-state c =
    sym (untouched-settled c.args.wires c.args.before c.args.edge c.args.touch c.args.self.now c.requires.stays
    (sym c.is_untouched.ensures ∙ c.if-is_untouched.true))

pub returns-then-is_untouched-clause-sound : goal.returns-then-is_untouched-clause-sound
returns-then-is_untouched-clause-sound c =
    subst IsSound (ap (settled c.args.wires c.args.edge) c.self.view_is ∙ sym (returns-then-is_untouched-clause-state c))
    (settled-sound c.args.wires c.args.edge (parts_view c.self.inside) c.requires.wires c.self.invariant)
