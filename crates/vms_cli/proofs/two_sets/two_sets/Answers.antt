use Rattle.vms_cli.proofs.{StreamCommands.second_of, StreamCommands.two_of, two_sets.two_sets.Given.Over, two_sets.two_sets.Goals.In_ok-new_text}
use Rattle.vms_cli.proofs.Facade.{Ok, Err, Result, refl, ap, ◌∙◌, err_from_is_err_and, described, set_asked, SetText, fetched_set, named_sets, set_in}
use Rattle.vms_cli.proofs.Facade.{sets_in, StepAs, text_of, Both, both, Ending, then_as, sets_of, TwoSets}
use Rattle.vms_commands.specs.declared.fetching.SetText.{SetText as Fetched}
use Rattle.vms_cli.proofs.two_sets.two_sets.Goals as goal

abbrev texts_of : Both Fetched → Both SetText
texts_of texts = record { old = text_of texts.old; new = text_of texts.new }

-- both are fetched from the same shelf, and what is read of both is what the words name
named : (g : Over) (c : In_ok-new_text g) (r : Result TwoSets Ending)
    → StepAs sets_of (sets_in (record { old = text_of c.in_ok-old_text.old_text; new = text_of c.in_ok-new_text.new_text })) r
    → StepAs sets_of (named_sets (g.H.Shelf.held c.args.shelf.now) (set_asked c.args.old) (set_asked c.args.new)) r
named g c r h =
    let held = g.H.Shelf.held c.args.shelf.now in
    let old = fetched_set held (set_asked c.args.old) in
    let new = fetched_set held (set_asked c.args.new) in
    let texts : Both Fetched = record { old = c.in_ok-old_text.old_text; new = c.in_ok-new_text.new_text } in
    let second : StepAs text_of new (Ok c.in_ok-new_text.new_text) = rw c.in_ok-old_text.ensures.asks.looks.held at c.in_ok-new_text.ensures.fetched in
    then_as texts_of sets_of sets_in (both old new) texts r
    (two_of text_of texts_of old new c.in_ok-old_text.old_text c.in_ok-new_text.new_text texts refl c.in_ok-old_text.ensures.fetched second) h

pub returns-in_err-new-clause-had : goal.returns-in_err-new-clause-had
returns-in_err-new-clause-had g c =
    let p = err_from_is_err_and c.from_residual-in_err-new.result c.from_residual-in_err-new.ensures.1 in
    let e = c.in_err-new.field-0.0 in
    let failed : StepAs sets_of (sets_in (record { old = text_of c.in_ok-old_text.old_text; new = text_of c.in_ok-new_text.new_text })) (Err e) =
    second_of described sets_of (set_in (text_of c.in_ok-old_text.old_text))
    (set_in (text_of c.in_ok-new_text.new_text)) c.in_ok-old.old e c.in_ok-old.ensures.read c.in_err-new.ensures.read in
    named g (goal.at.returns-in_err-new-clause-had g c).In_ok-new_text c.from_residual-in_err-new.result (rw (p.1 ∙ ap Err p.2) failed)

pub returns-clause-had : goal.returns-clause-had
returns-clause-had g c =
    let sets : TwoSets = record { old = c.in_ok-old.old; new = c.in_ok-new.new } in
    named g (goal.at.returns-clause-had g c).In_ok-new_text (Ok sets)
    (two_of described sets_of (set_in (text_of c.in_ok-old_text.old_text))
    (set_in (text_of c.in_ok-new_text.new_text)) c.in_ok-old.old c.in_ok-new.new sets refl c.in_ok-old.ensures.read c.in_ok-new.ensures.read)
