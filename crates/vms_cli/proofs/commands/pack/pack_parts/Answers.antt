use Rattle.vms_cli.proofs.Facade
use Facade.{◌≡◌, List, ℕ, Option, Ok, Err, Result, refl, err_from_is_err_and, Vec, Global, Held, described, set_asked, SetText, fetched, fetched_set}
use Facade.{longest_file, set_in, SetWord, StepAs, text_of, Step, Gives, next, Ending, first_err, then_as, Parts, named_parts, parts_of, with_values, PackParts}
use Rattle.vms_commands.specs.declared.fetching.SetText.{SetText as Fetched}
use Rattle.vms_cli.proofs.commands.pack.pack_parts.Goals as goal

abbrev bytes : Vec ℕ Global → List ℕ
bytes text = text.items

abbrev rest : SetText → List ℕ → Step Parts
rest text values = next (set_in text) (λ set. Gives (record { set = set; values = values }))

-- after the set's text and the values text comes what the words name
module _ (held held' : Option Held) (same : held' ≡ held) (word : SetWord) (name : List ℕ) (t : Fetched)
    (first : StepAs text_of (fetched_set held word) (Ok t)) (r : Result PackParts Ending) where
  behind_text : StepAs parts_of (with_values held' name (text_of t)) r → StepAs parts_of (named_parts held word name) r
  behind_text h = then_as text_of parts_of (with_values held name) (fetched_set held word) t r first (rw same at h)

  behind_values : (v : Vec ℕ Global) → StepAs bytes (fetched longest_file held' name) (Ok v) → StepAs parts_of (rest (text_of t) v.items) r
      → StepAs parts_of (named_parts held word name) r
  behind_values v second h = behind_text (then_as bytes parts_of (rest (text_of t)) (fetched longest_file held' name) v r second h)

pub returns-in_err-values-clause-had : goal.returns-in_err-values-clause-had
returns-in_err-values-clause-had g c =
    let p = err_from_is_err_and c.from_residual-in_err-values.result c.from_residual-in_err-values.ensures.1 in
    let e = c.in_err-values.field-0.0 in
    let held = g.H.Shelf.held c.fetch_set.new.shelf in
    rw (p.1, p.2) (behind_text (g.H.Shelf.held c.args.shelf.now) held c.in_ok-text.ensures.asks.looks.held
    (set_asked c.args.set) c.args.values.now c.in_ok-text.text c.in_ok-text.ensures.fetched (Err e)
    (first_err bytes parts_of (rest (text_of c.in_ok-text.text)) (fetched longest_file held c.args.values.now) e c.in_err-values.ensures.fetched))

pub returns-in_err-set-clause-had : goal.returns-in_err-set-clause-had
returns-in_err-set-clause-had g c =
    let p = err_from_is_err_and c.from_residual-in_err-set.result c.from_residual-in_err-set.ensures.1 in
    let e = c.in_err-set.field-0.0 in
    rw (p.1, p.2) (behind_values (g.H.Shelf.held c.args.shelf.now) (g.H.Shelf.held c.fetch_set.new.shelf) c.in_ok-text.ensures.asks.looks.held
    (set_asked c.args.set) c.args.values.now c.in_ok-text.text c.in_ok-text.ensures.fetched (Err e)
    c.in_ok-values.values c.in_ok-values.ensures.fetched
    (first_err described parts_of (λ set. Gives (record { set = set; values = c.in_ok-values.values.items }))
    (set_in (text_of c.in_ok-text.text)) e c.in_err-set.ensures.read))

pub returns-clause-had : goal.returns-clause-had
returns-clause-had g c =
    let parts : PackParts = record { set = c.in_ok-set.set; values = c.in_ok-values.values } in
    behind_values (g.H.Shelf.held c.args.shelf.now) (g.H.Shelf.held c.fetch_set.new.shelf) c.in_ok-text.ensures.asks.looks.held
    (set_asked c.args.set) c.args.values.now c.in_ok-text.text c.in_ok-text.ensures.fetched (Ok parts)
    c.in_ok-values.values c.in_ok-values.ensures.fetched
    (then_as described parts_of (λ set. Gives (record { set = set; values = c.in_ok-values.values.items }))
    (set_in (text_of c.in_ok-text.text)) c.in_ok-set.set (Ok parts) c.in_ok-set.ensures.read refl)
