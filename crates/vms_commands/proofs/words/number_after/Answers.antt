use Rattle.std.proofs.{lemmas.Bool.Decides.Decides-eqb, lemmas.Slice.Eq.strip_prefix_is}
use Rattle.std.proofs.Common.{rules, ◌≡◌, ◌<◌, Some, None, ◌∙◌, arith}
use Rattle.vms_commands.proofs.NamedSets.{in_range, no_front, no_number, out_of_range}
use Rattle.vms_commands.proofs.words.number_after.Goals as goal

pub returns-in_default-clause-number : goal.returns-in_default-clause-number
returns-in_default-clause-number c =
    let word : c.as_bytes.result.now ≡ c.args.word.now = search rules in
    no_front c.args.front.now c.args.word.now c.args.first c.args.last
    (λ rest is. strip_prefix_is Decides-eqb c.as_bytes.result.now c.args.front.now None c.in_default.ensures.cases rest (word ∙ is))

pub returns-in-Ok-clause-number : goal.returns-in-Ok-clause-number
returns-in-Ok-clause-number c =
    in_range c.args.front.now c.args.word.now c.args.first c.args.last c.as_bytes.result.now c.in-Some.digits.now (search rules)
    (strip_prefix_is Decides-eqb c.as_bytes.result.now c.args.front.now (Some c.in-Some.digits) c.in-Some.ensures.cases) (search rules)
    c.in-Ok.number c.in-Ok.ensures (search rules) (search rules)

pub returns-in_default-number_of-clause-number : goal.returns-in_default-number_of-clause-number
returns-in_default-number_of-clause-number c =
    let above : c.args.last < c.in-Ok.number = search rules in
    out_of_range c.args.front.now c.args.word.now c.args.first c.args.last c.as_bytes.result.now c.in-Some.digits.now (search rules)
    (strip_prefix_is Decides-eqb c.as_bytes.result.now c.args.front.now (Some c.in-Some.digits) c.in-Some.ensures.cases) (search rules)
    c.in-Ok.number c.in-Ok.ensures (λ le up. omega (arith, up, above))

pub returns-in_default-number_of-2-clause-number : goal.returns-in_default-number_of-2-clause-number
returns-in_default-number_of-2-clause-number c =
    let below : c.in-Ok.number < c.args.first = search rules in
    out_of_range c.args.front.now c.args.word.now c.args.first c.args.last c.as_bytes.result.now c.in-Some.digits.now (search rules)
    (strip_prefix_is Decides-eqb c.as_bytes.result.now c.args.front.now (Some c.in-Some.digits) c.in-Some.ensures.cases) (search rules)
    c.in-Ok.number c.in-Ok.ensures (λ le up. omega (arith, le, below))

pub returns-in_default-number_of-3-clause-number : goal.returns-in_default-number_of-3-clause-number
returns-in_default-number_of-3-clause-number c =
    no_number c.args.front.now c.args.word.now c.args.first c.args.last c.as_bytes.result.now c.in-Some.digits.now (search rules)
    (strip_prefix_is Decides-eqb c.as_bytes.result.now c.args.front.now (Some c.in-Some.digits) c.in-Some.ensures.cases) (search rules)
    _ c.in_default-number_of.ensures
