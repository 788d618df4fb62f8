use Rattle.vms_values.proofs.Facade
use Facade.{rules, ◌≡◌, ℕ, ◌-◌, true, List, length, take, drop, None, sym, ap, ◌∙◌, arith, option_and_then, read_from}
use Rattle.vms_values.proofs.ReadLemmas.{read_natural, read_rest, digit_next, digits_end}
use Rattle.vms_values.proofs.numbers.read_natural.Goals as goal

-- the digits after the first few
abbrev rest_of : ℕ → List ℕ → List ℕ
rest_of few text = take (length text - few) (drop few text)

pub returns-in_err-value : goal.returns-in_err-value
returns-in_err-value c =
    let text = c.args.digits.now in
    let few = c.min-few.result in
    let none : read_from 0 text ≡ None = read_rest few text (omega arith) ∙ ap (option_and_then (λ m. read_from m (rest_of few text))) (sym c.read_few.ensures ∙ c.in_err-value.was) in
    rw c.from_residual.ensures (sym none ∙ read_natural text (sym c.is_unpadded.ensures ∙ c.if-not-is_unpadded.false))

pub loop-digit-init : goal.loop-digit-init
loop-digit-init c =
    let text = c.args.digits.now in
    let few = c.min-few.result in
    sym (read_rest few text (omega arith) ∙ ap (option_and_then (λ m. read_from m (rest_of few text))) (sym c.read_few.ensures ∙ c.in_ok-value.was))

pub returns-in_err-value-2 : goal.returns-in_err-value-2
returns-in_err-value-2 c =
    rw c.from_residual-in_err-value-2.ensures
    (sym (digit_next _ _ _ _ _ c.loop-digit-test.true (sym c.next_value.ensures ∙ c.in_err-value-2.was))
    ∙ c.loop-digit.invariant ∙ read_natural c.args.digits.now (sym c.is_unpadded.ensures ∙ c.if-not-is_unpadded.false))

pub returns : goal.returns
returns c = search (rules, digits_end, read_natural)
