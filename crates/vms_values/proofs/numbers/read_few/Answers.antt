use Rattle.vms_values.proofs.Facade.{sym, ◌∙◌, arith}
use Rattle.vms_values.proofs.ReadLemmas.{digit_next, digits_end, few_fit, few_next}
use Rattle.vms_values.proofs.numbers.read_few.Goals as goal

pub next_of_few-requires : goal.next_of_few-requires
next_of_few-requires c = few_fit _ _ c.loop-digit.invariant.1 (omega arith)

pub returns-in_err-value : goal.returns-in_err-value
returns-in_err-value c =
    rw c.from_residual.ensures
    (sym (digit_next _ _ _ _ _ c.loop-digit-test.true (sym c.next_of_few.ensures ∙ c.in_err-value.was)) ∙ c.loop-digit.invariant.0)

pub loop-digit-preserved : goal.loop-digit-preserved
loop-digit-preserved c =
    let i = c.loop-digit.digit-index in
    let value = c.loop-digit.value in
    let goes = sym c.next_of_few.ensures ∙ c.in_ok-value.was in
    (sym (digit_next _ _ _ _ _ c.loop-digit-test.true goes) ∙ c.loop-digit.invariant.0, few_next _ _ _ _ c.args.digits.now c.loop-digit.invariant.1 goes)

pub returns : goal.returns
returns c = digits_end _ _ _ c.loop-digit-test.false ∙ c.loop-digit.invariant.0
