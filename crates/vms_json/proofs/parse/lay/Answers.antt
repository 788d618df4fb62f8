use Rattle.vms_json.proofs.Facade.{◌≡◌, Err, refl, ap, ◌∙◌, arith, rules, of_json, converted, Syntax, value_is}
use Rattle.vms_json.proofs.DueLaws.{too_deep, list_opened, list_over, no_list_over, token_laid, token_refused, no_end, at_any_depth}
use Rattle.vms_json.proofs.parse.lay.Goals as goal

pub returns-in-BeginObject-clause-err : goal.returns-in-BeginObject-clause-err
returns-in-BeginObject-clause-err c = λ said is why.
    c.begin_object.ensures.err said (rw c.in-BeginObject.is at is) why

pub returns-then-not-laid-clause-err : goal.returns-then-not-laid-clause-err
returns-then-not-laid-clause-err c = λ said is why.
    no_list_over (rw c.in-EndArray.is at is) (search rules)

pub returns-else-not-laid-clause-ok : goal.returns-else-not-laid-clause-ok
returns-else-not-laid-clause-ok c = λ said is.
    list_over (rw c.in-EndArray.is at is) (search rules) c.end.ensures.list

pub returns-then-len-ge-DEEPEST-clause-err : goal.returns-then-len-ge-DEEPEST-clause-err
returns-then-len-ge-DEEPEST-clause-err c = λ said is why.
    too_deep refl (rw c.in-BeginArray.is at is) (omega arith) (ap (converted of_json) (value_is 0 _))

pub returns-in_ok-begin-in-BeginArray-clause-ok : goal.returns-in_ok-begin-in-BeginArray-clause-ok
returns-in_ok-begin-in-BeginArray-clause-ok c = grind (arith, list_opened)

pub returns-in_err-row_of-in_default : goal.returns-in_err-row_of-in_default
returns-in_err-row_of-in_default c = record {
  ok = λ said is. search rules;
  fewer = search rules;
  err = λ said is why.
      let d = c.in_default in
      let refused : c.row_of.result ≡ Err Syntax = grind arith in
      token_refused (no_end c.args.token d.not-EndArray c.args.reader.now) is
      (λ n. ap (converted of_json) (at_any_depth _ d.not-BeginObject d.not-BeginArray _ _) ∙ c.row_of.ensures.err refused c.args.reader.now);
}

pub returns-in_ok-push-in_default : goal.returns-in_ok-push-in_default
returns-in_ok-push-in_default c = record {
  ok = λ said is.
      token_laid (no_end c.args.token c.in_default.not-EndArray c.args.reader.now) is
      c.in_ok-row_of-in_default.ensures.ok c.in_ok-push-in_default.ensures.items refl refl;
  fewer = omega arith;
  err = λ said is why. absurd (cc);
}
