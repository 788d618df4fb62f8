use Rattle.vms_json.proofs.Facade.{◌≡◌, List, Option, Some, None, Data, Token, refl, sym, arith, eqb-true, eqb-false, nil_from_length, read_key}
use Rattle.vms_json.proofs.{Facade.read_key-shorter, Facade.HasEnded, parse.go_on.Goals.After-next_key}
use Rattle.vms_json.proofs.DueLaws.{Member, item_ended, whole_ended, member_ended, member_no_key, member_goes_on, member_was_last}
use Rattle.vms_json.proofs.parse.go_on.Goals as goal

pub returns-then-is_empty-clause-ok : goal.returns-then-is_empty-clause-ok
returns-then-is_empty-clause-ok c said is =
    whole_ended (c.loop-laid.invariant.ended said is)
    (nil_from_length c.loop-laid.laid.begun.items (omega (arith, eqb-true c.loop-laid.laid.begun.len 0 (sym c.if-is_empty.ensures))))

-- before a key is read, a member has ended
member : (c : After-next_key) (said : Option (Data × List Token)) → HasEnded said c.args.laid.now c.args.reader.now
    → Member said c.loop-laid.laid c.loop-laid.reader
member c said is =
    member_ended (c.loop-laid.invariant.ended said is) c.loop-laid-test.true
    (omega (arith, eqb-false c.loop-laid.laid.begun.len 0 (sym c.if-is_empty.ensures)))

pub returns-in_err-name-clause-err : goal.returns-in_err-name-clause-err
returns-in_err-name-clause-err c said is refused =
    member_no_key (member (goal.at.returns-in_err-name-clause-err c).After-next_key said is) c.in_err-name.ensures.value

pub returns-in-Some-clause-ok : goal.returns-in-Some-clause-ok
returns-in-Some-clause-ok c said is =
    member_goes_on c.in-Some.name (member (goal.at.returns-in-Some-clause-ok c).After-next_key said is) (grind arith) c.in_ok-push-in-Some.ensures.items refl
    c.loop-laid-test.true

pub loop-laid-preserved : goal.loop-laid-preserved
loop-laid-preserved c =
    let over : read_key c.loop-laid.reader ≡ Some (None, c.next_key.new.self) = grind arith in
    record {
      below = c.end.ensures.within;
      ended = λ said is. member_was_last (member (goal.at.loop-laid-preserved c).After-next_key said is) over c.loop-laid-test.true c.end.ensures.object;
      fewer = omega (arith, read_key-shorter c.loop-laid.reader None c.next_key.new.self over);
    }

pub returns-clause-ok : goal.returns-clause-ok
returns-clause-ok c said is = item_ended (c.loop-laid.invariant.ended said is) c.loop-laid-test.false
