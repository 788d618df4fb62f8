use Rattle.vms_json.proofs.LaidLaws.{text_row, flag_row, null_row, number_row, no_number, no_row}
use Rattle.vms_json.proofs.parse.row_of.Goals as goal

pub returns-in-String-clause-ok : goal.returns-in-String-clause-ok
returns-in-String-clause-ok c = rw c.in-String.is (text_row c.in-String.text)

pub returns-in-Bool-clause-ok : goal.returns-in-Bool-clause-ok
returns-in-Bool-clause-ok c = rw c.in-Bool.is (flag_row c.in-Bool.b)

pub returns-in-Null-clause-ok : goal.returns-in-Null-clause-ok
returns-in-Null-clause-ok c = rw c.in-Null.is null_row

pub returns-in-Some-clause-ok : goal.returns-in-Some-clause-ok
returns-in-Some-clause-ok c = rw c.in-Number.is (number_row c.in-Number.text.now c.in-Some.number c.in-Some.ensures)

pub returns-in-None-clause-err : goal.returns-in-None-clause-err
returns-in-None-clause-err c refused = λ ts. rw c.in-Number.is (no_number _ 0 _ c.in-None.ensures)

pub returns-in_default-clause-err : goal.returns-in_default-clause-err
returns-in_default-clause-err c refused = let d = c.in_default in no_row _ d.not-String d.not-Number d.not-Bool d.not-Null
