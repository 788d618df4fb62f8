use Rattle.vms_values.proofs.Facade.{arith, err_from_is_err_and, stops_front, wrote_behind}
use Rattle.vms_values.proofs.path.+write_path.Goals as goal

pub returns-in_err-write_path-in-Field : goal.returns-in_err-write_path-in-Field
returns-in_err-write_path-in-Field g t c =
    rw (c.in-Field.is, (err_from_is_err_and c.from_residual.result c.from_residual.ensures.1).1) (stops_front _ c.in_err-write_path-in-Field.ensures)

pub returns-in_ok-write_path-in-Field : goal.returns-in_ok-write_path-in-Field
returns-in_ok-write_path-in-Field g t c = rw c.in-Field.is (wrote_behind _ _ _ c.in_ok-write_path-in-Field.ensures c.write_element.ensures)

pub returns-in_err-write_path-in-Inside : goal.returns-in_err-write_path-in-Inside
returns-in_err-write_path-in-Inside g t c = grind (arith, err_from_is_err_and, stops_front)

pub returns-in_ok-write_path-in-Inside : goal.returns-in_ok-write_path-in-Inside
returns-in_ok-write_path-in-Inside g t c = rw c.in-Inside.is (wrote_behind _ _ _ c.in_ok-write_path-in-Inside.ensures c.write_all_of.ensures)
