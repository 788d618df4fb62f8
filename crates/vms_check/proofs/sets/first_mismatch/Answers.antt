use Rattle.vms_check.proofs.Facade.{described}
use Rattle.vms_check.proofs.WholeLaws.{whole_is}
use Rattle.vms_check.proofs.sets.first_mismatch.Goals as goal

pub returns-in-Some : goal.returns-in-Some
returns-in-Some c = rw (whole_is (described c.args.old.now) (described c.args.new.now), ← c.compare_machines.ensures, c.in-Some.is)

pub returns-in-Some-compare_names : goal.returns-in-Some-compare_names
returns-in-Some-compare_names c =
    rw (
      whole_is (described c.args.old.now) (described c.args.new.now),
      ← c.compare_machines.ensures,
      c.in_default.is,
      ← c.compare_names.ensures,
      c.in-Some-compare_names.is,
    )

pub returns : goal.returns
returns c =
    rw (
      whole_is (described c.args.old.now) (described c.args.new.now),
      ← c.compare_machines.ensures,
      c.in_default.is,
      ← c.compare_names.ensures,
      c.in_default-compare_names.is,
      c.compare_devices.ensures,
    )
