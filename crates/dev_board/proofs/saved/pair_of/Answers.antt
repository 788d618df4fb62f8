use Rattle.dev_board.proofs.Facade.{◌∙◌, sym, ap, master_cells, slave_cells, pair-told, fault-told, hook_restored, by_chip, numbers_back}
use Rattle.dev_board.proofs.saved.pair_of.Goals as goal

pub load_device-requires : goal.load_device-requires
load_device-requires c = record {
  pass = c.requires.pass;
  master = master_cells c.args.master.now.items c.args.slave.now.items c.joined-cells.result.items c.joined-cells.ensures c.requires.master;
  slave = slave_cells c.args.master.now.items c.args.slave.now.items c.joined-cells.result.items c.joined-cells.ensures c.requires.master c.requires.slave;
}

pub returns-in-Ok : goal.returns-in-Ok
unfolding by_chip
returns-in-Ok c =
    let numbers = numbers_back c.args.level c.args.moment in
    let told = pair-told numbers c.args.master.now.items c.args.slave.now.items c.requires.master c.in-Ok.pair (ap (hook_restored numbers) (sym c.joined-cells.ensures) ∙ sym c.load_device.ensures ∙ c.in-Ok.is) in
    sym (ap by_chip told)

pub returns-in-Err : goal.returns-in-Err
unfolding by_chip
returns-in-Err c =
    let numbers = numbers_back c.args.level c.args.moment in
    let told = fault-told numbers c.args.master.now.items c.args.slave.now.items c.requires.master c.in-Err.fault (ap (hook_restored numbers) (sym c.joined-cells.ensures) ∙ sym c.load_device.ensures ∙ c.in-Err.is) in
    rw (c.from.ensures, c.of_rule-fault.ensures) (sym (ap by_chip told))
