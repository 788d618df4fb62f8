use Rattle.vms_cli.proofs.kinds.save.Goals as goal

pub returns-in-Isa : goal.returns-in-Isa
returns-in-Isa g c = rw c.in-Isa.is c.save_board.ensures

pub returns-in-Clock : goal.returns-in-Clock
returns-in-Clock g c = rw c.in-Clock.is c.save_board-in-Clock.ensures
