use Rattle.vms_cli.proofs.kinds.load.Goals as goal

pub returns-in-Isa : goal.returns-in-Isa
returns-in-Isa g c = rw c.in-Isa.is c.load_board.ensures

pub returns-in-Clock : goal.returns-in-Clock
returns-in-Clock g c = rw c.in-Clock.is c.load_board-in-Clock.ensures
