use Rattle.std.proofs.Common.{rules}
use Rattle.vms_board_commands.proofs.Facade.{err_from_is_err_and, first_err, then_as}
use Rattle.vms_board_commands.proofs.ScriptCommands.{had_events, read_asks, unfetched_asks}
use Rattle.vms_board_commands.proofs.scripts.events_of.Goals as goal

pub returns-clause-read : goal.returns-clause-read
returns-clause-read g c = search (rules, then_as)

pub returns-clause-good : goal.returns-clause-good
returns-clause-good g c = had_events _ _ _ c.read_events.ensures c.had.ensures.same

pub returns-in_err-text-clause-read : goal.returns-in_err-text-clause-read
returns-in_err-text-clause-read g c = search (rules, err_from_is_err_and, first_err)

pub returns-clause-asks : goal.returns-clause-asks
returns-clause-asks g c = read_asks _ c.in_ok-text.ensures.asks.looks c.had.ensures.ends

pub returns-in_err-text-clause-asks : goal.returns-in_err-text-clause-asks
returns-in_err-text-clause-asks g c = unfetched_asks _ c.from_residual.ensures.1 c.in_err-text.ensures.asks
