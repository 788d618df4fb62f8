use Rattle.vms_cli.proofs.Facade.{IsRefused, FailsReading, FailsWriting}
use Rattle.vms_cli.specs.Commands.AnalyzeCommand.{LacksMemory}
use Rattle.vms_cli.proofs.commands.analyze.fault_ending.Goals as goal

pub returns-in-Refused : goal.returns-in-Refused
returns-in-Refused c = rw c.in-Refused.is (IsRefused c.in-Refused.at c.in-Refused.reason c.unlisted_line.result c.unlisted_line.ensures)

pub returns-in-ReadFault : goal.returns-in-ReadFault
returns-in-ReadFault c = rw c.in-ReadFault.is FailsReading

pub returns-in-WriteFault : goal.returns-in-WriteFault
returns-in-WriteFault c = rw c.in-WriteFault.is FailsWriting

pub returns-in-NoMemory : goal.returns-in-NoMemory
returns-in-NoMemory c = rw c.in-NoMemory.is LacksMemory
