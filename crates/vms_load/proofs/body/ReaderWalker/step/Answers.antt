use Rattle.vms_load.proofs.Facade.{rules}
use Rattle.vms_load.proofs.{Facade.intake, Facade.Told, Facade.told, RunReads.step_fills, body.ReaderWalker.step.Given.Over}
use Rattle.vms_load.proofs.body.ReaderWalker.step.Goals.{Start, After-read_step}
use Rattle.vms_load.proofs.body.ReaderWalker.step.Goals as goal

-- what is known before the step and after it
abbrev old : (g : Over) (c : goal.Start g) → Told
old g c = let self = c.args.self.now in told self.image.now self.cursor.now.at (intake g.S.Source self.source.now)

abbrev new : (g : Over) (c : goal.After-read_step g) → Told
new g c = told c.read_step.new.image c.read_step.new.cursor.at (intake g.S.Source c.read_step.new.source)

pub read_step-requires : goal.read_step-requires
read_step-requires g c = search rules

pub returns : goal.returns
returns g c = search (rules, step_fills)
