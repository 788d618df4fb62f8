use Rattle.vms_load.proofs.{Facade.refl, Facade.intake, Facade.told, BodyLemmas.rule_fills, RunReads.on_any}
use Rattle.vms_load.proofs.body.ReaderWalker.rules.Goals as goal

pub returns : goal.returns
returns g c =
    let a = c.args.self.now in
    let e = c.rule.ensures in (
      refl,
      refl,
      refl,
      rule_fills (told a.image.now a.cursor.now.at (intake g.S.Source a.source.now)) c.holds_rules-holds.ensures c.rule.result
          (g.met.S.Source.counted a.source.now) e.ok e.err,
      λ free. on_any c.rule.result free,
    )
