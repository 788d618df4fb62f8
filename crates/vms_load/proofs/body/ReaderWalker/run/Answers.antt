use Rattle.vms_load.proofs.ReadLemmas.{err_is}
use Rattle.vms_load.proofs.Facade.{rules, ◌≡◌, ◌*◌, ◌/◌, ◌<◌, ◌≤◌, [], take, drop, None, refl, sym, ap, ◌∙◌, arith}
use Rattle.vms_load.proofs.Facade.{intake, takes_as, width, run_each, IsOfKind, fills_none}
use Rattle.vms_load.proofs.RunReads.{run_first, took_run, failed_run, cut_run, all_came, part_came}
use Rattle.vms_walk.specs.declared.step.WalkStep.TheVariants.{Number}
use Rattle.vms_load.proofs.body.ReaderWalker.run.Goals as goal

pub codes-requires-clause-place : goal.codes-requires-clause-place
codes-requires-clause-place g c =
    let a = c.args.self.now in
    let start = run_first c.args.first c.args.count c.args.kind c.requires.some in
    (c.requires.may [] [] start.0 (Number c.args.first c.args.kind None) a (refl, refl, refl, fills_none _ (g.met.S.Source.counted a.source.now), λ e. e) start.1).0

pub codes-requires-clause-held : goal.codes-requires-clause-held
codes-requires-clause-held g c =
    let a = c.args.self.now in
    let start = run_first c.args.first c.args.count c.args.kind c.requires.some in
    (c.requires.may [] [] start.0 (Number c.args.first c.args.kind None) a (refl, refl, refl, fills_none _ (g.met.S.Source.counted a.source.now), λ e. e) start.1).1

pub put_codes-requires-clause-one : goal.put_codes-requires-clause-one
put_codes-requires-clause-one g c = λ k from below.
    let a = c.args.self.now in
    let most : c.in_ok-came.came / c.width-width.result ≤ c.args.count = search rules in
    run_each (IsOfKind a.image.now.kinds) c.args.first c.args.count c.args.kind
    (λ ys rest x e. (c.requires.may [] ys rest x a (refl, refl, refl, fills_none _ (g.met.S.Source.counted a.source.now), λ e. e) e).2) k from (omega arith)

pub returns-in_err-came : goal.returns-in_err-came
returns-in_err-came g c =
    let a = c.args.self.now in
    let wide : c.args.count * c.width-width.result ≡ c.args.count * width c.args.kind = rw (c.width-width.ensures) in
    rw (err_is _ _ c.from_residual.ensures.1, c.in_err-came.ensures.failed.0)
    (refl, refl, refl, failed_run (intake g.S.Source a.source.now) (intake g.S.Source c.codes.new.source) a.image.now c.args.first c.args.count a.cursor.now.at c.args.kind c.requires.number _ _ c.in_err-came.ensures.failed.1 (search (rules, wide)), λ e. tt)

pub returns : goal.returns
returns g c =
    let a = c.args.self.now in
    let n = c.in_ok-came.came in
    let whole = ap (λ k. n / k) c.width-width.ensures in
    let all = all_came c.args.kind c.args.count n c.codes.new.buf ((search rules) ∙ ap (λ k. c.args.count * k) c.width-width.ensures) (search rules)
    (omega arith) in (
      refl,
      refl,
      refl,
      took_run (intake g.S.Source a.source.now)
          (intake g.S.Source c.codes.new.source) a.image.now c.args.first c.args.count a.cursor.now.at c.args.kind c.requires.number _ _ (take n c.codes.new.buf)
          (cc (c.put_codes.ensures)) (cc (c.in_ok-came.ensures.place)) c.in_ok-came.ensures.came all.long,
      λ e. c.in_ok-came.ensures.held,
    )

pub returns-then-whole-count : goal.returns-then-whole-count
returns-then-whole-count g c =
    let a = c.args.self.now in
    let n = c.in_ok-came.came in
    let buf = c.codes.new.buf in
    let each = ap (λ k. n / k) c.width-width.ensures in
    let lt : n / width c.args.kind < c.args.count = omega arith in
    let part = part_came c.args.kind c.args.count n buf ((search rules) ∙ ap (λ k. c.args.count * k) c.width-width.ensures) (search rules) lt in
    let long = n / width c.args.kind * width c.args.kind in (
      refl,
      refl,
      refl,
      cut_run (intake g.S.Source a.source.now)
          (intake g.S.Source c.codes.new.source) a.image.now c.args.first c.args.count a.cursor.now.at c.args.kind c.requires.number _ (take long buf)
          (drop long (take n buf))
          (takes_as (sym part.parts) c.in_ok-came.ensures.came) (c.in_ok-came.ensures.end (search (rules, part.short))) part.long part.cut lt part.fewer _ _ _
          (cc (c.put_codes.ensures)) c.in_ok-came.ensures.place (cc (c.at.ensures, c.in_ok-came.ensures.place)),
      λ e. tt,
    )
