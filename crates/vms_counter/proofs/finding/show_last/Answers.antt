use Rattle.vms_counter.proofs.Facade.{Some, None, described, loads}
use Rattle.vms_counter.proofs.FoundLemmas.{neither_found, second_found, tries_by}
use Rattle.vms_counter.proofs.finding.show_last.Goals as goal

pub returns-in-Some : goal.returns-in-Some
returns-in-Some c =
    let t = c.requires.failed.shared in
    record {
      right = record {
        counters = rw t.name (second_found (described c.args.trial.now.old.now) (loads c.args.new.now) _ t.first _ _ c.requires.failed.first c.requires.second
            (tries_by _ _ _ _ c.deref.result.now c.args.images.items _ (Some _) t.name c.deref.ensures.value c.in-Some.is c.in_ok-refusal.ensures.tries));
        of = (t.inside, c.requires.of);
      };
      set = c.in_ok-refusal.ensures.set;
    }

pub returns-in-None : goal.returns-in-None
returns-in-None c =
    let t = c.requires.failed.shared in
    record {
      right = record {
        counters = neither_found (described c.args.trial.now.old.now)
            (loads c.args.new.now) c.args.trial.now.mismatch t.first _ c.requires.failed.first c.requires.second
            (tries_by _ _ _ _ c.deref.result.now c.args.images.items _ None t.name c.deref.ensures.value c.in-None.is c.in_ok-refusal.ensures.tries);
        of = tt;
      };
      set = c.in_ok-refusal.ensures.set;
    }
