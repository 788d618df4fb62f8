use Rattle.vms_counter.proofs.Facade.{Some, map, described, state_of, loads}
use Rattle.vms_counter.proofs.FoundLemmas.{first_found, tries_by}
use Rattle.vms_counter.proofs.finding.show_first.Goals as goal

pub returns-in-Some : goal.returns-in-Some
returns-in-Some c =
    let old = described c.args.trial.now.old.now in
    let new = loads c.args.new.now in
    let images = map state_of c.in_ok-images.images.items in
    let r = c.in-Some.refusal in
    let named = c.requires.name in
    record {
      right = record {
        counters = rw named (first_found old new c.args.trial.now.mismatch c.requires.first images r c.in_ok-images.ensures.states
            (tries_by old new _ _ c.deref.result.now _ _ (Some r) named c.deref.ensures.value c.in-Some.is c.in_ok-refusal.ensures.tries));
        of = (c.requires.inside, c.in_ok-images.ensures.of);
      };
      set = c.in_ok-refusal.ensures.set;
    }
