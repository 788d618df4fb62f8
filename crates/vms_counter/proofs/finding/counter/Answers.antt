use Rattle.vms_counter.proofs.Facade.{sym, ap, ◌∙◌, Set, first_mismatch, described, Agree}
use Rattle.vms_counter.proofs.FoundLemmas.{accepted_none}
use Rattle.vms_counter.proofs.finding.counter.Goals as goal

pub returns-in-Accepted-clause-found : goal.returns-in-Accepted-clause-found
returns-in-Accepted-clause-found c =
    Agree (ap (λ (s : Set). first_mismatch (described c.args.old.now) s) (sym c.set.ensures) ∙ accepted_none
    (first_mismatch (described c.args.old.now) (described c.set.result.now)) c.in-Accepted.ensures)
