use Rattle.vms_counter.proofs.Facade
use Facade.{List, ℕ, rules, Err, ap, subst, Fault, well_of, Supply, bytes_left, IsBytes, never_both_holds, content, loads, kept, taken_by}
use Rattle.vms_counter.proofs.trying.refusal_in.Goals as goal

pub returns-in-Err-Refused : goal.returns-in-Err-Refused
returns-in-Err-Refused c =
    let source = c.new-source.result in
    let ok = subst IsBytes (ap (λ (s : Supply). s.left) c.new-source.ensures) (bytes_left source.bytes.items source.at source.octets) in
    let set = loads c.args.new.now in
    let bytes = c.args.bytes.items in
    let r = c.in-Err-Refused.refusal in
    let said = content set set.machines (kept c.load.new.self) (taken_by c.load.new.self) (Err c.in-Err-Refused.field-0) c.in-Err-Refused.ensures.reads in
    let content = rw c.in-Err-Refused.field-0-is at said in
    let fault =
    subst (λ (l : List ℕ). Fault set set.machines l r.at r.section r.reason content.0) (ap (λ (s : Supply). s.left) c.new-source.ensures) content.1 in
    record {
      refused = record {
        size = content.0;
        fault = fault;
        untaken = λ n machine states t.
            never_both_holds set set.machines
            (well_of set c.args.new.now.lean.set.well_formed) c.args.new.now.lean.set.heads bytes ok n machine states r.at r.section r.reason content.0 t fault;
      };
      taken = λ none. absurd (cc);
      set = c.in-Err-Refused.ensures.set;
    }

pub returns-in-Ok : goal.returns-in-Ok
returns-in-Ok c = search (rules, content)
