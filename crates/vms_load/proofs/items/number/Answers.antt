use Rattle.vms_load.proofs.Facade.{arith, w128, rules, SFits, ◌≡◌, false, to_z-of_z, exceeds, capacities_of}
use Rattle.vms_load.proofs.{ReadLemmas.err_is, BodyLemmas.reads_capped, BodyLemmas.reads_large, BodyLemmas.reads_no_number}
use Rattle.vms_load.proofs.items.number.Goals as goal

pub returns-in_err-value : goal.returns-in_err-value
returns-in_err-value g c = search (rules, err_is, reads_no_number)

pub returns-then-is_above : goal.returns-then-is_above
returns-then-is_above g c = search (arith, reads_large)

pub returns : goal.returns
returns g c =
    let f : SFits w128 c.in_ok-value.value = search rules in
    let few : exceeds (capacities_of c.args.most) c.in_ok-value.value ≡ false = search rules in
    record {
      reads = rw (to_z-of_z w128 c.in_ok-value.value f) (reads_capped c.args.kind c.args.cursor.now.at (capacities_of c.args.most) c.in_ok-value.value few c.in_ok-value.ensures.reads);
      range = search rules;
      place = search rules;
      held = search rules;
    }
