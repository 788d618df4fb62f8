use Rattle.vms_values.proofs.Facade.{w128, rules, place_of}
use Rattle.std.proofs.lemmas.Int.{to_z-of_z}
use Rattle.vms_values.proofs.ReadLemmas.{is_bad, number_there, reason_there, number_held}
use Rattle.vms_values.proofs.taken.read_number_line.Goals as goal

pub put-requires : goal.put-requires
put-requires c = record {
  cell = c.requires.room;
  range = rw (to_z-of_z w128 c.in-Ok.number (search rules)) (rw c.requires.of_kind (number_held _ _ _ _ _ _ c.in-Ok.ensures));
}

pub returns-in-Ok : goal.returns-in-Ok
returns-in-Ok c = record {
  read = number_there _ _ _ c.args.run.first _ _ (place_of c.args.taken.now) _ _ _ _ _
      c.in-Some.ensures.first c.in-Some-number_text.ensures.0 c.in-Some-number_text.ensures.1 c.in-Ok.ensures (search rules) (search rules) (search rules);
  kept = search rules;
}

pub returns-in-Err : goal.returns-in-Err
returns-in-Err c = record {
  read = reason_there _ _ _ c.args.run.first _ _ (place_of c.args.taken.now) _ _ _ _ _ _
      c.in-Some.ensures.first c.in-Some-number_text.ensures.0 c.in-Some-number_text.ensures.1 c.in-Err.ensures (is_bad _ _ c.bad-in-Err.ensures);
  kept = search rules;
}
