use Rattle.vms_selfdesc.proofs.{Facade.drop, Facade.described, Facade.desc_at, Facade.own_numbers, OfElements.AreFieldsAlike}
use Rattle.vms_selfdesc.proofs.alike.are_fields_alike.Given as goal

-- if the fields that are left are alike, all are
abbrev pub invariant-loop-field : goal.invariant-loop-field
invariant-loop-field l =
    let set = described l.pair.set.now in
    let d = desc_at set l.part in
    let own = own_numbers set l.part l.pair.first.now.numbers l.base in
    let other = own_numbers set l.part l.pair.second.now.numbers l.base in
    AreFieldsAlike d.version own other (drop l.field d.fields) → AreFieldsAlike d.version own other d.fields
