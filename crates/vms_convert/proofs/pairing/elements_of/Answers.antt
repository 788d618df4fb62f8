use Rattle.vms_convert.proofs.Facade.{length, ap, arith, length-map, capacity_of, Field, field_of, found_field, desc_on, Elements}
use Rattle.vms_convert.proofs.pairing.elements_of.Goals as goal

pub bounds-fields_of-number : goal.bounds-fields_of-number
bounds-fields_of-number c = omega (arith, length-map c.fields_of.result.now field_of, ap length c.fields_of.ensures)

abbrev elements : Field → Elements
elements f = record { item = f.item; count = capacity_of f.count }

pub returns : goal.returns
returns c =
    let is =
    found_field c.fields_of.result.now (desc_on c.args.side).fields c.args.number _ c.fields_of.ensures c.requires.field c.index-fields_of-number.is in
    rw (c.capacity.ensures) (ap elements is)
