use Rattle.vms_desc.proofs.FormLaws.{are_both}
use Rattle.vms_desc.proofs.forms.device_cells.Goals as goal

pub returns : goal.returns
returns c =
    let put = c.in_ok-put_fields.ensures in
    let both = are_both c.in_ok-with_capacity.field-0.items c.in_ok-with_capacity-2.field-0.items c.put_fields.new.forms c.put_subs.new.forms _ _ c.in_ok-with_capacity.ensures.items c.in_ok-with_capacity-2.ensures.items
    put.kinds put.defaults c.in_ok-put_subs.ensures in
    rw (c.as_slice-fields.ensures, c.as_slice-subs.ensures) at both
