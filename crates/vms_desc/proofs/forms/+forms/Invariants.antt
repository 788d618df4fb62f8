use Rattle.vms_desc.proofs.Facade.{◌+◌, ◌*◌, length, map, drop, fields_forms, structs_forms, field_of}
use Rattle.vms_desc.proofs.FormLaws.{Left}
use Rattle.vms_desc.proofs.forms.+forms.Given as goal

abbrev pub decreases-put_element : goal.decreases-put_element
decreases-put_element l = 3 * length l.structs.now

abbrev pub decreases-put_field : goal.decreases-put_field
decreases-put_field l = 3 * length l.structs.now + 1

abbrev pub decreases-put_fields : goal.decreases-put_fields
decreases-put_fields l = 3 * length l.structs.now + 2

abbrev pub invariant-put_fields-loop-field : goal.invariant-put_fields-loop-field
invariant-put_fields-loop-field l =
    let ts = structs_forms l.structs in
    Left l.initial.forms l.forms (fields_forms ts (map field_of (drop l.field-index l.fields))) (fields_forms ts (map field_of l.fields))
