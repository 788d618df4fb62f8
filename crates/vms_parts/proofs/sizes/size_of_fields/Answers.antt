use Rattle.vms_parts.proofs.Facade.{ℕ, List, map, refl, ◌*◌, capacity_of, Field, size_of, fields_size, field_of}
use Rattle.vms_parts.proofs.SizeLaws.{sum_ends}
use Rattle.vms_parts.proofs.sizes.size_of_fields.Goals as goal

pub returns : goal.returns
returns c =
    let m = c.args.measure in
    let sizes = c.args.sizes.now in
    let whole : List Field → ℕ = λ l. fields_size m sizes (map field_of l) in
    sum_ends whole (λ (f : Field). capacity_of f.count * size_of m sizes f.item) refl (λ x xs. refl) c.args.fields.now c.loop-field.field-index c.loop-field.sum _ c.loop-field-test.false c.loop-field.invariant.small c.loop-field.invariant.whole
