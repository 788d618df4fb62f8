use Rattle.vms_desc.proofs.Facade.{◌≡◌, ◌+◌, ◌*◌, ◌≤◌, ℕ, Some, take, arith, slice_get, MOST_ITEMS, Cells, size_of, fields_size, field_of}
use Rattle.vms_desc.proofs.{Facade.desc_of, Facade.Placed, path.element_at.Goals.After-size_of_fields-before}
use Rattle.vms_desc.proofs.PathLaws.{at_there, element_fits, element_is, before_fits}
use Rattle.vms_parts.specs.declared.types.Field.{Field}
use Rattle.vms_desc.proofs.path.element_at.Goals as goal

-- what is known about the element of a step
record Found (p : Placed) (step : ℕ × ℕ) (field : Field) (before size : ℕ) : Type 0 where
  pub there : slice_get (desc_of p.desc.now).fields step.0 ≡ Some (field_of field)
  pub before_is : before ≡ fields_size Cells p.sizes.now (take step.0 (desc_of p.desc.now).fields)
  pub size_is : size ≡ size_of Cells p.sizes.now field.item
  pub few : p.base + before + step.1 * size ≤ MOST_ITEMS

found : (c : After-size_of_fields-before) → Found c.args.placed c.args.step c.in_ok-field.field.now c.size_of_fields-before.result c.item_size-size.result
found c =
    let p = c.args.placed in
    let i = c.args.step.0 in
    let field = c.in_ok-field.field.now in
    let there : slice_get (desc_of p.desc.now).fields i ≡ Some (field_of field) =
    rw (← c.as_slice-fields.ensures) (at_there field_of c.as_slice-fields.result.now i field c.in_ok-field.ensures.lookup.3.0 c.in_ok-field.ensures.lookup.1) in
    let before =
    before_fits p.sizes.now p.desc.now.fields p.base i c.size_of_fields-before.result c.requires
    (rw c.as_slice-fields.ensures at c.size_of_fields-before.ensures) in
    let fits =
    element_fits p.sizes.now (desc_of p.desc.now).fields p.base i c.args.step.1 (field_of field) there (omega (arith, c.capacity.ensures)) c.requires in
    record { there = there; before_is = before; size_is = c.item_size-size.ensures; few = rw c.item_size-size.ensures (omega (arith, fits, before)) }

pub overflow_add-result : goal.overflow_add-result
overflow_add-result c = omega (arith, (found (goal.at.overflow_add-result c).After-size_of_fields-before).few)

pub overflow_mul-result : goal.overflow_mul-result
overflow_mul-result c = omega (arith, (found (goal.at.overflow_mul-result c).After-size_of_fields-before).few)

pub overflow_add-result-2 : goal.overflow_add-result-2
overflow_add-result-2 c = omega (arith, (found (goal.at.overflow_add-result-2 c).After-size_of_fields-before).few)

pub returns : goal.returns
returns c =
    let f = found (goal.at.returns c).After-size_of_fields-before in
    let p = c.args.placed in
    element_is p.sizes.now (desc_of p.desc.now) p.base _ c.args.step (field_of c.in_ok-field.field.now) f.there (omega (arith, c.capacity.ensures))
    (rw f.size_is (omega (arith, f.before_is)))
