use Rattle.vms_desc.proofs.EvalLaws.{number_there}
use Rattle.vms_desc.proofs.Facade.{◌≡◌, sym, ap, rules, ◌∙◌, arith, length, ℕ, get_or, map, ◌+◌, ◌<◌, min, to_z-of_z, length-map, w128}
use Rattle.vms_desc.proofs.Facade.{SFits, kind_of, no_field, field_of, get_map_at, place_in, Scope}
use Rattle.vms_parts.specs.declared.types.Field.{Field}
use Rattle.vms_spec.specs.Sets as sets
use Rattle.vms_desc.proofs.eval.number_at.Goals as goal

-- the first cell of a field, in the code's form
place_code : (s : Scope) (k : ℕ) → k < length s.fields.now → s.base + get_or s.starts.now k 0 ≡ place_in s.starts.now (map field_of s.fields.now) s.base k
place_code s k lt =
    let same : k ≡ min k (length (map field_of s.fields.now)) = omega (arith, length-map s.fields.now field_of) in
    ap (λ (x : ℕ). s.base + get_or s.starts.now x 0) same

pub overflow_add-cell : goal.overflow_add-cell
overflow_add-cell g c =
    let there = (number_there c.args.scope.now.fields.now c.args.field c.requires.asked).0 in
    omega (arith, place_code c.args.scope.now c.args.field there, c.requires.inside.cells c.args.field c.requires.asked, c.requires.few)

pub bounds-scope-field : goal.bounds-scope-field
bounds-scope-field g c =
    omega (arith, (number_there c.args.scope.now.fields.now c.args.field c.requires.asked).0, c.requires.inside.starts, length-map c.args.scope.now.fields.now field_of)

pub bounds-scope-field-2 : goal.bounds-scope-field-2
bounds-scope-field-2 g c = (number_there c.args.scope.now.fields.now c.args.field c.requires.asked).0

pub kind_of-requires : goal.kind_of-requires
kind_of-requires g c = (number_there c.args.scope.now.fields.now c.args.field c.requires.asked).1 c.index-scope-field.result

pub number-requires : goal.number-requires
number-requires g c =
    let there = (number_there c.args.scope.now.fields.now c.args.field c.requires.asked).0 in
    omega (arith, place_code c.args.scope.now c.args.field there, c.requires.inside.cells c.args.field c.requires.asked)

pub returns : goal.returns
returns g c =
    let s = c.args.scope.now in
    let there = (number_there s.fields.now c.args.field c.requires.asked).0 in
    let fits : SFits w128 c.number.result = search rules in
    let field = get_map_at field_of s.fields.now c.args.field c.index-scope-field.result no_field there c.index-scope-field.is in
    let kind : c.kind_of.result ≡ kind_of (get_or (map field_of s.fields.now) c.args.field no_field).item =
    c.kind_of.ensures ∙ ap (λ (f : Field). kind_of f.item) (sym c.index-scope-field.is) ∙ ap (λ (f : sets.Field). kind_of f.item) (sym field) in
    c.unsigned.ensures ∙ rw (to_z-of_z w128 c.number.result fits, c.number.ensures, kind, place_code s c.args.field there)
