use Rattle.vms_check.proofs.Facade.{◌+◌, ◌*◌, ◌<◌, refl, sym, ap, ◌∙◌, arith, rules, field_of, described, reach, desc_mismatch, ◌≡◌}
use Rattle.vms_check.proofs.Facade.{or_else, all_fields_on, table_on, desc_on, own_side, Side}
use Rattle.vms_check.proofs.WholeLaws.{desc_split, pair_passes, pair_stops, rule_fails, passes_whole, structs_are, uses_at}
use Rattle.vms_check.specs.Pairs.{validations_on}
use Rattle.vms_spec.specs.declared.Part.TheVariants as parts
use Rattle.vms_check.proofs.descs.+walk.Goals as goal

-- ---- the whole description

split : (s r : Side) → desc_mismatch s r ≡ or_else (all_fields_on s r) (validations_on s r)
split s r = desc_split (table_on s r) _ _ (desc_on s) (desc_on r) s.version r.version s.part r.part

pub compare_descs-returns-in-Some : goal.compare_descs-returns-in-Some
compare_descs-returns-in-Some t c = grind (arith, split)

pub compare_descs-returns : goal.compare_descs-returns
compare_descs-returns t c = grind (arith, split)

-- ---- its fields

pub compare_fields-returns-in-Some : goal.compare_fields-returns-in-Some
compare_fields-returns-in-Some t c =
    pair_stops c.args.old c.args.new _ _ _ _ _ _ _ c.in-Some-Some.ensures c.in-Some-Some.ensures' c.compare_pair.ensures c.in-Some.is c.loop-other.invariant

pub compare_fields-loop-other-preserved : goal.compare_fields-loop-other-preserved
compare_fields-loop-other-preserved t c =
    pair_passes c.args.old c.args.new _ _ _ _ _ _ c.in-Some-Some.ensures c.in-Some-Some.ensures' c.compare_pair.ensures c.in_default.is c.loop-other.invariant

-- ---- one pair

pub compare_pair-returns-in-Some : goal.compare_pair-returns-in-Some
compare_pair-returns-in-Some t c =
    rule_fails c.args.old c.args.new c.args.one c.args.other _ _ _ _ c.failing_rule.ensures c.in-Some.is c.in_field.ensures c.in_field-in-Some.ensures

pub compare_pair-compare_structs-requires : goal.compare_pair-compare_structs-requires
compare_pair-compare_structs-requires t c =
    let s = c.args.old in
    let r = c.args.new in
    let one = c.args.one in
    let other = c.args.other in
    let older =
    uses_at (described s.set.now) s.set.now.well_formed s.part c.requires.sides.old one.number c.requires.pair.one.inside
    (field_of one.field.now) c.requires.pair.one.is c.in-Struct-Struct.in_old c.in-Struct-Struct.is-0 in
    let newer =
    uses_at (described r.set.now) r.set.now.well_formed r.part c.requires.sides.new other.number c.requires.pair.other.inside
    (field_of other.field.now) c.requires.pair.other.is c.in-Struct-Struct.in_new c.in-Struct-Struct.is-1 in
    let low : c.in-Struct-Struct.in_new < reach (described r.set.now) r.part = newer.0 in
    let less : 4 * c.in-Struct-Struct.in_new + 4 < 4 * reach (described r.set.now) r.part + 1 = omega (arith, low) in
    (search rules, record { old = older.1; new = newer.1 })

pub compare_pair-returns-in_default-2-2 : goal.compare_pair-returns-in_default-2-2
compare_pair-returns-in_default-2-2 t c = grind (arith, passes_whole)

pub compare_structs-returns : goal.compare_structs-returns
compare_structs-returns t c =
    let old = described c.args.old.now in
    let new = described c.args.new.now in
    let s = c.at_own_version.result in
    let r = c.at_own_version-2.result in
    c.compare_descs.ensures ∙ ap (λ (x : Side). desc_mismatch x r) c.at_own_version.ensures
    ∙ ap (λ (x : Side). desc_mismatch (own_side c.args.old (parts.Struct c.args.in_old)) x) c.at_own_version-2.ensures
    ∙ sym (structs_are old new c.args.new.now.well_formed c.args.in_old c.args.in_new _ _ c.requires.new refl refl)
