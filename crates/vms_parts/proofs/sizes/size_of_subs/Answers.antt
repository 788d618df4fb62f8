use Rattle.vms_parts.proofs.{Facade.sub_of, SizeLaws.sum_ends, SizeLaws.sum_goes}
use Rattle.vms_parts.proofs.Facade.{◌≡◌, ◌+◌, List, ℕ, map, refl, ap, ◌∙◌, arith, Field, Sub, in_u32, fields_size, subs_size, field_of}
use Rattle.vms_parts.proofs.sizes.size_of_subs.Goals as goal

pub loop-sub-preserved : goal.loop-sub-preserved
loop-sub-preserved c =
    let m = c.args.measure in
    let sizes = c.args.sizes.now in
    let s = c.sub-item.result in
    let whole : List Sub → ℕ = λ l. subs_size m sizes (map sub_of l) in
    let one : Sub → ℕ = λ x. fields_size m sizes (map field_of x.desc.fields) in
    let own : c.size_of_fields-own.result ≡ in_u32 (fields_size m sizes (map field_of s.desc.fields)) =
    c.size_of_fields-own.ensures ∙ ap (λ (l : List Field). in_u32 (fields_size m sizes (map field_of l))) c.as_slice.ensures in
    let has : c.saturating_add-sum.result ≡ in_u32 (c.loop-sub.sum + one s) = let sum = c.saturating_add-sum.ensures in omega (arith, sum, own) in
    record { small = c.saturating_add-sum.type_inv; whole = sum_goes whole one refl (λ x xs. refl) c.args.subs.now c.loop-sub.sub-index c.loop-sub.sum c.saturating_add-sum.result _ s c.loop-sub-test.true c.sub-item.is has c.loop-sub.invariant.whole }

pub returns : goal.returns
returns c =
    let m = c.args.measure in
    let sizes = c.args.sizes.now in
    let whole : List Sub → ℕ = λ l. subs_size m sizes (map sub_of l) in
    sum_ends whole (λ (x : Sub). fields_size m sizes (map field_of x.desc.fields)) refl (λ x xs. refl) c.args.subs.now c.loop-sub.sub-index c.loop-sub.sum _ c.loop-sub-test.false c.loop-sub.invariant.small c.loop-sub.invariant.whole
