use Rattle.std.proofs.Common.{rules}
use Rattle.vms_rules.proofs.Facade.{◌≡◌, ◌+◌, ◌≤◌, ℕ, map, ap, arith, first, deepest, field_of}
use Rattle.vms_rules.proofs.WalkLaws.{deepest_small, depths_more, depths_small, none_small}
use Rattle.vms_rules.proofs.structs.struct_depths.Goals as goal

pub loop-desc-init : goal.loop-desc-init
unfolding first
loop-desc-init c = search (rules, none_small)

pub overflow_add-deepest : goal.overflow_add-deepest
overflow_add-deepest c = search (rules, deepest_small)

pub loop-desc-preserved : goal.loop-desc-preserved
loop-desc-preserved c =
    let depths = c.loop-desc.depths.items in
    let d = c.desc-item.result in
    let i = c.loop-desc.desc-index in
    let is : c.deepest.result ≡ deepest depths (map field_of d.fields) = cc (c.deepest.ensures, c.deref.ensures.value, c.as_slice.ensures) in
    let small : deepest depths (map field_of d.fields) ≤ i = deepest_small depths i (map field_of d.fields) c.loop-desc.invariant.small in
    record {
      depths = cc (c.in_ok-push.ensures.items, depths_more c.args.structs.now depths i (1 + c.deepest.result) d c.loop-desc-test.true c.desc-item.is c.loop-desc.invariant.depths (ap (λ (n : ℕ). 1 + n) is));
      small = λ j. rw c.in_ok-push.ensures.items (depths_small depths i (1 + c.deepest.result) j c.loop-desc.invariant.small (omega arith));
    }
