use Rattle.vms_check.proofs.Facade.{◌≡◌, ℕ, ◌≤◌, nat_le, true, sym, ap, ◌∙◌, arith, nat_tests, absent_hold, desc_on}
use Rattle.vms_check.proofs.CapacityLaws.{room_some}
use Rattle.vms_check.proofs.pairs.absent_arrays_hold.Goals as goal

pub returns-then-most-from : goal.returns-then-most-from
returns-then-most-from c =
    let few : c.bound-most.result ≤ c.in-Some.capacity = omega (arith, c.if-most-from.true, c.from.ensures) in
    let holds : nat_le c.bound-most.result c.from.result ≡ true = grind (arith, nat_tests, c.if-most-from.true) in
    let fields = (desc_on c.args.new).fields in
    holds ∙ room_some fields c.args.new.version c.args.other.number c.bound-most.result c.in-Some.capacity (sym c.in-Some.is ∙ c.most.ensures) few
    ∙ ap (λ (n : ℕ). absent_hold c.args.new.version c.args.other.number n fields) c.bound-most.ensures
