use Rattle.vms_desc.proofs.{Facade.arith, FormLaws.repeats_more, FormLaws.repeated_room, forms.repeat.Given.Over, forms.repeat.Goals.After-min-more}
use Rattle.vms_desc.proofs.Facade.{rules, ◌≡◌, ◌+◌, ◌-◌, ◌*◌, ◌≤◌, ℕ, List, length, length-drop, length-take-le, take, drop, sym}
use Rattle.vms_desc.proofs.forms.repeat.Goals as goal

-- the lengths of the front and of the repeated part
at_place : {X : Type 0} (old : List X) (len start : ℕ) → len ≡ length old → start ≤ length old
    → (start ≡ length (take start old)) × (len - start ≡ length (drop start old))
at_place old len start all within = (sym (length-take-le start old within), omega (arith, length-drop start old))

-- the copied elements exist
room : (g : Over) (c : After-min-more g) → c.args.start + (c.len.result - c.args.start) * c.min-more.result ≤ length c.loop-done.list.items
room g c =
    let old = c.args.list.now.items in
    let at = at_place old c.len.result c.args.start (search rules) c.requires.within in
    repeated_room (drop c.args.start old) (take c.args.start old) c.loop-done.list.items c.loop-done.done c.min-more.result c.args.start
    (c.len.result - c.args.start) at.0 at.1 c.loop-done.invariant.items (search rules)

pub overflow_mul-size : goal.overflow_mul-size
overflow_mul-size g c =
    let low : (c.len.result - c.args.start) * c.min-more.result ≤ length c.loop-done.list.items =
    omega (arith, room g (goal.at.overflow_mul-size g c).After-min-more) in
    search (rules, low)

pub overflow_add-start : goal.overflow_add-start
overflow_add-start g c = search (rules, room g (goal.at.overflow_add-start g c).After-min-more)

pub append_again-requires-clause-within : goal.append_again-requires-clause-within
append_again-requires-clause-within g c = search (rules, room g (goal.at.append_again-requires-clause-within g c).After-min-more)

pub loop-done-preserved : goal.loop-done-preserved
loop-done-preserved g c = search (rules, at_place, repeats_more)
