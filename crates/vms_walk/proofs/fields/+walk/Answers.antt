use Rattle.vms_walk.proofs.Facade
use Facade.{HasSpot, MayCome, rules, arith, refl, sym, ap, subst, ◌∙◌, ◌≡◌, ℕ, ℤ, ◌+◌, ◌*◌, ◌<◌, List, [], ◌∷◌, ◌++◌}
use Facade.{length, ltb-true, Ok, Struct, item_slots, SameBelow, IsAbove, items_above, meanings_above, field_at, described, desc_at, found_field, good_of}
use Facade.{steps_of, table, cell_of, spot_slots, slots_at, size_in, elements_slots, present_of, spot_numbers}
use Rattle.vms_walk.proofs.Going.{Walked, Past, element_among, field_among, field_slots_are, rule_done, rule_may, same_rule}
use Rattle.vms_walk.proofs.Spots.{run_steps, steps_at, Next, next_field, field_needs, size_code, start_code, struct_spot, struct_size, holds_is}
use Rattle.vms_walk.proofs.Walking.{went_on, stopped_at, may_come, room_at, least_again, keeps_below, keeps_first}
use Rattle.vms_walk.proofs.fields.{+walk.Given.Over, +walk.Goals.walk_field-After-walk_row-arg-1, +walk.Goals.walk_struct-After-walk-arg-1}
use Rattle.vms_walk.proofs.fields.+walk.Goals.{walk_items-After-walk_item-arg-1, walk-After-rules-arg-1, walk-After-walk_field-arg-1}
use Rattle.vms_parts.specs.Views.{field_of}
use Rattle.vms_spec.specs.declared.Part.TheVariants as parts
use Rattle.vms_walk.specs.declared.step.WalkStep.TheVariants as steps
use Rattle.vms_walk.proofs.fields.+walk.Goals as goal

-- ---- items

-- the elements before this one are done
walked : (g : Over) (t : ℕ) (c : goal.walk_items-After-walk_item-arg-1 g t)
    → Walked g.W.Cells.numbers g.W.Walker.does (described c.args.set.now) c.args.row.item.now c.args.row.most
    c.args.row.first c.loop-turn._turn c.loop-turn.cell c.args.walker.now c.loop-turn.walker
walked g t c = record { good = good_of _ c.args.set.now.well_formed c.args.set.now.heads; here = c.loop-turn.invariant.here; way = c.loop-turn.invariant.way }

pub walk_items-loop-turn-preserved : goal.walk_items-loop-turn-preserved
walk_items-loop-turn-preserved g t c =
    let laws = g.met.W.Walker.laws in
    let set = described c.args.set.now in
    let item = c.args.row.item.now in
    let i = c.loop-turn._turn in
    let size : size_in set item ≡ c.item_cells-size.result = sym (size_code set item c.item_cells-size.result c.item_cells-size.ensures c.requires.small) in
    let one : (i + 1) * size_in set item ≡ i * size_in set item + size_in set item = grind arith in
    record {
      way = went_on laws (element_among (walked g t (goal.at.walk_items-loop-turn-preserved g t c).After-walk_item-arg-1) c.args.row.count (omega arith))
          c.walk_item.new.walker (Ok tt) c.in_ok-walk_item.ensures;
      long = (laws.keeps _ _ c.walk_item.new.walker (Ok tt) c.in_ok-walk_item.ensures).long ∙ c.loop-turn.invariant.long;
      here = omega arith;
    }

pub walk_items-returns-in_err-walk_item : goal.walk_items-returns-in_err-walk_item
walk_items-returns-in_err-walk_item g t c =
    let here = (goal.at.walk_items-returns-in_err-walk_item g t c).After-walk_item-arg-1 in
    stopped_at g.met.W.Walker.laws (element_among (walked g t here) c.args.row.count (omega arith)) c.walk_item.new.walker
    c.in_err-walk_item.field-0.0 c.from_residual.result c.from_residual.ensures.1 c.in_err-walk_item.ensures

pub walk_items-walk_item-requires : goal.walk_items-walk_item-requires
walk_items-walk_item-requires g t c =
    let set = described c.args.set.now in
    let inv = c.loop-turn.invariant in
    let room = room_at _ _ _ _ _ _ (omega arith) inv.here c.requires.room in
    let may = may_come g.met.W.Walker.laws (element_among (walked g t c) c.args.row.count (omega arith)) g.W.Walker.may c.requires.may in
    λ κs h. (search rules, (search rules, (search rules, record { reaches = c.requires.reaches; may = may; room = rw inv.long room; few = rw inv.long c.requires.few })))

pub walk_items-overflow_add-cell : goal.walk_items-overflow_add-cell
walk_items-overflow_add-cell g t c =
    let inv = c.loop-turn.invariant in
    let room = room_at _ _ _ _ _ _ (omega arith) inv.here c.requires.room in
    omega (arith, size_code (described c.args.set.now) c.args.row.item.now c.item_cells-size.result c.item_cells-size.ensures c.requires.small)

-- numbers that count nothing

pub walk_items-walk_run-requires : goal.walk_items-walk_run-requires
walk_items-walk_run-requires g t c =
    let row = c.args.row in
    let free = c.in-Some.ensures in
    record {
      number = free.any;
      room = search rules;
      few = c.requires.few;
      may = λ xs ys rest x b h e. c.requires.may xs ys rest x b h
          (run_steps (described c.args.set.now) row.item.now row.most c.in-Some.kind free.number free.free (g.W.Cells.numbers b) row.first row.count ∙ e);
    }

pub walk_items-returns-in-Some : goal.walk_items-returns-in-Some
walk_items-returns-in-Some g t c =
    let row = c.args.row in
    let free = c.in-Some.ensures in
    let is = run_steps (described c.args.set.now) _ _ _ free.number free.free
    (g.W.Cells.numbers c.walk_run.new.walker) row.first row.count in
    subst (λ l. g.W.Walker.does l c.args.walker.now c.walk_run.result c.walk_run.new.walker) (sym is) c.walk_run.ensures

-- ---- a row

pub walk_row-walk_item-requires : goal.walk_row-walk_item-requires
walk_row-walk_item-requires g t c = search rules

pub walk_row-returns : goal.walk_row-returns
walk_row-returns g t c = search rules

-- ---- one field

-- the field that the code has is that of the set
field_is : (g : Over) (t : ℕ) (c : goal.walk_field-After-walk_row-arg-1 g t)
    → field_of c.index-as_slice-field.result ≡ field_at (described c.args.set.now) c.args.here.spot.part c.args.field
field_is g t c = grind (arith, found_field)

item_is : (g : Over) (t : ℕ) (c : goal.walk_field-After-walk_row-arg-1 g t)
    → c.index-as_slice-field.result.item ≡ (field_at (described c.args.set.now) c.args.here.spot.part c.args.field).item
item_is g t c = ap (λ x. x.item) (field_is g t c)

count_is : (g : Over) (t : ℕ) (c : goal.walk_field-After-walk_row-arg-1 g t)
    → c.present-count.result ≡ present_of (field_at (described c.args.set.now) c.args.here.spot.part c.args.field)
    c.args.here.spot.version (spot_numbers (described c.args.set.now) c.args.here.spot (g.W.Cells.numbers c.args.walker.now))
count_is g t c = rw (← field_is g t c) c.present-count.ensures

-- the steps of the field are those of its elements
steps_are : (g : Over) (t : ℕ) (c : goal.walk_field-After-walk_row-arg-1 g t) (m : List ℤ) → length m ≡ length (g.W.Cells.numbers c.args.walker.now)
    → SameBelow c.args.cell (g.W.Cells.numbers c.args.walker.now) m
    → steps_of (slots_at (described c.args.set.now) c.args.here.spot m c.args.field c.args.cell) ≡ steps_of
    (elements_slots (described c.args.set.now) c.index-as_slice-field.result.item c.most_in-most.result m c.present-count.result c.args.cell)
steps_are g t c m long s =
    field_slots_are _ (good_of _ c.args.set.now.well_formed c.args.set.now.heads) c.args.set.now.well_formed _ _ _
    _ _ c.requires.here long c.requires.spot _ _ _
    c.requires.field (item_is g t c) (count_is g t c) c.most_in-most.ensures c.requires.room s

-- they have no cell below the field
above : (g : Over) (t : ℕ) (c : goal.walk_field-After-walk_row-arg-1 g t) (m : List ℤ)
    → IsAbove c.args.cell (elements_slots (described c.args.set.now) c.index-as_slice-field.result.item c.most_in-most.result m c.present-count.result c.args.cell)
above g t c m = search (rules, items_above, meanings_above)

pub walk_field-present-count-requires : goal.walk_field-present-count-requires
walk_field-present-count-requires g t c = search (rules, found_field)

pub walk_field-walk_row-requires : goal.walk_field-walk_row-requires
walk_field-walk_row-requires g t c =
    let N = g.W.Cells.numbers in
    let set = described c.args.set.now in
    let a = c.args.walker.now in
    let cell = c.args.cell in
    let slots = λ (m : List ℤ). elements_slots set c.index-as_slice-field.result.item c.most_in-most.result m c.present-count.result cell in
    let needs =
    field_needs set c.args.set.now.well_formed c.args.here.spot (N a) c.requires.spot c.args.field cell _ _ c.most_in-most.result c.requires.field
    (item_is g t c) (count_is g t c) c.most_in-most.ensures c.requires.room in
    let come : MayCome g.W.Walker.does N g.W.Walker.may slots a = λ ys ws zs x d h e.
    let kept = g.met.W.Walker.laws.keeps ys a d (Ok tt) h in
    c.requires.may ys ws zs x d h
    (steps_are g t c (N d) kept.long (keeps_first cell (slots (N d)) ys (ws ++ (x ∷ zs)) (N a) (N d) e (above g t c (N d)) kept) ∙ e) in
    λ κs h. (search rules, (search rules, (search rules, record { reaches = needs.uses; may = come; small = needs.small; room = needs.room; few = c.requires.spot.few })))

pub walk_field-returns : goal.walk_field-returns
walk_field-returns g t c =
    let N = g.W.Cells.numbers in
    let set = described c.args.set.now in
    let a = c.args.walker.now in
    let b = c.walk_row.new.walker in
    let at = (goal.at.walk_field-returns g t c).After-walk_row-arg-1 in
    let slots = elements_slots set c.index-as_slice-field.result.item c.most_in-most.result (N b) c.present-count.result c.args.cell in
    let kept = g.met.W.Walker.laws.keeps (steps_of slots) a b c.walk_row.result c.walk_row.ensures in
    let is = steps_are g t at (N b) kept.long (keeps_below c.args.cell slots (N a) (N b) (above g t at (N b)) kept) in
    subst (λ l. g.W.Walker.does l a c.walk_row.result b) (sym is) c.walk_row.ensures

-- ---- the fields of a description

pub walk-loop-field-init : goal.walk-loop-field-init
walk-loop-field-init g t c = record { way = g.met.W.Walker.laws.none c.args.walker.now; long = refl }

-- the next field, with the numbers so far
record Turn (g : Over) (t : ℕ) (c : goal.walk-After-walk_field-arg-1 g t) : Type 0 where
  inside : c.loop-field.field < length (desc_at (described c.args.set.now) c.args.spot.part).fields
  has : HasSpot (described c.args.set.now) c.args.spot (g.W.Cells.numbers c.loop-field.walker)
  next : Next (described c.args.set.now) c.args.spot (g.W.Cells.numbers c.loop-field.walker) c.loop-field.field c.start_in-cell.result
  past : Past g.W.Cells.numbers g.W.Walker.does
      (described c.args.set.now) c.args.spot c.loop-field.field c.start_in-cell.result c.args.walker.now c.loop-field.walker

turn : (g : Over) (t : ℕ) (c : goal.walk-After-walk_field-arg-1 g t) → Turn g t c
turn g t c =
    let set = described c.args.set.now in
    let spot = c.args.spot in
    let inv = c.loop-field.invariant in
    let lt : c.loop-field.field < length (desc_at set spot.part).fields = omega arith in
    let has : HasSpot set spot (g.W.Cells.numbers c.loop-field.walker) =
    record { part = c.requires.spot.part; few = rw inv.long c.requires.spot.few; room = rw inv.long c.requires.spot.room } in
    let here = start_code set spot c.loop-field.field c.start_in-cell.result c.start_in-cell.ensures in
    record {
      inside = lt;
      has = has;
      next = next_field set c.args.set.now.well_formed spot (g.W.Cells.numbers c.loop-field.walker) has c.loop-field.field c.start_in-cell.result lt here;
      past = record {
        good = good_of set c.args.set.now.well_formed c.args.set.now.heads;
        has = c.requires.spot.part;
        le = omega arith;
        here = here;
        way = inv.way;
      };
    }

pub walk-loop-field-preserved : goal.walk-loop-field-preserved
walk-loop-field-preserved g t c =
    let s = turn g t (goal.at.walk-loop-field-preserved g t c).After-walk_field-arg-1 in
    record {
      way = went_on g.met.W.Walker.laws (field_among s.past s.inside) _ (Ok tt) c.in_ok-walk_field.ensures;
      long = (g.met.W.Walker.laws.keeps _ c.loop-field.walker _ (Ok tt) c.in_ok-walk_field.ensures).long ∙ c.loop-field.invariant.long;
    }

pub walk-returns-in_err-walk_field : goal.walk-returns-in_err-walk_field
walk-returns-in_err-walk_field g t c =
    let s = turn g t (goal.at.walk-returns-in_err-walk_field g t c).After-walk_field-arg-1 in
    stopped_at g.met.W.Walker.laws (field_among s.past s.inside) c.walk_field.new.walker
    c.in_err-walk_field.field-0.0 c.from_residual.result c.from_residual.ensures.1 c.in_err-walk_field.ensures

pub walk-start_in-cell-requires-clause-few : goal.walk-start_in-cell-requires-clause-few
walk-start_in-cell-requires-clause-few g t c = omega (arith, c.requires.spot.room, c.requires.spot.few)

pub walk-walk_field-requires : goal.walk-walk_field-requires
walk-walk_field-requires g t c =
    let s = turn g t c in
    let may = may_come g.met.W.Walker.laws (field_among s.past s.inside) g.W.Walker.may c.requires.may in
    λ κs h. (search rules, (search rules, (search rules, record { spot = s.has; fields = c.fields_of-fields.ensures; field = s.inside; here = s.past.here; may = may; room = s.next.room })))

-- after the last field
end_of : (g : Over) (t : ℕ) (c : goal.walk-After-rules-arg-1 g t) → c.loop-field.field ≡ length (desc_at (described c.args.set.now) c.args.spot.part).fields
end_of g t c = omega arith

done : (g : Over) (t : ℕ) (c : goal.walk-After-rules-arg-1 g t)
    → Past g.W.Cells.numbers g.W.Walker.does (described c.args.set.now) c.args.spot c.loop-field.field
    (cell_of (described c.args.set.now) c.args.spot c.loop-field.field) c.args.walker.now c.loop-field.walker
done g t c = search (rules, good_of)

pub walk-rules-requires-clause-may : goal.walk-rules-requires-clause-may
walk-rules-requires-clause-may g t c =
    rw (holds_is (described c.args.set.now) c.args.spot (g.W.Cells.numbers _)) (rule_may (done g t c) (end_of g t c) g.W.Walker.may c.requires.may)

pub walk-returns : goal.walk-returns
walk-returns g t c =
    let laws = g.met.W.Walker.laws in
    let b = c.loop-field.walker in
    let at = (goal.at.walk-returns g t c).After-rules-arg-1 in
    rule_done (done g t at) (end_of g t at) laws _ _ (same_rule _ _ _ (laws.keeps _ b c.rules.new.self c.rules.result c.rules.ensures))
    (rw (holds_is (described c.args.set.now) c.args.spot (g.W.Cells.numbers b)) at c.rules.ensures)

-- ---- one element

pub walk_item-step-requires-clause-may : goal.walk_item-step-requires-clause-may
walk_item-step-requires-clause-may g t c =
    let here = steps_at (described c.args.set.now) c.args.most (g.W.Cells.numbers c.args.walker.now) c.args.cell in
    c.requires.may [] [] [] _ c.args.walker.now (g.met.W.Walker.laws.none c.args.walker.now)
    (ap here c.in-Num.is ∙ ap (λ o. steps.Number c.args.cell c.in-Num.kind o ∷ []) (least_again c.args.most))

pub walk_item-step-requires-in-Equal-clause-may : goal.walk_item-step-requires-in-Equal-clause-may
walk_item-step-requires-in-Equal-clause-may g t c =
    let here = steps_at (described c.args.set.now) c.args.most (g.W.Cells.numbers c.args.walker.now) c.args.cell in
    let may : g.W.Walker.may c.args.walker.now (steps.Constant c.in-Equal.kind c.in-Equal.value) =
    c.requires.may [] [] [] _ c.args.walker.now (g.met.W.Walker.laws.none c.args.walker.now) (ap here c.in-Equal.is) in
    search rules

pub walk_item-step-requires-in-Unused-clause-may : goal.walk_item-step-requires-in-Unused-clause-may
walk_item-step-requires-in-Unused-clause-may g t c =
    let here = steps_at (described c.args.set.now) c.args.most (g.W.Cells.numbers c.args.walker.now) c.args.cell in
    c.requires.may [] [] [] _ c.args.walker.now (g.met.W.Walker.laws.none c.args.walker.now) (ap here c.in-Unused.is)

pub walk_item-walk_element-requires : goal.walk_item-walk_element-requires
walk_item-walk_element-requires g t c = search rules

pub walk_item-returns-in-Struct : goal.walk_item-returns-in-Struct
walk_item-returns-in-Struct g t c = search rules

-- ---- an element of a structure

pub walk_element-walk_struct-requires : goal.walk_element-walk_struct-requires
walk_element-walk_struct-requires g t c = λ κs h. (search rules, (search rules, (search rules, c.requires)))

-- the slots of the structure's element are those of its fields
slots_are : (g : Over) (t : ℕ) (c : goal.walk_struct-After-walk-arg-1 g t) (m : List ℤ)
    → item_slots (table (described c.args.set.now)) (Struct c.args.number) [] m c.args.cell ≡ spot_slots (described c.args.set.now)
    (record { part = parts.Struct c.args.number; version = c.desc.result.now.version; base = c.args.cell }) m
slots_are g t c m =
    struct_spot _ c.args.set.now.well_formed _
    (ltb-true c.args.number (length (described c.args.set.now).structs) c.requires.reaches) _ _ _ (ap (λ d. d.version) c.desc.ensures) []

pub walk_struct-walk-requires : goal.walk_struct-walk-requires
walk_struct-walk-requires g t c =
    let set = described c.args.set.now in
    let N = g.W.Cells.numbers in
    let j = c.args.number in
    let lt : j < length set.structs = ltb-true j (length set.structs) c.requires.reaches in
    let spot : HasSpot set (record { part = parts.Struct j; version = c.desc.result.now.version; base = c.args.cell }) (N c.args.walker.now) =
    record { part = lt; few = c.requires.few; room = omega (arith, (struct_size set c.args.set.now.well_formed j lt)) } in
    λ κs h. (search rules, (search rules, (search rules, (spot, λ ys ws zs x d k e. c.requires.may ys ws zs x d k (ap steps_of (slots_are g t c (N d)) ∙ e)))))

pub walk_struct-returns : goal.walk_struct-returns
walk_struct-returns g t c =
    let slots = slots_are g t (goal.at.walk_struct-returns g t c).After-walk-arg-1 (g.W.Cells.numbers c.walk.new.walker) in
    subst (λ l. g.W.Walker.does (steps_of l) c.args.walker.now c.walk.result c.walk.new.walker) (sym slots) c.walk.ensures
