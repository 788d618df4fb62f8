use Rattle.vms_values.proofs.Facade.{rules, arith, ◌≡◌, ◌+◌, ◌*◌, ◌/◌, ◌%◌, ◌<◌, ◌≤◌, true, [], ◌++◌, ℕ, length, get_or}
use Rattle.vms_values.proofs.Facade.{codes, append_assoc, refl, sym, ap, ◌∙◌, subst, ltb-true, mod-lt, MOST_ITEMS, Field, capacity_of, field_of, field_at}
use Rattle.vms_values.proofs.Facade.{described, desc_at, found_field, here_fields, size_in, size_code, width_code, struct_size, item_rank, part_rank, one_fits}
use Rattle.vms_values.proofs.Facade.{uses_below, path_text, part_names, item_names, wrote_as, field_name, List, append-nil, element_text}
use Rattle.vms_values.proofs.Naming.{NextNames, next_names, all_names, part_long, struct_name, positive, element_is, nothing_after}
use Rattle.vms_values.proofs.name.{+name.Given.Over, +name.Goals.print_element-After-item_cells-size, +name.Goals.print_name-After-field_cells-size}
use Rattle.vms_spec.specs.declared.Part.TheVariants as parts
use Rattle.vms_values.proofs.name.+name.Goals as goal

-- the element has cells, and the cell is one of its
inside : (g : Over) (t : ℕ) (c : goal.print_element-After-item_cells-size g t) → (0 < c.item_cells-size.result) × (c.args.cell % c.item_cells-size.result < size_in (described c.args.set.now) c.args.field.now.item)
inside g t c =
    let set = described c.args.set.now in
    let item = c.args.field.now.item in
    let size = size_code set item c.item_cells-size.result c.item_cells-size.ensures c.requires.small in
    let some = positive (capacity_of c.args.field.now.count) (size_in set item) c.args.cell c.requires.cell in
    (omega arith, rw size (mod-lt c.args.cell some))

pub print_element-nonzero_div-index : goal.print_element-nonzero_div-index
print_element-nonzero_div-index g t c = omega (arith, (inside g t c).0)

pub print_element-nonzero_rem-rest : goal.print_element-nonzero_rem-rest
print_element-nonzero_rem-rest g t c = omega (arith, (inside g t (goal.at.print_element-nonzero_rem-rest g t c).After-item_cells-size).0)

pub print_element-print_name-requires : goal.print_element-print_name-requires
print_element-print_name-requires g t c =
    let set = described c.args.set.now in
    let j = c.in-Struct.number in
    let lt : j < length set.structs = ltb-true j (length set.structs) (rw c.in-Struct.is at c.requires.reaches) in
    let small = rw c.in-Struct.is at c.requires.small in
    let cell = rw c.in-Struct.is at (inside g t (goal.at.print_element-print_name-requires g t c).After-item_cells-size).1 in
    let size = struct_size _ c.args.set.now.well_formed _ lt in
    λ κs h. (search rules, (search rules, record { part = lt; small = omega arith; cell = omega arith }))

pub print_element-returns-in-Struct : goal.print_element-returns-in-Struct
print_element-returns-in-Struct g t c =
    let set = described c.args.set.now in
    let f = field_of c.args.field.now in
    let j = c.in-Struct.number in
    let step = c.item_cells-size.result in
    let rest = c.args.cell % step in
    let lt = ltb-true j (length set.structs) (rw c.in-Struct.is at c.requires.reaches) in
    let small = rw c.in-Struct.is at (inside g t (goal.at.print_element-returns-in-Struct g t c).After-item_cells-size).1 in
    let size = size_code set f.item step c.item_cells-size.ensures c.requires.small in
    let path = path_text c.args.path.now ++ element_text f (c.args.cell / step) in
    wrote_as c.print_name.result _ _
    (append_assoc path (codes ".") (get_or (part_names set (parts.Struct j)) rest []) ∙ ap (λ l. path ++ l) (sym (struct_name set j lt rest small))
    ∙ ap (λ i. path ++ get_or (item_names set i) rest []) (sym c.in-Struct.is) ∙ element_is set f (path_text c.args.path.now) step c.args.cell size)
    c.print_name.ensures

pub print_element-returns-in_default : goal.print_element-returns-in_default
print_element-returns-in_default g t c =
    let set = described c.args.set.now in
    let f = field_of c.args.field.now in
    let path = path_text c.args.path.now ++ element_text f (c.args.cell / c.item_cells-size.result) in
    wrote_as _ _ _ (sym (append-nil path) ∙ ap (λ l. path ++ l) (sym (nothing_after set _ _ c.in_default.not-Struct))
    ∙ element_is set f _ _ _ (size_code set _ _ c.item_cells-size.ensures c.requires.small)) c.write_path.ensures

pub print_name-loop-field-init : goal.print_name-loop-field-init
print_name-loop-field-init g t c =
    let all = all_names (described c.args.set.now) c.args.part c.requires.part in
    let long = part_long _ c.args.set.now.well_formed _ c.requires.part in
    record {
      same = rw all;
      room = omega (arith, ap length all);
      few = omega (arith, ap length all);
      untouched = refl;
    }

-- the next field, and its width in the code
record Turn (g : Over) (t : ℕ) (c : goal.print_name-After-field_cells-size g t) : Type 0 where
  inside : c.loop-field.field < length (desc_at (described c.args.set.now) c.args.part).fields
  next : NextNames (described c.args.set.now) c.args.part c.loop-field.field c.loop-field.left (field_at (described c.args.set.now) c.args.part c.loop-field.field)
  small : (let f = field_at (described c.args.set.now) c.args.part c.loop-field.field in capacity_of f.count * size_in (described c.args.set.now) f.item ≤ MOST_ITEMS)
  width : (let f = field_at (described c.args.set.now) c.args.part c.loop-field.field in c.field_cells-size.result ≡ capacity_of f.count * size_in (described c.args.set.now) f.item)

turn : (g : Over) (t : ℕ) (c : goal.print_name-After-field_cells-size g t) → Turn g t c
turn g t c =
    let set = described c.args.set.now in
    let k = c.loop-field.field in
    let f = field_at set c.args.part k in
    let lt : k < length (desc_at set c.args.part).fields = omega arith in
    let next = next_names set c.args.set.now.well_formed c.args.part c.requires.part k c.loop-field.left f lt refl in
    let small : capacity_of f.count * size_in set f.item ≤ MOST_ITEMS = omega arith in
    record { inside = lt; next = next; small = small; width = width_code set f c.field_cells-size.result c.field_cells-size.ensures small }

pub print_name-print_element-requires : goal.print_name-print_element-requires
print_name-print_element-requires g t c =
    let set = described c.args.set.now in
    let f = field_at set c.args.part c.loop-field.field in
    let s = turn g t (goal.at.print_name-print_element-requires g t c).After-field_cells-size in
    let fields = here_fields set c.args.part c.desc.result.now c.as_slice.result.now c.desc.ensures c.as_slice.ensures in
    let found : field_of c.index-as_slice-field.result ≡ f =
    found_field c.as_slice.result.now
    (desc_at set c.args.part).fields c.loop-field.field c.index-as_slice-field.result fields s.inside c.index-as_slice-field.is in
    let at = λ (P : Field → Type 0) (p : P f). subst P (sym found) p in
    let lower = at (λ (x : Field). item_rank x.item + 1 < part_rank set c.args.part + 2) s.next.lower in
    let one = one_fits (capacity_of f.count) (size_in set f.item) 0 MOST_ITEMS MOST_ITEMS s.next.some (omega arith) (omega arith) in
    let small = at (λ (x : Field). size_in set x.item ≤ MOST_ITEMS) one in
    let inside = at (λ (x : Field). c.loop-field.left < capacity_of x.count * size_in set x.item) (omega arith) in
    let uses = at (λ (x : Field). uses_below (length set.structs) x.item ≡ true) s.next.uses in
    λ κs h. (search rules, (search rules, record { reaches = uses; small = small; cell = inside }))

pub print_name-returns-then-left-size : goal.print_name-returns-then-left-size
print_name-returns-then-left-size g t c =
    let set = described c.args.set.now in
    let path = path_text c.args.path.now in
    let s = turn g t (goal.at.print_name-returns-then-left-size g t c).After-field_cells-size in
    let found = found_field c.as_slice.result.now (desc_at set c.args.part).fields c.loop-field.field c.index-as_slice-field.result (here_fields set c.args.part c.desc.result.now c.as_slice.result.now c.desc.ensures c.as_slice.ensures) s.inside c.index-as_slice-field.is in
    wrote_as c.print_element.result _ _
    (ap (λ (x : Field). path ++ field_name set x c.loop-field.left) found ∙ ap (λ (l : List ℕ). path ++ l) (sym (c.loop-field.invariant.same ∙ s.next.here (omega arith)))) (rw c.loop-field.invariant.untouched at c.print_element.ensures)

pub print_name-loop-field-preserved : goal.print_name-loop-field-preserved
print_name-loop-field-preserved g t c =
    let set = described c.args.set.now in
    let f = field_at set c.args.part c.loop-field.field in
    let s = turn g t (goal.at.print_name-loop-field-preserved g t c).After-field_cells-size in
    let past : capacity_of f.count * size_in set f.item ≤ c.loop-field.left = omega arith in
    record {
      same = rw s.width (c.loop-field.invariant.same ∙ s.next.later past);
      room = omega arith;
      few = omega arith;
      untouched = c.loop-field.invariant.untouched;
    }
