use Rattle.vms_selfdesc.proofs.Facade.{ℕ, subst, rules, arith, sym, ap, ◌∙◌, ◌≡◌, ◌+◌, ◌<◌, ◌++◌, length, length-append, codes}
use Rattle.vms_selfdesc.proofs.Facade.{string_bytes, refl, Lists, Draft, item_size, struct_cells, elements_fit, field_of, field_at, own_numbers, described}
use Rattle.vms_selfdesc.proofs.Facade.{desc_at, found_field, here_fields, element_path, item_list, field_list, IsPlain, HasElements, item_levels}
use Rattle.vms_selfdesc.proofs.OfElements.{field_needs, array_many, field_run, struct_place, struct_lower, struct_list}
use Rattle.vms_selfdesc.proofs.Plain.{plain_append, element_plain, dot_plain, name_plain, field_name, enters, index_long, item_levels_are, levels_are}
use Rattle.vms_selfdesc.proofs.Trees.{fields_whole, leaves_all, leaves_rest, leave_path, element_room, elements_next, next_element, fields_next, field_room}
use Rattle.vms_selfdesc.proofs.fields.+list.Goals as goal
use Rattle.vms_selfdesc.proofs.fields.+list.Goals.{list_field-After-index-as_slice-at}

-- ---- one element

pub list_item-list_struct-requires : goal.list_item-list_struct-requires
list_item-list_struct-requires t c =
    let lister = c.args.lister.now in
    let cells = c.requires.cells in
    let set = described lister.set.now in
    let lower = struct_lower set lister.set.now.well_formed c.args.field.now.item c.in-Struct.number c.in-Struct.is cells.reaches in
    let place = struct_place set lister.set.now.well_formed c.args.field.now.item c.in-Struct.number c.in-Struct.is cells.reaches lister.image.now.numbers
    c.args.place.cell cells.few cells.room in
    let path = string_bytes c.args.draft.now.path.text in
    let long = ap length c.enter.ensures ∙ length-append path (codes ".") in (
      search rules,
      record { place = place; path = rw c.enter.ensures (dot_plain path c.requires.path); deep = omega (arith, ap item_levels c.in-Struct.is) },
    )

pub list_item-enter-requires : goal.list_item-enter-requires
list_item-enter-requires t c = omega (arith, ap item_levels c.in-Struct.is)

pub list_item-leave-requires-clause-text : goal.list_item-leave-requires-clause-text
list_item-leave-requires-clause-text t c = (enters c.args.draft.now.path.text _ c.len-kept.ensures (c.list_struct.ensures.path ∙ c.enter.ensures)).text

pub list_item-returns-in-Struct : goal.list_item-returns-in-Struct
list_item-returns-in-Struct t c =
    let lister = c.args.lister.now in
    let same =
    struct_list (described lister.set.now) lister.set.now.well_formed c.args.field.now.item c.in-Struct.number c.in-Struct.is c.requires.cells.reaches
    c.args.field.now.default c.args.place.sent (string_bytes c.args.draft.now.path.text) (string_bytes c.enter.new.self.text) lister.image.now.numbers
    c.args.place.cell c.enter.ensures in
    rw (← same) (leave_path c.list_struct.ensures
    (c.leave.ensures ∙ (enters c.args.draft.now.path.text _ c.len-kept.ensures (c.list_struct.ensures.path ∙ c.enter.ensures)).back))

pub list_item-list_sent-requires : goal.list_item-list_sent-requires
list_item-list_sent-requires t c = record { path = c.requires.path; word = name_plain (codes "equal") refl }

pub list_item-list_sent-requires-in-Unused : goal.list_item-list_sent-requires-in-Unused
list_item-list_sent-requires-in-Unused t c = record { path = c.requires.path; word = name_plain (codes "unused") refl }

-- ---- elements

pub list_elements-list_item-requires : goal.list_elements-list_item-requires
list_elements-list_item-requires t c =
    let set = described c.args.lister.now.set.now in
    let cells = c.requires.cells in
    let inv = c.loop-number.invariant in
    let elements : HasElements set (field_of c.args.field.now) c.loop-number.cell 1 c.args.lister.now.image.now.numbers = record {
      reaches = cells.reaches;
      default = cells.default;
      few = cells.few;
      small = cells.small;
      room = element_room _ _ _ _ _ _ c.loop-number-test.true inv.here cells.room;
    } in
    let plain : IsPlain (string_bytes c.enter_element.new.self.text) =
    rw (c.enter_element.ensures, inv.lists.lists.path) (element_plain _ _ (omega arith) c.requires.path) in
    let long = index_long (string_bytes c.loop-number.draft.path.text) c.loop-number.number (omega arith) in (
      search rules,
      record { cells = elements; path = plain; deep = omega (arith, ap length c.enter_element.ensures, ap length inv.lists.lists.path) },
    )

pub list_elements-enter_element-requires : goal.list_elements-enter_element-requires
list_elements-enter_element-requires t c = omega (arith, ap length c.loop-number.invariant.lists.lists.path)

pub list_elements-leave-requires-clause-text : goal.list_elements-leave-requires-clause-text
list_elements-leave-requires-clause-text t c =
    (enters c.loop-number.draft.path.text _ (c.len-kept.ensures ∙ ap length (sym c.loop-number.invariant.lists.lists.path))
    (c.list_item.ensures.path ∙ c.enter_element.ensures)).text

pub list_elements-loop-number-preserved : goal.list_elements-loop-number-preserved
list_elements-loop-number-preserved t c =
    let f = field_of c.args.field.now in
    let set = described c.args.lister.now.set.now in
    let path = string_bytes c.args.draft.now.path.text in
    let size = item_size (struct_cells set) f.item in
    let one = item_list set f c.args.place.sent c.args.lister.now.image.now.numbers in
    let i = c.loop-number.number in
    let inv = c.loop-number.invariant in
    let moved : c.loop-number.cell + c.item_cells-size.result ≡ c.loop-number.cell + size = omega arith in
    let kept = c.len-kept.ensures ∙ ap length (sym inv.lists.lists.path) in
    let now = c.loop-number.draft in
    let new : Draft = record { text = c.list_item.new.draft.text; path = c.leave.new.self; later = c.list_item.new.draft.later } in
    record {
      lists = leaves_rest (one (element_path path i) c.loop-number.cell) inv.lists
          (rw moved (elements_next one path c.loop-number.cell size i c.args.count c.loop-number-test.true))
          (subst (λ p. Lists now new (one p c.loop-number.cell)) (c.enter_element.ensures ∙ ap (λ p. element_path p i) inv.lists.lists.path)
          (leave_path c.list_item.ensures (c.leave.ensures ∙ (enters now.path.text _ kept (c.list_item.ensures.path ∙ c.enter_element.ensures)).back)));
      here = moved ∙ next_element size c.args.place.cell i c.loop-number.cell inv.here;
    }

-- ---- one field

-- what the call reads is the field of its number
found : {t : ℕ} (c : list_field-After-index-as_slice-at t)
    → field_of c.index-as_slice-at.result ≡ field_at (described c.args.lister.now.set.now) c.args.part c.args.at.field
found c = search (rules, found_field, here_fields)

pub list_run-returns-in-One : goal.list_run-returns-in-One
list_run-returns-in-One t c = rw c.in-One.is c.list_item.ensures

pub list_run-returns-in_default : goal.list_run-returns-in_default
list_run-returns-in_default t c = search (rules, array_many)

pub list_field-list_run-requires : goal.list_field-list_run-requires
list_field-list_run-requires t c =
    let set = described c.args.lister.now.set.now in
    let well = c.args.lister.now.set.now.well_formed in
    let part = c.args.part in
    let k = c.args.at.field in
    let f = c.index-as_slice-at.result in
    let is : field_of f ≡ field_at set part k = found (goal.at.list_field-list_run-requires t c).After-index-as_slice-at in
    let needs = field_needs _ well _ _ _ c.requires.place _ _ _ c.requires.field is c.requires.room in
    let fewer = elements_fit (field_at set part k).count (own_numbers set part c.args.lister.now.image.now.numbers c.args.within.cell) in
    let all = needs.elements c.elements-count.result (omega arith) in
    let name = field_name _ well _ _ c.requires.place.has c.requires.field in
    let named = c.enter.ensures ∙ ap (λ x. string_bytes c.args.draft.now.path.text ++ x) (c.as_str.ensures ∙ ap (λ x. x.name) is) in
    let plain : IsPlain (string_bytes c.enter.new.self.text) = rw named (plain_append _ _ c.requires.path name.plain) in
    let long = ap length named ∙ length-append (string_bytes c.args.draft.now.path.text) (field_at set part k).name in (
      search rules,
      record { one = needs.elements 1 needs.some; all = all; path = plain; deep = omega (arith, levels_are set part, item_levels_are f.item) },
    )

pub list_field-enter-requires : goal.list_field-enter-requires
list_field-enter-requires t c =
    let name = field_name _ c.args.lister.now.set.now.well_formed _ _ c.requires.place.has c.requires.field in
    omega (arith, ap length (c.as_str.ensures ∙ ap (λ x. x.name) (found (goal.at.list_field-enter-requires t c).After-index-as_slice-at)))

pub list_field-leave-requires-clause-text : goal.list_field-leave-requires-clause-text
list_field-leave-requires-clause-text t c = (enters c.args.draft.now.path.text _ c.len-kept.ensures (c.list_run.ensures.path ∙ c.enter.ensures)).text

pub list_field-returns : goal.list_field-returns
list_field-returns t c =
    let set = described c.args.lister.now.set.now in
    let path = string_bytes c.args.draft.now.path.text in
    let is = found (goal.at.list_field-returns t c).After-index-as_slice-at in
    let same = field_run set c.args.part c.args.within.cell c.args.at.field c.args.within.sent c.args.lister.now.image.now.numbers path c.args.at.cell
    (field_of c.index-as_slice-at.result) c.is_sent-sent.result (string_bytes c.enter.new.self.text) c.elements-count.result is c.is_sent-sent.ensures
    (rw c.as_str.ensures at c.enter.ensures) c.elements-count.ensures in
    rw (← same) (leave_path c.list_run.ensures
    (c.leave.ensures ∙ (enters c.args.draft.now.path.text _ c.len-kept.ensures (c.list_run.ensures.path ∙ c.enter.ensures)).back))

-- ---- the fields of a part

pub list_part-field_start-cell-requires-clause-few : goal.list_part-field_start-cell-requires-clause-few
list_part-field_start-cell-requires-clause-few t c = omega arith

pub list_part-list_field-requires : goal.list_part-list_field-requires
list_part-list_field-requires t c =
    let lt : c.loop-field.field < length (desc_at (described c.args.lister.now.set.now) c.args.part).fields = omega arith in
    let room = field_room _ _ _ _ _ c.requires.place lt in
    let same = c.loop-field.invariant.lists.path in (
      search rules,
      record {
        place = c.requires.place;
        field = lt;
        room = rw c.field_start-cell.ensures room;
        path = rw same c.requires.path;
        deep = omega (arith, ap length same);
      },
    )

pub list_part-loop-field-init : goal.list_part-loop-field-init
list_part-loop-field-init t c =
    leaves_all c.args.draft.now (sym (fields_whole (described c.args.lister.now.set.now) c.args.part c.args.place.cell c.args.place.sent
    (string_bytes c.args.draft.now.path.text) c.args.lister.now.image.now.numbers))

pub list_part-loop-field-preserved : goal.list_part-loop-field-preserved
list_part-loop-field-preserved t c =
    let set = described c.args.lister.now.set.now in
    let n = c.args.lister.now.image.now.numbers in
    let place = c.args.place in
    let k = c.loop-field.field in
    let path = string_bytes c.args.draft.now.path.text in
    let inv = c.loop-field.invariant in
    leaves_rest (field_list set c.args.part place.cell k place.sent n path c.field_start-cell.result) inv
    (fields_next set c.args.part place.cell place.sent path n c.field_start-cell.result k c.field_start-cell.ensures (omega arith))
    (subst (λ p. Lists c.loop-field.draft c.list_field.new.draft (field_list set c.args.part place.cell k place.sent n p c.field_start-cell.result))
    inv.lists.path c.list_field.ensures)
