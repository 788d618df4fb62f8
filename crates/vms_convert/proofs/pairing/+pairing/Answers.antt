use Rattle.vms_convert.proofs.{Facade.desc_on, Facade.partners_on, PartnerLaws.depth, PartnerLaws.structs_paired}
use Rattle.vms_convert.proofs.Facade.{ℕ, ◌+◌, ◌*◌, ◌<◌, ◌≤◌, List, ◌++◌, length, Option, refl, sym, ap, ◌∙◌, arith, rules}
use Rattle.vms_convert.proofs.Facade.{not-false, on_ok_weaker, ◌≡◌, subst, HasFew, field_of, item_on, ltb-true, described, found_field, reach, is_absent}
use Rattle.vms_convert.proofs.PartnerSteps.{absent_pairs, all_paired, alone_pairs, arrays_are, arrays_room, both_pair, element_alone_pairs, element_pairs}
use Rattle.vms_convert.proofs.PartnerSteps.{elements_all, few_next, few_struct, field_depth, room_struct}
use Rattle.vms_convert.proofs.pairing.+pairing.Goals as goal

-- ---- descriptions

pub pair_descs-loop-number-init : goal.pair_descs-loop-number-init
pair_descs-loop-number-init t c = record { start = record { inside = omega arith; room = c.requires.room }; few = c.requires.few; so_far = refl }

pub pair_descs-pair_field-requires : goal.pair_descs-pair_field-requires
pair_descs-pair_field-requires t c =
    let h = c.loop-number.invariant in
    (search rules, record { old = c.requires.old; new = c.requires.new; field = omega arith; few = h.few; start = h.start })

pub pair_descs-loop-number-preserved : goal.pair_descs-loop-number-preserved
pair_descs-loop-number-preserved t c =
    record {
      start = c.in_ok-start.ensures.start;
      few = few_next c.args.old c.loop-number.number (omega arith) c.loop-number.invariant.few;
      so_far = c.in_ok-start.ensures.so_far ∙ c.loop-number.invariant.so_far;
    }

pub pair_descs-returns : goal.pair_descs-returns
pair_descs-returns t c =
    all_paired c.args.old c.args.new c.args.partners.now.items c.loop-number.partners.items c.loop-number.number c.args.first c.loop-number.start
    (omega arith) c.loop-number.invariant.so_far

-- ---- arrays

pub pair_arrays-loop-element-preserved : goal.pair_arrays-loop-element-preserved
pair_arrays-loop-element-preserved t c = record { room = c.in_ok-cell.ensures.room; so_far = c.in_ok-cell.ensures.so_far ∙ c.loop-element.invariant.so_far }

pub pair_element-returns-in_ok-pair_items : goal.pair_element-returns-in_ok-pair_items
pair_element-returns-in_ok-pair_items t c =
    rw c.item_cells.ensures (element_pairs c.args.arrays c.requires.arrays c.args.element c.args.cell c.requires.element c.requires.room
    c.args.partners.now.items c.pair_items.new.partners.items c.if-element-arrays.true c.in_ok-pair_items.ensures)

pub pair_element-returns-in_ok-put_unpaired : goal.pair_element-returns-in_ok-put_unpaired
pair_element-returns-in_ok-put_unpaired t c =
    element_alone_pairs c.args.arrays c.requires.arrays c.args.element c.args.cell c.requires.element c.requires.room c.args.partners.now.items
    c.put_unpaired.new.partners.items (omega arith) (rw c.item_cells-else-element-arrays.ensures at c.in_ok-put_unpaired.ensures)

-- ---- fields

pub pair_field-returns-in_ok-put_unpaired : goal.pair_field-returns-in_ok-put_unpaired
pair_field-returns-in_ok-put_unpaired t c =
    let code = c.index-fields_of-number.result in
    let is =
    found_field c.fields_of.result.now (desc_on c.args.old).fields c.args.number code c.fields_of.ensures c.requires.field c.index-fields_of-number.is in
    let absent = not-false (is_absent c.args.old.version (field_of code)) (sym c.is_present.ensures ∙ c.if-is_present.false) in
    absent_pairs c.args.old c.args.new c.args.number c.requires.field c.requires.few c.args.partners.now.items c.put_unpaired.new.partners.items
    c.args.start c.requires.start (rw (← is) absent) (rw c.field_cells.ensures at c.in_ok-put_unpaired.ensures)

pub pair_present-pair_arrays-requires : goal.pair_present-pair_arrays-requires
pair_present-pair_arrays-requires t c =
    let s = c.args.old in
    let r = c.args.new in
    let inside : c.args.found.field < length (desc_on r).fields = omega arith in
    let low : depth c.arrays_of.result.one.item ≤ reach (described s.set.now) s.part =
    rw c.arrays_of.ensures (field_depth s c.args.number c.requires.old c.requires.field) in
    let less : 6 * depth c.arrays_of.result.one.item + 2 < 6 * reach (described s.set.now) s.part + 3 = omega arith in (
      search rules,
      (
        rw c.arrays_of.ensures (arrays_are s r c.args.number c.args.found.field c.requires.old c.requires.new c.requires.field inside c.requires.few),
        rw c.arrays_of.ensures (arrays_room s r c.args.number c.args.found inside c.requires.found.start),
      ),
    )

pub pair_present-returns-in_ok-pair_arrays : goal.pair_present-returns-in_ok-pair_arrays
pair_present-returns-in_ok-pair_arrays t c =
    let r = c.args.new in
    both_pair c.args.old r c.args.number c.requires.field c.requires.few c.args.partners.now.items c.pair_arrays.new.partners.items c.args.found c.args.found
    c.behind.result c.requires.found (omega arith) c.behind.ensures c.requires.there
    (rw (c.arrays_of.ensures, elements_all c.args.old r c.args.number c.args.found.field c.args.found.cell) at c.in_ok-pair_arrays.ensures)

pub pair_present-returns-in_ok-put_unpaired : goal.pair_present-returns-in_ok-put_unpaired
pair_present-returns-in_ok-put_unpaired t c =
    alone_pairs c.args.old c.args.new c.args.number c.requires.field c.requires.few c.args.partners.now.items c.put_unpaired.new.partners.items c.args.found
    c.args.found c.requires.found (omega arith) c.requires.there (rw c.field_cells.ensures at c.in_ok-put_unpaired.ensures)

-- structures
pub pair_items-pair_descs-requires : goal.pair_items-pair_descs-requires
pair_items-pair_descs-requires t c =
    let m = c.in-Struct-Struct in
    let sets = c.args.sets in
    let older = c.at_own_version-older.ensures in
    let newer = c.at_own_version-newer.ensures in
    let old = ltb-true m.in_old (length (described sets.old.now).structs) (rw m.is-0 at c.requires.one) in
    let new = ltb-true m.in_new (length (described sets.new.now).structs) (rw m.is-1 at c.requires.other) in
    let less : 6 * reach (described c.at_own_version-older.result.set.now) c.at_own_version-older.result.part + 5 < 6 * depth c.args.one =
    rw (older, m.is-0) (omega arith) in (
      search rules,
      record {
        old = rw older old;
        new = rw newer new;
        few = subst (λ x. HasFew x 0) (sym older) (few_struct sets.old m.in_old (rw m.is-0 at c.requires.few));
        room = rw newer (room_struct sets.new m.in_new c.args.cell (rw m.is-1 at c.requires.room));
      },
    )

pub pair_items-returns-in-Struct-Struct : goal.pair_items-returns-in-Struct-Struct
pair_items-returns-in-Struct-Struct t c =
    let m = c.in-Struct-Struct in
    let old = c.args.sets.old in
    let new = c.args.sets.new in
    let at = c.args.cell in
    let lt = ltb-true m.in_old (length (described old.now).structs) (rw m.is-0 at c.requires.one) in
    let is = structs_paired (described old.now) (described new.now) old.now.well_formed m.in_old m.in_new _ _ at lt refl refl in
    let pairs : partners_on c.at_own_version-older.result c.at_own_version-newer.result at
    ≡ item_on (described old.now) (described new.now) c.args.one c.args.other at =
    rw (c.at_own_version-older.ensures, c.at_own_version-newer.ensures, m.is-0, m.is-1, is) in
    on_ok_weaker c.pair_descs.result (λ e. e ∙ ap (λ (l : List (Option ℕ)). c.args.partners.now.items ++ l) pairs) c.pair_descs.ensures
