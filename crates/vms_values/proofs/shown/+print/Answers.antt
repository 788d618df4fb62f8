use Rattle.vms_values.proofs.{Facade.LONGEST_PATH, Printers.stays_is, Printers.stays_then, Printers.stays_element, Printers.cut_is, Printers.field_short}
use Rattle.vms_values.proofs.Facade.{INDEX_ROOM, PART_ROOM, rules, arith, ◌≡◌, ◌+◌, ◌*◌, ◌-◌, ◌<◌, ◌≤◌, ◌++◌, ℕ, length}
use Rattle.vms_values.proofs.Facade.{length-append, codes, refl, sym, ap, ◌∙◌, decimal, printers, field_of, described, desc_at, size_in, size_code}
use Rattle.vms_values.proofs.Facade.{start_code, struct_size, room_at, run_lines, below, wrote_as, leaves_all, leaves_rest, leaves_stop, leaves_none}
use Rattle.vms_values.proofs.Printers.{struct_lines, FoundRun, array_run, elements_left, fields_left, fields_whole, no_fields, found_run, stays, err_is}
use Rattle.vms_values.proofs.shown.+print.Given.{Over}
use Rattle.vms_values.proofs.shown.+print.Goals.{print_elements-After-print_item-arg-in-loop-index-1, print_part-After-print_field-arg-in-loop-field-1}
use Rattle.vms_values.proofs.shown.+print.Goals as goal

pub print_elements-loop-index-init : goal.print_elements-loop-index-init
print_elements-loop-index-init g t c = search (rules, leaves_all, stays)

-- the path of the next element
element : (g : Over) (t : ℕ) (c : goal.print_elements-After-print_item-arg-in-loop-index-1 g t) → (c.push_index.new.self ≡ c.args.line.now ++ codes "[" ++ decimal c.loop-index.index ++ codes "]") × (length c.push_index.new.self ≤ length c.args.line.now + INDEX_ROOM)
element g t c = grind (arith, cut_is)

pub print_elements-print_item-requires : goal.print_elements-print_item-requires
print_elements-print_item-requires g t c =
    let set = described c.args.shown.set.now in
    let room = room_at _ _ _ _ _ _ c.loop-index-test.true c.loop-index.invariant.here c.requires.room in
    λ κs h. (search rules, (search rules, record { reaches = c.requires.reaches; room = room; few = c.requires.few; short = omega (arith, (element g t c).1) }))

pub print_elements-returns-in_err-print_item : goal.print_elements-returns-in_err-print_item
print_elements-returns-in_err-print_item g t c =
    let set = described c.args.shown.set.now in
    let ps = printers set in
    let item = c.args.item.now in
    let i = c.loop-index.index in
    let path = (element g t (goal.at.print_elements-returns-in_err-print_item g t c).After-print_item-arg-in-loop-index-1).0 in
    record {
      written = rw (err_is _ _ c.from_residual.ensures.1) (leaves_stop _
          (elements_left ps item _ _ c.args.shown.image.now.numbers c.loop-index.cell (size_in set item) _ _ _ c.loop-index-test.true path refl)
          c.loop-index.invariant.owes c.in_err-print_item.ensures.written);
      line = stays_then _ _ _ (stays_element _ _ _ path) c.in_err-print_item.ensures.line;
    }

pub print_elements-overflow_add-cell : goal.print_elements-overflow_add-cell
print_elements-overflow_add-cell g t c =
    let room = room_at _ _ _ _ _ _ c.loop-index-test.true c.loop-index.invariant.here c.requires.room in
    omega (arith, size_code (described c.args.shown.set.now) c.args.item.now c.item_cells-size.result c.item_cells-size.ensures c.requires.small)

pub print_elements-loop-index-preserved : goal.print_elements-loop-index-preserved
print_elements-loop-index-preserved g t c =
    let set = described c.args.shown.set.now in
    let item = c.args.item.now in
    let i = c.loop-index.index in
    let path = c.args.line.now in
    let size : c.item_cells-size.result ≡ size_in set item = size_code set _ _ c.item_cells-size.ensures c.requires.small in
    let one : (i + 1) * size_in set item ≡ i * size_in set item + size_in set item = grind arith in
    let named = (element g t (goal.at.print_elements-loop-index-preserved g t c).After-print_item-arg-in-loop-index-1).0 in
    record {
      owes = leaves_rest _
          (elements_left (printers set) item _ _ c.args.shown.image.now.numbers c.loop-index.cell _ _ _ _ c.loop-index-test.true named size)
          c.loop-index.invariant.owes c.in_ok-print_item.ensures.written;
      line = stays_then _ _ _ (stays_element _ _ _ named) c.in_ok-print_item.ensures.line;
      here = omega arith;
    }

pub print_elements-returns : goal.print_elements-returns
print_elements-returns g t c =
    let set = described c.args.shown.set.now in
    let none : c.args.run.count - c.loop-index.index ≡ 0 = omega arith in
    record {
      written = leaves_none
          (rw none) c.loop-index.invariant.owes;
      line = c.loop-index.invariant.line;
    }

pub print_field-print_item-requires : goal.print_field-print_item-requires
print_field-print_item-requires g t c =
    let fits = c.requires.fits in
    let size = size_in (described c.args.shown.set.now) c.args.field.now.item in
    let room : c.args.run.first + 1 * size ≤ length c.args.shown.image.now.numbers = rw (fits.single c.in-One.is) at fits.room in
    let same : 1 * size ≡ size = grind arith in
    let short : length c.push.new.self + 1 + below c.args.field.now.item ≤ LONGEST_PATH =
    omega (arith, ap length (c.push.ensures ∙ ap (λ l. c.args.line.now ++ l) c.as_bytes.ensures), length-append c.args.line.now c.args.field.now.name) in
    λ κs h. (search rules, (search rules, record { reaches = fits.reaches; room = omega arith; few = fits.few; short = short }))

pub print_field-print_elements-requires : goal.print_field-print_elements-requires
print_field-print_elements-requires g t c =
    let fits = c.requires.fits in
    let short : length c.push.new.self + INDEX_ROOM + 1 + below c.args.field.now.item ≤ LONGEST_PATH =
    omega (arith, ap length (c.push.ensures ∙ ap (λ l. c.args.line.now ++ l) c.as_bytes.ensures), length-append c.args.line.now c.args.field.now.name) in
    λ κs h. (search rules, (search rules, record { reaches = fits.reaches; small = fits.small; room = fits.room; few = fits.few; short = short }))

pub print_field-returns-in_default : goal.print_field-returns-in_default
print_field-returns-in_default g t c =
    let f = field_of c.args.field.now in
    let named : c.push.new.self ≡ c.args.line.now ++ f.name = c.push.ensures ∙ ap (λ l. c.args.line.now ++ l) c.as_bytes.ensures in
    record {
      line = stays_then _ _ _ (stays_is _ _ _ named) c.print_elements.ensures.line;
      written = wrote_as _ _ _ (rw named (array_run (described c.args.shown.set.now) f _ _ _ _ c.in_default.not-One))
          c.print_elements.ensures.written;
    }

pub print_item-print_struct-requires : goal.print_item-print_struct-requires
print_item-print_struct-requires g t c = search rules

pub print_item-returns-in-Struct : goal.print_item-returns-in-Struct
print_item-returns-in-Struct g t c =
    record { written = wrote_as _ _ _ (rw (sym c.in-Struct.is)) c.print_struct.ensures.written; line = c.print_struct.ensures.line }

pub print_struct-print_part-requires : goal.print_struct-print_part-requires
print_struct-print_part-requires g t c =
    let set = described c.args.shown.set.now in
    let j = c.args.number in
    let lt = c.requires.reaches in
    let size = struct_size _ c.args.shown.set.now.well_formed _ lt in
    let grown : length c.push.new.self + PART_ROOM * (j + 1) ≤ LONGEST_PATH = omega (arith, ap length c.push.ensures, length-append c.args.line.now (codes ".")) in
    λ κs h. (search rules, (search rules, record { spot = record { part = lt; few = c.requires.few; room = omega arith }; short = grown }))

pub print_struct-returns : goal.print_struct-returns
print_struct-returns g t c =
    let set = described c.args.shown.set.now in
    let j = c.args.number in
    let n = c.args.shown.image.now.numbers in
    record {
      written = wrote_as _ _ _
          (rw (c.push.ensures) (sym (struct_lines _ c.args.shown.set.now.well_formed _ c.requires.reaches _ _ _))) c.print_part.ensures.written;
      line = stays_then _ _ _ (stays_is _ _ _ c.push.ensures) c.print_part.ensures.line;
    }

pub print_part-loop-field-init : goal.print_part-loop-field-init
print_part-loop-field-init g t c = search (arith, leaves_all, fields_whole, stays)

-- the next field
record Turn (g : Over) (t : ℕ) (c : goal.print_part-After-print_field-arg-in-loop-field-1 g t) : Type 0 where
  inside : c.loop-field.field < length (desc_at (described c.args.shown.set.now) c.args.spot.part).fields
  run : FoundRun (described c.args.shown.set.now) c.args.spot c.args.line.now c.args.shown.image.now.numbers
      c.loop-field.field c.field_start.result c.elements.result c.index-as_slice-field.result
  kept : c.cut.new.self ≡ c.args.line.now

turn : (g : Over) (t : ℕ) (c : goal.print_part-After-print_field-arg-in-loop-field-1 g t) → Turn g t c
turn g t c =
    let lt : c.loop-field.field < length (desc_at (described c.args.shown.set.now) c.args.spot.part).fields = omega arith in
    record {
      inside = lt;
      run = found_run (described c.args.shown.set.now) c.args.shown.set.now.well_formed c.args.spot c.args.line.now c.args.shown.image.now.numbers c.requires.spot
          c.loop-field.field c.field_start.result c.elements.result c.desc.result.now c.as_slice.result.now c.index-as_slice-field.result
          lt c.desc.ensures c.as_slice.ensures c.index-as_slice-field.is c.elements.ensures
          (start_code (described c.args.shown.set.now) c.args.spot c.loop-field.field c.field_start.result c.field_start.ensures);
      kept = cut_is c.args.line.now c.loop-field.line c.cut.new.self c.len-kept.result c.cut.ensures c.len-kept.ensures c.loop-field.invariant.line;
    }

pub print_part-field_start-requires-clause-few : goal.print_part-field_start-requires-clause-few
print_part-field_start-requires-clause-few g t c = omega arith

pub print_part-print_field-requires : goal.print_part-print_field-requires
print_part-print_field-requires g t c =
    let s = turn g t c in
    let short = field_short _ c.args.shown.set.now.well_formed _ c.requires.spot.part _ s.inside _ s.run.found in
    λ κs h. (search rules, (search rules, record { fits = s.run.next.run; name = short.0; short = omega (arith, ap length s.kept) }))

-- its lines, under the path of the code, and those of the fields after it
lines : (g : Over) (t : ℕ) (c : goal.print_part-After-print_field-arg-in-loop-field-1 g t) → (let set = described c.args.shown.set.now in
    let n = c.args.shown.image.now.numbers in
    let f = field_of c.index-as_slice-field.result in
    fields_left set c.args.spot c.args.line.now n c.loop-field.field
    ≡ run_lines (printers set) f f.count c.elements.result c.cut.new.self n c.field_start.result
    ++ fields_left set c.args.spot c.args.line.now n (c.loop-field.field + 1))
lines g t c =
    let set = described c.args.shown.set.now in
    let n = c.args.shown.image.now.numbers in
    let f = field_of c.index-as_slice-field.result in
    let s = turn g t c in
    let rest = fields_left set c.args.spot c.args.line.now n (c.loop-field.field + 1) in
    s.run.next.lines ∙ ap (λ l. run_lines (printers set) f f.count c.elements.result l n c.field_start.result ++ rest) (sym s.kept)

pub print_part-returns-in_err-print_field : goal.print_part-returns-in_err-print_field
print_part-returns-in_err-print_field g t c =
    let at = (goal.at.print_part-returns-in_err-print_field g t c).After-print_field-arg-in-loop-field-1 in
    record {
      written = rw (err_is _ _ c.from_residual.ensures.1) (leaves_stop _ (lines g t at) c.loop-field.invariant.owes c.in_err-print_field.ensures.written);
      line = stays_then _ _ _ (rw ((turn g t at).kept) (stays c.args.line.now)) c.in_err-print_field.ensures.line;
    }

pub print_part-loop-field-preserved : goal.print_part-loop-field-preserved
print_part-loop-field-preserved g t c =
    let at = (goal.at.print_part-loop-field-preserved g t c).After-print_field-arg-in-loop-field-1 in
    record {
      owes = leaves_rest _ (lines g t at) c.loop-field.invariant.owes c.in_ok-print_field.ensures.written;
      line = stays_then _ _ _ (rw ((turn g t at).kept) (stays c.args.line.now)) c.in_ok-print_field.ensures.line;
    }

pub print_part-returns : goal.print_part-returns
print_part-returns g t c =
    let set = described c.args.shown.set.now in
    record {
      written = leaves_none (no_fields set c.args.spot c.args.line.now c.args.shown.image.now.numbers c.loop-field.field (omega arith)) c.loop-field.invariant.owes;
      line = c.loop-field.invariant.line;
    }
