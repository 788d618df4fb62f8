use Rattle.vms_values.proofs.Facade
use Facade.{rules, ◌≡◌, ℕ, ◌+◌, ◌*◌, ◌<◌, ◌≤◌, ◌++◌, List, length, length-append, get_or, drop, codes, sym, ap, ◌∙◌, arith}
use Facade.{ltb-true, Err, Ok, decimal, Item, elements_fit, Field, Desc, no_desc, cells_from, capacity_of, place_first, readers, read_item, read_elements}
use Facade.{read_fields, read_desc, field_of, field_at, own_numbers, described, desc_at, HasSpot, size_in, table, cell_of, cells_in, capacities_of, size_code}
use Facade.{start_after, start_code, struct_size, room_at, fields_at, below, AreKinds, element_cells, place_of, LONGEST_PATH, INDEX_ROOM, PART_ROOM}
use Rattle.vms_spec.specs.declared.Part.TheVariants as parts
use Rattle.vms_values.proofs.Printers.{stays, stays_is, stays_then, stays_element, cut_is, field_short, FoundRun, found_run, err_is}
use Rattle.vms_values.proofs.Naming.{FieldKinds, field_kinds, number_kind, struct_kinds}
use Rattle.vms_values.proofs.Takes.{kept_none, kept_more, struct_reads, elements_left, array_read, IsNext, fields_left}
use Rattle.vms_values.proofs.ReadLemmas.{reached, stopped}
use Rattle.vms_values.proofs.taken.+read.Goals.{read_elements-After-read_item-arg-in-loop-index-1, read_under-After-read_field-arg-in-loop-field-1}
use Rattle.vms_values.proofs.taken.+read.Goals as goal

-- the path of the next element
element : (t : ℕ) (c : goal.read_elements-After-read_item-arg-in-loop-index-1 t) → (c.push_index.new.self ≡ c.args.path.now ++ codes "[" ++ decimal c.loop-index.index ++ codes "]") × (length c.push_index.new.self ≤ length c.args.path.now + INDEX_ROOM)
element t c = grind (arith, cut_is)

pub read_elements-returns-in_err-read_item : goal.read_elements-returns-in_err-read_item
read_elements-returns-in_err-read_item t c =
    let set = described c.args.set.now in
    let f = field_of c.args.run.field.now in
    let path = (element t (goal.at.read_elements-returns-in_err-read_item t c).After-read_item-arg-in-loop-index-1).0 in
    record {
      read = rw (err_is _ _ c.from_residual.ensures.1) (stopped _ _ _ _ _
          (λ b same. sym c.loop-index.invariant.reads ∙ elements_left (readers set) f (capacities_of c.args.run.most) c.args.path.now c.args.run.present
          (size_in set f.item) c.loop-index.first c.loop-index.index c.args.run.count (place_of c.loop-index.taken) (Err b)
          c.loop-index-test.true (rw (sym path) (same))) c.in_err-read_item.ensures.read);
      kept = kept_more _ _ _ c.loop-index.invariant.kept c.in_err-read_item.ensures.kept;
      path = stays_then _ _ _ (stays_element _ _ _ path) c.in_err-read_item.ensures.path;
    }

pub read_elements-overflow_add-first : goal.read_elements-overflow_add-first
read_elements-overflow_add-first t c =
    let set = described c.args.set.now in
    let item = c.args.run.field.now.item in
    let size = size_code set item c.item_cells-size.result c.item_cells-size.ensures c.requires.fits.small in
    let room = room_at c.loop-index.index c.args.run.count (size_in set item) c.args.run.first c.loop-index.first _ (omega arith) c.loop-index.invariant.here c.requires.fits.room in
    omega arith

pub read_elements-loop-index-preserved : goal.read_elements-loop-index-preserved
read_elements-loop-index-preserved t c =
    let set = described c.args.set.now in
    let f = field_of c.args.run.field.now in
    let i = c.loop-index.index in
    let size = size_code set f.item c.item_cells-size.result c.item_cells-size.ensures c.requires.fits.small in
    let one : (i + 1) * size_in set f.item ≡ i * size_in set f.item + size_in set f.item = grind arith in
    let caps = capacities_of c.args.run.most in
    let named = (element t (goal.at.read_elements-loop-index-preserved t c).After-read_item-arg-in-loop-index-1).0 in
    let path = c.args.path.now in
    record {
      reads = rw size (sym (elements_left (readers set) f caps path c.args.run.present (size_in set f.item) c.loop-index.first i c.args.run.count
          (place_of c.loop-index.taken) (Ok (place_of c.read_item.new.taken)) c.loop-index-test.true
          (ap (λ (l : List ℕ). read_item (readers set) f caps l c.args.run.present c.loop-index.first f.item (place_of c.loop-index.taken)) (sym named)
          ∙ reached _ _ c.in_ok-read_item.ensures.read)) ∙ c.loop-index.invariant.reads);
      here = omega arith;
      kept = kept_more _ _ _ c.loop-index.invariant.kept c.in_ok-read_item.ensures.kept;
      path = stays_then _ _ _ (stays_element path (decimal i) c.push_index.new.self named) c.in_ok-read_item.ensures.path;
    }

pub read_elements-read_item-requires : goal.read_elements-read_item-requires
read_elements-read_item-requires t c =
    let set = described c.args.set.now in
    let room = room_at _ _ _ _ _ _ (omega arith) c.loop-index.invariant.here c.requires.fits.room in
    let here : AreKinds c.args.taken.now.image.kinds c.loop-index.first (element_cells (cells_in (table set)) c.args.run.field.now.item) =
    rw c.loop-index.invariant.here (c.requires.kinds c.loop-index.index (omega arith)) in (
      omega arith,
      record {
        reaches = c.requires.fits.reaches;
        room = omega arith;
        few = omega arith;
        kinds = rw c.loop-index.invariant.kept.kinds here;
        short = omega (arith, (element t c).1);
      },
    )

pub read_field-read_item-requires : goal.read_field-read_item-requires
read_field-read_item-requires t c =
    let set = described c.args.set.now in
    let item = c.args.run.field.now.item in
    let width : c.args.run.count * size_in set item ≡ 1 * size_in set item = rw (c.requires.fits.single c.in-One.is) in
    let named : c.push.new.self ≡ c.args.path.now ++ (field_of c.args.run.field.now).name = c.push.ensures ∙ ap (λ l. c.args.path.now ++ l) c.as_bytes.ensures in
    let short : length c.push.new.self + 1 + below c.args.run.field.now.item ≤ LONGEST_PATH =
    omega (arith, ap length named, length-append c.args.path.now (field_of c.args.run.field.now).name) in
    let zero_on : c.args.run.first + 0 * size_in set item ≡ c.args.run.first = omega arith in (
      omega arith,
      record {
        reaches = c.requires.fits.reaches;
        room = omega arith;
        few = c.requires.fits.few;
        kinds = rw zero_on at (c.requires.kinds 0 (omega arith));
        short = short;
      },
    )

pub read_field-read_elements-requires : goal.read_field-read_elements-requires
read_field-read_elements-requires t c =
    let named : c.push.new.self ≡ c.args.path.now ++ (field_of c.args.run.field.now).name = c.push.ensures ∙ ap (λ l. c.args.path.now ++ l) c.as_bytes.ensures in (
      omega arith,
      record {
        fits = c.requires.fits;
        kinds = c.requires.kinds;
        short = omega (arith, ap length named, length-append c.args.path.now (field_of c.args.run.field.now).name);
      },
    )

pub read_field-returns-in_default : goal.read_field-returns-in_default
read_field-returns-in_default t c =
    let set = described c.args.set.now in
    let f = field_of c.args.run.field.now in
    let p = place_of c.args.taken.now in
    let named : c.push.new.self ≡ c.args.path.now ++ (field_of c.args.run.field.now).name = c.push.ensures ∙ ap (λ l. c.args.path.now ++ l) c.as_bytes.ensures in
    record {
      read = rw (ap (λ (l : List ℕ). read_elements (readers set) f (capacities_of c.args.run.most) l c.args.run.present c.args.run.first (size_in set f.item) 0 c.args.run.count p) named
          ∙ array_read set f c.args.run.count (capacities_of c.args.run.most) c.args.path.now c.args.run.present c.args.run.first p c.in_default.not-One) at c.read_elements.ensures.read;
      kept = c.read_elements.ensures.kept;
      path = stays_then _ _ _ (stays_is _ _ _ named) c.read_elements.ensures.path;
    }

pub read_item-read_under-requires : goal.read_item-read_under-requires
read_item-read_under-requires t c =
    let set = described c.args.set.now in
    let j = c.in-Struct.number in
    let lt : j < length set.structs = ltb-true j (length set.structs) (rw c.in-Struct.is at c.requires.reaches) in
    let room = rw c.in-Struct.is at c.requires.room in
    let size = struct_size _ c.args.set.now.well_formed _ lt in
    let spot : HasSpot set (record { part = parts.Struct j; version = c.desc.result.now.version; base = c.args.run.first }) c.args.taken.now.image.numbers =
    record { part = lt; few = c.requires.few; room = omega arith } in
    let short = rw c.in-Struct.is at c.requires.short in
    let grown : length c.push.new.self + PART_ROOM * (j + 1) ≤ LONGEST_PATH = omega (arith, ap length c.push.ensures, length-append c.args.path.now (codes ".")) in (
      search rules,
      record {
        spot = spot;
        kinds = struct_kinds _ c.args.set.now.well_formed _ lt _ _ (rw c.in-Struct.is at c.requires.kinds);
        short = grown;
      },
    )

pub read_item-read_number_line-requires : goal.read_item-read_number_line-requires
read_item-read_number_line-requires t c = record {
  room = search rules;
  of_kind = number_kind (cells_in (table (described c.args.set.now))) _ _ _ (rw c.in-Num.is at c.requires.kinds);
}

pub read_item-returns-in-Struct : goal.read_item-returns-in-Struct
read_item-returns-in-Struct t c =
    let set = described c.args.set.now in
    let j = c.in-Struct.number in
    let f = field_of c.args.run.field.now in
    let lt : j < length set.structs = ltb-true j (length set.structs) (rw c.in-Struct.is at c.requires.reaches) in
    let d = get_or set.structs j no_desc in
    let path = c.args.path.now in
    let p = place_of c.args.taken.now in
    let caps = capacities_of c.args.run.most in
    record {
      read = rw (ap (λ (l : List ℕ). read_desc (readers set) d c.desc.result.now.version l c.args.run.present c.args.run.first p) c.push.ensures
          ∙ ap (λ (v : ℕ). read_desc (readers set) d v (path ++ codes ".") c.args.run.present c.args.run.first p) (ap (λ (x : Desc). x.version) c.desc.ensures)
          ∙ sym (ap (λ (i : Item). read_item (readers set) f caps path c.args.run.present c.args.run.first i p) c.in-Struct.is
          ∙ struct_reads set c.args.set.now.well_formed j lt f caps path c.args.run.present c.args.run.first p)) at c.read_under.ensures.read;
      kept = c.read_under.ensures.kept;
      path = stays_then _ _ _ (stays_is c.args.path.now (codes ".") c.push.new.self c.push.ensures) c.read_under.ensures.path;
    }

pub read_under-loop-field-init : goal.read_under-loop-field-init
read_under-loop-field-init t c = search (rules, place_first, kept_none, stays)

-- the next field, with the numbers so far
record Turn (t : ℕ) (c : goal.read_under-After-read_field-arg-in-loop-field-1 t) : Type 0 where
  run : FoundRun (described c.args.set.now) c.args.spot c.args.path.now c.loop-field.taken.image.numbers
      c.loop-field.field c.field_start.result c.elements.result c.index-as_slice-field.result
  after : c.field_start.result + capacity_of c.index-as_slice-field.result.count * size_in (described c.args.set.now) c.index-as_slice-field.result.item
      ≡ cell_of (described c.args.set.now) c.args.spot (c.loop-field.field + 1)
  reads : read_fields (readers (described c.args.set.now)) (desc_at (described c.args.set.now) c.args.spot.part) c.args.spot.version c.args.path.now
      c.args.present c.args.spot.base c.loop-field.field c.field_start.result
      (drop c.loop-field.field (desc_at (described c.args.set.now) c.args.spot.part).fields) (place_of c.loop-field.taken)
      ≡ read_desc (readers (described c.args.set.now)) (desc_at (described c.args.set.now) c.args.spot.part) c.args.spot.version c.args.path.now
      c.args.present c.args.spot.base (place_of c.args.taken.now)
  comes : IsNext (described c.args.set.now) (desc_at (described c.args.set.now) c.args.spot.part) c.args.spot.version c.args.present c.args.spot.base
      c.loop-field.field c.elements.result c.most.result c.is_present.result (field_of c.index-as_slice-field.result) (place_of c.loop-field.taken)
  kinds : FieldKinds (cells_in (table (described c.args.set.now))) (desc_at (described c.args.set.now) c.args.spot.part).fields
      c.loop-field.taken.image.kinds c.loop-field.field c.field_start.result (field_of c.index-as_slice-field.result)
      (drop (c.loop-field.field + 1) (desc_at (described c.args.set.now) c.args.spot.part).fields)
  front : c.cut.new.self ≡ c.args.path.now

turn : (t : ℕ) (c : goal.read_under-After-read_field-arg-in-loop-field-1 t) → Turn t c
turn t c =
    let set = described c.args.set.now in
    let spot = c.args.spot in
    let k = c.loop-field.field in
    let cell = c.field_start.result in
    let d = desc_at set spot.part in
    let kinds = c.loop-field.taken.image.kinds in
    let lt : k < length d.fields = omega arith in
    let long = c.loop-field.invariant.kept.long in
    let has : HasSpot set spot c.loop-field.taken.image.numbers = record {
      part = c.requires.spot.part;
      few = rw long c.requires.spot.few;
      room = rw long c.requires.spot.room;
    } in
    let begins = start_code set spot k _ c.field_start.ensures in
    let run = found_run _ c.args.set.now.well_formed _ c.args.path.now _ has _ _ _ _ _
    _ lt c.desc.ensures c.as_slice.ensures c.index-as_slice-field.is c.elements.ensures begins in
    let here : AreKinds kinds cell (cells_from (cells_in (table set)) d.fields k (drop k d.fields)) = rw begins c.loop-field.invariant.kinds in
    record {
      run = run;
      after = ap (λ (x : Field). cell + capacity_of x.count * size_in set x.item) run.found ∙ start_after set spot _ _ begins lt;
      reads = rw begins (c.loop-field.invariant.reads);
      comes = record { inside = lt; found = run.found; counts = c.elements.ensures; least = c.most.ensures; is = c.is_present.ensures };
      kinds = rw run.found (field_kinds _ _ _ _ _ _ _ _ (fields_at d.fields k lt) here);
      front = cut_is _ _ _ _ c.cut.ensures c.len-kept.ensures c.loop-field.invariant.path;
    }

pub read_under-field_start-requires-clause-few : goal.read_under-field_start-requires-clause-few
read_under-field_start-requires-clause-few t c = omega arith

pub read_under-read_field-requires : goal.read_under-read_field-requires
read_under-read_field-requires t c =
    let s = turn t c in
    let fewer : c.elements.result ≤ capacity_of c.index-as_slice-field.result.count = omega (arith, ap (λ x. capacity_of x.count) s.run.found, elements_fit (field_at (described c.args.set.now) c.args.spot.part c.loop-field.field).count (own_numbers (described c.args.set.now) c.args.spot.part c.loop-field.taken.image.numbers c.args.spot.base)) in
    let short = field_short _ c.args.set.now.well_formed _ c.requires.spot.part _ s.comes.inside _ s.run.found in (
      omega arith,
      record {
        fits = s.run.next.run;
        kinds = λ i inside. s.kinds.here i (omega arith);
        name = short.0;
        short = omega (arith, ap length s.front);
      },
    )

pub read_under-returns-in_err-read_field : goal.read_under-returns-in_err-read_field
read_under-returns-in_err-read_field t c =
    let set = described c.args.set.now in
    let spot = c.args.spot in
    let s = turn t (goal.at.read_under-returns-in_err-read_field t c).After-read_field-arg-in-loop-field-1 in
    record {
      read = rw (err_is _ _ c.from_residual.ensures.1) (stopped _ _ _ _ _
          (λ b same. sym s.reads ∙ fields_left _ _ _ _ _ s.comes s.after same) (rw s.front at c.in_err-read_field.ensures.read));
      kept = kept_more _ _ _ c.loop-field.invariant.kept c.in_err-read_field.ensures.kept;
      path = stays_then _ _ _ (rw s.front (stays c.args.path.now)) c.in_err-read_field.ensures.path;
    }

pub read_under-loop-field-preserved : goal.read_under-loop-field-preserved
read_under-loop-field-preserved t c =
    let k = c.loop-field.field in
    let d = desc_at (described c.args.set.now) c.args.spot.part in
    let s = turn t (goal.at.read_under-loop-field-preserved t c).After-read_field-arg-in-loop-field-1 in
    let kept = c.in_ok-read_field.ensures.kept in
    record {
      reads = sym (fields_left _ _ _ _ _ s.comes s.after (reached _ _ (rw s.front at c.in_ok-read_field.ensures.read))) ∙ s.reads;
      kinds = rw kept.kinds (rw s.after at s.kinds.later);
      kept = kept_more _ _ _ c.loop-field.invariant.kept kept;
      path = stays_then _ _ _ (rw s.front (stays c.args.path.now)) c.in_ok-read_field.ensures.path;
    }
