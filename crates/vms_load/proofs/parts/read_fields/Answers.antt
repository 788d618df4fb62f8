use Rattle.vms_load.proofs.Facade.{rules, ◌≡◌, Some, Ok, Err, ap, ◌∙◌, arith, described, desc_at, first_cell, good_of, IsGood, device_at, PartAt}
use Rattle.vms_load.proofs.Facade.{HasSpot, part_sound, held_long, bytes_of, part_base, part_desc, Told, told, intake, reads_as}
use Rattle.vms_load.proofs.{ReadLemmas.same_course, parts.read_fields.Given.Over, PartReads.open_in, PartReads.fields_answer, PartReads.part_read}
use Rattle.vms_load.proofs.StreamLengths.{part_bound, part_kinds, desc_is, base_is, part_spot}
use Rattle.vms_load.proofs.parts.read_fields.Goals.{Start, After-first_cell-base, After-read_part}
use Rattle.vms_image.specs.Typed.{state_of as untyped}
use Rattle.vms_load.proofs.parts.read_fields.Goals as goal

abbrev good : (g : Over) (c : goal.Start g) → IsGood (described c.args.set.now)
good g c = good_of (described c.args.set.now) c.args.set.now.well_formed c.args.set.now.heads

-- what is known before the part is read and after it
abbrev old : (g : Over) (c : goal.Start g) → Told
old g c = told c.args.image.now c.args.cursor.now.at (intake g.S.Source c.args.source.now)

abbrev new : (g : Over) (c : goal.After-read_part g) → Told
new g c = told c.read_part.new.image c.read_part.new.cursor.at (intake g.S.Source c.read_part.new.source)

-- the part of the set that is read
desc : (g : Over) (c : goal.After-first_cell-base g) → desc_at (described c.args.set.now) c.part_of-number.result ≡ part_desc (device_at (described c.args.set.now) c.args.section.device) c.args.part.sub
desc g c = let set = described c.args.set.now in ap (desc_at set) c.part_of-number.ensures ∙ desc_is set c.args.section.device c.args.part.sub

base : (g : Over) (c : goal.After-first_cell-base g) → c.first_cell-base.result ≡ part_base (described c.args.set.now) (device_at (described c.args.set.now) c.args.section.device) c.args.part.sub
base g c = let set = described c.args.set.now in c.first_cell-base.ensures ∙ ap (first_cell set) c.part_of-number.ensures ∙ base_is set c.args.section.device c.args.part.sub

abbrev spot_of : (g : Over) (c : goal.After-first_cell-base g) → PartAt
spot_of g c = record { part = c.part_of-number.result; version = c.args.part.version; base = c.first_cell-base.result }

spot : (g : Over) (c : goal.After-first_cell-base g) → HasSpot (described c.args.set.now) (spot_of g c) c.args.image.now.numbers
spot g c = search (rules, part_spot, open_in)

pub read_part-requires : goal.read_part-requires
read_part-requires g c =
    let set = described c.args.set.now in
    let k = c.args.section.device in
    let sub = c.args.part.sub in
    let h = (goal.at.read_part-requires g c).After-first_cell-base in
    record {
      spot = spot g h;
      kinds = λ n. rw c.requires.image.shaped.kinds
          (part_kinds set k sub (open_in (device_at set k) (untyped c.args.image.now) sub c.args.part.version c.requires.begun) (spot_of g h) c.part_of-number.ensures c.first_cell-base.ensures n);
      cursor = record { held = c.requires.cursor.held; place = omega (arith, ap (bytes_of set) (desc g h)) };
    }

pub returns-in-Ok : goal.returns-in-Ok
returns-in-Ok g c =
    let set = described c.args.set.now in
    let at = goal.at.returns-in-Ok g c in
    let h = at.After-first_cell-base in
    let bound = part_bound set (spot_of g h) c.read_part.new.image.numbers in
    let long = c.in-Ok.ensures.fills.reads.long in
    let before = ap held_long c.requires.cursor.held in
    let now = ap held_long c.in-Ok.ensures.held in
    record {
      reads = λ names state room.
          reads_as (λ n l. omega (arith, now, before))
          (λ rest left took. fields_answer set (good g at.Start) c.args.section c.requires.image.device c.args.part.sub c.args.part.version names state (untyped c.args.image.now) (desc_at set c.part_of-number.result) c.first_cell-base.result (desc g h) (base g h)
          room c.requires.begun c.args.cursor.now c.read_part.new.image.numbers (untyped c.read_part.new.image) c.read_part.new.cursor
          (Some rest) (Some left) (Ok c.in-Ok.field-0) (ap untyped c.in-Ok.ensures.fills.kept) c.requires.cursor.held c.in-Ok.ensures.held
          (part_read set (good g at.Start).structs (desc_at set c.part_of-number.result) (part_sound set (good g at.Start) c.part_of-number.result (spot g h).part) c.args.part.version c.first_cell-base.result (old g at.Start) (new g at.After-read_part) (Ok c.in-Ok.field-0) rest left took)) c.in-Ok.ensures.fills.reads;
      held = c.in-Ok.ensures.held;
      moves = (omega (arith, long.1), omega (arith, long.1, before, now), omega (arith, ap (bytes_of set) (desc g h), bound, long.0, long.1, before, now));
      image = record { kept = c.in-Ok.ensures.fills.kept; long = c.in-Ok.ensures.fills.keeps.long };
    }

pub returns-in-Err : goal.returns-in-Err
returns-in-Err g c =
    let set = described c.args.set.now in
    let at = goal.at.returns-in-Err g c in
    let h = at.After-first_cell-base in
    record {
      reads = λ names state room.
          rw (c.concerning.ensures, ← same_course (Some c.args.section.device) c.in-Err.fault)
          (reads_as (λ n l. omega (arith, part_bound set (spot_of g h) c.read_part.new.image.numbers, ap (bytes_of set) (desc g h)))
          (λ rest left took. fields_answer set (good g at.Start) c.args.section c.requires.image.device c.args.part.sub c.args.part.version names state (untyped c.args.image.now) (desc_at set c.part_of-number.result) c.first_cell-base.result (desc g h) (base g h)
          room c.requires.begun c.args.cursor.now c.read_part.new.image.numbers (untyped c.read_part.new.image) c.read_part.new.cursor
          (Some rest) (Some left) (Err c.in-Err.fault) (ap untyped c.in-Err.ensures.fills.kept) c.requires.cursor.held tt
          (part_read set (good g at.Start).structs (desc_at set c.part_of-number.result) (part_sound set (good g at.Start) c.part_of-number.result (spot g h).part) c.args.part.version c.first_cell-base.result (old g at.Start) (new g at.After-read_part) (Err c.in-Err.fault) rest left took)) c.in-Err.ensures.fills.reads);
      held = tt;
      moves = tt;
      image = record { kept = c.in-Err.ensures.fills.kept; long = c.in-Err.ensures.fills.keeps.long };
    }
