use Rattle.vms_desc.proofs.Facade.{◌≡◌, Some, None, length, length-take-le, sym, ap, ◌∙◌, arith, nat_lt, if◌then◌else◌, slice_get, eqb-true}
use Rattle.vms_desc.proofs.Facade.{slice_get-get_or, no_desc, path_at, desc_of, set_of}
use Rattle.vms_desc.proofs.PathLaws.{few_by_sizes, inner_placed, element_within, path_is, in_struct, at_number}
use Rattle.std.proofs.lemmas.List.{nil_from_length}
use Rattle.vms_desc.proofs.path.+path_cell.Goals as goal

pub element_at-requires : goal.element_at-requires
element_at-requires t c = few_by_sizes (set_of c.args.parts.now) c.args.placed c.requires

pub path_cell-requires : goal.path_cell-requires
path_cell-requires t c =
    let set = set_of c.args.parts.now in
    let p = c.args.placed in
    let el = c.in_ok-element.element in
    let within = element_within p.sizes.now (desc_of p.desc.now) p.base c.in_ok-first.first.now el (few_by_sizes set p c.requires) c.in_ok-element.ensures in (
      omega (arith, c.in_ok-first.ensures.cases.1),
      inner_placed set p c.requires c.in-Struct.number el.cell c.in_ok-inner-in-Struct.inner c.in_ok-inner-in-Struct.ensures (rw c.in-Struct.is at within),
    )

pub returns-in-Num : goal.returns-in-Num
returns-in-Num t c =
    let set = set_of c.args.parts.now in
    let p = c.args.placed in
    let rest = c.in_ok-first.rest.now in
    let none = nil_from_length rest (eqb-true (length rest) 0 (sym c.if-is_empty.ensures)) in
    let last =
    at_number (λ j cell. if nat_lt j (length p.sizes.now) then path_at set rest j
    (slice_get set.structs j) cell else None) rest c.in-Num.field-0 c.in_ok-element.element.cell none in
    sym (rw c.in_ok-first.ensures.cases.0 (path_is set p c.requires rest c.in_ok-first.first.now ∙ rw (← c.in_ok-element.ensures, c.in-Num.is) last))

pub returns-in_ok-inner-in-Struct : goal.returns-in_ok-inner-in-Struct
returns-in_ok-inner-in-Struct t c =
    let set = set_of c.args.parts.now in
    let p = c.args.placed in
    let rest = c.in_ok-first.rest.now in
    let inner = c.in_ok-inner-in-Struct.inner in
    let j = c.in-Struct.number in
    let enters = c.in_ok-inner-in-Struct.ensures in
    let cell = c.in_ok-element.element.cell in
    let long : length inner.sizes.now ≡ j = ap length enters.sizes_are ∙ length-take-le j p.sizes.now (omega (arith, enters.known)) in
    let there : slice_get set.structs j ≡ Some (desc_of inner.desc.now) =
    slice_get-get_or set.structs j no_desc (omega (arith, enters.known, c.requires.known)) ∙ ap Some (sym enters.desc) in
    let last = in_struct set (length p.sizes.now) rest j cell (desc_of inner.desc.now) enters.known there in
    let whole : path_at set c.args.path.now (length p.sizes.now) (Some (desc_of p.desc.now)) p.base ≡ path_at set rest j (Some (desc_of inner.desc.now)) cell =
    rw c.in_ok-first.ensures.cases.0 (path_is set p c.requires rest c.in_ok-first.first.now ∙ rw (← c.in_ok-element.ensures, c.in-Struct.is) last) in
    c.path_cell.ensures ∙ rw (long, enters.base_is) (sym whole)
