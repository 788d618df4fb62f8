use Rattle.vms_counter.proofs.Facade.{◌≡◌, ℕ, ◌<◌, ◌^◌, ◌+◌, map, ap, ◌∙◌, arith, Set, desc_of, device_of, described, devices_most}
use Rattle.vms_counter.proofs.{RoomLaws.read_bytes, RoomLaws.sections_are, RoomLaws.has_room, Facade.BESIDE_SECTIONS, room.room.Goals.After-all_bytes}
use Rattle.vms_counter.proofs.room.room.Goals as goal

sections : (c : After-all_bytes)
    → (c.all_bytes.result ≡ devices_most (described c.args.set.now) (described c.args.set.now).devices) × (c.all_bytes.result < 2 ^ 27 + 1)
sections c =
    let set = c.args.set.now in
    sections_are (described set) set.well_formed _
    (read_bytes (described set) c.as_slice.result.now c.as_slice-2.result.now c.deref.result.now c.in_ok-structs.structs.items _
    c.all_bytes.ensures c.deref.ensures.value c.in_ok-structs.ensures (ap (map desc_of) c.as_slice.ensures ∙ ap (λ (s : Set). s.structs) c.parts.ensures)
    (ap (map device_of) c.as_slice-2.ensures ∙ ap (λ (s : Set). s.devices) c.parts-2.ensures))

pub overflow_add-result : goal.overflow_add-result
overflow_add-result c = omega (arith, (sections (goal.at.overflow_add-result c).After-all_bytes).1)

pub returns : goal.returns
returns c =
    let set = c.args.set.now in
    let bytes = ap (λ (n : ℕ). BESIDE_SECTIONS + n) (sections (goal.at.returns c).After-all_bytes).0 in
    record { bytes = bytes; room = rw bytes (has_room (described set) set.well_formed) }
