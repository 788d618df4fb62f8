use Rattle.vms_desc.proofs.Facade.{◌≡◌, ◌≤◌, Some, length, sym, ap, ◌∙◌, slice_get, MOST_ITEMS, device_cells, device_of, described, sizes_of}
use Rattle.vms_desc.proofs.{Clean.small_layout, set.DescSet.cell.Goals.In_ok-device, Facade.Begins}
use Rattle.vms_desc.proofs.PathLaws.{at_there, base_of, begins_placed, same_base, begins_at, nowhere, few_of_device, long_sizes}
use Rattle.vms_spec.specs.Sets as sets
use Rattle.vms_desc.proofs.set.DescSet.cell.Goals as goal

-- the device that the code found is that of the set, and has few cells
record IsHere (c : In_ok-device) : Type 0 where
  there : slice_get (described c.args.self.now).devices c.args.device ≡ Some (device_of c.in_ok-device.device.now)
  few : length (device_cells (described c.args.self.now) (device_of c.in_ok-device.device.now)) ≤ MOST_ITEMS

is_here : (c : In_ok-device) → IsHere c
is_here c =
    let set = described c.args.self.now in
    let k = c.args.device in
    let x = c.in_ok-device.device.now in
    let found = at_there device_of c.as_slice.result.now k x c.in_ok-device.ensures.lookup.3.0 c.in_ok-device.ensures.lookup.1 in
    let there : slice_get set.devices k ≡ Some (device_of x) =
    ap (λ (s : sets.Set). slice_get s.devices k) (sym c.parts.ensures) ∙ (rw c.as_slice.ensures at found) in
    record { there = there; few = few_of_device set k (device_of x) there (small_layout set c.args.self.now.well_formed k) }

pub returns-in_err-placed : goal.returns-in_err-placed
returns-in_err-placed c =
    let set = described c.args.self.now in
    let d = device_of c.in_ok-device.device.now in
    let here = is_here (goal.at.returns-in_err-placed c).In_ok-device in
    c.from_residual-in_err-placed.ensures
    ∙ sym (rw here.there (begins_at set d c.args.part c.args.path.now ∙ rw c.in_err-placed.ensures
    (nowhere set c.args.path.now (length set.structs) (base_of set d c.args.part))))

pub path_cell-requires : goal.path_cell-requires
path_cell-requires c =
    let here = is_here (goal.at.path_cell-requires c).In_ok-device in
    rw c.parts-2.ensures (begins_placed (described c.args.self.now) (device_of c.in_ok-device.device.now) here.few c.args.part c.in_ok-placed.placed
    (rw (c.as_slice-2.ensures, c.args.self.now.sized) at c.in_ok-placed.ensures))

pub returns : goal.returns
returns c =
    let set = described c.args.self.now in
    let d = device_of c.in_ok-device.device.now in
    let p = c.in_ok-placed.placed in
    let here = is_here (goal.at.returns c).In_ok-device in
    let begins : Begins (sizes_of set) d c.args.part p = rw (c.as_slice-2.ensures, c.args.self.now.sized) at c.in_ok-placed.ensures in
    let base : p.base ≡ base_of set d c.args.part = begins.base ∙ same_base set d here.few c.args.part in
    c.path_cell.ensures ∙ rw (c.parts-2.ensures, long_sizes set p.sizes.now begins.sizes_are, ← begins.desc, base, here.there)
    (sym (begins_at set d c.args.part c.args.path.now))
