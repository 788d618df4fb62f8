use Rattle.vms_values.proofs.Facade.{◌≡◌, ◌+◌, ◌-◌, ◌<◌, ◌≤◌, [], length, get_or, sym, ap, ◌∙◌, arith, own_cell_count, described}
use Rattle.vms_values.proofs.Facade.{device_at, sub_at, sub_inside, own_inside_device, few_cells}
use Rattle.vms_values.proofs.Naming.{names_of_subs, in_own, past_own, in_sub, past_sub, subs_longer, all_long}
use Rattle.vms_values.proofs.name.part_of.Goals.{After-cells_of-size, After-cells_of-size-in-loop-sub}
use Rattle.vms_values.proofs.name.part_of.Goals as goal

own_size : (c : goal.After-cells_of-size) → c.cells_of-size.result ≡ own_cell_count (described c.args.set.now) (device_at (described c.args.set.now) c.args.device).desc
own_size c =
    omega (arith, own_inside_device (described c.args.set.now) c.args.device, few_cells (described c.args.set.now) c.args.set.now.well_formed c.args.device)

-- the next subsection is one of the device's, and the code has its size
sub_size : (c : goal.After-cells_of-size-in-loop-sub) → (let d = device_at (described c.args.set.now) c.args.device in
    (c.loop-sub.sub < length d.subs) × (c.cells_of-size-in-loop-sub.result ≡ own_cell_count (described c.args.set.now) (sub_at d c.loop-sub.sub).desc))
sub_size c =
    let set = described c.args.set.now in
    let lt : c.loop-sub.sub < length (device_at set c.args.device).subs = omega arith in
    (lt, omega (arith, sub_inside set c.args.device c.loop-sub.sub lt, few_cells set c.args.set.now.well_formed c.args.device))

pub returns-then-cell-size : goal.returns-then-cell-size
returns-then-cell-size c =
    in_own _ c.args.set.now.well_formed _ c.requires.is_device _ (omega (arith, own_size (goal.at.returns-then-cell-size c).After-cells_of-size))

pub loop-sub-init : goal.loop-sub-init
loop-sub-init c =
    let set = described c.args.set.now in
    let well = c.args.set.now.well_formed in
    let i = c.args.device in
    let size = own_size (goal.at.loop-sub-init c).After-cells_of-size in
    record {
      same = past_own _ well _ c.requires.is_device _ (omega arith) ∙ ap (λ n. get_or (names_of_subs set i 0) (c.args.cell - n) []) (sym size);
      room = omega (arith, all_long set well i c.requires.is_device);
    }

pub returns-then-left-size : goal.returns-then-left-size
returns-then-left-size c =
    let s = sub_size (goal.at.returns-then-left-size c).After-cells_of-size-in-loop-sub in
    in_sub _ c.args.set.now.well_formed _ c.requires.is_device _ _ _ s.0 (omega arith) c.loop-sub.invariant.same

pub loop-sub-preserved : goal.loop-sub-preserved
loop-sub-preserved c =
    let set = described c.args.set.now in
    let well = c.args.set.now.well_formed in
    let j = c.loop-sub.sub in
    let s = sub_size (goal.at.loop-sub-preserved c).After-cells_of-size-in-loop-sub in
    let past : own_cell_count set (sub_at (device_at set c.args.device) j).desc ≤ c.loop-sub.left = omega arith in
    record {
      same = c.loop-sub.invariant.same ∙ past_sub _ well _ c.requires.is_device _ _ s.0 past ∙ ap (λ n. get_or (names_of_subs set c.args.device (j + 1)) (c.loop-sub.left - n) []) (sym s.1);
      room = omega (arith, subs_longer set well c.args.device c.requires.is_device j s.0);
    }
