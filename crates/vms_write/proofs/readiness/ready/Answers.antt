use Rattle.vms_write.proofs.Facade.{◌≡◌, ◌&&◌, arith, sym, ◌∙◌, refl, Bool, true, false, OnTrue, OnFalse, IsReady, described, device_at}
use Rattle.vms_write.proofs.Facade.{state_of, IsOfDevice, few_cells, good_of, forms_of, all_subs_fine}
use Rattle.vms_write.proofs.FineReady.{device_fine, ready_by, other_by}
use Rattle.vms_write.proofs.readiness.ready.Goals.{After-is_own_fine, Start}
use Rattle.vms_write.proofs.readiness.ready.Goals as goal

of_device : (c : goal.Start) → IsOfDevice (described c.args.set.now) c.args.device (state_of c.args.image.now)
of_device c =
    let few = few_cells (described c.args.set.now) c.args.set.now.well_formed c.args.device in
    record { is_device = c.requires.is_device; cells = c.requires.cells; subs = c.requires.subs; few = omega arith }

-- what says whether the device is fine says whether its image is ready
judged : (c : goal.Start) (b : Bool) → (let set = described c.args.set.now in let d = device_at set c.args.device in let image = state_of c.args.image.now in
    b ≡ device_fine set d (forms_of set d) image → OnTrue b (IsReady set d image) × OnFalse b (IsReady set d image → ⊥))
judged c b is =
    let set = described c.args.set.now in
    let good = good_of set c.args.set.now.well_formed c.args.set.now.heads in
    let forms = forms_of set (device_at set c.args.device) in
    let image = state_of c.args.image.now in (
      ready_by set c.args.set.now.well_formed good c.args.device c.requires.is_device image c.requires.cells c.requires.subs forms refl b is,
      other_by set c.args.set.now.well_formed good c.args.device c.requires.is_device image c.requires.cells c.requires.subs forms refl b is,
    )

fine : (c : goal.After-is_own_fine) → (let set = described c.args.set.now in let d = device_at set c.args.device in (b : Bool) → c.is_own_fine.result ≡ b → (b && all_subs_fine set d (state_of c.args.image.now)) ≡ device_fine set d (forms_of set d) (state_of c.args.image.now))
fine c b is = rw (sym is ∙ c.is_own_fine.ensures)

pub is_own_fine-requires : goal.is_own_fine-requires
is_own_fine-requires c = record { device = of_device c }

pub are_subs_fine-requires : goal.are_subs_fine-requires
are_subs_fine-requires c = record { device = of_device (goal.at.are_subs_fine-requires c).Start }

pub returns-then-is_own_fine : goal.returns-then-is_own_fine
returns-then-is_own_fine c =
    let h = goal.at.returns-then-is_own_fine c in
    let r = judged h.Start _ (c.are_subs_fine.ensures ∙ fine h.After-is_own_fine true c.if-is_own_fine.true) in
    record { ready = r.0; other = r.1 }

pub returns-else-is_own_fine : goal.returns-else-is_own_fine
returns-else-is_own_fine c =
    let h = goal.at.returns-else-is_own_fine c in
    let r = judged h.Start _ (c.if-is_own_fine.false ∙ fine h.After-is_own_fine false c.if-is_own_fine.false) in
    record { ready = r.0; other = r.1 }
