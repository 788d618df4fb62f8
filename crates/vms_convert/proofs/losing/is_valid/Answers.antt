use Rattle.vms_convert.proofs.Facade.{map, ◌∙◌, ◌≡◌, rules, Some, slice_get, OnTrue_at, OnTrue_from, OnFalse_at, OnFalse_from, IsReady, described}
use Rattle.vms_convert.proofs.Facade.{device_at, state_of, at_state, IsValidAt, device_below, find_device, image_at}
use Rattle.vms_convert.proofs.Answered.{invalid_of, own_bound, searched_by, valid_none, valid_of}
use Rattle.vms_convert.proofs.losing.is_valid.Goals.{After-index-images-own, In-Some}
use Rattle.vms_convert.proofs.losing.is_valid.Goals as goal

-- the device that was found, and its image
found : (c : In-Some)
    → let d = device_at (described c.args.newest.now) c.args.device in find_device 0 (described c.args.to.now).devices d.desc.name d.instance
    ≡ Some c.in-Some.own
found c = searched_by _ _ _ _ _ c.device-described.ensures c.as_bytes.ensures c.find.ensures ∙ c.in-Some.is

its_image : (c : After-index-images-own) → slice_get c.args.images.now c.in-Some.own ≡ Some c.index-images-own.result
its_image c =
    image_at c.args.images.now c.in-Some.own c.index-images-own.result
    (own_bound (described c.args.to.now) c.args.images.now c.requires.writable _ _ c.in-Some.own
    (searched_by _ _ _ _ _ c.device-described.ensures c.as_bytes.ensures c.find.ensures ∙ c.in-Some.is)) c.index-images-own.is

pub bounds-images-own : goal.bounds-images-own
bounds-images-own c = own_bound (described c.args.to.now) c.args.images.now c.requires.writable _ _ c.in-Some.own (found (goal.at.bounds-images-own c).In-Some)

pub ready-requires-clause-is_device : goal.ready-requires-clause-is_device
ready-requires-clause-is_device c = device_below (described c.args.to.now).devices _ _ c.in-Some.own (found (goal.at.ready-requires-clause-is_device c).In-Some)

pub ready-requires-clause-subs : goal.ready-requires-clause-subs
ready-requires-clause-subs c =
    (c.requires.writable.of c.in-Some.own c.index-images-own.result (its_image (goal.at.ready-requires-clause-subs c).After-index-images-own)).subs

pub ready-requires-clause-cells : goal.ready-requires-clause-cells
ready-requires-clause-cells c =
    (c.requires.writable.of c.in-Some.own c.index-images-own.result (its_image (goal.at.ready-requires-clause-cells c).After-index-images-own)).cells

pub returns-in-Some : goal.returns-in-Some
returns-in-Some c =
    let to = described c.args.to.now in
    let new = described c.args.newest.now in
    let images = c.args.images.now in
    let own = c.in-Some.own in
    let image = c.index-images-own.result in
    let p = goal.at.returns-in-Some c in
    let is = found p.In-Some in
    let at = at_state images own image (its_image p.After-index-images-own) in
    record {
      valid = OnTrue_from c.ready.result (IsValidAt to new (map state_of images) c.args.device)
          (λ e. valid_of to new images c.requires.writable c.args.device own image is at (OnTrue_at e c.ready.ensures.ready));
      other = OnFalse_from c.ready.result (IsValidAt to new (map state_of images) c.args.device → ⊥)
          (λ e. invalid_of to new images c.requires.writable c.args.device own image c.requires.device is (device_below to.devices _ _ own is) at
          (OnFalse_at {P = IsReady to (device_at to own) (state_of image) → ⊥} e c.ready.ensures.other));
    }

pub returns-in-None : goal.returns-in-None
returns-in-None c = record {
  valid = valid_none (described c.args.to.now) (described c.args.newest.now) c.args.images.now c.requires.writable c.args.device
      (searched_by _ _ _ _ _ c.device-described.ensures c.as_bytes.ensures c.find.ensures ∙ c.in-None.is);
  other = search rules;
}
