use Rattle.vms_values.proofs.Facade.{rules, length, ap, ◌∙◌, described, IsImageOf, IsOfDevice, Typed, state_of}
use Rattle.vms_values.proofs.{Naming.own_kinds, devices.read_device.Goals.In_ok-read_subs, devices.read_device.Goals.Start}
use Rattle.vms_values.proofs.DeviceLemmas.{default_of, own_spot, alike_kept, of_alike, subs_alike}
use Rattle.vms_values.proofs.devices.read_device.Goals as goal

-- the image with its defaults is the device's
begun : (c : Start) → IsOfDevice (described c.args.set.now) c.args.device (state_of c.args.taken.now.image)
begun c = default_of _ c.args.set.now.well_formed _ c.requires.known c.args.taken.now.image c.requires.defaults

pub read_part-requires : goal.read_part-requires
read_part-requires c =
    record {
      spot = own_spot _ _ _ c.args.taken.now.image (begun (goal.at.read_part-requires c).Start);
      kinds = own_kinds (described c.args.set.now) c.args.device _ (ap (λ (x : Typed). x.kinds) c.requires.defaults);
    }

pub read_subs-requires : goal.read_subs-requires
read_subs-requires c =
    record {
      device = of_alike _ _ _ _ (begun (goal.at.read_subs-requires c).Start) (alike_kept _ _ c.in_ok-read_part.ensures.kept);
      kinds = c.in_ok-read_part.ensures.kept.kinds ∙ ap (λ (x : Typed). x.kinds) c.requires.defaults;
      none = c.requires.none;
    }

pub judge_device-reading-requires : goal.judge_device-reading-requires
judge_device-reading-requires c =
    let set = described c.args.set.now in
    let kept = of_alike _ _ _ _ (begun (goal.at.judge_device-reading-requires c).Start) (alike_kept _ _ c.in_ok-read_part.ensures.kept) in
    record {
      device = of_alike _ _ _ _ kept (subs_alike _ _ _ _ c.in_ok-read_subs.ensures.read);
      lines = ap length c.deref.ensures.value ∙ c.in_ok-read_subs.ensures.count;
    }

-- an image of the device, from its defaults on
is_image : (c : goal.In_ok-read_subs) → IsImageOf (described c.args.set.now) c.args.device c.read_subs.new.taken.image
is_image c =
    let set = described c.args.set.now in
    let of = default_of _ c.args.set.now.well_formed _ c.requires.known c.args.taken.now.image c.requires.defaults in
    let kept = c.in_ok-read_part.ensures.kept in
    let subs = subs_alike _ _ _ _ c.in_ok-read_subs.ensures.read in
    let all = of_alike _ _ _ _ (of_alike _ _ _ _ of (alike_kept _ _ kept)) subs in
    record { subs = all.subs; cells = all.cells; kinds = subs.kinds ∙ kept.kinds ∙ ap (λ (x : Typed). x.kinds) c.requires.defaults }

pub returns-then-is_none : goal.returns-then-is_none
returns-then-is_none c = record { read = search rules; of = is_image (goal.at.returns-then-is_none c).In_ok-read_subs }

pub returns-else-is_none : goal.returns-else-is_none
returns-else-is_none c = record { read = search rules; of = is_image (goal.at.returns-else-is_none c).In_ok-read_subs }
