use Rattle.vms_load.proofs.Facade.{rules, arith, described, ◌∙◌, ◌<◌, ℕ, length}
use Rattle.vms_load.proofs.HeadLemmas.{all_default, all_shaped}
use Rattle.vms_load.proofs.staged.reset.Goals as goal

pub returns : goal.returns
returns c =
    let set = described c.args.set.now in
    let images = c.loop-device.images in
    let long = c.loop-device.invariant.long ∙ c.requires.all in
    let each = λ (k : ℕ) (lt : k < length images). c.loop-device.invariant.before k (omega arith) in
    record { states = all_default set images long each; shaped = all_shaped set images long each; each = search rules }
