use Rattle.vms_convert.proofs.Facade.{ℕ, List, Option, ap, ◌∙◌, arith, described, device_at, bare}
use Rattle.vms_convert.proofs.Settling.{all_marked}
use Rattle.vms_convert.proofs.back.mark.Goals as goal

pub returns : goal.returns
returns c =
    let set = described c.args.set.now in
    let d = device_at set c.args.device in
    c.loop-sub.invariant.rest ∙ ap (λ (l : List (Option ℕ)). record c.args.image.now { came = l })
    (all_marked set d (bare d c.args.image.now.numbers) d.subs c.loop-sub.image.came c.loop-sub.sub
    (omega arith) c.loop-sub.invariant.marked)
