use Rattle.vms_values.proofs.Facade.{rules, ◌≡◌, ◌<◌, ◌+◌, ◌∷◌, ◌++◌, [], length, ap, ◌∙◌, arith, length-append, drop_all}
use Rattle.vms_values.proofs.Facade.{err_from_is_err_and, own_cells, described, device_at, sub_first, refl}
use Rattle.vms_values.proofs.DeviceLemmas.{follows_none, follows_next, follows_stop, sub_came, subs_bad, subs_end, alike_more, of_alike}
use Rattle.vms_values.proofs.subsections.read_subs.Goals as goal

pub loop-sub-init : goal.loop-sub-init
loop-sub-init c =
    let set = described c.args.set.now in
    let d = device_at set c.args.device in
    record {
      follows = follows_none _ _ _ _ c.requires.none (rw (sub_first set (own_cells set d) d.subs));
      count = ap length c.requires.none;
      alike = record { version = refl; subs = refl; cells = refl; kinds = refl };
    }

pub read_sub-requires : goal.read_sub-requires
read_sub-requires c = search (rules, of_alike)

pub returns-in_err-read_sub : goal.returns-in_err-read_sub
returns-in_err-read_sub c =
    let set = described c.args.set.now in
    let i = c.args.device in
    let j = c.loop-sub.sub in
    let p = err_from_is_err_and c.from_residual-in_err-read_sub.result c.from_residual-in_err-read_sub.ensures.1 in
    record {
      read = rw (p.1, p.2) (subs_bad _ _ _ _ _ _ _ _
          (λ b same. follows_stop set i j (omega arith) _ c.loop-sub.taken c.loop-sub.lines.items b c.loop-sub.invariant.follows same) c.in_err-read_sub.ensures.read);
      count = rw p.1 tt;
    }

pub loop-sub-preserved : goal.loop-sub-preserved
loop-sub-preserved c =
    let set = described c.args.set.now in
    let i = c.args.device in
    let j = c.loop-sub.sub in
    let lt : j < length (device_at set i).subs = omega arith in
    let old = c.loop-sub.taken in
    let r = sub_came _ _ _ _ c.in_ok-read_sub.ensures.read in
    let room : j < length old.image.came = omega arith in
    let pushed : c.push_line.new.lines.items ≡ c.loop-sub.lines.items ++ old.lines.line ∷ [] = c.in_ok-push_line.ensures in
    record {
      follows = follows_next set i _ lt _ old c.read_sub.new.taken _ _ _ _ c.loop-sub.invariant.follows room r.read r.place r.came pushed;
      count = ap length pushed ∙ length-append c.loop-sub.lines.items (old.lines.line ∷ []) ∙ ap (λ n. n + 1) c.loop-sub.invariant.count;
      alike = alike_more _ _ _ c.loop-sub.invariant.alike r.alike;
    }

pub returns : goal.returns
returns c = search (rules, subs_end, drop_all)
