use Rattle.vms_convert.proofs.Facade.{◌≡◌, ◌++◌, drop, flat_map, described, device_at, device_partners, named_partners}
use Rattle.vms_convert.proofs.pairing.partners.Given as goal

abbrev pub invariant-loop-sub : goal.invariant-loop-sub
invariant-loop-sub l =
    let d = device_at (described l.old) l.in_old in
    let e = device_at (described l.new) l.in_new in
    l.partners.items ++ flat_map (named_partners (described l.old) (described l.new) e) (drop l.sub d.subs) ≡ device_partners (described l.old)
    (described l.new) d e
