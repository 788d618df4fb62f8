use Rattle.std.proofs.Common.{rules}
use Rattle.vms_rules.proofs.{NameLaws.names_so_far, devices.check_subs.Goals.After-sub-item, WalkLaws.stops_by, WalkLaws.goes_on, WalkLaws.stops_here}
use Rattle.vms_rules.proofs.Facade
use Facade.{device_of, get_map_at, has_name, sub_at, Within, ◌≡◌, ◌<◌, ℕ, None, length, get_or, ap, sub_fault, Sub, sub_of, map, drop_is}
use Rattle.vms_rules.proofs.devices.check_subs.Goals as goal

-- the subsection of this number
record IsSub (w : Within) (i : ℕ) (s : Sub) : Type 0 where
  lt : i < length w.device.now.subs
  is : s ≡ get_or w.device.now.subs i s
  at : sub_at (device_of w.device.now) i ≡ sub_of s

sub_is : (c : After-sub-item) → IsSub c.args.within c.loop-number.number c.sub-item.result
sub_is c = search (rules, get_map_at)

pub returns-in_err-check_sub : goal.returns-in_err-check_sub
returns-in_err-check_sub c =
    let w = c.args.within in
    let of = sub_is (goal.at.returns-in_err-check_sub c).After-sub-item in
    stops_by _ _ _ c.from_residual-in_err-check_sub.ensures.1
    (stops_here _ _ _ _ _ _ (ap (map sub_of) (drop_is w.device.now.subs _ _ of.lt of.is)) c.loop-number.invariant.good _ (rw of.at at c.in_err-check_sub.ensures))

pub loop-number-preserved : goal.loop-number-preserved
loop-number-preserved c =
    let w = c.args.within in
    let fault = sub_fault w.structs w.number (device_of w.device.now) in
    let s = c.sub-item.result in
    let of = sub_is (goal.at.loop-number-preserved c).After-sub-item in
    let good : fault c.loop-number.number (sub_of s) ≡ None = cc (of.at, c.in_ok-check_sub.ensures) in
    record {
      names = names_so_far sub_of (λ e. e.desc.name) w.device.now.subs c.loop-number.number s (has_name c.loop-number.names)
          (has_name c.add_name.new.names) of.lt of.is c.loop-number.invariant.names (rw c.as_str.ensures at c.in_ok-is_new.ensures.added);
      good = goes_on fault _ _ _ _ _ (ap (map sub_of) (drop_is w.device.now.subs _ _ of.lt of.is)) c.loop-number.invariant.good good;
    }
