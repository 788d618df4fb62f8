use Rattle.vms_rules.proofs.Facade.{◌≡◌, List, ℕ, map, take, drop, is_one_of, sub_of, device_of, has_name, subs_from}
use Rattle.vms_rules.proofs.devices.check_subs.Given as goal

abbrev pub invariant-loop-number : goal.invariant-loop-number
invariant-loop-number l =
    let d = l.fn.within.device.now in
    record {
      names : (n : List ℕ) → has_name l.names n ≡ is_one_of (map (λ e. e.desc.name) (take l.number (map sub_of d.subs))) n;
      good : subs_from l.fn.within.structs l.fn.within.number (device_of d) l.number
          (map sub_of (drop l.number d.subs)) ≡ subs_from l.fn.within.structs l.fn.within.number (device_of d) 0 (map sub_of d.subs);
    }
