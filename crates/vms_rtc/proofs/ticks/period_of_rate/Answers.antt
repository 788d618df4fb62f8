use Rattle.vms_rtc.proofs.Facade.{◌-◌, ◌≤◌, ◌^◌, arith, pow_mono}
use Rattle.vms_rtc.proofs.ticks.period_of_rate.Goals as goal

pub returns-in_default-clause-small : goal.returns-in_default-clause-small
returns-in_default-clause-small c =
    let few : 2 ^ (c.args.rate - 1) ≤ 16384 = pow_mono {j = 14} (omega arith) in
    omega arith
