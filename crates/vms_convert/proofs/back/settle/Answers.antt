use Rattle.vms_convert.proofs.Facade.{◌<◌, length, arith, WellFormed, first_fault, described, device_at, none_is}
use Rattle.vms_convert.proofs.{Converts.settle_rest, TakeLaws.put_rest, Settling.settled_next, Settling.all_settled}
use Rattle.vms_convert.proofs.back.settle.Goals as goal

pub loop-sub-preserved : goal.loop-sub-preserved
loop-sub-preserved c =
    let set = described c.args.set.now in
    let k = c.args.device in
    let j = c.loop-sub.sub in
    let well : WellFormed set = none_is (first_fault set) c.args.set.now.well_formed in
    let less : j < length (device_at set k).subs = omega arith in
    record {
      rest = put_rest c.args.image.now c.loop-sub.image c.settle_sub.new.image _ c.loop-sub.invariant.rest
          (settle_rest set k c.requires.device c.loop-sub.image c.settle_sub.new.image j c.settle_sub.ensures);
      settled = settled_next set well k c.requires.device c.args.image.now.numbers c.loop-sub.image c.settle_sub.new.image j less c.loop-sub.invariant.settled
          c.settle_sub.ensures;
    }

pub returns : goal.returns
returns c = record {
  settled = all_settled (described c.args.set.now) _ c.args.image.now.numbers c.loop-sub.image.numbers c.loop-sub.sub (omega arith)
      c.loop-sub.invariant.settled;
  rest = c.loop-sub.invariant.rest;
}
