use Rattle.vms_check.proofs.Facade.{rules, refl, arith, below_more}
use Rattle.vms_check.proofs.{PairLaws.counted_is, PairLaws.counted_small, PairLaws.entry_is, PairLaws.none_at, PairLaws.position_beyond}
use Rattle.vms_check.proofs.positions.positions.Goals as goal

pub returns : goal.returns
returns c = search (rules, position_beyond)

pub loop-number-init : goal.loop-number-init
loop-number-init c = record {
  wide = refl;
  counted = refl;
  small = omega arith;
  before = λ k lt. absurd (omega arith);
  after = λ k le. none_at 256 k;
}

pub loop-number-preserved : goal.loop-number-preserved
loop-number-preserved c = search (rules, counted_is, counted_small, below_more, entry_is)
