use Rattle.vms_convert.proofs.Facade.{◌<◌, length, refl, arith, subst, sym, described, device_at, HasFew}
use Rattle.vms_convert.proofs.PartnerSteps.{device_pairs, few_own, few_sub}
use Rattle.vms_convert.proofs.pairing.partners.Goals as goal

pub pair_descs-requires : goal.pair_descs-requires
pair_descs-requires c = record {
  old = rw c.at_own_version-older.ensures c.requires.old;
  new = c.requires.new;
  few = subst (λ s. HasFew s 0) (sym c.at_own_version-older.ensures) (few_own c.args.old c.args.in_old);
  room = omega (arith, few_own c.args.new c.args.in_new);
}

pub loop-sub-init : goal.loop-sub-init
loop-sub-init c =
    device_pairs c.args.old c.args.new c.args.in_old c.args.in_new c.at_own_version-older.result c.pair_descs.new.partners.items
    c.at_own_version-older.ensures (rw c.in_ok-partners.ensures.items at c.in_ok-pair_descs.ensures)

pub pair_sub-requires : goal.pair_sub-requires
pair_sub-requires c =
    let lt : c.loop-sub.sub < length (device_at (described c.args.old.now) c.args.in_old).subs =
    omega (arith, c.loop-sub-test.true, c.sub_count-sub-end.ensures) in
    let own = c.at_own_version-older-in-loop-sub.ensures in
    record {
      older = rw own (c.requires.old, lt);
      version = rw own refl;
      few = subst (λ s. HasFew s 0) (sym own) (few_sub c.args.old c.args.in_old c.loop-sub.sub lt);
      new = c.requires.new;
    }
