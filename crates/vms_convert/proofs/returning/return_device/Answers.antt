use Rattle.vms_convert.proofs.Facade.{ap, sym, ◌∙◌, length-map, Cell, fit_of, described, well_of, loads}
use Rattle.vms_convert.proofs.Converts.{IsReturning, back_of, given_is, given_long, sources_of, targets_of}
use Rattle.vms_convert.proofs.returning.return_device.Goals.{Start}
use Rattle.vms_convert.proofs.returning.return_device.Goals as goal

returning : (c : Start)
    → IsReturning (described c.args.pair.to.now) (loads c.args.pair.loader.now) c.args.pair.device c.args.pair.other c.args.source.now.numbers
returning c =
    let pair = c.args.pair in
    record {
      fit = fit_of (described pair.to.now) pair.to.now.well_formed pair.to.now.heads;
      well = well_of (loads pair.loader.now) pair.loader.now.set.well_formed;
      device = c.requires.device;
      other = c.requires.other;
      kinds = c.requires.kinds;
    }

pub come_back-requires : goal.come_back-requires
come_back-requires c = record {
  device = c.requires.device;
  sources = rw c.requires.fresh (sources_of _ _ _ _ _ (returning (goal.at.come_back-requires c).Start) c.args.partners.now c.requires.partners);
  fresh = c.requires.fresh;
}

pub give_all-requires : goal.give_all-requires
give_all-requires c =
    let targets = targets_of _ _ _ _ _ (returning (goal.at.give_all-requires c).Start) c.args.partners.now c.requires.partners
    c.come_back.new.image c.come_back.ensures.back c.args.carried.now c.requires.empty in
    record {
      device = c.requires.device;
      of = c.come_back.ensures.of;
      version = ap (λ x. x.version) c.come_back.ensures.back.is;
      may = record {
        targets = targets;
        kinds = rw c.requires.empty (length-map _ (λ (x : Cell). x.kind) ∙ sym (length-map _ (λ (x : Cell). x.default)));
      };
    }

pub first_difference-requires : goal.first_difference-requires
first_difference-requires c =
    given_long _ _ _ _ _ (returning (goal.at.first_difference-requires c).Start) c.args.partners.now c.requires.partners
    c.come_back.new.image c.come_back.ensures.back c.args.carried.now c.requires.empty c.give_all.new.target c.give_all.ensures

pub returns : goal.returns
returns c =
    let returning = returning (goal.at.returns c).Start in
    let back = c.come_back.ensures.back in
    record {
      of = c.come_back.ensures.of;
      back = back_of _ _ _ _ _ returning c.args.partners.now c.requires.partners c.come_back.new.image back;
      lost = rw (← given_is _ _ _ _ _ returning c.args.partners.now c.requires.partners c.come_back.new.image back c.args.carried.now c.requires.empty
          c.give_all.new.target c.give_all.ensures) c.first_difference.ensures;
    }
